use Rattle.std.proofs.lemmas.Result.{on_ok_weaker}
use Rattle.sgt_script.proofs.script.append_other.Goals as goal

pub returns-in-History-clause-answered : goal.returns-in-History-clause-answered
returns-in-History-clause-answered c =
    on_ok_weaker c.append_newest.result (λ says entry past is. rw c.in-History.is (says entry past is)) c.append_newest.ensures.operations

pub returns-in-Json-clause-answered : goal.returns-in-Json-clause-answered
returns-in-Json-clause-answered c =
    on_ok_weaker c.append_newest_json.result (λ says entry past is. rw c.in-Json.is (says entry past is)) c.append_newest_json.ensures.reply
