use Rattle.std.proofs.Common.{rules, subst}
use Rattle.std.proofs.lemmas.List.{take_all}
use Rattle.sgt_proc_json.proofs.Written.{Written, ok_then, if_written, written_more, written_all}
use Rattle.sgt_proc_json.proofs.write_statement.+statement.Goals as goal

pub write_statement-returns-in-Look : goal.write_statement-returns-in-Look
write_statement-returns-in-Look t c =
    rw c.in-Look.is (ok_then c.write_look.result _ _ (λ v is b items others. (is, others)) c.write_look.ensures)

pub write_statement-returns-in-Find : goal.write_statement-returns-in-Find
write_statement-returns-in-Find t c =
    rw c.in-Find.is (ok_then c.write_find.result _ _ (λ v is b items others. (is, others)) c.write_find.ensures)

pub write_statement-returns-in-Put : goal.write_statement-returns-in-Put
write_statement-returns-in-Put t c =
    rw c.in-Put.is (ok_then c.write_put.result _ _ (λ v is b items others. (is, others)) c.write_put.ensures)

pub write_statement-returns-in-Remove : goal.write_statement-returns-in-Remove
write_statement-returns-in-Remove t c =
    rw c.in-Remove.is (ok_then c.write_number_and.result _ _ (λ v is b items others. (is, others)) c.write_number_and.ensures)

pub write_statement-returns-in-Let : goal.write_statement-returns-in-Let
write_statement-returns-in-Let t c =
    rw c.in-Let.is (ok_then c.write_number_and-in-Let.result _ _ (λ v is b items others. (is, others)) c.write_number_and-in-Let.ensures)

pub write_statement-returns-in-Ask : goal.write_statement-returns-in-Ask
write_statement-returns-in-Ask t c =
    rw c.in-Ask.is (ok_then c.write_ask.result _ _ (λ v is b items others. (is, others)) c.write_ask.ensures)

pub write_statement-returns-in-Answer : goal.write_statement-returns-in-Answer
write_statement-returns-in-Answer t c =
    rw c.in-Answer.is (ok_then c.write_answer.result _ _ (λ v is b items others. (is, others)) c.write_answer.ensures)

pub write_statement-returns-in_ok-no-in-If : goal.write_statement-returns-in_ok-no-in-If
write_statement-returns-in_ok-no-in-If t c =
    if_written c.write_if.result c.args.statement.now c.in-If.cond c.in-If.yes c.in-If.no c.in_ok-yes-in-If.yes c.in_ok-no-in-If.no
    c.in-If.is (search rules) (search rules) c.write_if.ensures

pub write_block-loop-statement-preserved : goal.write_block-loop-statement-preserved
write_block-loop-statement-preserved t c =
    written_more c.args.list.now c.loop-statement.statement-index c.statement-item.result c.loop-statement.trees.items c.push.new.self.items
    c.in_ok-write_statement.field-0 c.loop-statement-test.true c.statement-item.is (search rules) c.loop-statement.invariant
    c.in_ok-write_statement.ensures

pub write_block-returns : goal.write_block-returns
write_block-returns t c = written_all c.args.list.now c.loop-statement.trees
    (subst (λ l. Written l c.loop-statement.trees.items)
    (take_all c.loop-statement.statement-index c.args.list.now c.loop-statement-test.false) c.loop-statement.invariant)
