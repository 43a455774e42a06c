use Rattle.sgt_progress.proofs.GivenCalls.{given_calls_are_reported}
use Rattle.sgt_progress.proofs.Reruns.{calls_decide, reruns_agree, one_by_one_is_forced}
use Rattle.sgt_progress.proofs.laws.reruns_agree.Goals as goal

pub returns : goal.returns
returns c = record { decide = calls_decide; again = reruns_agree; forced = one_by_one_is_forced; given = given_calls_are_reported }
