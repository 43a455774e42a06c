-- A verdict that is right is exact: under the premises there are only two.
use Rattle.std.proofs.Common.{List}
use Rattle.sgt_appends.specs.declared.transaction.Transaction.{Transaction}
use Rattle.sgt_appends.specs.declared.check.Verdict.{Verdict}
use Rattle.sgt_appends.specs.declared.check.Verdict.TheVariants.{Serial, Violated, AppendedTwice, UnknownReads}
use Rattle.sgt_appends.specs.Verdicts.{IsRight, IsExact}
use Rattle.sgt_appends.proofs.Passed.{reads_at}
use Rattle.sgt_appends.specs.Reads.{own_at}

pub exact_one : (h : List Transaction) (verdict : Verdict) → IsRight h verdict → IsExact h verdict
exact_one h (Serial order) run once unknown = (
  ((λ says. (order.items, run)), (λ serial. tt)),
  ((λ never. absurd never), (λ none. absurd (none (order.items, run)))),
)
exact_one h (Violated witness) right once unknown = (
  ((λ never. absurd never), (λ serial. absurd (right.0 serial))),
  ((λ says. right.0), (λ none. tt)),
)
exact_one h AppendedTwice twice once unknown = absurd (twice once)
exact_one h (UnknownReads reader read) (k, seen, ended, is) once unknown =
    absurd (unknown reader k (own_at h reader read k) seen ended (reads_at h reader read k seen is))
