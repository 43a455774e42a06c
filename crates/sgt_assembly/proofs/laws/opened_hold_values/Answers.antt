use Rattle.std.proofs.Common.{subst, sym}
use Rattle.std.specs.Prelude.{IfSome}
use Rattle.sgt_model.specs.Databases.{contents_of}
use Rattle.sgt_model.specs.Numbers.{IsValue}
use Rattle.sgt_assembly.proofs.Filled.{put-values}
use Rattle.sgt_assembly.proofs.laws.opened_hold_values.Goals as goal

pub returns : goal.returns
returns c = λ least line records opening opens k.
    subst (λ v. IfSome v IsValue) (sym (opens.contents k))
    (put-values 2 (contents_of opens.first.database) opens.values records
    (λ key. subst (λ v. IfSome v IsValue) (sym (opens.opens.opens.contents key))
    (c.replay_is_bank.ensures.opening opens.opens.sheet.accounts opens.opens.opens.no_fault key))
    opens.put k)
