use Rattle.sgt_model.specs.Databases.{contents_of}
use Rattle.sgt_assembly.proofs.laws.opened_is_bank.Goals as goal

pub returns : goal.returns
returns c = λ least line records opening past opens legal.
    c.replay_is_bank.ensures.replay (contents_of opening.database) opening.procedures.items opening.limits past
    (c.opened_hold_values.ensures least line records opening opens) legal
