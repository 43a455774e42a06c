use Rattle.std.proofs.Common.{◌≡◌, ◌++◌, ℕ, take}
use Rattle.std.specs.Prelude.{map}
use Rattle.sgt_appends.specs.Precedences.{appended}
use Rattle.sgt_levels.specs.Replays.{values_in, places_in}
use Rattle.sgt_levels.proofs.columns.Columns.add_all.Given as goal

abbrev pub invariant-loop-operation : goal.invariant-loop-operation
invariant-loop-operation l = record {
  values : (k : ℕ) → values_in l.self k ≡ values_in l.initial.self k ++ appended k (take l.operation-index l.operations);
  places : (k : ℕ) → places_in l.self k ≡ places_in l.initial.self k ++ map (λ v. l.place) (appended k (take l.operation-index l.operations));
}
