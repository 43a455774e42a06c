use Rattle.std.proofs.Common.{◌≡◌, drop}
use Rattle.sgt_model.specs.ProcedureTexts.{block_of}
use Rattle.sgt_proc.specs.Paths.{inner}
use Rattle.sgt_proc.proofs.place.list_at.Given as goal

abbrev pub invariant-loop-turn : goal.invariant-loop-turn
invariant-loop-turn l = inner (drop l.turn-index l.path) (block_of l.list) ≡ inner l.path (block_of l.body)
