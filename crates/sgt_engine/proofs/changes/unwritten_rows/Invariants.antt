use Rattle.std.proofs.Common.{◌≡◌, None, cond, take}
use Rattle.std.specs.BTreeMap.{get}
use Rattle.std.specs.Option.{is_some}
use Rattle.sgt_model.specs.Contents.{Key}
use Rattle.sgt_model.specs.Databases.{key_cmp, contents_of}
use Rattle.sgt_engine.proofs.changes.unwritten_rows.Given as goal

-- the rows so far whose keys are not among the written ones
abbrev pub invariant-loop-key : goal.invariant-loop-key
invariant-loop-key l = (k : Key) → contents_of l.others k
    ≡ cond (is_some (get key_cmp l.written k)) None (contents_of (take l.key-index l.database) k)
