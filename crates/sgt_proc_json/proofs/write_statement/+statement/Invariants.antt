use Rattle.std.proofs.Common.{take}
use Rattle.sgt_proc_json.proofs.Written.{Written}
use Rattle.sgt_proc_json.proofs.write_statement.+statement.Given as goal

-- the trees so far spell the statements so far
abbrev pub invariant-write_block-loop-statement : goal.invariant-write_block-loop-statement
invariant-write_block-loop-statement l = Written (take l.statement-index l.list) l.trees.items
