-- How many accesses a procedure makes at most. It has no loops, so it has a longest path.
use Rattle.std.specs.Prelude.{ℕ, ◌+◌, max, Option, Some, None}
use Rattle.sgt_model.specs.Syntax.{Block, empty, look, find, put, remove, save, ask, choose, answer, ProcedureText}

-- the accesses on the longest path through a block
abbrev pub accesses_in : Block → ℕ
accesses_in empty = 0
accesses_in (look to table id absent b) = 1 + accesses_in b
accesses_in (find to table id absent b) = 1 + accesses_in b
accesses_in (put table id value b) = 1 + accesses_in b
accesses_in (remove table id b) = 1 + accesses_in b
accesses_in (save to value b) = accesses_in b
accesses_in (ask code b) = 0
accesses_in (choose test ys ns b) = max (accesses_in ys) (accesses_in ns) + accesses_in b
accesses_in (answer value b) = accesses_in b

-- the accesses on the longest path of a procedure, if there is one
abbrev pub most_accesses : Option ProcedureText → ℕ
most_accesses None = 0
most_accesses (Some p) = accesses_in p.body
