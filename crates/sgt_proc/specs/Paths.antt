-- A path into a procedure's text: the Ifs that a position is inside of, outermost first, each with the branch that
-- was taken.
use Rattle.std.specs.Prelude.{ℕ, zero, suc, ◌+◌, ◌<◌, Bool, cond, List, [], ◌∷◌}
use Rattle.sgt_model.specs.Syntax.{Block, empty, look, find, put, remove, save, ask, choose, answer}
use Rattle.sgt_model.specs.Left.{followed_by}
use Rattle.sgt_proc.specs.declared.place.Turn.{Turn}

-- the statements after the first n
abbrev pub following : ℕ → Block → Block
following zero b = b
following (suc n) empty = empty
following (suc n) (look to table id absent b) = following n b
following (suc n) (find to table id absent b) = following n b
following (suc n) (put table id value b) = following n b
following (suc n) (remove table id b) = following n b
following (suc n) (save to value b) = following n b
following (suc n) (ask code b) = following n b
following (suc n) (choose test ys ns b) = following n b
following (suc n) (answer value b) = following n b

-- the first statement is an If
abbrev pub IsIf : Block → Type 0
IsIf (choose test ys ns b) = Unit {0}
IsIf _ = ⊥

-- a branch of the If that is the first statement
abbrev pub branch : Bool → Block → Block
branch held (choose test ys ns b) = cond held ys ns
branch held _ = empty

-- each turn of a path is at an If
abbrev pub IsPath : List Turn → Block → Type 0
IsPath [] b = Unit {0}
IsPath (t ∷ path) b = (t.at < 64) × (IsIf (following t.at b) × IsPath path (branch t.held (following t.at b)))

-- the innermost list
abbrev pub inner : List Turn → Block → Block
inner [] b = b
inner (t ∷ path) b = inner path (branch t.held (following t.at b))

-- the statements after the Ifs
abbrev pub outer : List Turn → Block → Block
outer [] b = empty
outer (t ∷ path) b = followed_by (outer path (branch t.held (following t.at b))) (following (t.at + 1) b)

-- the remaining statements, if this many of the innermost list are done
abbrev pub to_come : List Turn → ℕ → Block → Block
to_come path at b = followed_by (following at (inner path b)) (outer path b)
