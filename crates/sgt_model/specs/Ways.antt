-- The ways through a procedure: the statements after an If come at the end of either branch.
use Rattle.std.specs.Prelude.{ℕ}
use Rattle.sgt_model.specs.Syntax as text
use Rattle.sgt_model.specs.Syntax.{ExprText, CondText, Block}

-- the statements to come; an Ask ends the way, and a fork shows the two ways after an If
pub data Way : Type 0 where
  end : Way
  look : (to table : ℕ) → (id : ExprText) → (absent : ℕ) → Way → Way
  find : (to table : ℕ) → (id absent : ExprText) → Way → Way
  put : (table : ℕ) → (id value : ExprText) → Way → Way
  remove : (table : ℕ) → (id : ExprText) → Way → Way
  save : (to : ℕ) → (value : ExprText) → Way → Way
  ask : (code : ℕ) → Way
  fork : CondText → (ys ns : Way) → Way
  answer : ExprText → Way → Way

-- the statements of a block, and what comes after them
abbrev pub onto : Block → Way → Way
onto text.empty rest = rest
onto (text.look to table id absent b) rest = look to table id absent (onto b rest)
onto (text.find to table id absent b) rest = find to table id absent (onto b rest)
onto (text.put table id value b) rest = put table id value (onto b rest)
onto (text.remove table id b) rest = remove table id (onto b rest)
onto (text.save to value b) rest = save to value (onto b rest)
onto (text.ask code b) rest = ask code
onto (text.choose test ys ns b) rest = fork test (onto ys (onto b rest)) (onto ns (onto b rest))
onto (text.answer value b) rest = answer value (onto b rest)
