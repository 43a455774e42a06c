-- What is added to an engine with an empty history: rows of its initial database, and procedures.
use Rattle.std.specs.Prelude.{◌≡◌, ◌≢◌, ⊤, ℕ, List, [], ◌∷◌, ◌++◌, take, Some, None, IsSome, slice_get}
use Rattle.sgt_model.specs.Contents.{Key, Contents, put_in}
use Rattle.sgt_model.specs.Databases.{Row, contents_of}
use Rattle.sgt_model.specs.Syntax.{ProcedureText}
use Rattle.sgt_engine.specs.EngineView.{EngineView}
use Rattle.sgt_engine.specs.declared.engine.put.PutError.{PutError}
use Rattle.sgt_engine.specs.declared.engine.put.PutError.TheVariants.{Begun, Taken, NoMemory}

-- contents with these rows added, one after another
abbrev pub with_rows : Contents → List Row → Contents
with_rows contents [] = contents
with_rows contents (r ∷ rows) = with_rows (put_in contents r.0 r.1) rows

-- no key has a value before its row is added
abbrev pub AreNew : Contents → List Row → Type 0
AreNew contents [] = Unit {0}
AreNew contents (r ∷ rows) = (contents r.0 ≡ None) × AreNew (put_in contents r.0 r.1) rows

-- the rows before this one are new, and after them its key has a value
pub record IsTaken (contents : Contents) (rows : List Row) (index : ℕ) : Type 0 where
  pub row : Row
  pub at : slice_get rows index ≡ Some row
  pub new : AreNew contents (take index rows)
  pub there : IsSome (with_rows contents (take index rows) row.0)

-- why rows are not added to these contents: one is taken, or else an allocation failed
abbrev pub DoNotFit : Contents → List Row → PutError → Type 0
DoNotFit contents rows Begun = ⊥
DoNotFit contents rows (Taken index) = IsTaken contents rows index
DoNotFit contents rows NoMemory = ⊤

-- why an engine takes no rows: it has a history, or else they can't be added to its initial database
abbrev pub AreRefused : EngineView → List Row → PutError → Type 0
AreRefused e rows Begun = e.past ≢ []
AreRefused e rows (Taken index) = (e.past ≡ []) × DoNotFit (contents_of e.opening) rows (Taken index)
AreRefused e rows NoMemory = (e.past ≡ []) × DoNotFit (contents_of e.opening) rows NoMemory

-- the engine has these rows, which are new, in its initial database; all else is unchanged
pub record PutsRows (before : EngineView) (rows : List Row) (after : EngineView) : Type 0 where
  pub contents : (k : Key) → contents_of after.opening k ≡ with_rows (contents_of before.opening) rows k
  pub new : AreNew (contents_of before.opening) rows
  pub procedures : after.procedures ≡ before.procedures
  pub limits : after.limits ≡ before.limits
  pub past : after.past ≡ before.past

-- the engine with one more procedure
abbrev pub with_procedure : ProcedureText → EngineView → EngineView
with_procedure procedure e = record {
  opening = e.opening;
  procedures = e.procedures ++ procedure ∷ [];
  limits = e.limits;
  past = e.past;
}
