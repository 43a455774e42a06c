-- Why a transaction is aborted in cascade: its first read of a value written by one that is aborted there, in cascade
-- or not.
use Rattle.std.specs.Prelude.{◌≡◌, ◌≢◌, ◌⊎◌, ℕ, List, Some}
use Rattle.sgt_model.specs.declared.entry.Entry.{Entry}
use Rattle.sgt_model.specs.declared.kind.Kind.TheVariants.{Look}
use Rattle.sgt_model.specs.Paths.{Member}
use Rattle.sgt_model.specs.ReadFrom.{LooksFrom}
use Rattle.sgt_model.specs.Aborts.{IsAccessBy}
use Rattle.sgt_explain.specs.declared.source.SourceRead.{SourceRead}
use Rattle.sgt_explain.specs.Firsts.{IsFirst}
use Rattle.sgt_explain.specs.Places.{entries_before, placed_access, placed_named, placed_falls}

-- the entry at this position aborts v, in cascade or not
abbrev pub IsUndoneAt : List Entry → (end v : ℕ) → Type 0
IsUndoneAt entries end v = (placed_named entries end ≡ Some v) ⊎ Member v (placed_falls entries end)

-- at this position t reads from another transaction v
abbrev pub ReadsAt : List Entry → (t v place : ℕ) → Type 0
ReadsAt entries t v place = (t ≢ v) × LooksFrom (entries_before entries place) (placed_access entries place) t v

-- at this position t reads from one that is aborted at the end
abbrev pub ReadsUndoneAt : List Entry → (end t place : ℕ) → Type 0
ReadsUndoneAt entries end t place = (v : ℕ) × IsUndoneAt entries end v × ReadsAt entries t v place

-- t's read at this position, which is from another
pub record ReportsLook (entries : List Entry) (t place : ℕ) (reported : SourceRead) : Type 0 where
  pub reader : reported.reader ≡ t
  pub place_is : reported.place ≡ place
  pub look : IsAccessBy (placed_access entries place) t reported.key Look
  pub reads : ReadsAt entries t reported.source place

-- t's first read, before the end, from one that is aborted there
pub record ReportsSource (entries : List Entry) (end t : ℕ) (reported : SourceRead) : Type 0 where
  pub first : IsFirst (ReadsUndoneAt entries end t) end reported.place
  pub look : ReportsLook entries t reported.place reported
  pub undone : IsUndoneAt entries end reported.source
