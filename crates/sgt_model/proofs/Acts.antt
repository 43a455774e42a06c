-- A transaction's accesses, newest first, against a run: definitions that the proof of the replay speaks of.
use Rattle.std.specs.Prelude.{◌≡◌, ℕ, ℤ, true, ◌&&◌, cond, ◌⊎◌, List, [], ◌∷◌, ◌++◌, length, map, Option}
use Rattle.sgt_model.specs.declared.event.Request.{Request}
use Rattle.sgt_model.specs.declared.kind.Kind.{Kind}
use Rattle.sgt_model.specs.declared.kind.Kind.TheVariants.{Look, Store}
use Rattle.sgt_model.specs.Contents.{Key, key_eq, Contents}
use Rattle.sgt_model.specs.Runs.{Run, Outcome, Done, Asked, serial, CallerAccess, reported, wrote}
use Rattle.sgt_model.specs.Traces.{trace, Next, Ends, Raises, next_at}
use Rattle.sgt_model.specs.Accesses.{Access, is_store}
use Rattle.sgt_model.specs.Progress.{values_read, made, requested, is_fit}
use Rattle.sgt_model.proofs.Effects.{Fits}

-- what the run wants next, by the values read and the number of accesses made
abbrev pub requests_of : Run → List (Option ℤ) → ℕ → Next
requests_of r vs made = next_at (trace r vs) made

-- each access is what the run wants after those before it
abbrev pub AsRequested : (List (Option ℤ) → ℕ → Next) → List Access → Type 0
AsRequested requested [] = Unit {0}
AsRequested requested (a ∷ before) = AsRequested requested before × Fits (requested (values_read before) (length before)) a

-- contents with the last write of each key over them
abbrev pub stored : Access → Key → Option ℤ → Option ℤ
stored a k before = cond (is_store a.kind && key_eq a.key k) a.value before

abbrev pub over : Contents → List Access → Contents
over m [] k = m k
over m (a ∷ before) k = stored a k (over m before k)

-- each read returned what the contents give after the writes before it
abbrev pub FindsIn : Contents → List Access → Type 0
FindsIn m [] = Unit {0}
FindsIn m (a ∷ before) = FindsIn m before × (a.kind ≡ Look → a.value ≡ over m before a.key)

-- a run that is done, with the contents that the accesses leave
abbrev pub DoneWith : Outcome → List ℤ → Contents → Type 0
DoneWith result answers m = (last : Contents) × (result ≡ Done answers last) × ((k : Key) → last k ≡ m k)

-- a run at once is its trace, said of accesses
pub record ActsLaw (r : Run) : Type 0 where
  pub done : (m : Contents) (all : List Access) (answers : List ℤ) → AsRequested (requests_of r) all → FindsIn m all
      → requests_of r (values_read all) (length all) ≡ Ends answers → DoneWith (serial r m) answers (over m all)
  pub raised : (m : Contents) (all : List Access) (code : ℕ) → AsRequested (requests_of r) all → FindsIn m all
      → requests_of r (values_read all)
      (length all) ≡ Raises code → serial r m ≡ Asked code

-- ---- after the end

-- an access, as one that its caller requested
abbrev pub caller_access_by : Kind → Key → Option ℤ → CallerAccess
caller_access_by Look k v = reported k v
caller_access_by Store k v = wrote k v

abbrev pub caller_access_of : Access → CallerAccess
caller_access_of a = caller_access_by a.kind a.key a.value

-- the run is at its end after these accesses
abbrev pub AtEnd : Run → List Access → Type 0
AtEnd r own = (answers : List ℤ) × (requests_of r (values_read own) (length own) ≡ Ends answers)

-- each is a read, or a write of a value or of none
abbrev pub AllFit : List Access → Type 0
AllFit [] = Unit {0}
AllFit (a ∷ before) = AllFit before × ((d : Request) × (is_fit d ≡ true) × Fits (requested d) a)

-- the accesses are what the run wanted, and then, if it came to its end, what the caller requested
pub record PlayedOn (r : Run) (xs : List CallerAccess) (all : List Access) : Type 0 where
  pub own : List Access
  pub more : List Access
  pub all_are : all ≡ more ++ own
  pub caller_accesses_are : xs ≡ map caller_access_of more
  pub as_requested : AsRequested (requests_of r) own
  pub fit : AllFit more
  pub at_end : (more ≡ []) ⊎ AtEnd r own
