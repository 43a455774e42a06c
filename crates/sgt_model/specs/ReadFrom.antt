-- Which transaction read from which: its read returned the write of the other, past those of aborted transactions
-- (Bernstein, Hadzilacos and Goodman (1987), chapter 2).
use Rattle.std.specs.Prelude.{◌≡◌, ◌≢◌, ℕ, not, ◌⊎◌, List, [], ◌∷◌, Option, Some, None}
use Rattle.sgt_model.specs.declared.entry.Entry.{Entry}
use Rattle.sgt_model.specs.declared.kind.Kind.TheVariants.{Look}
use Rattle.sgt_model.specs.Accesses.{Access, access_of}
use Rattle.sgt_model.specs.Fates.{aborted}
use Rattle.sgt_model.specs.Values.{newest_store}

-- there is a write, and it is u's
abbrev pub IsBy : Option Access → ℕ → Type 0
IsBy None u = ⊥
IsBy (Some a) u = a.by ≡ u

-- an access is a read by t of a key whose newest write, of those not aborted by then, was u's
abbrev pub LooksFrom : List Entry → Option Access → ℕ → ℕ → Type 0
LooksFrom past None t u = ⊥
LooksFrom past (Some a) t u = (a.kind ≡ Look) × (a.by ≡ t) × IsBy (newest_store (λ v. not (aborted past v)) a.key past) u

-- t read from another transaction u
abbrev pub ReadFrom : List Entry → ℕ → ℕ → Type 0
ReadFrom [] t u = ⊥
ReadFrom (e ∷ past) t u = ((t ≢ u) × LooksFrom past (access_of e) t u) ⊎ ReadFrom past t u
