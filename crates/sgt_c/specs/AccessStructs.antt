-- What the fields of an access say to C.
use Rattle.std.specs.Prelude.{◌≡◌, ℕ, ℤ, cond, nat_eq, length, map, take, reverse, List, [], ◌∷◌, ◌++◌, Option, Some, None}
use Rattle.sgt_model.specs.declared.entry.Entry.{Entry}
use Rattle.sgt_model.specs.Contents.{Key}
use Rattle.sgt_model.specs.Progress.{caller_accesses}
use Rattle.sgt_model.specs.Runs.{CallerAccess, reported, wrote}
use Rattle.sgt_c.specs.declared.access_struct.SgtAccess.{SgtAccess}
use Rattle.sgt_c.specs.declared.held.Held.{Held}

-- the value, if there is one
abbrev pub value_in : SgtAccess → Option ℤ
value_in s = cond (nat_eq s.found 1) (Some s.value) None

-- the record
abbrev pub key_of : SgtAccess → Key
key_of s = (s.table, s.number)

-- kind 5 is a read with the value that was returned to the caller; else it is a write of a value, or of none
abbrev pub access_in : SgtAccess → CallerAccess
access_in s = cond (nat_eq s.kind 5) (reported (key_of s) (value_in s)) (wrote (key_of s) (value_in s))

-- the kind of an access: 5 a read, 6 a write of a value, 7 a removal
abbrev pub kind_of : CallerAccess → ℕ
kind_of (reported k v) = 5
kind_of (wrote k (Some v)) = 6
kind_of (wrote k None) = 7

-- an access with its kind, as a struct says it and as the history has it
abbrev pub said : SgtAccess → ℕ × CallerAccess
said s = (s.kind, access_in s)

-- an access with the number of its kind
abbrev pub kinded : CallerAccess → ℕ × CallerAccess
kinded x = (kind_of x, x)

-- the first accesses are returned, as many as the buffer holds
abbrev pub HoldAccesses : List SgtAccess → List CallerAccess → Type 0
HoldAccesses to xs = take (length xs) (map said to) ≡ take (length to) (map kinded xs)

-- the accesses that the caller of a transaction asked for, in the order in which they were made
abbrev pub accesses_of : List Entry → ℕ → List CallerAccess
accesses_of past t = reverse (caller_accesses past t)

-- they are returned, with their number
abbrev pub ReturnsAccesses : Option Held → ℕ → List SgtAccess → ℕ → Type 0
ReturnsAccesses None t to count = ⊥
ReturnsAccesses (Some h) t to count = HoldAccesses to (accesses_of h.engine.past t) × (count ≡ length (accesses_of h.engine.past t))

-- ---- one by one

-- what a struct says, if there is one
abbrev pub listed : {S X : Type 0} → (S → X) → Option S → List X
listed field None = []
listed field (Some s) = field s ∷ []

-- an access, if there is one, is added to those so far, and its struct is at its index if it fits there
abbrev pub AddsAccess : Option SgtAccess → ℕ → List SgtAccess → ℕ → List SgtAccess → Type 0
AddsAccess access count old n new = (xs ys : List CallerAccess) → length xs ≡ count → HoldAccesses old xs → map kinded ys ≡ listed said access
    → HoldAccesses new (xs ++ ys) × (n ≡ length (xs ++ ys))
