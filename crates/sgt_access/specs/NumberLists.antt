-- Accesses in lists by the low bits of the numbers of their transactions.
use Rattle.std.specs.Prelude.{◌≡◌, ℕ, ◌+◌, ◌≤◌, ◌%◌, Bool, true, false, not, nat_eq, List, [], ◌∷◌, ◌++◌, length, map}
use Rattle.std.specs.Global.{Vec}
use Rattle.std.specs.List.{list_any}
use Rattle.sgt_model.specs.AccessList.{ListedAccess, is_listed}
use Rattle.sgt_model.specs.Paths.{Member}

-- what the lists have
abbrev pub contents : List (Vec ListedAccess) → List (List ListedAccess)
contents lists = map (λ (l : Vec ListedAccess). l.items) lists

-- the lists one after another
abbrev pub joined : List (List ListedAccess) → List ListedAccess
joined [] = []
joined (list ∷ lists) = list ++ joined lists

-- the access belongs into another list than the one with this index
abbrev pub is_astray : ℕ → ListedAccess → Bool
is_astray index a = not (nat_eq (a.by % 32) index)

-- the lists have the accesses of the transactions whose numbers have these low bits, from this index on
abbrev pub AreByNumber : ℕ → List (List ListedAccess) → Type 0
AreByNumber index [] = Unit {0}
AreByNumber index (list ∷ lists) = (list_any (is_astray index) list ≡ false) × AreByNumber (index + 1) lists

-- those of a list, and those with an access, are at most 32
abbrev pub FitIn : List ℕ → List ListedAccess → Type 0
FitIn rivals accesses = (among : List ℕ) × (length among ≤ 32) × ((u : ℕ) → Member u rivals → Member u among)
    × ((u : ℕ) → is_listed accesses u ≡ true → Member u among)
