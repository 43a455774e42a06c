-- How an operation is spelled (Bernstein, Hadzilacos and Goodman (1987), chapter 2): `r1[x]`, `w1[x]`, `c1`, `a1`.
use Rattle.std.specs.Prelude.{◌≡◌, ◌<◌, ◌≤◌, ◌^◌, ◌==◌, ◌||◌, ◌&&◌, ℕ, Bool, nat_le, true, List, [], ◌∷◌, ◌++◌, length, Some, slice_get, codes}
use Rattle.std.specs.Option.{option_map_or}
use Rattle.std.specs.Fmt.{decimal}
use Rattle.sgt_classes.specs.Histories.{item_of}
use Rattle.sgt_classes.specs.declared.operation.Operation.{Operation}
use Rattle.sgt_classes.specs.declared.operation.Action.{Action}
use Rattle.sgt_classes.specs.declared.operation.Action.TheVariants.{Read, Write, Commit, Abort}

-- whether the byte is in this range
abbrev pub is_within : ℕ → ℕ → ℕ → Bool
is_within low high b = nat_le low b && nat_le b high

-- a letter, a digit, or one of `_ . / : -`
abbrev pub is_item_byte : ℕ → Bool
is_item_byte b = is_within 65 90 b || (is_within 97 122 b || (is_within 48 57 b
    || (b == 95 || (b == 46 || (b == 47 || (b == 58 || b == 45))))))

-- an item may contain each byte
abbrev pub are_item_bytes : List ℕ → Bool
are_item_bytes [] = true
are_item_bytes (b ∷ bs) = is_item_byte b && are_item_bytes bs

-- the text of an item: 1 to 64 such bytes
pub record IsItem (text : List ℕ) : Type 0 where
  pub some : 0 < length text
  pub short : length text ≤ 64
  pub bytes : are_item_bytes text ≡ true

-- the text of an item in brackets
abbrev pub bracketed : List ℕ → List ℕ
bracketed item = codes "[" ++ item ++ codes "]"

-- the text of the item of this number
abbrev pub text_at : List (List ℕ) → ℕ → List ℕ
text_at items x = option_map_or (λ text. text) (slice_get items x) []

-- the text of a transaction's action, with these texts of items
abbrev pub act_text : List (List ℕ) → ℕ → Action → List ℕ
act_text items t (Read x) = codes "r" ++ decimal t ++ bracketed (text_at items x)
act_text items t (Write x) = codes "w" ++ decimal t ++ bracketed (text_at items x)
act_text items t Commit = codes "c" ++ decimal t
act_text items t Abort = codes "a" ++ decimal t

-- the text of an operation
abbrev pub spelling : List (List ℕ) → Operation → List ℕ
spelling items op = act_text items op.transaction op.action

-- the word spells the operation, on one of these items if it has an item
pub record IsSpelled (word : List ℕ) (items : List (List ℕ)) (op : Operation) : Type 0 where
  pub text : word ≡ spelling items op
  pub transaction : op.transaction < 2 ^ 32
  pub item : (x : ℕ) → item_of op.action ≡ Some x → (x < length items) × IsItem (text_at items x)

-- the word spells an operation
abbrev pub IsOperation : List ℕ → Type 0
IsOperation word = (items : List (List ℕ)) × (op : Operation) × IsSpelled word items op
