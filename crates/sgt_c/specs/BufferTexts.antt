-- Texts in the caller's buffer.
use Rattle.std.specs.Prelude.{◌≡◌, ◌≤◌, ◌⊎◌, ℕ, cond, nat_eq, nat_le, length, take, drop, List, [], ◌∷◌, ◌++◌, codes}
use Rattle.std.specs.Fmt.{decimal}
use Rattle.sgt_smallbank.specs.Accounts.{number_of}
use Rattle.sgt_proc.specs.Flaws.{number}
use Rattle.sgt_format.specs.Decimals.{each_item}
use Rattle.sgt_format.specs.declared.errors.OpeningError.{OpeningError}
use Rattle.sgt_format.specs.declared.errors.OpeningError.TheVariants.{NotJson, BadLine, BadLimits, BadOpening, ProcShape, ProcFlaw, NoMemory}
use Rattle.sgt_c.specs.declared.fault_struct.SgtFault.{SgtFault}

-- the buffer after the write: the text and then the old bytes, if the text fits; else the old bytes
abbrev pub with_text : List ℕ → List ℕ → List ℕ
with_text text before = cond (nat_le (length text) (length before)) (text ++ drop (length text) before) before

-- the text is written if it fits, and its length is returned
abbrev pub IsWritten : List ℕ → List ℕ → List ℕ → ℕ → Type 0
IsWritten text before after reported = (after ≡ with_text text before) × (reported ≡ length text)

-- positions, each after a space, or the word `top`
abbrev pub place_text : List ℕ → List ℕ
place_text [] = codes " top"
place_text (p ∷ place) = each_item decimal (p ∷ place)

-- the text of an error, as the program reports an error of line 1; of a position path, at most the first 128 positions
abbrev pub fault_text : OpeningError → List ℕ
fault_text NotJson = codes "not JSON"
fault_text BadLine = codes "bad line"
fault_text BadLimits = codes "bad limits"
fault_text (BadOpening fault) = codes "bad opening " ++ decimal (number_of fault)
fault_text (ProcShape procedure place) = codes "procedure " ++ decimal procedure ++ codes " shape" ++ place_text (take 128 place)
fault_text (ProcFlaw procedure flaw) = codes "procedure " ++ decimal procedure ++ codes " flaw " ++ decimal (number flaw)
fault_text NoMemory = codes "no memory"

-- the status is that of an error
abbrev pub IsFaultKind : ℕ → Type 0
IsFaultKind kind = (kind ≡ 1) ⊎ ((16 ≤ kind) × (kind ≤ 21))

-- the same text, from the fields of this kind
abbrev pub text_by : ℕ → SgtFault → List ℕ
text_by kind s =
    cond (nat_eq kind 16) (codes "not JSON")
    (cond (nat_eq kind 17) (codes "bad line")
    (cond (nat_eq kind 18) (codes "bad limits")
    (cond (nat_eq kind 19) (codes "bad opening " ++ decimal s.number)
    (cond (nat_eq kind 20) (codes "procedure " ++ decimal s.procedure ++ codes " shape" ++ place_text (take s.depth s.place))
    (cond (nat_eq kind 21) (codes "procedure " ++ decimal s.procedure ++ codes " flaw " ++ decimal s.number)
    (codes "no memory"))))))
