-- Which opening a line spells, and why it spells none.
use Rattle.std.specs.Prelude.{◌≡◌, ℕ, ℤ, pos, nat_eq, ◌+◌, ◌≤◌, cond, List, [], ◌∷◌, Option, Some, None, IsSome, option_map, option_and_then, codes, ⊤}
use Rattle.serde_json.specs.Data.{Data, Members, no_members, member}
use Rattle.serde_json.specs.Find.{get, as_object}
use Rattle.sgt_model.specs.Bounds.{AreInRange}
use Rattle.sgt_model.specs.Contents.{Key}
use Rattle.sgt_model.specs.Databases.{contents_of}
use Rattle.sgt_model.specs.declared.limits.Asks.{Asks}
use Rattle.sgt_model.specs.declared.limits.Asks.TheVariants.{AtStep, AtCommit}
use Rattle.sgt_model.specs.declared.limits.Limits.{Limits}
use Rattle.sgt_smallbank.specs.Accounts.{opened, fault_of}
use Rattle.sgt_smallbank.specs.declared.account.Account.{Account}
use Rattle.sgt_smallbank.specs.declared.errors.BadOpening as accounts
use Rattle.sgt_smallbank.specs.declared.errors.BadOpening.TheVariants as bad
use Rattle.sgt_format.specs.Trees.{tree_of, list, each, wholes}
use Rattle.sgt_format.specs.Procedures.{AreProcedures, HasShapeError, HasLeastFlaw, NextIs}
use Rattle.sgt_format.specs.declared.errors.OpeningError.{OpeningError}
use Rattle.sgt_format.specs.declared.errors.OpeningError.TheVariants.{NotJson, BadLine, BadLimits, BadOpening, ProcShape, ProcFlaw, NoMemory}
use Rattle.sgt_format.specs.declared.opening.Opening.{Opening}
use Rattle.sgt_format.specs.declared.sheet.LimitNumbers.{LimitNumbers}

-- the content of an opening's line: the numbers of its limits, the accounts, and the trees of the procedures
pub record Sheet : Type 0 where
  pub limits : LimitNumbers
  pub accounts : List Account
  pub procedures : List Data

-- how many members an object has
abbrev pub count : Members → ℕ
count no_members = 0
count (member name tree members) = count members + 1

-- two whole numbers or three; a missing third is 0
abbrev pub limits_from : List ℤ → Option LimitNumbers
limits_from (live ∷ begins ∷ []) = Some (record { live = live; begins = begins; asks = pos 0 })
limits_from (live ∷ begins ∷ asks ∷ []) = Some (record { live = live; begins = begins; asks = asks })
limits_from numbers = None

-- a tree that is a list of two or three whole numbers
abbrev pub limit_numbers : Data → Option LimitNumbers
limit_numbers tree = option_and_then limits_from (wholes tree)

-- four whole numbers
abbrev pub account_from : List ℤ → Option Account
account_from (name ∷ customer ∷ saving ∷ checking ∷ []) = Some (record { name = name; customer = customer; saving = saving; checking = checking })
account_from numbers = None

-- a tree that is a list of four whole numbers
abbrev pub account_in : Data → Option Account
account_in tree = option_and_then account_from (wholes tree)

-- the list at a name
abbrev pub list_at : List ℕ → Data → Option (List Data)
list_at name tree = option_and_then list (get name tree)

-- three items, unless one is missing
abbrev pub all_three : {A B C : Type 0} → Option A → Option B → Option C → Option (A × B × C)
all_three None b c = None
all_three (Some a) None c = None
all_three (Some a) (Some b) None = None
all_three (Some a) (Some b) (Some c) = Some (a, b, c)

-- the limits, and the trees of the accounts and of the procedures, of an object with these members
abbrev pub parts_of : Data → Option (LimitNumbers × List Data × List Data)
parts_of tree = all_three (option_and_then limit_numbers (get (codes "limits") tree)) (list_at (codes "accounts") tree) (list_at (codes "procedures") tree)

-- the same for an object that has no other member
abbrev pub parts_in : Data → Option (LimitNumbers × List Data × List Data)
parts_in tree = option_and_then (λ members. cond (nat_eq (count members) 3) (parts_of tree) None) (as_object tree)

-- the same with the accounts, each of four whole numbers
abbrev pub sheet_from : LimitNumbers × List Data × List Data → Option Sheet
sheet_from parts = option_map (λ accounts. record { limits = parts.0; accounts = accounts; procedures = parts.2 }) (each account_in parts.1)

-- the parts that a tree spells
abbrev pub sheet_in : Data → Option Sheet
sheet_in tree = option_and_then sheet_from (parts_in tree)

-- the content of a line, if it has the shape of an opening
abbrev pub sheet_of : List ℕ → Option Sheet
sheet_of line = option_and_then sheet_in (tree_of line)

-- when codes are reported, by this number
abbrev pub AreAsks : ℤ → Asks → Type 0
AreAsks number AtStep = number ≡ pos 0
AreAsks number AtCommit = number ≡ pos 1

-- these numbers are limits in their ranges, and they allow at least as many live transactions as needed
pub record AreLimits (least : ℕ) (numbers : LimitNumbers) (limits : Limits) : Type 0 where
  pub live : numbers.live ≡ pos limits.live
  pub begins : numbers.begins ≡ pos limits.begins
  pub asks : AreAsks numbers.asks limits.asks
  pub in_range : AreInRange limits
  pub enough : least ≤ limits.live

-- the number of the first procedure of an opening, after the five of SmallBank
abbrev pub first_number : ℕ
first_number = 5

-- the opening of a line with this content
pub record IsOpened (least : ℕ) (sheet : Sheet) (opening : Opening) : Type 0 where
  pub limits : AreLimits least sheet.limits opening.limits
  pub no_fault : fault_of sheet.accounts ≡ None
  pub contents : (key : Key) → contents_of opening.database key ≡ opened sheet.accounts key
  pub procedures : AreProcedures sheet.procedures opening.procedures.items

-- the line spells the opening
pub record Opens (least : ℕ) (line : List ℕ) (opening : Opening) : Type 0 where
  pub sheet : Sheet
  pub shape : sheet_of line ≡ Some sheet
  pub opens : IsOpened least sheet opening

-- the limits are in their ranges, and they allow as many live transactions as needed
abbrev pub HasLimits : ℕ → Sheet → Type 0
HasLimits least sheet = (limits : Limits) × AreLimits least sheet.limits limits

-- one of the procedures that trees spell is refused: the first with a shape error or a flaw
abbrev pub ProcedureIsRefused : List Data → OpeningError → Type 0
ProcedureIsRefused trees (ProcShape number place) = (n : ℕ) × (number ≡ first_number + n) × NextIs (HasShapeError place) n trees
ProcedureIsRefused trees (ProcFlaw number flaw) = (n : ℕ) × (number ≡ first_number + n) × NextIs (HasLeastFlaw flaw) n trees
ProcedureIsRefused trees NoMemory = ⊤
ProcedureIsRefused trees other = ⊥

-- the procedure that the tree should spell is refused, under this number
abbrev pub IsRefusedAs : ℕ → Data → OpeningError → Type 0
IsRefusedAs number tree (ProcShape n place) = (n ≡ number) × HasShapeError place tree
IsRefusedAs number tree (ProcFlaw n flaw) = (n ≡ number) × HasLeastFlaw flaw tree
IsRefusedAs number tree NoMemory = ⊤
IsRefusedAs number tree other = ⊥

-- the error of accounts that are refused
abbrev pub error_of : accounts.BadOpening → OpeningError
error_of (bad.Fault fault) = BadOpening fault
error_of bad.NoMemory = NoMemory

-- why the content of a line is refused: its limits are out of range or allow too few live transactions; or else an
-- account is at fault; or else a procedure is refused. Out of memory is possible only if the limits and the accounts
-- pass
abbrev pub RefusesSheet : ℕ → Sheet → OpeningError → Type 0
RefusesSheet least sheet NotJson = ⊥
RefusesSheet least sheet BadLine = ⊥
RefusesSheet least sheet BadLimits = (limits : Limits) → ¬ AreLimits least sheet.limits limits
RefusesSheet least sheet (BadOpening fault) = HasLimits least sheet × (fault_of sheet.accounts ≡ Some fault)
RefusesSheet least sheet (ProcShape number place) = HasLimits least sheet × (fault_of sheet.accounts ≡ None) × ProcedureIsRefused sheet.procedures (ProcShape number place)
RefusesSheet least sheet (ProcFlaw number flaw) = HasLimits least sheet × (fault_of sheet.accounts ≡ None) × ProcedureIsRefused sheet.procedures (ProcFlaw number flaw)
RefusesSheet least sheet NoMemory = HasLimits least sheet × (fault_of sheet.accounts ≡ None)

-- the same for a line that has the shape of an opening
abbrev pub RefusesItsSheet : ℕ → List ℕ → OpeningError → Type 0
RefusesItsSheet least line error = (sheet : Sheet) × (sheet_of line ≡ Some sheet) × RefusesSheet least sheet error

-- why the line spells no opening: it is not JSON, or it has another shape, or its content is refused. Reading the
-- content may also run out of memory
abbrev pub Refuses : ℕ → List ℕ → OpeningError → Type 0
Refuses least line NotJson = tree_of line ≡ None
Refuses least line BadLine = IsSome (tree_of line) × (sheet_of line ≡ None)
Refuses least line NoMemory = ⊤
Refuses least line error = RefusesItsSheet least line error
