-- Lists and objects of another size than an opening's.
use Rattle.std.proofs.Common.{◌≡◌, ◌≢◌, ℕ, suc, ℤ, List, [], ◌∷◌, Some, None, Option, refl, ap, sym, ◌∙◌, length, get_or, map, arith}
use Rattle.std.specs.Prelude.{Result, Ok, Err, IfOk, IfErr, cond, nat_eq, nat_le, false, codes, option_map, option_and_then, String, ◌<◌, ◌≤◌}
use Rattle.std.specs.declared.alloc.Global.{Global}
use Rattle.serde_json.specs.Data.{Data, Members}
use Rattle.serde_json.specs.Find.{get, as_object}
use Rattle.serde_json.specs.View.{view, members_view}
use Rattle.serde_json.specs.declared.value.Value.{Value}
use Rattle.sgt_format.specs.EventLines.{arguments_from, arguments}
use Rattle.sgt_format.specs.JobLines.{job_from}
use Rattle.sgt_format.specs.Trees.{tree_of, list, each}
use Rattle.sgt_proc_json.specs.Trees.{whole}
use Rattle.sgt_smallbank.specs.declared.account.Account.{Account}
use Rattle.sgt_format.specs.Openings.{Sheet, count, limits_from, limit_numbers, account_from, account_in, list_at, all_three, parts_of, parts_in, sheet_in, sheet_of, IsOpened, Opens, RefusesSheet, Refuses}
use Rattle.sgt_format.specs.declared.errors.OpeningError.{OpeningError}
use Rattle.sgt_format.specs.declared.opening.Opening.{Opening}
use Rattle.sgt_format.specs.declared.sheet.LimitNumbers.{LimitNumbers}
use Rattle.sgt_format.specs.declared.errors.OpeningError.TheVariants.{NotJson, BadLine, BadLimits, BadOpening, ProcShape, ProcFlaw, NoMemory}

longer : {A : Type 0} (first : Option A) (rest : Option (List A)) (found : List A) (n : ℕ) → ((others : List A) → rest ≡ Some others
    → length others ≡ n) → option_and_then (λ a. option_map (λ others. a ∷ others) rest) first ≡ Some found → length found ≡ suc n
longer None rest found n same e = absurd (cc)
longer (Some a) None found n same e = absurd (cc)
longer (Some a) (Some others) found n same e = grind (arith, same others refl)

-- there are as many values as trees
pub length-each : {A : Type 0} (meaning : Data → Option A) (trees : List Data) (found : List A) → each meaning trees ≡ Some found
    → length found ≡ length trees
length-each meaning [] found e = grind arith
length-each meaning (tree ∷ trees) found e = longer (meaning tree) (each meaning trees) found (length trees) (length-each meaning trees) e

-- four values are those at their indexes
pub four_values : (values : List Value) (a b c d : Value) → 4 ≤ length values → length values < 5 → a ≡ get_or values 0 a
    → b ≡ get_or values 1 b → c ≡ get_or values 2 c → d ≡ get_or values 3 d → values ≡ a ∷ b ∷ c ∷ d ∷ []
four_values [] a b c d least most at_a at_b at_c at_d = absurd (omega arith)
four_values (x ∷ []) a b c d least most at_a at_b at_c at_d = absurd (omega arith)
four_values (x ∷ y ∷ []) a b c d least most at_a at_b at_c at_d = absurd (omega arith)
four_values (x ∷ y ∷ z ∷ []) a b c d least most at_a at_b at_c at_d = absurd (omega arith)
four_values (x ∷ y ∷ z ∷ u ∷ []) a b c d least most at_a at_b at_c at_d = rw (at_a, at_b, at_c, at_d) refl
four_values (x ∷ y ∷ z ∷ u ∷ v ∷ rest) a b c d least most at_a at_b at_c at_d = absurd (omega arith)

-- the same with three
pub three_values : (values : List Value) (a b c : Value) → 3 ≤ length values → length values < 4 → a ≡ get_or values 0 a
    → b ≡ get_or values 1 b → c ≡ get_or values 2 c → values ≡ a ∷ b ∷ c ∷ []
three_values [] a b c least most at_a at_b at_c = absurd (omega arith)
three_values (x ∷ []) a b c least most at_a at_b at_c = absurd (omega arith)
three_values (x ∷ y ∷ []) a b c least most at_a at_b at_c = absurd (omega arith)
three_values (x ∷ y ∷ z ∷ []) a b c least most at_a at_b at_c = rw (at_a, at_b, at_c) refl
three_values (x ∷ y ∷ z ∷ u ∷ rest) a b c least most at_a at_b at_c = absurd (omega arith)

-- a list of more or fewer than three is no job
pub no_job : (values : List Value) → length values ≢ 3 → job_from (map view values) ≡ None
no_job [] three = refl
no_job (a ∷ []) three = refl
no_job (a ∷ b ∷ []) three = refl
no_job (a ∷ b ∷ c ∷ []) three = absurd (three refl)
no_job (a ∷ b ∷ c ∷ d ∷ rest) three = refl

-- a list of more than three or fewer than two is no limits
pub limits_from-length : (numbers : List ℤ) → length numbers ≢ 2 → length numbers ≢ 3 → limits_from numbers ≡ None
limits_from-length [] two three = refl
limits_from-length (a ∷ []) two three = refl
limits_from-length (a ∷ b ∷ []) two three = absurd (two refl)
limits_from-length (a ∷ b ∷ c ∷ []) two three = absurd (three refl)
limits_from-length (a ∷ b ∷ c ∷ d ∷ rest) two three = refl

not_limits : (trees : List Data) → length trees ≢ 2 → length trees ≢ 3 → option_and_then limits_from (each whole trees) ≡ None
not_limits trees two three = by_numbers (each whole trees) refl
  where
    by_numbers : (numbers : Option (List ℤ)) → each whole trees ≡ numbers → option_and_then limits_from numbers ≡ None
    by_numbers None same = refl
    by_numbers (Some numbers) same = limits_from-length numbers (λ is. two (grind (arith, length-each whole trees numbers same)))
        (λ is. three (grind (arith, length-each whole trees numbers same)))

more_than_four : (n : ℕ) → 4 < n → nat_le n 4 ≡ false
more_than_four n many = grind arith

-- what is read from at most four numbers is read from the arguments of an event
by_arguments : {X : Type 0} (read : List ℤ → Option X)
    → ((trees : List Data) → 4 < length trees → option_and_then read (each whole trees) ≡ None) → (trees : Option (List Data))
    → option_and_then read (option_and_then (each whole) trees) ≡ option_and_then read (option_and_then arguments_from trees)
by_arguments read too_many None = refl
by_arguments read too_many (Some []) = refl
by_arguments read too_many (Some (a ∷ [])) = refl
by_arguments read too_many (Some (a ∷ b ∷ [])) = refl
by_arguments read too_many (Some (a ∷ b ∷ c ∷ [])) = refl
by_arguments read too_many (Some (a ∷ b ∷ c ∷ d ∷ [])) = refl
by_arguments read too_many (Some (a ∷ b ∷ c ∷ d ∷ e ∷ rest)) =
    let trees = a ∷ b ∷ c ∷ d ∷ e ∷ rest in
    too_many trees (omega arith)
    ∙ sym (ap (λ few. option_and_then read (cond few (each whole trees) None)) (more_than_four (length trees) (omega arith)))

-- limits are those of at most four numbers
pub limits_by_arguments : (tree : Data) → limit_numbers tree ≡ option_and_then limits_from (arguments tree)
limits_by_arguments tree = by_arguments limits_from (λ trees many. not_limits trees (omega (arith, many)) (omega (arith, many))) (list tree)

-- a list of more or fewer than four is no account
pub account_from-length : (numbers : List ℤ) → length numbers ≢ 4 → account_from numbers ≡ None
account_from-length [] other = refl
account_from-length (a ∷ []) other = refl
account_from-length (a ∷ b ∷ []) other = refl
account_from-length (a ∷ b ∷ c ∷ []) other = refl
account_from-length (a ∷ b ∷ c ∷ d ∷ []) other = absurd (other refl)
account_from-length (a ∷ b ∷ c ∷ d ∷ e ∷ rest) other = refl

not_four : (trees : List Data) → length trees ≢ 4 → option_and_then account_from (each whole trees) ≡ None
not_four trees other = by_numbers (each whole trees) refl
  where
    by_numbers : (numbers : Option (List ℤ)) → each whole trees ≡ numbers → option_and_then account_from numbers ≡ None
    by_numbers None same = refl
    by_numbers (Some numbers) same = account_from-length numbers (λ four. other (grind (arith, length-each whole trees numbers same)))

-- an account is that of at most four numbers
pub account_by_arguments : (tree : Data) → account_in tree ≡ option_and_then account_from (arguments tree)
account_by_arguments tree = by_arguments account_from (λ trees many. not_four trees (omega (arith, many))) (list tree)

-- an object has as many members as its map has entries
pub count_members : (members : List (String Global × Value)) → count (members_view members) ≡ length members
count_members [] = refl
count_members (m ∷ members) = grind (arith, count_members members)

-- the parts of an object that has them
pub parts_found : (tree : Data) (members : Members) (limits : LimitNumbers) (accounts procedures : List Data)
    → Some members ≡ as_object tree → count members ≡ 3 → Some limits ≡ option_and_then limit_numbers (get (codes "limits") tree)
    → Some accounts ≡ list_at (codes "accounts") tree → Some procedures ≡ list_at (codes "procedures") tree
    → Some (limits, accounts, procedures) ≡ parts_in tree
parts_found tree ms limits accounts procedures object three at_limits at_accounts at_procedures =
    sym (ap (option_and_then (λ members. cond (nat_eq (count members) 3) (parts_of tree) None)) (sym object)
    ∙ ap (λ n. cond (nat_eq n 3) (parts_of tree) None) three
    ∙ ap (λ o. all_three o (list_at (codes "accounts") tree) (list_at (codes "procedures") tree)) (sym at_limits)
    ∙ ap (λ o. all_three (Some limits) o (list_at (codes "procedures") tree)) (sym at_accounts)
    ∙ ap (λ o. all_three (Some limits) (Some accounts) o) (sym at_procedures))

-- the sheet of a tree
pub sheet_found : (tree : Data) (limits : LimitNumbers) (trees procedures : List Data) (accounts : List Account)
    → Some (limits, trees, procedures) ≡ parts_in tree → Some accounts ≡ each account_in trees
    → sheet_in tree ≡ Some (record { limits = limits; accounts = accounts; procedures = procedures })
sheet_found tree limits trees procedures accounts at_tree at_trees = rw (← at_tree) (rw (← at_trees) refl)

refused_sheet : (least : ℕ) (line : List ℕ) (sheet : Sheet) (error : OpeningError) → sheet_of line ≡ Some sheet
    → RefusesSheet least sheet error → Refuses least line error
refused_sheet least line sheet NotJson shape is = absurd is
refused_sheet least line sheet BadLine shape is = absurd is
refused_sheet least line sheet BadLimits shape is = (sheet, shape, is)
refused_sheet least line sheet (BadOpening fault) shape is = (sheet, shape, is)
refused_sheet least line sheet (ProcShape number place) shape is = (sheet, shape, is)
refused_sheet least line sheet (ProcFlaw number flaw) shape is = (sheet, shape, is)
refused_sheet least line sheet NoMemory shape is = tt

-- what decides an opening for the tree of a line decides it for the line
pub opens_each : (least : ℕ) (tree : Data) (sheet : Sheet) (result : Result Opening OpeningError) → sheet_in tree ≡ Some sheet
    → IfOk result (IsOpened least sheet)
    → IfOk result (λ opening. (line : List ℕ) → tree_of line ≡ Some tree → Opens least line opening)
opens_each least tree sheet (Ok opening) shape is =
    λ line at. record { sheet = sheet; shape = ap (option_and_then sheet_in) at ∙ shape; opens = is }
opens_each least tree sheet (Err error) shape is = tt

pub refuses_each : (least : ℕ) (tree : Data) (sheet : Sheet) (result : Result Opening OpeningError) → sheet_in tree ≡ Some sheet
    → IfErr result (RefusesSheet least sheet)
    → IfErr result (λ error. (line : List ℕ) → tree_of line ≡ Some tree → Refuses least line error)
refuses_each least tree sheet (Ok opening) shape is = tt
refuses_each least tree sheet (Err error) shape is =
    λ line at. refused_sheet least line sheet error (ap (option_and_then sheet_in) at ∙ shape) is
