-- A procedure's run writes values only, so the contents of a replay hold values.
use Rattle.std.proofs.Common.{◌≡◌, refl, sym, subst, T, ℕ, ℤ, pos, negsuc, Bool, true, false, cond, List, [], ◌∷◌, length, Option, Some, None, nat_lt, slice_set}
use Rattle.std.specs.Prelude.{int_le, IfSome}
use Rattle.std.proofs.lemmas.Bool.{and_parts}
use Rattle.sgt_model.specs.Numbers.{IsValue, is_value, is_value_or_none}
use Rattle.sgt_model.specs.Contents.{Key, key_eq, Contents, set_in}
use Rattle.sgt_model.specs.Syntax.{ProcedureText}
use Rattle.sgt_model.specs.Ways.{Way, onto}
use Rattle.sgt_model.specs.Ways as way
use Rattle.sgt_model.specs.Runs.{Run, looks, puts, ends, raises, Outcome, Done, Asked, serial, contents_after, CallerAccess, reported, wrote, same_reported, with_access, with_accesses}
use Rattle.sgt_model.specs.Meaning.{Got, is, over, missing, Registers, fresh, value_of, Truth, holds, too_far, unknown, truth_of, wrong, with_value, with_condition, is_key, with_key, with_stored, if_found, found_or, run}
use Rattle.sgt_model.specs.Configurations.{configuration, run_if, procedure_at}
use Rattle.sgt_model.specs.StoredValues.{HoldValues, StoresValues, RunsStoreValues, ReplaysHoldValues, CommittedAreValues}
use Rattle.sgt_model.specs.Replay.{reported_calls}
use Rattle.sgt_model.proofs.Replays.{is_serializable}

-- ---- what a run stores

pub is_value-fact : (v : ℤ) → is_value v ≡ true → IsValue v
is_value-fact v e =
    let parts = and_parts (int_le (negsuc 999999999999998) v) (int_le v (pos 999999999999999)) e in
    (record { le = subst T (sym parts.0) tt }, record { le = subst T (sym parts.1) tt })

pub is_value_or_none-fact : (v : Option ℤ) → is_value_or_none v ≡ true → IfSome v IsValue
is_value_or_none-fact None e = tt
is_value_or_none-fact (Some v) e = is_value-fact v e

-- a test that has to hold, or else a code is raised
stores_where : (test : Bool) (r : Run) → (test ≡ true → StoresValues r) → StoresValues (cond test r wrong)
stores_where true r h = h refl
stores_where false r h = tt

-- a number that has to be a value, or else a code is raised
stores_with : (g : Got) (go : ℤ → Run) → ((v : ℤ) → StoresValues (go v)) → StoresValues (with_value g go)
stores_with (is v) go h = h v
stores_with over go h = tt
stores_with missing go h = tt

stores_either : (h : Truth) (ys ns : Run) → StoresValues ys → StoresValues ns → StoresValues (with_condition h ys ns)
stores_either (holds true) ys ns first second = first
stores_either (holds false) ys ns first second = second
stores_either too_far ys ns first second = tt
stores_either unknown ys ns first second = tt

stores_found : (absent : ℕ) (found : Option ℤ) (go : ℤ → Run) → ((v : ℤ) → StoresValues (go v)) → StoresValues (if_found absent found go)
stores_found absent None go h = tt
stores_found absent (Some v) go h = h v

stores_value : (k : Key) (v : ℤ) (rest : Run) → StoresValues rest → StoresValues (with_stored v (puts k (Some v) rest))
stores_value k v rest h = stores_where (is_value v) (puts k (Some v) rest) (λ fits. (is_value-fact v fits, h))

-- the run along the statements to come
stores_along : (args : List ℤ) (w : Way) (regs : Registers) (answers : List ℤ) → StoresValues (run args w regs answers)
stores_along args way.end regs answers = tt
stores_along args (way.look to table id absent rest) regs answers =
    stores_with _ _ (λ n. stores_where (is_key table n) _ (λ e found. stores_found absent found _ (λ v. stores_along args rest _ answers)))
stores_along args (way.find to table id absent rest) regs answers =
    let find_at : ℤ → ℤ → Run = λ n v. with_key table n
    (λ k. looks k (λ found. run args rest (slice_set regs to (Some (found_or v found))) answers)) in
    stores_with (value_of id args regs) (λ n. with_value (value_of absent args regs) (find_at n))
    (λ n. stores_with (value_of absent args regs) (find_at n)
    (λ v. stores_where (is_key table n) _ (λ e found. stores_along args rest (slice_set regs to (Some (found_or v found))) answers)))
stores_along args (way.put table id value rest) regs answers =
    let onwards : Run = run args rest regs answers in
    stores_with (value_of id args regs) (λ n. with_value (value_of value args regs)
    (λ v. with_key table n (λ k. with_stored v (puts k (Some v) onwards))))
    (λ n. stores_with (value_of value args regs) (λ v. with_key table n (λ k. with_stored v (puts k (Some v) onwards)))
    (λ v. stores_where (is_key table n) _ (λ e. stores_value (table, n) v onwards (stores_along args rest regs answers))))
stores_along args (way.remove table id rest) regs answers =
    stores_with _ _ (λ n. stores_where (is_key table n) _ (λ e. (tt, stores_along args rest regs answers)))
stores_along args (way.save to value rest) regs answers =
    stores_with _ _ (λ v. stores_along args rest _ answers)
stores_along args (way.ask code) regs answers = tt
stores_along args (way.fork test ys ns) regs answers =
    stores_either (truth_of test args regs) _ _ (stores_along args ys regs answers) (stores_along args ns regs answers)
stores_along args (way.answer value rest) regs answers =
    stores_with _ _ (λ v. stores_where (nat_lt (length answers) 8) _ (λ e. stores_along args rest regs _))

pub runs_store_values : RunsStoreValues
runs_store_values p args = stores_along args (onto p.body way.end) fresh []

stores_if_any : (o : Option ProcedureText) (args : List ℤ) → StoresValues (run_if o args)
stores_if_any None args = tt
stores_if_any (Some p) args = runs_store_values p args

-- ---- what the contents hold

pub value_put : (test : Bool) (v : Option ℤ) (before : Option ℤ) → IfSome v IsValue → IfSome before IsValue
    → IfSome (cond test v before) IsValue
value_put true v before fits stood = fits
value_put false v before fits stood = stood

-- a run that writes values leaves values
hold_after : (r : Run) (m before : Contents) → StoresValues r → HoldValues m → HoldValues before
    → HoldValues (contents_after (serial r m) before)
hold_after (looks k go) m before stores now left = hold_after (go (m k)) m before (stores (m k)) now left
hold_after (puts k v rest) m before stores now left = hold_after rest (set_in m k v) before stores.1
    (λ other. value_put (key_eq k other) v (m other) stores.0 (now other)) left
hold_after (ends answers) m before stores now left = now
hold_after (raises code) m before stores now left = left

-- so do the accesses of a caller after its end

hold_reported : (same : Bool) (answers : List ℤ) (m before : Contents) → HoldValues m → HoldValues before
    → HoldValues (contents_after (cond same (Done answers m) (Asked 0)) before)
hold_reported true answers m before now left = now
hold_reported false answers m before now left = left

hold_wrote : (fit : Bool) (k : Key) (v : Option ℤ) (answers : List ℤ) (m before : Contents) → (fit ≡ true → IfSome v IsValue)
    → HoldValues m → HoldValues before → HoldValues (contents_after (cond fit (Done answers (set_in m k v)) (Asked 0)) before)
hold_wrote true k v answers m before fits now left = λ other. value_put (key_eq k other) v (m other) (fits refl) (now other)
hold_wrote false k v answers m before fits now left = left

hold_more : (x : CallerAccess) (o : Outcome) (before : Contents) → HoldValues (contents_after o before) → HoldValues before
    → HoldValues (contents_after (with_access x o) before)
hold_more x (Asked code) before now left = left
hold_more (reported k v) (Done answers m) before now left = hold_reported (same_reported v (m k)) answers m before now left
hold_more (wrote k v) (Done answers m) before now left =
    hold_wrote (is_value_or_none v) k v answers m before (is_value_or_none-fact v) now left

hold_gone : (xs : List CallerAccess) (o : Outcome) (before : Contents) → HoldValues (contents_after o before) → HoldValues before
    → HoldValues (contents_after (with_accesses xs o) before)
hold_gone [] o before now left = now
hold_gone (x ∷ xs) o before now left = hold_more x (with_accesses xs o) before (hold_gone xs o before now left) left

pub replays_hold_values : ReplaysHoldValues
replays_hold_values opening programs limits [] hold = hold
replays_hold_values opening programs limits (c ∷ ran) hold =
    let before = replays_hold_values opening programs limits ran hold in
    hold_gone c.caller_accesses _ _
    (hold_after (run_if (procedure_at programs c.procedure) c.args) _ _ (stores_if_any (procedure_at programs c.procedure) c.args)
    before before) before

pub committed_are_values : CommittedAreValues
committed_are_values opening programs limits past hold legal =
    let replay = is_serializable (configuration opening programs limits) past legal in
    λ k. subst (λ o. IfSome o IsValue) (replay.database k) (replays_hold_values opening programs limits (reported_calls past) hold k)
