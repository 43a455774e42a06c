-- The remainder of a procedure is a run that is still to be done, and goes on as that does.
use Rattle.std.specs.Prelude.{◌≡◌, ℕ, zero, suc, ◌+◌, ◌≤◌, ℤ, Bool, true, false, cond, nat_lt, List, [], ◌∷◌, ◌++◌, length, Option, Some, None, Ok, Err, slice_set}
use Rattle.std.proofs.Common.{refl, sym, ap, ◌∙◌, arith}
use Rattle.sgt_model.specs.Numbers.{is_value}
use Rattle.sgt_model.specs.Contents.{Key}
use Rattle.sgt_model.specs.Syntax.{Block, empty, look, find, put, remove, save, ask, choose, answer}
use Rattle.sgt_model.specs.Runs.{Run, looks, puts, ends, raises}
use Rattle.sgt_model.specs.Traces.{Used, Next, Looks, Puts, Ends, Raises, trace, next_at}
use Rattle.sgt_model.specs.Ways.{Way, onto}
use Rattle.sgt_model.specs.Ways as way
use Rattle.sgt_model.specs.Meaning.{Got, is, over, missing, Truth, holds, too_far, unknown, Registers, value_of, truth_of, wrong, with_value, with_condition, is_key, if_found, found_or, run, run_with}
use Rattle.sgt_model.specs.Executions.{OrCode, and_then, provided}
use Rattle.sgt_model.specs.Left.{Rest, Left, ToRun, ToRaise, left_at_start, followed_by, Reached, AtLook, AtFind, AtStore, AtEnd, then_after, number_or_code, choice_or_code, reach, reached, next_of_reached, next_left, with_found, left_with_found, after_look, left_with_write, after_store, after_next, left_after, NextIsOfLeft, LeftAfterLook, LeftAfterStore}

-- up to the next access

onto_followed : (b more : Block) (following : Way) → onto b (onto more following) ≡ onto (followed_by b more) following
onto_followed empty more following = refl
onto_followed (look to table id absent b) more following = ap (way.look to table id absent) (onto_followed b more following)
onto_followed (find to table id absent b) more following = ap (way.find to table id absent) (onto_followed b more following)
onto_followed (put table id value b) more following = ap (way.put table id value) (onto_followed b more following)
onto_followed (remove table id b) more following = ap (way.remove table id) (onto_followed b more following)
onto_followed (save to value b) more following = ap (way.save to value) (onto_followed b more following)
onto_followed (ask code b) more following = refl
onto_followed (choose test ys ns b) more following = ap (λ w. way.fork test (onto ys w) (onto ns w)) (onto_followed b more following)
onto_followed (answer value b) more following = ap (way.answer value) (onto_followed b more following)

-- the run from where statements came to, with a way after them
abbrev run_reached : List ℤ → Way → OrCode Reached → Run
run_reached args following (Ok (AtLook key to absent r)) =
    looks key (λ found. if_found absent found (λ v. run r.args (onto r.statements following) (slice_set r.registers to (Some v)) r.answers))
run_reached args following (Ok (AtFind key to absent r)) =
    looks key (λ found. run r.args (onto r.statements following) (slice_set r.registers to (Some (found_or absent found))) r.answers)
run_reached args following (Ok (AtStore key v r)) = puts key v (run r.args (onto r.statements following) r.registers r.answers)
run_reached args following (Ok (AtEnd registers answers)) = run args following registers answers
run_reached args following (Err code) = raises code

-- the tests of a run, one by one

value_step : (args : List ℤ) (following : Way) (g : Got) (go : ℤ → Run) (next : ℤ → OrCode Reached)
    → ((v : ℤ) → go v ≡ run_reached args following (next v)) → with_value g go
    ≡ run_reached args following (and_then (number_or_code g) next)
value_step args following (is v) go next same = same v
value_step args following over go next same = refl
value_step args following missing go next same = refl

provided_step : {A : Type 0} (args : List ℤ) (following : Way) (fits : Bool) (a : A) (go : Run) (next : A → OrCode Reached)
    → go ≡ run_reached args following (next a) → cond fits go wrong ≡ run_reached args following (and_then (provided fits a 0) next)
provided_step args following true a go next same = same
provided_step args following false a go next same = refl

last_step : (args : List ℤ) (following : Way) (fits : Bool) (r : Reached) (go : Run) → go ≡ run_reached args following (Ok r)
    → cond fits go wrong ≡ run_reached args following (provided fits r 0)
last_step args following true r go same = same
last_step args following false r go same = refl

test_step : (args : List ℤ) (following : Way) (h : Truth) (ys ns : Run) (next : Bool → OrCode Reached) → ys ≡ run_reached args following
    (next true) → ns ≡ run_reached args following (next false)
    → with_condition h ys ns ≡ run_reached args following (and_then (choice_or_code h) next)
test_step args following (holds true) ys ns next yes_same no_same = yes_same
test_step args following (holds false) ys ns next yes_same no_same = no_same
test_step args following too_far ys ns next yes_same no_same = refl
test_step args following unknown ys ns next yes_same no_same = refl

-- what is after an If: with the branch's end its run goes on
if_step : (args : List ℤ) (b : Block) (following : Way) (o : OrCode Reached) → ((registers : Registers) (answers : List ℤ)
    → run args (onto b following) registers answers ≡ run_reached args following (reach b args registers answers))
    → run_reached args (onto b following) o ≡ run_reached args following
    (and_then o (then_after b (λ registers answers. reach b args registers answers)))
if_step args b following (Ok (AtLook key to absent r)) same =
    ap (λ w. looks key (λ found. if_found absent found (λ v. run r.args w (slice_set r.registers to (Some v)) r.answers)))
    (onto_followed r.statements b following)
if_step args b following (Ok (AtFind key to absent r)) same =
    ap (λ w. looks key (λ found. run r.args w (slice_set r.registers to (Some (found_or absent found))) r.answers))
    (onto_followed r.statements b following)
if_step args b following (Ok (AtStore key v r)) same = ap (λ w. puts key v (run r.args w r.registers r.answers))
    (onto_followed r.statements b following)
if_step args b following (Ok (AtEnd registers answers)) same = same registers answers
if_step args b following (Err code) same = refl

reach_is : (args : List ℤ) (b : Block) (following : Way) (registers : Registers) (answers : List ℤ)
    → run args (onto b following) registers answers ≡ run_reached args following (reach b args registers answers)
reach_is args empty following registers answers = refl
reach_is args (look to table id absent b) following registers answers =
    value_step args following (value_of id args registers) _ _ (λ n. provided_step args following (is_key table n) (table, n) _ _ refl)
reach_is args (find to table id absent b) following registers answers =
    value_step args following (value_of id args registers) _ _
    (λ n. value_step args following (value_of absent args registers) _ _
    (λ v. provided_step args following (is_key table n) (table, n) _ _ refl))
reach_is args (put table id value b) following registers answers =
    value_step args following (value_of id args registers) _ _
    (λ n. value_step args following (value_of value args registers) _ _
    (λ v. provided_step args following (is_key table n) (table, n) _ _ (last_step args following (is_value v) _ _ refl)))
reach_is args (remove table id b) following registers answers =
    value_step args following (value_of id args registers) _ _
    (λ n. provided_step args following (is_key table n) (table, n) _ _ refl)
reach_is args (save to value b) following registers answers =
    value_step args following (value_of value args registers) _ _ (λ v. reach_is args b following (slice_set registers to (Some v)) answers)
reach_is args (ask code b) following registers answers = refl
reach_is args (choose test ys ns b) following registers answers =
    test_step args following (truth_of test args registers) _ _ _
    (reach_is args ys (onto b following) registers answers ∙ if_step args b following (reach ys args registers answers)
    (reach_is args b following))
    (reach_is args ns (onto b following) registers answers ∙ if_step args b following (reach ns args registers answers)
    (reach_is args b following))
reach_is args (answer value b) following registers answers =
    value_step args following (value_of value args registers) _ _
    (λ v. provided_step args following (nat_lt (length answers) 8) (answers ++ v ∷ []) _ _
    (reach_is args b following registers (answers ++ v ∷ [])))

-- the run that is still to be done

abbrev pub run_left : Left → Run
run_left (ToRun r) = run r.args (onto r.statements way.end) r.registers r.answers
run_left (ToRaise code) = raises code

-- at the end nothing depends on the arguments
at_end : (args : List ℤ) (o : OrCode Reached) → run_reached args way.end o ≡ run_reached [] way.end o
at_end args (Ok (AtLook key to absent r)) = refl
at_end args (Ok (AtFind key to absent r)) = refl
at_end args (Ok (AtStore key v r)) = refl
at_end args (Ok (AtEnd registers answers)) = refl
at_end args (Err code) = refl

run_left_is : (l : Left) → run_left l ≡ run_reached [] way.end (reached l)
run_left_is (ToRun r) = reach_is r.args r.statements way.end r.registers r.answers
    ∙ at_end r.args (reach r.statements r.args r.registers r.answers)
run_left_is (ToRaise code) = refl

-- what a run does next

abbrev next_of_run : Run → Next
next_of_run (looks k go) = Looks k
next_of_run (puts k v rest) = Puts k v
next_of_run (ends answers) = Ends answers
next_of_run (raises code) = Raises code

next_of_trace : (r : Run) → next_of_run r ≡ next_at (trace r []) 0
next_of_trace (looks k go) = refl
next_of_trace (puts k v rest) = refl
next_of_trace (ends answers) = refl
next_of_trace (raises code) = refl

next_reached : (o : OrCode Reached) → next_of_reached o ≡ next_of_run (run_reached [] way.end o)
next_reached (Ok (AtLook key to absent r)) = refl
next_reached (Ok (AtFind key to absent r)) = refl
next_reached (Ok (AtStore key v r)) = refl
next_reached (Ok (AtEnd registers answers)) = refl
next_reached (Err code) = refl

next_is : (l : Left) (r : Run) → run_left l ≡ r → next_left l ≡ next_of_run r
next_is l r same = next_reached (reached l) ∙ ap next_of_run (sym (run_left_is l) ∙ same)

-- one more access

abbrev following_first_look : Option ℤ → Run → Run
following_first_look found (looks k go) = go found
following_first_look found r = r

abbrev following_first_store : Run → Run
following_first_store (puts k v rest) = rest
following_first_store r = r

found_is : (found : Option ℤ) (to absent : ℕ) (r : Rest) → run_left (with_found found to absent r) ≡ if_found absent found
    (λ v. run r.args (onto r.statements way.end) (slice_set r.registers to (Some v)) r.answers)
found_is None to absent r = refl
found_is (Some v) to absent r = refl

look_reached : (found : Option ℤ) (o : OrCode Reached) (l : Left) → run_left l ≡ run_reached [] way.end o
    → run_left (left_with_found found o l) ≡ following_first_look found (run_reached [] way.end o)
look_reached found (Ok (AtLook key to absent r)) l same = found_is found to absent r
look_reached found (Ok (AtFind key to absent r)) l same = refl
look_reached found (Ok (AtStore key v r)) l same = same
look_reached found (Ok (AtEnd registers answers)) l same = same
look_reached found (Err code) l same = same

store_reached : (o : OrCode Reached) (l : Left) → run_left l ≡ run_reached [] way.end o
    → run_left (left_with_write o l) ≡ following_first_store (run_reached [] way.end o)
store_reached (Ok (AtLook key to absent r)) l same = same
store_reached (Ok (AtFind key to absent r)) l same = same
store_reached (Ok (AtStore key v r)) l same = refl
store_reached (Ok (AtEnd registers answers)) l same = same
store_reached (Err code) l same = same

look_is : (found : Option ℤ) (l : Left) (r : Run) → run_left l ≡ r → run_left (after_look found l) ≡ following_first_look found r
look_is found l r same = look_reached found (reached l) l (run_left_is l) ∙ ap (following_first_look found) (sym (run_left_is l) ∙ same)

store_is : (l : Left) (r : Run) → run_left l ≡ r → run_left (after_store l) ≡ following_first_store r
store_is l r same = store_reached (reached l) l (run_left_is l) ∙ ap following_first_store (sym (run_left_is l) ∙ same)

-- the first access of some

look_first : (l : Left) (key : Key) (found : Option ℤ) (values : List (Option ℤ)) (made : ℕ) → next_left l ≡ Looks key
    → left_after l (found ∷ values) (suc made) ≡ left_after (after_look found l) values made
look_first l key found values made next =
    ap (λ n. after_next n l (found ∷ values) (λ then values_then. left_after then values_then made)) next

store_first : (l : Left) (key : Key) (v : Option ℤ) (values : List (Option ℤ)) (made : ℕ) → next_left l ≡ Puts key v → left_after l values
    (suc made) ≡ left_after (after_store l) values made
store_first l key v values made next = ap (λ n. after_next n l values (λ then values_then. left_after then values_then made)) next

-- the laws, for the remainder that a run is of

pub next_after : (made : ℕ) (r : Run) (l : Left) (values : List (Option ℤ)) → run_left l ≡ r → Used r values made
    → next_left (left_after l values made) ≡ next_at (trace r values) made
next_after zero r l [] same used = next_is l r same ∙ next_of_trace r
next_after zero r l (v ∷ values) same used = absurd used
next_after (suc made) (looks k go) l [] same used = absurd used
next_after (suc made) (looks k go) l (v ∷ values) same used =
    ap next_left (look_first l k v values made (next_is l (looks k go) same))
    ∙ next_after made (go v) (after_look v l) values (look_is v l (looks k go) same) used
next_after (suc made) (puts k v rest) l values same used =
    ap next_left (store_first l k v values made (next_is l (puts k v rest) same))
    ∙ next_after made rest (after_store l) values (store_is l (puts k v rest) same) used
next_after (suc made) (ends answers) l values same used = absurd used
next_after (suc made) (raises code) l values same used = absurd used

pub look_after : (made : ℕ) (r : Run) (l : Left) (values : List (Option ℤ)) → run_left l ≡ r → Used r values made
    → (key : Key) (found : Option ℤ) → next_left (left_after l values made) ≡ Looks key → left_after l (values ++ found ∷ [])
    (suc made) ≡ after_look found (left_after l values made)
look_after zero r l [] same used key found next = look_first l key found [] 0 next
look_after zero r l (v ∷ values) same used key found next = absurd used
look_after (suc made) (looks k go) l [] same used key found next = absurd used
look_after (suc made) (looks k go) l (v ∷ values) same used key found next =
    let first : next_left l ≡ Looks k = next_is l (looks k go) same in
    let one : left_after l (v ∷ values) (suc made) ≡ left_after (after_look v l) values made = look_first l k v values made first in
    look_first l k v (values ++ found ∷ []) (suc made) first
    ∙ (look_after made (go v) (after_look v l) values (look_is v l (looks k go) same) used key found (ap next_left (sym one) ∙ next)
    ∙ ap (after_look found) (sym one))
look_after (suc made) (puts k w rest) l values same used key found next =
    let first : next_left l ≡ Puts k w = next_is l (puts k w rest) same in
    let one : left_after l values (suc made) ≡ left_after (after_store l) values made = store_first l k w values made first in
    store_first l k w (values ++ found ∷ []) (suc made) first
    ∙ (look_after made rest (after_store l) values (store_is l (puts k w rest) same) used key found (ap next_left (sym one) ∙ next)
    ∙ ap (after_look found) (sym one))
look_after (suc made) (ends answers) l values same used key found next = absurd used
look_after (suc made) (raises code) l values same used key found next = absurd used

pub store_after : (made : ℕ) (r : Run) (l : Left) (values : List (Option ℤ)) → run_left l ≡ r → Used r values made
    → (key : Key) (v : Option ℤ) → next_left (left_after l values made) ≡ Puts key v → left_after l values (suc made) ≡ after_store
    (left_after l values made)
store_after zero r l [] same used key v next = store_first l key v [] 0 next
store_after zero r l (w ∷ values) same used key v next = absurd used
store_after (suc made) (looks k go) l [] same used key v next = absurd used
store_after (suc made) (looks k go) l (w ∷ values) same used key v next =
    let first : next_left l ≡ Looks k = next_is l (looks k go) same in
    let one : left_after l (w ∷ values) (suc made) ≡ left_after (after_look w l) values made = look_first l k w values made first in
    look_first l k w values (suc made) first
    ∙ (store_after made (go w) (after_look w l) values (look_is w l (looks k go) same) used key v (ap next_left (sym one) ∙ next)
    ∙ ap after_store (sym one))
store_after (suc made) (puts k w rest) l values same used key v next =
    let first : next_left l ≡ Puts k w = next_is l (puts k w rest) same in
    let one : left_after l values (suc made) ≡ left_after (after_store l) values made = store_first l k w values made first in
    store_first l k w values (suc made) first
    ∙ (store_after made rest (after_store l) values (store_is l (puts k w rest) same) used key v (ap next_left (sym one) ∙ next)
    ∙ ap after_store (sym one))
store_after (suc made) (ends answers) l values same used key v next = absurd used
store_after (suc made) (raises code) l values same used key v next = absurd used

-- past the end the remainder stays

end_stays : (l : Left) (values : List (Option ℤ)) (answers : List ℤ) (made : ℕ) → next_left l ≡ Ends answers → left_after l values made ≡ l
end_stays l values answers zero e = refl
end_stays l values answers (suc made) e =
    ap (λ n. after_next n l values (λ then values_then. left_after then values_then made)) e

pub left_past : (made total : ℕ) (r : Run) (l : Left) (values more : List (Option ℤ)) (answers : List ℤ) → made ≤ total → run_left l ≡ r
    → Used r values made → next_left (left_after l values made) ≡ Ends answers
    → left_after l (values ++ more) total ≡ left_after l values made
left_past zero total r l [] more answers few same used e = end_stays l more answers total e
left_past zero total r l (v ∷ values) more answers few same used e = absurd used
left_past (suc made) zero r l values more answers few same used e = absurd (omega arith)
left_past (suc made) (suc total) (looks k go) l [] more answers few same used e = absurd used
left_past (suc made) (suc total) (looks k go) l (v ∷ values) more answers few same used e =
    let first : next_left l ≡ Looks k = next_is l (looks k go) same in
    let one : left_after l (v ∷ values) (suc made) ≡ left_after (after_look v l) values made = look_first l k v values made first in
    look_first l k v (values ++ more) total first
    ∙ (left_past made total (go v) (after_look v l) values more answers (omega arith) (look_is v l (looks k go) same) used
    (ap next_left (sym one) ∙ e) ∙ sym one)
left_past (suc made) (suc total) (puts k w rest) l values more answers few same used e =
    let first : next_left l ≡ Puts k w = next_is l (puts k w rest) same in
    let one : left_after l values (suc made) ≡ left_after (after_store l) values made = store_first l k w values made first in
    store_first l k w (values ++ more) total first
    ∙ (left_past made total rest (after_store l) values more answers (omega arith) (store_is l (puts k w rest) same) used
    (ap next_left (sym one) ∙ e) ∙ sym one)
left_past (suc made) (suc total) (ends given) l values more answers few same used e = absurd used
left_past (suc made) (suc total) (raises code) l values more answers few same used e = absurd used

-- and a read or a write that is made there leaves it

look_stays : (found : Option ℤ) (l : Left) (answers : List ℤ) (o : OrCode Reached) → next_of_reached o ≡ Ends answers
    → left_with_found found o l ≡ l
look_stays found l answers (Ok (AtLook key to absent r)) e = absurd (cc e)
look_stays found l answers (Ok (AtFind key to absent r)) e = absurd (cc e)
look_stays found l answers (Ok (AtStore key v r)) e = refl
look_stays found l answers (Ok (AtEnd registers given)) e = refl
look_stays found l answers (Err code) e = refl

store_stays : (l : Left) (answers : List ℤ) (o : OrCode Reached) → next_of_reached o ≡ Ends answers → left_with_write o l ≡ l
store_stays l answers (Ok (AtLook key to absent r)) e = refl
store_stays l answers (Ok (AtFind key to absent r)) e = refl
store_stays l answers (Ok (AtStore key v r)) e = absurd (cc e)
store_stays l answers (Ok (AtEnd registers given)) e = refl
store_stays l answers (Err code) e = refl

pub end_looked : (found : Option ℤ) (l : Left) (answers : List ℤ) → next_left l ≡ Ends answers → after_look found l ≡ l
end_looked found l answers e = look_stays found l answers (reached l) e

pub end_stored : (l : Left) (answers : List ℤ) → next_left l ≡ Ends answers → after_store l ≡ l
end_stored l answers e = store_stays l answers (reached l) e

-- the laws

pub next_is_of_left : NextIsOfLeft
next_is_of_left p args values made used = next_after made (run_with p args) (left_at_start p args) values refl used

pub left_after_look : LeftAfterLook
left_after_look p args values made used key found next =
    let one : made + 1 ≡ suc made = omega arith in
    ap (left_after (left_at_start p args) (values ++ found ∷ [])) one
    ∙ look_after made (run_with p args) (left_at_start p args) values refl used key found next

pub left_after_store : LeftAfterStore
left_after_store p args values made used key v next =
    let one : made + 1 ≡ suc made = omega arith in
    ap (left_after (left_at_start p args) values) one
    ∙ store_after made (run_with p args) (left_at_start p args) values refl used key v next
