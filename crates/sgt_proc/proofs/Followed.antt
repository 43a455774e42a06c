-- Statements that others follow.
use Rattle.std.proofs.Common.{◌≡◌, refl, sym, ap, ◌+◌, ℤ, Bool, true, false, cond, List, [], ◌∷◌, ◌++◌, length, nat_lt, slice_set, Some, None, Ok, Err, arith}
use Rattle.sgt_model.specs.Numbers.{is_value}
use Rattle.sgt_model.specs.Syntax.{Block, empty, look, find, put, remove, save, ask, choose, answer}
use Rattle.sgt_model.specs.Meaning.{Registers, value_of, truth_of}
use Rattle.sgt_model.specs.Executions.{OrCode, and_then, provided, key_of, stuck}
use Rattle.sgt_model.specs.Left.{Rest, Reached, AtLook, AtFind, AtStore, AtEnd, followed_by, then_after, number_or_code, choice_or_code, reach}
use Rattle.sgt_proc.specs.Flaws.{size}

pub followed_empty : (b : Block) → followed_by b empty ≡ b
followed_empty empty = refl
followed_empty (look to table id absent b) = ap (look to table id absent) (followed_empty b)
followed_empty (find to table id absent b) = ap (find to table id absent) (followed_empty b)
followed_empty (put table id value b) = ap (put table id value) (followed_empty b)
followed_empty (remove table id b) = ap (remove table id) (followed_empty b)
followed_empty (save to value b) = ap (save to value) (followed_empty b)
followed_empty (ask code b) = ap (ask code) (followed_empty b)
followed_empty (choose test ys ns b) = ap (choose test ys ns) (followed_empty b)
followed_empty (answer value b) = ap (answer value) (followed_empty b)

pub followed_twice : (a b c : Block) → followed_by (followed_by a b) c ≡ followed_by a (followed_by b c)
followed_twice empty b c = refl
followed_twice (look to table id absent a) b c = ap (look to table id absent) (followed_twice a b c)
followed_twice (find to table id absent a) b c = ap (find to table id absent) (followed_twice a b c)
followed_twice (put table id value a) b c = ap (put table id value) (followed_twice a b c)
followed_twice (remove table id a) b c = ap (remove table id) (followed_twice a b c)
followed_twice (save to value a) b c = ap (save to value) (followed_twice a b c)
followed_twice (ask code a) b c = ap (ask code) (followed_twice a b c)
followed_twice (choose test ys ns a) b c = ap (choose test ys ns) (followed_twice a b c)
followed_twice (answer value a) b c = ap (answer value) (followed_twice a b c)

pub followed_size : (a b : Block) → size (followed_by a b) ≡ size a + size b
followed_size empty b = omega arith
followed_size (look to table id absent a) b = omega (arith, followed_size a b)
followed_size (find to table id absent a) b = omega (arith, followed_size a b)
followed_size (put table id value a) b = omega (arith, followed_size a b)
followed_size (remove table id a) b = omega (arith, followed_size a b)
followed_size (save to value a) b = omega (arith, followed_size a b)
followed_size (ask code a) b = omega (arith, followed_size a b)
followed_size (choose test ys ns a) b = omega (arith, followed_size a b)
followed_size (answer value a) b = omega (arith, followed_size a b)

-- where statements lead that others follow

then_then : {A : Type 0} (o : OrCode A) (first : A → OrCode Reached) (go_on : Reached → OrCode Reached) (both : A → OrCode Reached)
    → ((a : A) → both a ≡ and_then (first a) go_on) → and_then o both ≡ and_then (and_then o first) go_on
then_then (Ok a) first go_on both same = same a
then_then (Err code) first go_on both same = refl

last_then : (fits : Bool) (r r' : Reached) (go_on : Reached → OrCode Reached) → Ok r' ≡ go_on r
    → provided fits r' stuck ≡ and_then (provided fits r stuck) go_on
last_then true r r' go_on same = same
last_then false r r' go_on same = refl

abbrev rest_with : Block → List ℤ → Registers → List ℤ → Rest
rest_with b args registers answers = record { statements = b; args = args; registers = registers; answers = answers }

-- what is after an If, with more after that
if_then : (args : List ℤ) (b more : Block) (o : OrCode Reached)
    → ((registers : Registers) (answers : List ℤ) → reach (followed_by b more) args registers answers ≡ and_then
    (reach b args registers answers) (then_after more (reach more args)))
    → and_then o (then_after (followed_by b more) (reach (followed_by b more) args)) ≡ and_then (and_then o (then_after b (reach b args)))
    (then_after more (reach more args))
if_then args b more (Ok (AtLook key to absent r)) same = ap
    (λ s. Ok (AtLook key to absent (record { statements = s; args = r.args; registers = r.registers; answers = r.answers })))
    (sym (followed_twice r.statements b more))
if_then args b more (Ok (AtFind key to absent r)) same = ap
    (λ s. Ok (AtFind key to absent (record { statements = s; args = r.args; registers = r.registers; answers = r.answers })))
    (sym (followed_twice r.statements b more))
if_then args b more (Ok (AtStore key v r)) same = ap
    (λ s. Ok (AtStore key v (record { statements = s; args = r.args; registers = r.registers; answers = r.answers })))
    (sym (followed_twice r.statements b more))
if_then args b more (Ok (AtEnd registers answers)) same = same registers answers
if_then args b more (Err code) same = refl

pub reach_followed : (b more : Block) (args : List ℤ) (registers : Registers) (answers : List ℤ)
    → reach (followed_by b more) args registers answers ≡ and_then (reach b args registers answers) (then_after more (reach more args))
reach_followed empty more args registers answers = refl
reach_followed (look to table id absent b) more args registers answers =
    then_then (number_or_code (value_of id args registers)) _ _ _ (λ n.
    then_then (key_of table n) (λ key. Ok (AtLook key to absent (rest_with b args registers answers))) (then_after more (reach more args))
    (λ key. Ok (AtLook key to absent (rest_with (followed_by b more) args registers answers))) (λ key. refl))
reach_followed (find to table id absent b) more args registers answers =
    then_then (number_or_code (value_of id args registers)) _ _ _ (λ n.
    then_then (number_or_code (value_of absent args registers))
    (λ v. and_then (key_of table n) (λ key. Ok (AtFind key to v (rest_with b args registers answers)))) (then_after more (reach more args))
    (λ v. and_then (key_of table n) (λ key. Ok (AtFind key to v (rest_with (followed_by b more) args registers answers)))) (λ v.
    then_then (key_of table n) (λ key. Ok (AtFind key to v (rest_with b args registers answers))) (then_after more (reach more args))
    (λ key. Ok (AtFind key to v (rest_with (followed_by b more) args registers answers))) (λ key. refl)))
reach_followed (put table id value b) more args registers answers =
    then_then (number_or_code (value_of id args registers)) _ _ _ (λ n.
    then_then (number_or_code (value_of value args registers))
    (λ v. and_then (key_of table n) (λ key. provided (is_value v) (AtStore key (Some v) (rest_with b args registers answers)) stuck))
    (then_after more (reach more args)) (λ v. and_then (key_of table n)
    (λ key. provided (is_value v) (AtStore key (Some v) (rest_with (followed_by b more) args registers answers)) stuck)) (λ v.
    then_then (key_of table n) (λ key. provided (is_value v) (AtStore key (Some v) (rest_with b args registers answers)) stuck)
    (then_after more (reach more args)) (λ key. provided (is_value v)
    (AtStore key (Some v) (rest_with (followed_by b more) args registers answers)) stuck) (λ key.
    last_then (is_value v) (AtStore key (Some v) (rest_with b args registers answers))
    (AtStore key (Some v) (rest_with (followed_by b more) args registers answers)) (then_after more (reach more args)) refl)))
reach_followed (remove table id b) more args registers answers =
    then_then (number_or_code (value_of id args registers)) _ _ _ (λ n.
    then_then (key_of table n) (λ key. Ok (AtStore key None (rest_with b args registers answers))) (then_after more (reach more args))
    (λ key. Ok (AtStore key None (rest_with (followed_by b more) args registers answers))) (λ key. refl))
reach_followed (save to value b) more args registers answers =
    then_then (number_or_code (value_of value args registers)) _ _ _
    (λ v. reach_followed b more args (slice_set registers to (Some v)) answers)
reach_followed (ask code b) more args registers answers = refl
reach_followed (choose test ys ns b) more args registers answers =
    then_then (choice_or_code (truth_of test args registers)) _ _ _
    (λ chosen. if_then args b more (cond chosen (reach ys args registers answers) (reach ns args registers answers))
    (λ registers_then answers_then. reach_followed b more args registers_then answers_then))
reach_followed (answer value b) more args registers answers =
    then_then (number_or_code (value_of value args registers)) _ _ _ (λ v.
    then_then (provided (nat_lt (length answers) 8) (answers ++ v ∷ []) stuck) (λ longer. reach b args registers longer)
    (then_after more (reach more args)) (λ longer. reach (followed_by b more) args registers longer)
    (λ longer. reach_followed b more args registers longer))
