-- Which replies end a live transaction, and how many are live afterwards.
use Rattle.std.proofs.Common.{◌≡◌, ℕ, ◌+◌, ◌≤◌, arith, Bool, true, false, not, ◌||◌, cond, nat_eq, nat_lt, inl, inr, List, [], ◌∷◌, length, filter, Option, Some, None, refl, sym, ap, ◌∙◌, subst}
use Rattle.std.specs.Prelude.{◌↔◌, IsTrue, IfSome, IsNone}
use Rattle.std.specs.Option.{is_some}
use Rattle.sgt_graph.specs.Graphs.{IsLeastPred}
use Rattle.std.specs.List.{list_any}
use Rattle.std.proofs.lemmas.Bool.{true≢false, eq-eqb}
use Rattle.std.proofs.lemmas.List.{length-append}
use Rattle.sgt_model.specs.declared.limits.Asks.TheVariants.{AtStep, AtCommit}
use Rattle.sgt_model.specs.declared.limits.Asks.{Asks}
use Rattle.sgt_model.specs.declared.event.Event.{Event}
use Rattle.sgt_model.specs.declared.event.Event.TheVariants.{Start, Step, Access, Commit, Quit}
use Rattle.sgt_model.specs.declared.event.Request.{Request}
use Rattle.sgt_model.specs.Progress.{requested, is_fit}
use Rattle.sgt_model.specs.declared.limits.Limits.{Limits}
use Rattle.sgt_model.specs.declared.reply.Fate.{Fate}
use Rattle.sgt_model.specs.declared.reply.Reply.{Reply}
use Rattle.sgt_model.specs.declared.reply.Reply.TheVariants as reply
use Rattle.sgt_model.specs.StartReply.{args_fit, capacity_reply, taken_reply}
use Rattle.sgt_model.specs.Traces.{Next, Looks, Puts, Ends, Raises}
use Rattle.sgt_model.specs.Configurations.{Rules, takes}
use Rattle.sgt_model.specs.Syntax.{ProcedureText}
use Rattle.sgt_model.specs.Left.{next_left}
use Rattle.sgt_model.specs.State.{State}
use Rattle.sgt_model.specs.Paths.{Member}
use Rattle.sgt_model.specs.Changes.{Removes}
use Rattle.sgt_model.specs.CallEffects.{Stays, IfOpen, AbortEffect, StepOn, IfFit, RequestOn, CommitOn, CallEffect, StartOn, Undo, RaisedStepOn, RaisedCommitOn}
use Rattle.sgt_sched.specs.Steps.{IsUnended}
use Rattle.sgt_model.specs.Questions.{is_ending}
use Rattle.sgt_sched.specs.Endings.{StepEnds, RequestEnds, CommitEnds, EndsOne, EndsWhere, Counts, AtItsStep, AtItsCommit, IsFirst}

quiet : (r answer : Reply) (X : Type 0) → r ≡ answer → is_ending answer ≡ false → (X → ⊥) → EndsWhere r X
quiet r answer X is isnt none = ((λ x. absurd (none x)), (λ _. ap is_ending is ∙ isnt))

loud : (r answer : Reply) (X : Type 0) → r ≡ answer → is_ending answer ≡ true → X → EndsWhere r X
loud r answer X is so x = ((λ _. ap is_ending is ∙ so), (λ none. absurd (none x)))

raised_step_agrees : (asks : Asks) (t code : ℕ) (c : State) (r : Reply) (after : State) → RaisedStepOn asks t code c r after
    → EndsWhere r (AtItsStep asks)
raised_step_agrees AtStep t code c r after x = loud r _ _ x.reply refl tt
raised_step_agrees AtCommit t code c r after x = quiet r _ _ x.reply refl (λ e. e)

raised_commit_agrees : (asks : Asks) (t code : ℕ) (c : State) (r : Reply) (after : State) → RaisedCommitOn asks t code c r after
    → EndsWhere r (AtItsCommit asks × IsFirst t c)
raised_commit_agrees AtStep t code c r after x = quiet r _ _ x.reply refl (λ e. e.0)
raised_commit_agrees AtCommit t code c r after (inl x) = quiet r _ _ x.stays.reply refl (λ free. free.1 x.on x.least.pair)
raised_commit_agrees AtCommit t code c r after (inr x) = loud r _ _ x.reply refl (tt, x.first)

step_agrees : (asks : Asks) (t : ℕ) (n : Next) (c : State) (r : Reply) (after : State) → StepOn asks t n c r after
    → EndsWhere r (StepEnds asks t n c)
step_agrees asks t (Looks k) c r after (inl x) = loud r _ _ x.aborts.reply refl (x.rest, x.blocks)
step_agrees asks t (Looks k) c r after (inr x) = quiet r _ _ x.reply refl (λ b. x.free b.0 b.1)
step_agrees asks t (Puts k v) c r after (inl x) = loud r _ _ x.aborts.reply refl (x.rest, x.blocks)
step_agrees asks t (Puts k v) c r after (inr x) = quiet r _ _ x.reply refl (λ b. x.free b.0 b.1)
step_agrees asks t (Ends answers) c r after x = quiet r _ _ x.reply refl (λ e. e)
step_agrees asks t (Raises code) c r after x = raised_step_agrees asks t code c r after x

fit_agrees : (asks : Asks) (t : ℕ) (d : Request) (fit : Bool) (c : State) (r : Reply) (after : State) → is_fit d ≡ fit
    → IfFit fit c r after (StepOn asks t (requested d) c r after) → EndsWhere r ((is_fit d ≡ true) × StepEnds asks t (requested d) c)
fit_agrees asks t d true c r after e x = let a = step_agrees asks t (requested d) c r after x in
    ((λ y. a.0 y.1), (λ none. a.1 (λ y. none (e, y))))
fit_agrees asks t d false c r after e x = quiet r _ _ x.reply refl (λ y. true≢false (sym y.0 ∙ e))

request_agrees : (asks : Asks) (t : ℕ) (d : Request) (n : Next) (c : State) (r : Reply) (after : State) → RequestOn asks t d n c r after
    → EndsWhere r (RequestEnds asks t d n c)
request_agrees asks t d (Ends answers) c r after x = fit_agrees asks t d (is_fit d) c r after refl x
request_agrees asks t d (Looks k) c r after x = quiet r _ _ x.reply refl (λ e. e)
request_agrees asks t d (Puts k v) c r after x = quiet r _ _ x.reply refl (λ e. e)
request_agrees asks t d (Raises code) c r after x = quiet r _ _ x.reply refl (λ e. e)

commit_agrees : (asks : Asks) (t : ℕ) (n : Next) (c : State) (r : Reply) (after : State) → CommitOn asks t n c r after
    → EndsWhere r (CommitEnds asks t n c)
commit_agrees asks t (Ends answers) c r after (inl x) = quiet r _ _ x.stays.reply refl (λ free. free x.on x.least.pair)
commit_agrees asks t (Ends answers) c r after (inr x) = loud r _ _ x.reply refl x.first
commit_agrees asks t (Looks k) c r after x = quiet r _ _ x.reply refl (λ e. e)
commit_agrees asks t (Puts k v) c r after x = quiet r _ _ x.reply refl (λ e. e)
commit_agrees asks t (Raises code) c r after x = raised_commit_agrees asks t code c r after x

-- of one that was started and has not ended, by what is done to it; else nothing ends
open_agrees : (t : ℕ) (c : State) (r : Reply) (after : State) (X E : Type 0) → (X → EndsWhere r E) → (b : Bool) (o : Option Fate)
    → nat_lt t c.start_count ≡ b → c.fates t ≡ o → IfOpen b o c r after X → EndsWhere r (IsUnended c t × E)
open_agrees t c r after X E agree false o e f x = quiet r _ _ x.reply refl (λ u. true≢false (sym u.0.begun ∙ e))
open_agrees t c r after X E agree true (Some fate) e f x = quiet r _ _ x.reply refl
    (λ u. let q : Some fate ≡ None = sym f ∙ u.0.unended in cc)
open_agrees t c r after X E agree true None e f x = (
  (λ u. (agree x).0 u.1),
  (λ none. (agree x).1 (λ end. none (record { begun = e; unended = f }, end))),
)

start_quiet : (limits : Limits) (begun living : ℕ) (taken : Option ℕ) (args : List _)
    → is_ending (taken_reply limits begun living taken args) ≡ false
start_quiet limits begun living None args = refl
start_quiet limits begun living (Some count) args = fits (args_fit count args) where
  full : (b : Bool) → is_ending (cond b reply.Full (reply.Started begun)) ≡ false
  full true = refl
  full false = refl

  spent : (b : Bool) → is_ending (cond b reply.Spent (cond (nat_eq living limits.live) reply.Full (reply.Started begun))) ≡ false
  spent true = refl
  spent false = full (nat_eq living limits.live)

  fits : (b : Bool) → is_ending (cond b (capacity_reply limits begun living) reply.BadArgs) ≡ false
  fits true = spent (nat_eq begun limits.begins)
  fits false = refl

-- the replies to an event that ends a live transaction end one, and to the others none does
pub replies_agree : (rules : Rules) (event : Event) (c : State) (r : Reply) (after : State) → CallEffect rules event c r after
    → EndsWhere r (EndsOne rules.limits.asks event c)
replies_agree rules (Start p args) c r after x = quiet r _ _ x.reply
    (start_quiet rules.limits c.start_count (length c.live) (takes rules p) args) (λ e. e)
replies_agree rules (Step t) c r after x = open_agrees t c r after _ (StepEnds rules.limits.asks t (next_left (c.left t)) c)
    (step_agrees rules.limits.asks t (next_left (c.left t)) c r after) (nat_lt t c.start_count) (c.fates t) refl refl x
replies_agree rules (Access t d) c r after x = open_agrees t c r after _ (RequestEnds rules.limits.asks t d (next_left (c.left t)) c)
    (request_agrees rules.limits.asks t d (next_left (c.left t)) c r after) (nat_lt t c.start_count) (c.fates t) refl refl x
replies_agree rules (Commit t) c r after x = open_agrees t c r after _ (CommitEnds rules.limits.asks t (next_left (c.left t)) c)
    (commit_agrees rules.limits.asks t (next_left (c.left t)) c r after) (nat_lt t c.start_count) (c.fates t) refl refl x
replies_agree rules (Quit t) c r after x =
    let a = open_agrees t c r after _ (Unit {0}) (λ y. loud r _ _ (y.reply) refl tt) (nat_lt t c.start_count) (c.fates t) refl refl x in
    ((λ u. a.0 (u, tt)), (λ none. a.1 (λ u. none u.0)))

-- a test of whether an event ends a live transaction, of an event that is this one: it gives the reply
pub ends_by : (rules : Rules) (event is : Event) → event ≡ is → (c : State) (b : Bool) → IsTrue b ↔ EndsOne rules.limits.asks is c
    → (IsTrue b ↔ EndsOne rules.limits.asks event c)
    × ((r : Reply) (after : State) → CallEffect rules event c r after → is_ending r ≡ b)
ends_by rules event is same c b exact = let here = subst (λ e. IsTrue b ↔ EndsOne rules.limits.asks e c) (sym same) exact in
    (here, λ r after x. reported r b here (replies_agree rules event c r after x)) where
      reported : {X : Type 0} (r : Reply) (d : Bool) → IsTrue d ↔ X → EndsWhere r X → is_ending r ≡ d
      reported r true tests agree = agree.0 (tests.0 refl)
      reported r false tests agree = agree.1 (λ x. true≢false (sym (tests.1 x)))

-- a test that is false, where nothing ends one
pub never : {X : Type 0} → (X → ⊥) → IsTrue false ↔ X
never none = ((λ e. absurd (true≢false (sym e))), (λ x. absurd (none x)))

-- a test of whether a step, or a commit, ends a live transaction, by what its procedure does next
module _ (asks : Asks) (t : ℕ) (c : State) (n : Next) (next : n ≡ next_left (c.left t)) (live : IsUnended c t) (b : Bool) where
  pub step_ends_by : IsTrue b ↔ StepEnds asks t n c → IsTrue b ↔ EndsOne asks (Step t) c
  step_ends_by exact = (
    (λ e. (live, subst (λ m. StepEnds asks t m c) next (exact.0 e))),
    (λ x. exact.1 (subst (λ m. StepEnds asks t m c) (sym next) x.1)),
  )

  pub request_ends_by : (d : Request) → IsTrue b ↔ RequestEnds asks t d n c → IsTrue b ↔ EndsOne asks (Access t d) c
  request_ends_by d exact = (
    (λ e. (live, subst (λ m. RequestEnds asks t d m c) next (exact.0 e))),
    (λ x. exact.1 (subst (λ m. RequestEnds asks t d m c) (sym next) x.1)),
  )

  pub commit_ends_by : IsTrue b ↔ CommitEnds asks t n c → IsTrue b ↔ EndsOne asks (Commit t) c
  commit_ends_by exact = (
    (λ e. (live, subst (λ m. CommitEnds asks t m c) next (exact.0 e))),
    (λ x. exact.1 (subst (λ m. CommitEnds asks t m c) (sym next) x.1)),
  )

-- t has no predecessor exactly where it has no least one
pub first_by : (t : ℕ) (c : State) (o : Option ℕ) (none : Bool) → is_some o ≡ not none → IfSome o (λ u. IsLeastPred c.pairs t u)
    → (IsNone o → (u : ℕ) → c.pairs u t ≡ false) → IsTrue none ↔ IsFirst t c
first_by t c None true e waits free = ((λ h u p. true≢false (sym p ∙ free refl u)), (λ first. refl))
first_by t c None false e waits free = absurd (true≢false (sym e))
first_by t c (Some u) true e waits free = absurd (true≢false e)
first_by t c (Some u) false e waits free = never (λ first. first u waits.pair)

same_count : (r answer : Reply) (before after : State) → r ≡ answer → is_ending answer ≡ false → after.live ≡ before.live
    → Counts r before after
same_count r answer before after is isnt same = record {
  most = subst (λ l. length l ≤ length before.live + 1) (sym same) (omega arith);
  fewer = λ e. absurd (true≢false (sym e ∙ (ap is_ending is ∙ isnt)));
}

stays_count : (answer r : Reply) (before after : State) → is_ending answer ≡ false → Stays answer before r after → Counts r before after
stays_count answer r before after isnt s = same_count r answer before after s.reply isnt (ap (λ (c : State). c.live) s.same)

filter_few : (f : ℕ → Bool) (l : List ℕ) → length (filter f l) ≤ length l
filter_few f [] = omega arith
filter_few f (u ∷ l) = both (f u) (filter_few f l) where
  both : (b : Bool) → length (filter f l) ≤ length l → length (cond b (u ∷ filter f l) (filter f l)) ≤ length (u ∷ l)
  both true h = omega (arith, h)
  both false h = omega (arith, h)

filter_fewer : (gone : ℕ → Bool) (t : ℕ) (l : List ℕ) → Member t l → gone t ≡ true → length (filter (λ u. not (gone u)) l) + 1 ≤ length l
filter_fewer gone t [] m g = absurd m
filter_fewer gone t (u ∷ l) (inl e) g = subst (λ b. length
    (cond (not b) (u ∷ filter (λ w. not (gone w)) l) (filter (λ w. not (gone w)) l)) + 1 ≤ length (u ∷ l)) (sym (ap gone (sym e) ∙ g))
    (omega (arith, filter_few (λ w. not (gone w)) l))
filter_fewer gone t (u ∷ l) (inr m) g = both (gone u) (filter_fewer gone t l m g) where
  both : (b : Bool) → length (filter (λ w. not (gone w)) l) + 1 ≤ length l
      → length (cond (not b) (u ∷ filter (λ w. not (gone w)) l) (filter (λ w. not (gone w)) l)) + 1 ≤ length (u ∷ l)
  both true h = omega (arith, h)
  both false h = omega (arith, h)

removed_count : (gone : ℕ → Bool) (t : ℕ) (r : Reply) (before after : State) → Member t before.live → gone t ≡ true
    → Removes gone before after → Counts r before after
removed_count gone t r before after m g x =
    let fewer = subst (λ l. length l + 1 ≤ length before.live) (sym x.live) (filter_fewer gone t before.live m g) in
    record { most = omega (arith, fewer); fewer = λ _. fewer }

undo_count : (t : ℕ) (why : _) (fell : List ℕ) (r : Reply) (before after : State) → Member t before.live
    → Undo t why fell before after → Counts r before after
undo_count t why fell r before after m x = removed_count _ t r before after m
    (ap (λ b. b || list_any (λ v. nat_eq v t) fell) (eq-eqb t t refl)) x.drops.removes

abort_count : (t : ℕ) (why : _) (r : Reply) (before after : State) → Member t before.live → AbortEffect t why before r after
    → Counts r before after
abort_count t why r before after m x = undo_count t why x.fell r before after m x.undo

raised_step_count : (asks : Asks) (t code : ℕ) (before : State) (r : Reply) (after : State) → Member t before.live
    → RaisedStepOn asks t code before r after → Counts r before after
raised_step_count AtStep t code before r after m x = abort_count t _ r before after m x
raised_step_count AtCommit t code before r after m x = stays_count _ r before after refl x

step_count : (asks : Asks) (t : ℕ) (n : Next) (before : State) (r : Reply) (after : State) → Member t before.live
    → StepOn asks t n before r after → Counts r before after
step_count asks t (Looks k) before r after m (inl x) = abort_count t _ r before after m x.aborts
step_count asks t (Looks k) before r after m (inr x) = same_count r _ before after x.reply refl x.looks.notes.live
step_count asks t (Puts k v) before r after m (inl x) = abort_count t _ r before after m x.aborts
step_count asks t (Puts k v) before r after m (inr x) = same_count r _ before after x.reply refl x.stores.notes.live
step_count asks t (Ends answers) before r after m x = stays_count _ r before after refl x
step_count asks t (Raises code) before r after m x = raised_step_count asks t code before r after m x

raised_commit_count : (asks : Asks) (t code : ℕ) (before : State) (r : Reply) (after : State) → Member t before.live
    → RaisedCommitOn asks t code before r after → Counts r before after
raised_commit_count AtStep t code before r after m x = stays_count _ r before after refl x
raised_commit_count AtCommit t code before r after m (inl x) = stays_count _ r before after refl x.stays
raised_commit_count AtCommit t code before r after m (inr x) = undo_count t _ x.fell r before after m x.undo

fit_count : (asks : Asks) (t : ℕ) (n : Next) (fit : Bool) (before : State) (r : Reply) (after : State) → Member t before.live
    → IfFit fit before r after (StepOn asks t n before r after) → Counts r before after
fit_count asks t n true before r after m x = step_count asks t n before r after m x
fit_count asks t n false before r after m x = stays_count _ r before after refl x

request_count : (asks : Asks) (t : ℕ) (d : Request) (n : Next) (before : State) (r : Reply) (after : State) → Member t before.live
    → RequestOn asks t d n before r after → Counts r before after
request_count asks t d (Ends answers) before r after m x = fit_count asks t (requested d) (is_fit d) before r after m x
request_count asks t d (Looks k) before r after m x = stays_count _ r before after refl x
request_count asks t d (Puts k v) before r after m x = stays_count _ r before after refl x
request_count asks t d (Raises code) before r after m x = stays_count _ r before after refl x

commit_count : (asks : Asks) (t : ℕ) (n : Next) (before : State) (r : Reply) (after : State) → Member t before.live
    → CommitOn asks t n before r after → Counts r before after
commit_count asks t (Ends answers) before r after m (inl x) = stays_count _ r before after refl x.stays
commit_count asks t (Ends answers) before r after m (inr x) = removed_count _ t r before after m (eq-eqb t t refl) x.settles.removes
commit_count asks t (Looks k) before r after m x = stays_count _ r before after refl x
commit_count asks t (Puts k v) before r after m x = stays_count _ r before after refl x
commit_count asks t (Raises code) before r after m x = raised_commit_count asks t code before r after m x

open_count : (t : ℕ) (before : State) (r : Reply) (after : State) (X : Type 0) → (IsUnended before t → X → Counts r before after)
    → (b : Bool) (o : Option Fate) → nat_lt t before.start_count ≡ b → before.fates t ≡ o → IfOpen b o before r after X
    → Counts r before after
open_count t before r after X count false o e f x = stays_count _ r before after refl x
open_count t before r after X count true (Some fate) e f x = stays_count _ r before after refl x
open_count t before r after X count true None e f x = count (record { begun = e; unended = f }) x

start_count : (p : Option ProcedureText) (args : List _) (before : State) (r : Reply) (after : State) → is_ending r ≡ false
    → StartOn p args before r after → Counts r before after
start_count p args before (reply.Started t) after isnt x = record {
  most = subst (λ l. length l ≤ length before.live + 1) (sym x.live)
      (omega (arith, length-append before.live (before.start_count ∷ [])));
  fewer = λ e. absurd (true≢false (sym e));
}
start_count p args before r after isnt x = same_count r r before after refl isnt (ap (λ (c : State). c.live) x)

-- of every call, where those that were started and have not ended are the live ones
pub call_counts : (rules : Rules) (event : Event) (before : State) (r : Reply) (after : State)
    → ((t : ℕ) → IsUnended before t → Member t before.live) → CallEffect rules event before r after → Counts r before after
call_counts rules (Start p args) before r after live x = start_count (rules.procedures p) args before r after
    (ap is_ending x.reply ∙ start_quiet rules.limits before.start_count (length before.live) (takes rules p) args) x.does
call_counts rules (Step t) before r after live x = open_count t before r after _
    (λ u. step_count rules.limits.asks t (next_left (before.left t)) before r after (live t u)) (nat_lt t before.start_count)
    (before.fates t)
    refl refl x
call_counts rules (Access t d) before r after live x = open_count t before r after _
    (λ u. request_count rules.limits.asks t d (next_left (before.left t)) before r after (live t u)) (nat_lt t before.start_count)
    (before.fates t)
    refl refl x
call_counts rules (Commit t) before r after live x = open_count t before r after _
    (λ u. commit_count rules.limits.asks t (next_left (before.left t)) before r after (live t u)) (nat_lt t before.start_count)
    (before.fates t)
    refl refl x
call_counts rules (Quit t) before r after live x = open_count t before r after _ (λ u. abort_count t _ r before after (live t u))
    (nat_lt t before.start_count) (before.fates t) refl refl x
