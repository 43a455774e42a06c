-- How many transactions a session must treat as live.
use Rattle.std.proofs.Common.{◌≡◌, ℕ, ◌+◌, ◌<◌, ◌≤◌, Bool, true, false, cond, List, [], ◌∷◌, ◌++◌, length, Option, Some, None, refl, ap, ap₂, sym, ◌∙◌, arith}
use Rattle.std.proofs.lemmas.List.{length-append}
use Rattle.sgt_model.specs.declared.event.Event.{Event}
use Rattle.sgt_model.specs.declared.event.Event.TheVariants.{Start, Step, Access, Commit, Quit}
use Rattle.sgt_model.specs.declared.reply.Reply.{Reply}
use Rattle.sgt_session.specs.declared.receipt.Receipt.{Receipt}
use Rattle.sgt_model.specs.Questions.{started_in, over_in, started_number, reports_end}
use Rattle.sgt_session.specs.Own.{with_one, open_without, is_open, open_by, open_from, open_of, capacity_needed}

-- one is taken out
pub open_without-few : (t : ℕ) (own : List ℕ) → length (open_without (Some t) own) ≤ length own
open_without-few t [] = omega arith
open_without-few t (u ∷ own) = grind (arith, open_without-few t own)

-- one that is there is taken out
pub open_without-fewer : (t : ℕ) (own : List ℕ) → is_open t own ≡ true → length (open_without (Some t) own) < length own
open_without-fewer t [] some = absurd cc
open_without-fewer t (u ∷ own) some = grind (arith, open_without-few t own, open_without-fewer t own)

-- one is added, if any
pub with_one-few : (s : Option ℕ) (own : List ℕ) → length (with_one s own) ≤ length own + 1
with_one-few None own = omega arith
with_one-few (Some t) own = omega (arith, length-append own (t ∷ []))

-- one may be taken out
without_if-few : (b : Bool) (t : ℕ) (own : List ℕ) → 1 + length (open_without (cond b (Some t) None) own) ≤ length own + 1
without_if-few true t own = (let h = open_without-few t own in omega (arith, h))
without_if-few false t own = omega arith

quit-few : (b : Bool) (t : ℕ) (own : List ℕ) → is_open t own ≡ b → 1 + length (open_without (Some t) own) ≤ cond b (length own)
    (length own + 1)
quit-few true t own is = (let h = open_without-fewer t own is in omega (arith, h))
quit-few false t own is = (let h = open_without-few t own in omega (arith, h))

-- this capacity is enough, whatever the reply
pub capacity_needed-enough : (e : Event) (own : List ℕ) (r : Reply) → 1 + length (open_by own e r) ≤ capacity_needed e own
capacity_needed-enough (Start p args) own r = (let h = with_one-few (started_number r) own in omega (arith, h))
capacity_needed-enough (Step t) own r = without_if-few (reports_end r) t own
capacity_needed-enough (Access t d) own r = without_if-few (reports_end r) t own
capacity_needed-enough (Commit t) own r = without_if-few (reports_end r) t own
capacity_needed-enough (Quit t) own r = quit-few (is_open t own) t own refl

open_from-append : (own : List ℕ) (rs : List Receipt) (r : Receipt) → open_from own (rs ++ r ∷ []) ≡ open_by
    (open_from own rs) r.event r.reply
open_from-append own [] r = refl
open_from-append own (x ∷ rs) r = open_from-append (open_by own x.event x.reply) rs r

-- after one receipt more
pub noted : (old new : List Receipt) (own own' : List ℕ) (r : Receipt) → own ≡ open_of old → new ≡ old ++ r ∷ []
    → own' ≡ open_by own r.event r.reply → own' ≡ open_of new
noted old new own own' r is longer then = rw (then, is, longer) (sym (open_from-append [] old r))

-- there is capacity for the ends of those that are open after it
pub fits : (own own' : List ℕ) (e : Event) (r : Receipt) (count spare spare' : ℕ) → own' ≡ own → r.event ≡ e
    → ((x : Reply) → 1 + length (open_by own e x) ≤ spare) → count ≡ length (open_by own' r.event r.reply) → spare' + 1 ≡ spare
    → count ≤ spare'
fits own own' e r count spare spare' same reported enough counted used =
    let is : length (open_by own' r.event r.reply) ≡ length (open_by own e r.reply) = rw (same, reported) refl in
    let h = enough r.reply in
    omega (arith, h, is, counted, used)

-- what a session counts, its own transactions, and the capacity for their ends, after a call
pub after_call : (first old new : List Receipt) (own own' own'' : List ℕ) (e : Event) (r : Receipt) (amount amount' count spare spare' : ℕ)
    → old ≡ first → new ≡ old ++ r ∷ [] → amount ≡ length first → amount' ≡ amount + 1
    → own' ≡ own → own ≡ open_of first → own'' ≡ open_by own' r.event r.reply → r.event ≡ e
    → ((x : Reply) → 1 + length (open_by own e x) ≤ spare) → count ≡ length (open_by own' r.event r.reply) → spare' + 1 ≡ spare
    → (amount' ≡ length new) × (own'' ≡ open_of new) × (count ≤ spare')
after_call first old new own own' own'' e r amount amount' count spare spare' same longer counted more kept is then event enough few used =
    let one = length-append old (r ∷ []) in
    let long = ap length longer in
    let first_long = ap length same in (
      omega (arith, one, long, first_long, counted, more),
      noted first new own' own'' r (kept ∙ is) (rw same at longer) then,
      fits own own' e r count spare spare' kept event enough few used,
    )

-- none is added or taken out
pub quiet_own : (own : List ℕ) (e : Event) (r : Reply) → started_in e r ≡ None → over_in e r ≡ None → own ≡ open_by own e r
quiet_own own e r started over = sym (ap₂ (λ (o s : Option ℕ). open_without o (with_one s own)) over started)
