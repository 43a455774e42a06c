-- The newest reply is what a turn that is done returns.
use Rattle.std.proofs.Common.{◌≡◌, ◌≢◌, ◌↔◌, ◌⊎◌, inl, inr, ℕ, ℤ, pos, ◌≤◌, Bool, true, false, nat_eq, cond, List, [], ◌∷◌, Option, Some, None, refl, sym, ap, subst, ◌∙◌}
use Rattle.std.specs.Prelude.{Result, Ok, IsSome, IsNone}
use Rattle.sgt_model.specs.Contents.{Key}
use Rattle.sgt_model.specs.declared.event.Request.TheVariants.{Read, Write}
use Rattle.sgt_model.specs.Numbers.{IsValue}
use Rattle.sgt_model.specs.declared.entry.Entry.{Entry}
use Rattle.sgt_model.specs.declared.errors.NoMemory.{NoMemory}
use Rattle.sgt_model.specs.declared.short_reply.ReplyLists.{ReplyLists}
use Rattle.sgt_model.specs.declared.short_reply.ShortReply.{ShortReply}
use Rattle.sgt_model.specs.ShortReplies.{reply_with}
use Rattle.sgt_engine.specs.EngineView.{HasLists}
use Rattle.sgt_desk.specs.declared.ask.Turn.{Turn}
use Rattle.sgt_desk.specs.declared.ask.Turn.TheVariants.{Done}
use Rattle.sgt_desk.specs.declared.making.Asked.{Asked}
use Rattle.sgt_desk.specs.declared.making.Asked.TheVariants.{Step, Access, Quit}
use Rattle.sgt_desk.specs.Runs.{IsOutcome}
use Rattle.sgt_c.specs.declared.reply_struct.SgtReply.{SgtReply}
use Rattle.sgt_c.specs.DeskStructs.{asked_in}
use Rattle.sgt_c.specs.DeskTurns.{IsRunnable, ReportsNewest, status_of}
use Rattle.sgt_c.specs.ReplyStructs.{HoldsReply}

-- the status 0 is that of a call that is done
pub done_of : (m : Result Turn NoMemory) (status : ℕ) → status ≡ status_of m → status ≡ 0 → m ≡ Ok Done
done_of (Ok Done) status is e = refl
done_of _ status is e = absurd (cc (sym is ∙ e))

pub reports_outcome : (short : ShortReply) (ticket : Option ℕ) (past : List Entry) (lists : ReplyLists) (reported : SgtReply)
    → IsOutcome short ticket past → HasLists past lists → HoldsReply reported (reply_with short lists) → ReportsNewest reported past
reports_outcome short ticket [] lists reported it has holds = absurd it
reports_outcome short ticket (e ∷ past) lists reported it has holds = subst (HoldsReply reported) (sym (has ∙ ap (λ r. reply_with r lists) it.0)) holds

-- what is asked, by which of the numbers it is
abbrev one_of : Key → ℤ → Bool → Bool → Bool → Bool → Bool → Option Asked
one_of key value a b c d e = cond a (Some Step) (cond b (Some Quit) (cond c (Some (Access (Read key)))
    (cond d (Some (Access (Write key (Some value)))) (cond e (Some (Access (Write key None))) None))))

-- whether the numbers ask something does not depend on the value
asked_always : (kind : ℕ) (key : Key) (v w : ℤ) → IsSome (asked_in kind key v) → IsSome (asked_in kind key w)
asked_always kind key v w h = go (nat_eq kind 2) (nat_eq kind 4) (nat_eq kind 5) (nat_eq kind 6) (nat_eq kind 7) h
  where
    go : (a b c d e : Bool) → IsSome (one_of key v a b c d e) → IsSome (one_of key w a b c d e)
    go true b c d e h = h
    go false true c d e h = h
    go false false true d e h = h
    go false false false true e h = refl
    go false false false false true h = h
    go false false false false false h = h

third : {A B C : Type 0} → A × B × C → C
third p = p.2

joined : {A B C : Type 0} → A × B → C → A × B × C
joined p c = (p.0, p.1, c)

-- of a record, the numbers ask something, or not
pub none_requested : (kind table : ℕ) (number v : ℤ) (requested : Option Asked) → requested ≡ asked_in kind (table, number) v
    → (¬ (¬ ((table ≤ 7) × IsValue number))) → IsNone requested ↔ (¬ IsRunnable kind table number)
none_requested kind table number v None is record_of =
    (λ u it. absurd (cc (subst IsSome (sym is) (asked_always kind (table, number) (pos 0) v (third it)))), λ f. refl)
none_requested kind table number v (Some a) is record_of =
    (λ u. absurd (cc u), λ f. absurd (record_of (λ r. f (joined r (asked_always kind (table, number) v (pos 0) (subst IsSome is refl))))))

-- a status is none of these
pub no_status : {A : Type 0} (n : ℕ) → (n ≢ 2) × (n ≢ 5) × (n ≢ 10) → (n ≡ 2) ⊎ (n ≡ 5) ⊎ (n ≡ 10) → A
no_status n isnt (inl e) = absurd (isnt.0 e)
no_status n isnt (inr (inl e)) = absurd (isnt.1 e)
no_status n isnt (inr (inr e)) = absurd (isnt.2 e)
