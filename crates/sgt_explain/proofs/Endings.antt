-- How an entry ends a transaction, from what the entry says by itself.
use Rattle.std.proofs.Common.{◌≡◌, ℕ, Bool, true, false, cond, List, Option, Some, None, refl, ap, nat_eq}
use Rattle.std.specs.List.{list_any}
use Rattle.std.specs.Option.{option_map}
use Rattle.std.proofs.lemmas.Bool.{eqb-true, false_from_ne_true}
use Rattle.sgt_model.specs.declared.event.Event.{Event}
use Rattle.sgt_model.specs.declared.event.Event.TheVariants.{Start, Step, Access, Commit, Quit}
use Rattle.sgt_model.specs.declared.reply.Reply.{Reply}
use Rattle.sgt_model.specs.declared.reply.Reply.TheVariants as reply
use Rattle.sgt_model.specs.declared.reply.Cause.{Cause}
use Rattle.sgt_model.specs.declared.reply.Cause.TheVariants as cause
use Rattle.sgt_model.specs.declared.reply.Fate.{Fate}
use Rattle.sgt_model.specs.declared.reply.Fate.TheVariants as fate
use Rattle.sgt_model.specs.Paths.{Member}
use Rattle.sgt_model.specs.Fates.{concerns, subject, undone_in, ending_in, has_aborted}
use Rattle.sgt_model.specs.Questions.{named_by}
use Rattle.sgt_model.proofs.Facts.{member_from, member_to}
use Rattle.sgt_model.specs.ShortReplies.{fell_in}

-- whether an ending is by an abort
abbrev pub by_abort : Option Fate → Option Bool
by_abort o = option_map (λ (f : Fate). has_aborted (Some f)) o

undone_true : (event : Event) (why : Cause) (fell : List ℕ) (t : ℕ) → Member t fell → Some true ≡ by_abort (undone_in event why fell t)
undone_true event why fell t m = by_tests (concerns event t) (list_any (λ u. nat_eq u t) fell) (member_to t fell m)
  where
    by_tests : (b c : Bool) → c ≡ true
        → Some true ≡ by_abort (cond b (Some (fate.Aborted why)) (cond c (Some (fate.Fell (subject event))) None))
    by_tests true c h = refl
    by_tests false true h = refl
    by_tests false false h = absurd (cc)

-- a transaction aborted in cascade ends by an abort
pub ends_fallen : (event : Event) (r : Reply) (t : ℕ) → Member t (fell_in r) → Some true ≡ by_abort (ending_in event r t)
ends_fallen event (reply.Aborted why fell) t m = undone_true event why fell t m
ends_fallen event (reply.Refused code fell) t m = undone_true event (cause.Asked code) fell t m
ends_fallen event _ t m = absurd m

not_named : (event : Event) (t : ℕ) → (named_by event ≡ Some t → ⊥) → concerns event t ≡ false
not_named (Start p args) t h = refl
not_named (Step u) t h = false_from_ne_true _ (λ e. h (ap Some (eqb-true u t e)))
not_named (Access u d) t h = false_from_ne_true _ (λ e. h (ap Some (eqb-true u t e)))
not_named (Commit u) t h = false_from_ne_true _ (λ e. h (ap Some (eqb-true u t e)))
not_named (Quit u) t h = false_from_ne_true _ (λ e. h (ap Some (eqb-true u t e)))

not_among : (t : ℕ) (fell : List ℕ) → (Member t fell → ⊥) → list_any (λ u. nat_eq u t) fell ≡ false
not_among t fell h = false_from_ne_true _ (λ e. h (member_from t fell e))

undone_none : (event : Event) (why : Cause) (fell : List ℕ) (t : ℕ) → (named_by event ≡ Some t → ⊥) → (Member t fell → ⊥)
    → None ≡ by_abort (undone_in event why fell t)
undone_none event why fell t other out = rw (not_named event t other, not_among t fell out) refl

-- an entry ends only the transaction that it names, and those aborted in cascade
pub ends_no_other : (event : Event) (r : Reply) (t : ℕ) → (named_by event ≡ Some t → ⊥) → (Member t (fell_in r) → ⊥)
    → None ≡ by_abort (ending_in event r t)
ends_no_other event (reply.Committed answers) t other out = rw (not_named event t other) refl
ends_no_other event (reply.Aborted why fell) t other out = undone_none event why fell t other out
ends_no_other event (reply.Refused code fell) t other out = undone_none event (cause.Asked code) fell t other out
ends_no_other event _ t other out = refl
