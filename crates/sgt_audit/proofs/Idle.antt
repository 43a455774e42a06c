-- An entry that starts and ends nothing leaves what is counted and the table.
use Rattle.std.proofs.Common.{◌≡◌, ℕ, false, List, ◌∷◌, length, Option, None, Some, slice_get, refl, sym, ap, ap₂, inl, inr, ◌∙◌}
use Rattle.std.specs.Option.{option_map}
use Rattle.std.proofs.lemmas.Option.{none-some}
use Rattle.sgt_model.specs.declared.reply.Reply.{Reply}
use Rattle.sgt_model.specs.declared.reply.Reply.TheVariants as reply
use Rattle.sgt_model.specs.declared.entry.Entry.{Entry}
use Rattle.sgt_model.specs.Fates.{is_start, live_ones, ending_in}
use Rattle.sgt_model.specs.Questions.{is_commit, is_quit, is_ending, started_in}
use Rattle.sgt_model.specs.Configurations.{Configuration}
use Rattle.sgt_model.specs.Legality.{Legal}
use Rattle.sgt_model.proofs.Effects.{EndsNone, ends_none-no_end, effect}
use Rattle.sgt_model.proofs.Capacity.{starts_or_not}
use Rattle.sgt_audit.specs.declared.lives.Life.{Life}
use Rattle.sgt_audit.specs.Lives.{AreLives, life_after}
use Rattle.sgt_audit.proofs.LiveCount.{same_live}
use Rattle.sgt_audit.proofs.Rows.{lives_ended}

-- a reply that ends nothing neither commits nor aborts
pub ends_nothing : (r : Reply) → is_ending r ≡ false → (is_commit r ≡ false) × (is_quit r ≡ false)
ends_nothing (reply.Started t) none = (refl, refl)
ends_nothing reply.NoProcedure none = (refl, refl)
ends_nothing reply.BadArgs none = (refl, refl)
ends_nothing reply.Spent none = (refl, refl)
ends_nothing reply.Full none = (refl, refl)
ends_nothing reply.Unknown none = (refl, refl)
ends_nothing (reply.Over f) none = (refl, refl)
ends_nothing (reply.Looked k v) none = (refl, refl)
ends_nothing (reply.Wrote k v) none = (refl, refl)
ends_nothing reply.Ended none = (refl, refl)
ends_nothing reply.NotEnded none = (refl, refl)
ends_nothing (reply.Waits t) none = (refl, refl)
ends_nothing (reply.Committed answers) none = absurd cc
ends_nothing (reply.Aborted why fell) none = absurd cc
ends_nothing (reply.Refused code fell) none = absurd cc

ends_no_one : (r : Reply) → is_ending r ≡ false → EndsNone r
ends_no_one (reply.Committed answers) none = absurd cc
ends_no_one (reply.Aborted why fell) none = absurd cc
ends_no_one (reply.Refused code fell) none = absurd cc
ends_no_one _ none = tt

module _ (s : Configuration) (past : List Entry) (e : Entry) (legal : Legal s (e ∷ past)) (starts : started_in e.event e.reply ≡ None)
    (ends : is_ending e.reply ≡ false) where
  no_start : is_start e.reply ≡ false
  no_start = elim (starts_or_not (effect s past e.event e.reply legal.1)) [
    | inl b ↦ absurd (none-some _ (sym starts ∙ ap₂ started_in b.event_is b.reply_is))
    | inr not_one ↦ not_one
  ]

  -- as many are live
  pub idle_live : length (live_ones (e ∷ past)) ≡ length (live_ones past)
  idle_live = same_live s past e legal no_start (ends_no_one e.reply ends)

  same_row : (t : ℕ) (old : Option Life) → old ≡ option_map (life_after (length past) (ending_in e.event e.reply t)) old
  same_row t None = refl
  same_row t (Some life) =
      ap (λ o. Some (life_after (length past) o life)) (sym (ends_none-no_end e.event e.reply (ends_no_one e.reply ends) t))

  -- the rows stay
  pub idle_lives : (lives : List Life) → AreLives past lives → AreLives (e ∷ past) lives
  idle_lives lives are = lives_ended s past e lives lives legal.1 no_start are (λ t. same_row t (slice_get lives t)) refl
