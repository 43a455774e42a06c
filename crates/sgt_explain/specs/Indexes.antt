-- The index of a history: numbers that bound where a transaction's entries are.
use Rattle.std.specs.Prelude.{◌≡◌, ◌⊎◌, ◌≤◌, ◌<◌, ℕ, cond, List, Option, Some, None, length, get_or, slice_get}
use Rattle.std.specs.Option.{option_and_then}
use Rattle.sgt_model.specs.declared.event.Event.{Event}
use Rattle.sgt_model.specs.declared.reply.Reply.{Reply}
use Rattle.sgt_model.specs.declared.entry.Entry.{Entry}
use Rattle.sgt_model.specs.declared.reply.Fate.{Fate}
use Rattle.sgt_model.specs.Fates.{ending_in}
use Rattle.sgt_model.specs.Questions.{named_by, is_ending}
use Rattle.sgt_model.specs.ReadFrom.{IsBy}
use Rattle.sgt_model.specs.ShortReplies.{fell_in}
use Rattle.sgt_model.specs.Paths.{Member}
use Rattle.sgt_log.specs.EntryParts.{is_access}
use Rattle.sgt_explain.specs.Places.{placed_access}

-- the transaction that an event names, if this reply makes it an access or an end of it. A refused event may name any
-- number
abbrev pub part_at : Event → Reply → Option ℕ
part_at event r = cond (is_access r) (named_by event) (cond (is_ending r) (named_by event) None)

-- the transaction of which an entry is an access or its own end
abbrev pub part_in : Entry → Option ℕ
part_in e = part_at e.event e.reply

-- an entry has a part in a transaction: it is its access or its end, or it aborts it in cascade
abbrev pub HasPart : Entry → ℕ → Type 0
HasPart e t = (part_in e ≡ Some t) ⊎ Member t (fell_in e.reply)

-- how the entry at this position ends t, if it does
abbrev pub placed_ending : List Entry → (t place : ℕ) → Option Fate
placed_ending entries t place = option_and_then (λ (e : Entry). ending_in e.event e.reply t) (slice_get entries place)

-- at this position t has no access, and no end
abbrev pub IsUntouched : List Entry → (t place : ℕ) → Type 0
IsUntouched entries t place = (IsBy (placed_access entries place) t → ⊥) × (placed_ending entries t place ≡ None)

-- by transaction, where its accesses and ends begin and where its accesses end; by position, where the accesses that the
-- entry's transaction made before it end
pub record IsIndex (entries : List Entry) (firsts ends links : List ℕ) : Type 0 where
  pub first_within : (t : ℕ) → get_or firsts t (length entries) ≤ length entries
  pub first : (t place : ℕ) → place < get_or firsts t (length entries) → IsUntouched entries t place
  pub end_within : (t : ℕ) → get_or ends t 0 ≤ length entries
  pub end : (t place : ℕ) → get_or ends t 0 ≤ place → IsBy (placed_access entries place) t → ⊥
  pub linked : length links ≡ length entries
  pub link_within : (place : ℕ) → get_or links place 0 ≤ place
  pub link : (t place n : ℕ) → IsBy (placed_access entries place) t → get_or links place 0 ≤ n → n < place
      → IsBy (placed_access entries n) t → ⊥
