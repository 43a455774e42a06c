-- A history, oldest entry first, entry by entry. What holds for some entry of it, by recursion from its newest entry,
-- holds at a position.
use Rattle.std.proofs.Common.{◌≡◌, ℕ, zero, suc, ◌+◌, ◌<◌, ◌≤◌, ◌⊎◌, List, [], ◌∷◌, Option, Some, length, take, drop, reverse, refl, sym, ap, subst, inl, inr, ◌∙◌, arith, slice_get}
use Rattle.std.specs.Option.{option_and_then}
use Rattle.std.proofs.lemmas.Bool.{cases_eq}
use Rattle.std.proofs.lemmas.List.{reverse-append, take-append-drop}
use Rattle.sgt_log.proofs.Entries.{taken}
use Rattle.sgt_model.specs.declared.entry.Entry.{Entry}
use Rattle.sgt_model.specs.Accesses.{Access, access_of}
use Rattle.sgt_model.specs.Configurations.{Configuration}
use Rattle.sgt_model.specs.Legality.{Legal}
use Rattle.sgt_model.proofs.Facts.{legal_older}
use Rattle.sgt_explain.specs.Places.{entries_before, placed_access}

-- there is an entry at each position within
pub entry_there : (entries : List Entry) (place : ℕ) → place < length entries → (e : Entry) × (slice_get entries place ≡ Some e)
entry_there [] place within = absurd (omega (arith, within))
entry_there (x ∷ entries) zero within = (x, refl)
entry_there (x ∷ entries) (suc place) within = entry_there entries place (omega (arith, within))

-- one entry more
pub before_next : (entries : List Entry) (place : ℕ) (e : Entry) → slice_get entries place ≡ Some e
    → entries_before entries (place + 1) ≡ e ∷ entries_before entries place
before_next entries place e is = ap reverse (taken entries place e is) ∙ reverse-append (take place entries) (e ∷ [])

pub access_there : (entries : List Entry) (place : ℕ) (e : Entry) → slice_get entries place ≡ Some e
    → placed_access entries place ≡ access_of e
access_there entries place e is = ap (option_and_then access_of) is

-- F searches backward for an entry whose access satisfies G, after the entries before it
pub record LooksBack (F : List Entry → Type 0) (G : List Entry → Option Access → Type 0) : Type 0 where
  pub nowhere : F [] → ⊥
  pub here_or_before : (e : Entry) (past : List Entry) → F (e ∷ past) → G past (access_of e) ⊎ F past
  pub here : (e : Entry) (past : List Entry) → G past (access_of e) → F (e ∷ past)
  pub more : (e : Entry) (past : List Entry) → F past → F (e ∷ past)

-- if it finds one, one is at a position
pub found_at : (F : List Entry → Type 0) (G : List Entry → Option Access → Type 0) → LooksBack F G → (entries : List Entry)
    → (end : ℕ) → end ≤ length entries → F (entries_before entries end)
    → (n : ℕ) × (n < end) × G (entries_before entries n) (placed_access entries n)
found_at F G back entries zero within h = absurd (back.nowhere h)
found_at F G back entries (suc end) within h =
    let (e, is) = entry_there entries end (omega (arith, within)) in
    let one : suc end ≡ end + 1 = omega arith in
    let next : entries_before entries (suc end) ≡ e ∷ entries_before entries end = ap (entries_before entries) one
    ∙ before_next entries end e is in
    elim (back.here_or_before e (entries_before entries end) (subst F next h)) [
      | inl now ↦ (end, omega arith, subst (G (entries_before entries end)) (sym (access_there entries end e is)) now)
      | inr earlier ↦
          let (n, below, at) = found_at F G back entries end (omega (arith, within)) earlier in
          (n, omega (arith, below), at)
    ]

-- and if one is at a position, it finds one
pub finds_at : (F : List Entry → Type 0) (G : List Entry → Option Access → Type 0) → LooksBack F G → (entries : List Entry)
    → (end n : ℕ) → end ≤ length entries → n < end → G (entries_before entries n) (placed_access entries n) → F (entries_before entries end)
finds_at F G back entries zero n within below at = absurd (omega (arith, below))
finds_at F G back entries (suc end) n within below at =
    let (e, is) = entry_there entries end (omega (arith, within)) in
    let one : suc end ≡ end + 1 = omega arith in
    let next : entries_before entries (suc end) ≡ e ∷ entries_before entries end = ap (entries_before entries) one
    ∙ before_next entries end e is in
    subst F (sym next) (elim (cases_eq n end) [
      | inl same ↦ back.here e (entries_before entries end)
          (subst (G (entries_before entries end)) (access_there entries end e is)
          (subst (λ m. G (entries_before entries m) (placed_access entries m)) same at))
      | inr other ↦ back.more e (entries_before entries end)
          (finds_at F G back entries end n (omega (arith, within)) (omega (arith, below, other)) at)
    ])

-- the entries before a position of a legal history are legal, and so is the reply there
pub legal_before : (s : Configuration) (entries : List Entry) (place : ℕ) → Legal s (reverse entries) → Legal s (entries_before entries place)
legal_before s entries place legal = legal_older s (reverse (drop place entries)) (entries_before entries place)
    (subst (λ l. Legal s l) (ap reverse (sym (take-append-drop place entries))
    ∙ reverse-append (take place entries) (drop place entries)) legal)

pub legal_there : (s : Configuration) (entries : List Entry) (place : ℕ) (e : Entry) → slice_get entries place ≡ Some e
    → Legal s (reverse entries) → Legal s (e ∷ entries_before entries place)
legal_there s entries place e is legal = subst (λ l. Legal s l) (before_next entries place e is)
    (legal_before s entries (place + 1) legal)
