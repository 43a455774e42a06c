-- The first read from a transaction that is aborted there, position by position.
use Rattle.std.proofs.Common.{◌≡◌, ℕ, ◌+◌, ◌<◌, ◌≤◌, min, Bool, not, List, reverse, Option, Some, None, IfNone, IsSome, length, refl, sym, ap, subst, inl, inr, ◌∙◌, arith, slice_get}
use Rattle.std.proofs.lemmas.Bool.{cases_eq}
use Rattle.sgt_model.specs.declared.entry.Entry.{Entry}
use Rattle.sgt_model.specs.Configurations.{Configuration}
use Rattle.sgt_model.specs.Legality.{Legal}
use Rattle.sgt_model.proofs.Facts.{some_is}
use Rattle.sgt_model.specs.ShortReplies.{fell_in}
use Rattle.sgt_explain.specs.declared.source.SourceRead.{SourceRead}
use Rattle.sgt_explain.specs.Firsts.{NoneBelow, IsFirst}
use Rattle.sgt_model.specs.Accesses.{Access}
use Rattle.sgt_model.specs.ReadFrom.{IsBy, LooksFrom}
use Rattle.sgt_model.specs.Fates.{aborted}
use Rattle.sgt_model.specs.Values.{newest_store}
use Rattle.sgt_explain.specs.Places.{entries_before, listed_by, placed_access, placed_falls}
use Rattle.sgt_explain.specs.Indexes.{IsUntouched}
use Rattle.sgt_explain.specs.Sources.{IsUndoneAt, ReadsAt, ReadsUndoneAt, ReportsLook, ReportsSource}
use Rattle.sgt_explain.proofs.LegalFalls.{source_there}
use Rattle.sgt_explain.proofs.Untouched.{store_placed}

pub none_more : (P : ℕ → Type 0) (n : ℕ) → NoneBelow P n → (P n → ⊥) → NoneBelow P (n + 1)
none_more P n none here m below holds = elim (cases_eq m n) [
  | inl same ↦ here (subst P same holds)
  | inr other ↦ none m (omega (arith, below, other)) holds
]

pub reads_standing : (entries : List Entry) (end t place w : ℕ) → ((v : ℕ) → ReadsAt entries t v place → w ≡ v)
    → (IsUndoneAt entries end w → ⊥) → ReadsUndoneAt entries end t place → ⊥
reads_standing entries end t place w one stands (v, undone, reads) = stands (subst (IsUndoneAt entries end) (sym (one v reads)) undone)

looks_by : (past : List Entry) (o : Option Access) (t u : ℕ) → LooksFrom past o t u → IsBy o t
looks_by past None t u h = h
looks_by past (Some a) t u h = h.1

pub reads_by : (entries : List Entry) (end t n : ℕ) → ReadsUndoneAt entries end t n → IsBy (placed_access entries n) t
reads_by entries end t n (v, undone, reads) = looks_by (entries_before entries n) (placed_access entries n) t v reads.1

-- a read of a write before a position is from none whose accesses are all after it
pub reads_low : (entries : List Entry) (end t place low : ℕ)
    → ((v n : ℕ) → IsUndoneAt entries end v → n < low → IsUntouched entries v n)
    → ((v : ℕ) → ReadsAt entries t v place → (n : ℕ) × (n < low) × IsBy (placed_access entries n) v)
    → ReadsUndoneAt entries end t place → ⊥
reads_low entries end t place low clear below (v, undone, reads) =
    let (n, under, by) = below v reads in (clear v n undone under).0 by

-- a read finds no write since the position, so it is from a write before it, if from any
pub reads_below : (entries : List Entry) (place low t : ℕ) (m : Access) → place ≤ length entries → Some m ≡ placed_access entries place
    → newest_store (λ u. not (aborted (entries_before entries place) u)) m.key (entries_before entries place)
    ≡ newest_store (λ u. not (aborted (entries_before entries place) u)) m.key (entries_before entries (min low place))
    → (v : ℕ) → ReadsAt entries t v place → (n : ℕ) × (n < low) × IsBy (placed_access entries n) v
reads_below entries place low t m within is same v reads =
    let counts : ℕ → Bool = λ u. not (aborted (entries_before entries place) u) in
    let from : LooksFrom (entries_before entries place) (Some m) t v =
    subst (λ o. LooksFrom (entries_before entries place) o t v) (sym is) reads.1 in
    let by : IsBy (newest_store counts m.key (entries_before entries (min low place))) v = subst (λ o. IsBy o v) same from.2 in
    let (n, below, at) = store_placed entries m.key counts v (min low place) (omega (arith, within)) by in
    (n, omega (arith, below), at)

pub if_none : {P : Type 0} (o : Option SourceRead) → P → IfNone o P
if_none None h = h
if_none (Some x) h = tt

pub source_first : (entries : List Entry) (end t place : ℕ) (reported : SourceRead) → place < end → NoneBelow (ReadsUndoneAt entries end t) place
    → ReportsLook entries t place reported → IsUndoneAt entries end reported.source → ReportsSource entries end t reported
source_first entries end t place reported below none look undone = record {
  first = subst (IsFirst (ReadsUndoneAt entries end t) end) (sym look.place_is)
      (record { below = below; holds = (reported.source, undone, look.reads); first = none });
  look = subst (λ p. ReportsLook entries t p reported) (sym look.place_is) look;
  undone = undone;
}

-- the transaction at a position of the list of cascading aborts
pub falls_item : (entries : List Entry) (place number t : ℕ) (e : Entry) (fell : List ℕ) → slice_get entries place ≡ Some e
    → fell ≡ fell_in e.reply → slice_get fell number ≡ Some t → slice_get (placed_falls entries place) number ≡ Some t
falls_item entries place number t e fell is same at =
    ap (λ o. slice_get (listed_by (λ (x : Entry). fell_in x.reply) o) number) is ∙ ap (λ l. slice_get l number) (sym same) ∙ at

some_unless : (o : Option SourceRead) (P : Type 0) → IfNone o P → (P → ⊥) → IsSome o
some_unless None P none not = absurd (not none)
some_unless (Some x) P none not = refl

pub some_source : (entries : List Entry) (place number reader : ℕ) (o : Option SourceRead)
    → slice_get (placed_falls entries place) number ≡ Some reader → IfNone o (NoneBelow (ReadsUndoneAt entries place reader) place)
    → (t n : ℕ) → slice_get (placed_falls entries place) number ≡ Some t → n < place → ReadsUndoneAt entries place t n → IsSome o
some_source entries place number reader o at none t n at_t below reads =
    let same : t ≡ reader = some_is t reader (sym at_t ∙ at) in
    some_unless o _ none (λ h. h n below (subst (λ u. ReadsUndoneAt entries place u n) same reads))

pub all_sources : (entries : List Entry) (place number reader : ℕ) (o : Option SourceRead) → place < length entries
    → slice_get (placed_falls entries place) number ≡ Some reader → IfNone o (NoneBelow (ReadsUndoneAt entries place reader) place)
    → (s : Configuration) → Legal s (reverse entries) → IsSome o
all_sources entries place number reader o within at none s legal =
    some_unless o _ none (λ h. source_there s entries place number reader within legal at h)
