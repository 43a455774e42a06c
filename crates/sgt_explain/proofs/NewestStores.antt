-- The newest write of a key by a transaction that counts, one entry back at a time.
use Rattle.std.proofs.Common.{◌≡◌, ℕ, ◌+◌, ◌-◌, ◌<◌, ◌≤◌, Bool, true, false, ◌&&◌, not, cond, List, ◌∷◌, Option, Some, None, length, refl, sym, ap, subst, ◌∙◌, arith, slice_get}
use Rattle.std.specs.Option.{option_or, option_map}
use Rattle.sgt_model.specs.declared.entry.Entry.{Entry}
use Rattle.sgt_model.specs.declared.kind.Kind.TheVariants.{Look}
use Rattle.sgt_model.specs.Contents.{Key, key_eq}
use Rattle.sgt_model.specs.Accesses.{Access, is_store, access_of}
use Rattle.sgt_model.specs.Fates.{aborted}
use Rattle.sgt_model.specs.Values.{stores, newest_store}
use Rattle.sgt_model.specs.ReadFrom.{IsBy, LooksFrom}
use Rattle.sgt_model.specs.Aborts.{IsAccessBy}
use Rattle.sgt_model.proofs.Facts.{some_is}
use Rattle.sgt_explain.specs.Places.{entries_before, placed_access}
use Rattle.sgt_explain.proofs.Prefixes.{entry_there, before_next, access_there}

-- whose the access is
abbrev pub by_of : Option Access → Option ℕ
by_of o = option_map (λ (a : Access). a.by) o

-- one entry back
pub record OneBack (entries : List Entry) (place : ℕ) : Type 0 where
  pub entry : Entry
  pub at : slice_get entries (place - 1) ≡ Some entry
  pub before_is : entries_before entries place ≡ entry ∷ entries_before entries (place - 1)
  pub access : placed_access entries (place - 1) ≡ access_of entry

pub one_back : (entries : List Entry) (place : ℕ) → 0 < place → place ≤ length entries → OneBack entries place
one_back entries place some within =
    let (e, at) = entry_there entries (place - 1) (omega (arith, some, within)) in
    let next : place ≡ (place - 1) + 1 = omega (arith, some) in
    record {
      entry = e;
      at = at;
      before_is = ap (entries_before entries) next ∙ before_next entries (place - 1) e at;
      access = access_there entries (place - 1) e at;
    }

-- a write by a transaction that counts
stores_counted : (o : Option Access) (k : Key) (counts : ℕ → Bool) (w : ℕ) → Some w ≡ by_of (stores (λ v. true) k o) → counts w ≡ true
    → Some w ≡ by_of (stores counts k o)
stores_counted None k counts w h c = h
stores_counted (Some a) k counts w h c = by_tests (is_store a.kind) (key_eq a.key k) (counts a.by) refl h
  where
    by_tests : (s q b : Bool) → counts a.by ≡ b → Some w ≡ by_of (cond (s && (q && true)) (Some a) None)
        → Some w ≡ by_of (cond (s && (q && b)) (Some a) None)
    by_tests true true true is h = h
    by_tests true true false is h = absurd (let same : w ≡ a.by = some_is w a.by h in cc (sym is ∙ ap counts (sym same) ∙ c))
    by_tests true false b is h = h
    by_tests false q b is h = h

stores_uncounted : (o : Option Access) (k : Key) (counts : ℕ → Bool) (w : ℕ) → Some w ≡ by_of (stores (λ v. true) k o)
    → counts w ≡ false → stores counts k o ≡ None
stores_uncounted None k counts w h c = refl
stores_uncounted (Some a) k counts w h c = by_tests (is_store a.kind) (key_eq a.key k) (counts a.by) refl h
  where
    by_tests : (s q b : Bool) → counts a.by ≡ b → Some w ≡ by_of (cond (s && (q && true)) (Some a) None)
        → cond (s && (q && b)) (Some a) None ≡ None
    by_tests true true true is h = absurd (let same : w ≡ a.by = some_is w a.by h in cc (sym is ∙ ap counts (sym same) ∙ c))
    by_tests true true false is h = refl
    by_tests true false b is h = refl
    by_tests false q b is h = refl

stores_none : (o : Option Access) (k : Key) (counts : ℕ → Bool) → None ≡ by_of (stores (λ v. true) k o) → stores counts k o ≡ None
stores_none None k counts h = refl
stores_none (Some a) k counts h = by_tests (is_store a.kind) (key_eq a.key k) (counts a.by) h
  where
    by_tests : (s q b : Bool) → None ≡ by_of (cond (s && (q && true)) (Some a) None) → cond (s && (q && b)) (Some a) None ≡ None
    by_tests true true b h = absurd (cc)
    by_tests true false b h = refl
    by_tests false q b h = refl

by_first : (w : ℕ) (o rest : Option Access) → Some w ≡ by_of o → Some w ≡ by_of (option_or o rest)
by_first w None rest h = absurd (cc)
by_first w (Some a) rest h = h

pub writer_found : (entries : List Entry) (place : ℕ) (k : Key) (counts : ℕ → Bool) (w : ℕ) → 0 < place → place ≤ length entries
    → Some w ≡ by_of (stores (λ v. true) k (placed_access entries (place - 1))) → counts w ≡ true
    → Some w ≡ by_of (newest_store counts k (entries_before entries place))
writer_found entries place k counts w some within h c =
    let back = one_back entries place some within in
    rw back.before_is (by_first w _ (newest_store counts k (entries_before entries (place - 1)))
    (stores_counted (access_of back.entry) k counts w (h ∙ ap (λ o. by_of (stores (λ v. true) k o)) back.access) c))

skipped : (entries : List Entry) (place : ℕ) (k : Key) (counts : ℕ → Bool) → 0 < place → place ≤ length entries
    → stores counts k (placed_access entries (place - 1)) ≡ None
    → newest_store counts k (entries_before entries place) ≡ newest_store counts k (entries_before entries (place - 1))
skipped entries place k counts some within none =
    let back = one_back entries place some within in
    ap (newest_store counts k) back.before_is
    ∙ ap (λ o. option_or o (newest_store counts k (entries_before entries (place - 1)))) (ap (stores counts k) (sym back.access) ∙ none)

pub writer_skipped : (entries : List Entry) (place : ℕ) (k : Key) (counts : ℕ → Bool) (w : ℕ) → 0 < place → place ≤ length entries
    → Some w ≡ by_of (stores (λ v. true) k (placed_access entries (place - 1))) → counts w ≡ false
    → newest_store counts k (entries_before entries place) ≡ newest_store counts k (entries_before entries (place - 1))
writer_skipped entries place k counts w some within h c =
    skipped entries place k counts some within (stores_uncounted (placed_access entries (place - 1)) k counts w h c)

pub no_writer : (entries : List Entry) (place : ℕ) (k : Key) (counts : ℕ → Bool) → 0 < place → place ≤ length entries
    → None ≡ by_of (stores (λ v. true) k (placed_access entries (place - 1)))
    → newest_store counts k (entries_before entries place) ≡ newest_store counts k (entries_before entries (place - 1))
no_writer entries place k counts some within h =
    skipped entries place k counts some within (stores_none (placed_access entries (place - 1)) k counts h)

-- a read of the value that it found

by_is : (o : Option Access) (v : ℕ) → Some v ≡ by_of o → IsBy o v
by_is None v h = absurd (cc)
by_is (Some a) v h = sym (some_is v a.by h)

is_by : (o : Option Access) (v u : ℕ) → Some v ≡ by_of o → IsBy o u → v ≡ u
is_by None v u h is = absurd is
is_by (Some a) v u h is = some_is v a.by h ∙ is

pub look_is : (o : Option Access) (m : Access) (t : ℕ) → Some m ≡ o → m.by ≡ t → m.kind ≡ Look → IsAccessBy o t m.key Look
look_is o m t is by looks = rw (sym is) (by, refl, looks)

pub looks_from : (past : List Entry) (o : Option Access) (m : Access) (t v : ℕ) → Some m ≡ o → m.by ≡ t → m.kind ≡ Look
    → Some v ≡ by_of (newest_store (λ u. not (aborted past u)) m.key past) → LooksFrom past o t v
looks_from past o m t v is by looks found = rw (sym is) (looks, by, by_is _ v found)

pub looks_from_one : (past : List Entry) (o : Option Access) (m : Access) (t v u : ℕ) → Some m ≡ o
    → Some v ≡ by_of (newest_store (λ u. not (aborted past u)) m.key past) → LooksFrom past o t u → v ≡ u
looks_from_one past o m t v u is found from =
    let h : LooksFrom past (Some m) t u = subst (λ x. LooksFrom past x t u) (sym is) from in
    is_by _ v u found h.2
