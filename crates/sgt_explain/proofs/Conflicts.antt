-- An earlier conflicting access exists exactly if a first read or a first write is returned.
use Rattle.std.proofs.Common.{◌≡◌, ℕ, ◌<◌, ◌≤◌, true, false, List, Option, Some, None, is_none, length, refl, inl, inr, subst}
use Rattle.std.proofs.lemmas.Bool.{and_parts, and_from, or_cases, or_left, or_right, eq-eqb, eqb-true}
use Rattle.sgt_model.specs.declared.entry.Entry.{Entry}
use Rattle.sgt_model.specs.declared.kind.Kind.{Kind}
use Rattle.sgt_model.specs.declared.kind.Kind.TheVariants.{Look, Store}
use Rattle.sgt_model.specs.Contents.{Key, key_eq}
use Rattle.sgt_model.specs.Accesses.{Access}
use Rattle.sgt_model.specs.Pairs.{one_stores, conflicts, has_conflicting, FollowsIn, Precedes}
use Rattle.sgt_model.specs.Aborts.{IsAccessBy}
use Rattle.sgt_model.proofs.Stores.{key_eq-true, key_eq-refl}
use Rattle.sgt_explain.specs.Firsts.{NoneBelow, FirstOrNone}
use Rattle.sgt_explain.specs.Places.{entries_before, placed_access}
use Rattle.sgt_explain.specs.Edges.{ConflictsAt, FollowsAt}
use Rattle.sgt_explain.proofs.Prefixes.{LooksBack, found_at, finds_at}

-- one access

conflict_is : (o : Option Access) (t : ℕ) (k : Key) (earlier later : Kind) → IsAccessBy o t k earlier → one_stores earlier later ≡ true
    → conflicts o t k later ≡ true
conflict_is None t k earlier later h one = absurd h
conflict_is (Some a) t k earlier later (by, key, kind) one = and_from _ _ (eq-eqb a.by t by)
    (and_from _ _ (subst (λ x. key_eq a.key x ≡ true) key (key_eq-refl a.key)) (rw kind one))

conflict_of : (o : Option Access) (t : ℕ) (k : Key) (later : Kind) → conflicts o t k later ≡ true
    → (earlier : Kind) × IsAccessBy o t k earlier × (one_stores earlier later ≡ true)
conflict_of None t k later h = absurd (cc)
conflict_of (Some a) t k later h = let p = and_parts _ _ h in let q = and_parts _ _ p.1 in
    (a.kind, (eqb-true a.by t p.0, key_eq-true a.key k q.0, refl), q.1)

-- of the entries before an end

conflicts_back : (t : ℕ) (k : Key) (kind : Kind)
    → LooksBack (λ past. has_conflicting past t k kind ≡ true) (λ past o. conflicts o t k kind ≡ true)
conflicts_back t k kind = record {
  nowhere = λ h. cc;
  here_or_before = λ e past h. or_cases _ _ h;
  here = λ e past h. or_left _ _ h;
  more = λ e past h. or_right _ _ h;
}

none_earlier : (entries : List Entry) (end t : ℕ) (k : Key) (kind : Kind) → end ≤ length entries
    → NoneBelow (ConflictsAt entries t k Look kind) end → NoneBelow (ConflictsAt entries t k Store kind) end
    → has_conflicting (entries_before entries end) t k kind ≡ true → ⊥
none_earlier entries end t k kind within looks stores h =
    let (n, below, at) = found_at (λ past. has_conflicting past t k kind ≡ true) (λ past o. conflicts o t k kind ≡ true)
    (conflicts_back t k kind) entries end within h in
    let (earlier, is, one) = conflict_of (placed_access entries n) t k kind at in
    by_kind earlier n below is one
  where
    by_kind : (earlier : Kind) (n : ℕ) → n < end → IsAccessBy (placed_access entries n) t k earlier → one_stores earlier kind ≡ true → ⊥
    by_kind Look n below is one = looks n below (is, one)
    by_kind Store n below is one = stores n below (is, one)

-- one that is returned exists
pub first_there : (entries : List Entry) (end t : ℕ) (k : Key) (earlier kind : Kind) → end ≤ length entries → (o : Option ℕ)
    → FirstOrNone (ConflictsAt entries t k earlier kind) end o → is_none o ≡ false
    → has_conflicting (entries_before entries end) t k kind ≡ true
first_there entries end t k earlier kind within None first one = absurd (cc)
first_there entries end t k earlier kind within (Some n) first one =
    finds_at (λ past. has_conflicting past t k kind ≡ true) (λ past o. conflicts o t k kind ≡ true) (conflicts_back t k kind)
    entries end n within first.below (conflict_is _ t k earlier kind first.holds.0 first.holds.1)

first_none : (P : ℕ → Type 0) (end : ℕ) (o : Option ℕ) → FirstOrNone P end o → is_none o ≡ true → NoneBelow P end
first_none P end None first none = first
first_none P end (Some n) first none = absurd (cc)

-- and if none is returned, none exists
pub none_there : (entries : List Entry) (end t : ℕ) (k : Key) (kind : Kind) → end ≤ length entries → (looked stored : Option ℕ)
    → FirstOrNone (ConflictsAt entries t k Look kind) end looked → FirstOrNone (ConflictsAt entries t k Store kind) end stored
    → is_none looked ≡ true → is_none stored ≡ true → has_conflicting (entries_before entries end) t k kind ≡ true → ⊥
none_there entries end t k kind within looked stored looks stores no_look no_store =
    none_earlier entries end t k kind within (first_none _ end looked looks no_look) (first_none _ end stored stores no_store)

-- an access that is known

-- one comes before another

precedes_back : (t u : ℕ) → LooksBack (λ past. Precedes past t u) (λ past o. FollowsIn past o t u)
precedes_back t u = record { nowhere = λ h. h; here_or_before = λ e past h. h; here = λ e past h. inl h; more = λ e past h. inr h }

pub none_follows : (entries : List Entry) (end t u : ℕ) → end ≤ length entries → NoneBelow (FollowsAt entries t u) end
    → Precedes (entries_before entries end) t u → ⊥
none_follows entries end t u within none h =
    let (n, below, at) = found_at (λ past. Precedes past t u) (λ past o. FollowsIn past o t u) (precedes_back t u) entries end within h in
    none n below at

pub follows_precede : (entries : List Entry) (end t u n : ℕ) → end ≤ length entries → n < end → FollowsAt entries t u n
    → Precedes (entries_before entries end) t u
follows_precede entries end t u n within below h =
    finds_at (λ past. Precedes past t u) (λ past o. FollowsIn past o t u) (precedes_back t u) entries end n within below h
