-- Ranks that rise along the links of the graph rise along the few edges.
use Rattle.std.proofs.Common.{◌≡◌, ◌≢◌, ◌<◌, ◌+◌, ◌++◌, ℕ, zero, suc, List, [], ◌∷◌, Option, Some, None, length, get_or, drop, refl, sym, ap, ◌∙◌, subst, inl, inr, arith}
use Rattle.sgt_appends.specs.declared.lines.Line.{Line}
use Rattle.sgt_appends.specs.declared.sorting.Link.{Link}
use Rattle.sgt_appends.specs.declared.transaction.Status.TheVariants.{Committed}
use Rattle.sgt_appends.specs.declared.transaction.Transaction.{Transaction}
use Rattle.sgt_appends.specs.Lists.{Has, IsOnce}
use Rattle.sgt_appends.specs.Runs.{operations_of, Ended, MayRun}
use Rattle.sgt_appends.specs.Precedences.{appended, Appends, Reads, AppendsOnce}
use Rattle.sgt_appends.specs.Orders.{IsClean, AllClean}
use Rattle.sgt_appends.specs.Graphs.{RiseAlong}
use Rattle.sgt_appends.specs.Indexes.{Positions, IsIndex}
use Rattle.sgt_appends.specs.Linear.{ClimbsFrom, Climbs, IsKnown, IsBelowNext, IsRaised}
use Rattle.sgt_appends.specs.Lines.{KeyLines, values_or_none, values_in, AreAllLines}
use Rattle.sgt_appends.specs.Required.{IsLinked, IsOwn, IsLastLinked, IsMissTarget, IsReadLinked, AreAllLinked, end_rank}
use Rattle.sgt_appends.proofs.Words.{Has-append_left, Has-append_right}
use Rattle.sgt_appends.proofs.Spots.{has_at}
use Rattle.sgt_appends.proofs.Filed.{append_at}
use Rattle.sgt_appends.proofs.Along.{apart, read_own}
use Rattle.sgt_appends.proofs.Passed.{at_reads, ended_within, appender_is}
use Rattle.sgt_appends.proofs.Versions.{line_of_read, parted}
use Rattle.sgt_appends.proofs.Meant.{known_of}

linked_less : (links : List Link) (rank : ℕ → ℕ) (a b : ℕ) → RiseAlong links rank → IsLinked links a b → a ≢ b → rank a < rank b
linked_less links rank a b rise (inl same) differ = absurd (differ same)
linked_less links rank a b rise (inr it) differ =
    subst (λ n. rank n < rank b) it.2 (subst (λ n. rank it.0.from < rank n) it.3 (rise it.0 it.1))

may_within : (h : List Transaction) (t : ℕ) → MayRun h t → t < length h
may_within h t (inl it) = ended_within h t it.0 it.1
may_within h t (inr it) = ended_within h t it.0 it.1

-- the appenders of a list, each linked with the next
next_climbs : (h : List Transaction) (at : Positions) (links : List Link) (rank : ℕ → ℕ) (k : ℕ) (xs : List ℕ) → IsIndex h at
    → RiseAlong links rank
    → ((i : ℕ) (x y : ℕ × ℕ) → suc i < length xs → at k (get_or xs i 0) ≡ Some x → at k (get_or xs (suc i) 0) ≡ Some y
    → IsLinked links x.0 y.0)
    → Climbs h rank k xs
next_climbs h at links rank k [] index rise linked = tt
next_climbs h at links rank k (x ∷ []) index rise linked = tt
next_climbs h at links rank k (x ∷ y ∷ zs) index rise linked = (
  (λ t u one other differ.
      let p = append_at h t k x one in
      let q = append_at h u k y other in
      linked_less links rank t u rise
      (linked 0 (t, p.0) (u, q.0) (omega arith) (index.all k x t p.0 p.1) (index.all k y u q.0 q.1)) differ),
  next_climbs h at links rank k (y ∷ zs) index rise (λ i v w within one other. linked (suc i) v w (omega (arith, within)) one other),
)

-- what the reader appends itself
own_appended : (h : List Transaction) (r k : ℕ) (own seen : List ℕ) (v : ℕ) → Reads h r k own seen → Has own v → Appends h r k v
own_appended h r k own seen v reads has =
    let it = read_own (operations_of h r) k [] own seen reads in
    subst (λ xs. Has xs v) (sym it.1) (Has-append_left own it.0 v has)

own_is : (h : List Transaction) (at : Positions) (r k : ℕ) (v : ℕ) → IsIndex h at → Appends h r k v → IsOwn at r k v
own_is h at r k v index appends = let p = append_at h r k v appends in (p.0, index.all k v r p.0 p.1)

last_at : (front own : List ℕ) (x : ℕ) → get_or ((front ++ x ∷ []) ++ own) (length front) 0 ≡ x
last_at [] own x = refl
last_at (y ∷ front) own x = last_at front own x

last_within : (front own : List ℕ) (x : ℕ) → length front < length ((front ++ x ∷ []) ++ own)
last_within [] own x = omega arith
last_within (y ∷ front) own x = omega (arith, last_within front own x)

own_after : (front own : List ℕ) (x j : ℕ) → length front < j → j < length ((front ++ x ∷ []) ++ own)
    → Has own (get_or ((front ++ x ∷ []) ++ own) j 0)
own_after [] own x zero after within = absurd (omega (arith, after))
own_after [] own x (suc j) after within = has_at own j (get_or own j 0) (omega (arith, within)) refl
own_after (y ∷ front) own x zero after within = absurd (omega (arith, after))
own_after (y ∷ front) own x (suc j) after within = own_after front own x j (omega (arith, after)) (omega (arith, within))

-- the appender of the last value of others
last_below : (h : List Transaction) (at : Positions) (links : List Link) (rank : ℕ → ℕ) (r k : ℕ) (own seen front : List ℕ) (x t : ℕ)
    → IsIndex h at → RiseAlong links rank → IsLastLinked at links r k seen → Reads h r k own seen → IsClean h r k own seen
    → seen ≡ (front ++ x ∷ []) ++ own → Appends h t k x → rank t < rank r
last_below h at links rank r k own seen front x t index rise linked reads clean same appends =
    linked_less links rank t r rise is differ
  where
    has : Has seen x
    has = subst (λ xs. Has xs x) (sym same) (Has-append_left (front ++ x ∷ []) own x (Has-append_right front (x ∷ []) x (inl refl)))

    differ : t ≢ r
    differ e = apart (front ++ x ∷ []) own x (subst (λ xs. IsOnce xs) same clean.once) (Has-append_right front (x ∷ []) x (inl refl))
        (clean.not_ahead x has (subst (λ u. Appends h u k x) e appends))

    p : (q : ℕ) × (at k x ≡ Some (t, q))
    p = let q = append_at h t k x appends in (q.0, index.all k x t q.0 q.1)

    is : IsLinked links t r
    is = linked (length front) (t, p.0)
        (subst (λ xs. length front < length xs) (sym same) (last_within front own x))
        (subst (λ xs. at k (get_or xs (length front) 0) ≡ Some (t, p.0)) (sym same)
        (subst (λ v. at k v ≡ Some (t, p.0)) (sym (last_at front own x)) p.1))
        (λ j after within. subst (λ xs. IsOwn at r k (get_or xs j 0)) (sym same)
        (own_is h at r k (get_or ((front ++ x ∷ []) ++ own) j 0) index
        (own_appended h r k own seen (get_or ((front ++ x ∷ []) ++ own) j 0) reads
        (own_after front own x j (omega (arith, after)) (subst (λ xs. j < length xs) same within)))))

-- the own appends after a list that climbs
own_climb : (h : List Transaction) (rank : ℕ → ℕ) (r k x : ℕ) (later : List ℕ) → AppendsOnce h → Appends h r k x
    → ((v : ℕ) → Has later v → Appends h r k v) → ClimbsFrom h rank k x later
own_climb h rank r k x [] once mine all = tt
own_climb h rank r k x (y ∷ ys) once mine all = (
  (λ t u one other differ. absurd (differ (once.by_one t r k x one mine ∙ once.by_one r u k y (all y (inl refl)) other))),
  own_climb h rank r k y ys once (all y (inl refl)) (λ v has. all v (inr has)),
)

version_climbs : (h : List Transaction) (rank : ℕ → ℕ) (r k : ℕ) (seen later : List ℕ) → AppendsOnce h → Climbs h rank k seen
    → ((v : ℕ) → Has later v → Appends h r k v)
    → ((front : List ℕ) (x t : ℕ) → seen ≡ front ++ x ∷ [] → Appends h t k x → t ≢ r → rank t < rank r) → Climbs h rank k (seen ++ later)
version_climbs h rank r k [] [] once climbs all last = tt
version_climbs h rank r k [] (x ∷ later) once climbs all last =
    own_climb h rank r k x later once (all x (inl refl)) (λ v has. all v (inr has))
version_climbs h rank r k (x ∷ []) [] once climbs all last = tt
version_climbs h rank r k (x ∷ []) (y ∷ later) once climbs all last = (
  (λ t u one other differ.
      let mine : u ≡ r = once.by_one u r k y other (all y (inl refl)) in
      subst (λ w. rank t < rank w) (sym mine) (last [] x t refl one (λ e. differ (e ∙ sym mine)))),
  own_climb h rank r k y later once (all y (inl refl)) (λ v has. all v (inr has)),
)
version_climbs h rank r k (x ∷ y ∷ zs) later once climbs all last = (
  climbs.0,
  version_climbs h rank r k (y ∷ zs) later once climbs.1 all (λ front z t same. last (x ∷ front) z t (ap (λ ws. x ∷ ws) same)),
)

last_not_own : (front : List ℕ) (x : ℕ) → (j : ℕ) → length front + 1 < j + 1 → ¬ (j < length (front ++ x ∷ []))
last_not_own [] x j after within = omega (arith, after, within)
last_not_own (y ∷ front) x zero after within = omega (arith, after)
last_not_own (y ∷ front) x (suc j) after within = last_not_own front x j (omega (arith, after)) (omega (arith, within))

end_at : (front : List ℕ) (x : ℕ) → (get_or (front ++ x ∷ []) (length front) 0 ≡ x) × (length front < length (front ++ x ∷ []))
end_at [] x = (refl, omega arith)
end_at (y ∷ front) x = let it = end_at front x in (it.0, omega (arith, it.1))

-- the last value of a read is appended by the reader, or its appender is linked to the reader
end_below : (h : List Transaction) (at : Positions) (links : List Link) (rank : ℕ → ℕ) (r k : ℕ) (seen front : List ℕ) (x t : ℕ)
    → IsIndex h at → RiseAlong links rank → IsLastLinked at links r k seen → seen ≡ front ++ x ∷ [] → Appends h t k x → t ≢ r
    → rank t < rank r
end_below h at links rank r k seen front x t index rise linked same appends differ =
    let p = append_at h t k x appends in
    linked_less links rank t r rise
    (linked (length front) (t, p.0) (subst (λ xs. length front < length xs) (sym same) (end_at front x).1)
    (subst (λ xs. at k (get_or xs (length front) 0) ≡ Some (t, p.0)) (sym same)
    (subst (λ v. at k v ≡ Some (t, p.0)) (sym (end_at front x).0) (index.all k x t p.0 p.1)))
    (λ j after within. absurd (last_not_own front x j after (subst (λ xs. j < length xs) same within)))) differ

-- where the read's link leads
below_next : (h : List Transaction) (at : Positions) (lines : KeyLines) (links : List Link) (rank : ℕ → ℕ) (r k : ℕ) (seen : List ℕ)
    (line : Line) (y : ℕ × ℕ) → IsIndex h at → RiseAlong links rank → r < length h → lines k ≡ Some line
    → IsMissTarget at (length h) r k seen line y → IsLinked links r y.0
    → IsBelowNext h rank (end_rank rank (length h) (lines k)) r k seen (values_in lines k)
below_next h at lines links rank r k seen line y index rise within there (inl (front, w, back, is, known, unknown)) linked = inr (
  front,
  w,
  back,
  ap values_or_none there ∙ is,
  (λ v has. known_of h at r k seen v index (known v has)),
  not_known,
  (λ u appends. subst (λ t. rank r < rank t) (sym (appender_is h at k w u y index unknown.1 appends))
      (linked_less links rank r y.0 rise linked (λ e. unknown.2 (sym e)))),
)
  where
    not_known : ¬ IsKnown h r k seen w
    not_known (inl has) = unknown.0 has
    not_known (inr mine) = unknown.2 (sym (appender_is h at k w r y index unknown.1 mine))
below_next h at lines links rank r k seen line y index rise within there (inr (known, to)) linked = inl (
  (λ v has. known_of h at r k seen v index (known v (subst (λ o. Has (values_or_none o) v) there has))),
  subst (λ o. rank r < end_rank rank (length h) o) (sym there)
      (subst (λ n. rank r < rank n) to (linked_less links rank r y.0 rise linked (λ e. omega (arith, within, e, to)))),
)

-- all of them
pub links_raise : (h : List Transaction) (at : Positions) (lines : KeyLines) (keys : List ℕ) (links : List Link) (order : List ℕ)
    (rank : ℕ → ℕ) → AppendsOnce h → AllClean h → IsIndex h at → AreAllLines h lines keys → AreAllLinked h at lines keys links
    → RiseAlong links rank → ((t : ℕ) → Has order t → MayRun h t) → ((t : ℕ) → t < length h → 0 < rank t)
    → IsRaised h order rank (λ k. end_rank rank (length h) (lines k)) (values_in lines)
links_raise h at lines keys links order rank once clean index are linked rise may some = record {
  climbs = climbs;
  last = λ r k own seen front x t committed reads same appends.
      last_below h at links rank r k own seen front x t index rise (links_of r k own seen committed reads).last reads
      (clean r k own seen committed reads) same appends;
  lines = λ r k own seen committed reads. line_of_read h lines keys r k own seen are committed reads;
  line_climbs = λ k. line_climbs k (lines k) refl;
  next = λ r k own seen committed reads.
      let place = at_reads h r k own seen reads in
      let covered = are.longest r place.0 k seen committed place.1 in
      let it = (links_of r k own seen committed reads).missed covered.0 covered.1 in
      below_next h at lines links rank r k seen covered.0 it.0 index rise (ended_within h r committed.0 committed.1) covered.1 it.1 it.2;
  unseen = λ t k v has appends not. unseen t k v (lines k) refl (may t has) appends not;
}
  where
    links_of : (r k : ℕ) (own seen : List ℕ) → Ended h r Committed → Reads h r k own seen → IsReadLinked at (length h) lines links r k seen
    links_of r k own seen committed reads =
        let place = at_reads h r k own seen reads in
        linked.reads r place.0 k seen committed place.1

    climbs : (r k : ℕ) (own seen : List ℕ) → Ended h r Committed → Reads h r k own seen → Climbs h rank k seen
    climbs r k own seen committed reads = next_climbs h at links rank k seen index rise (links_of r k own seen committed reads).next

    line_climbs : (k : ℕ) (o : Option Line) → lines k ≡ o → Climbs h rank k (values_or_none o)
    line_climbs k None none = tt
    line_climbs k (Some line) there =
        let version = are.versions k line there in
        let read : IsReadLinked at (length h) lines links version.reader k version.seen =
        linked.reads version.reader version.position k version.seen version.committed version.reads in
        subst (λ xs. Climbs h rank k xs) (sym version.is)
        (version_climbs h rank version.reader k version.seen (appended k (drop version.position (operations_of h version.reader))) once
        (next_climbs h at links rank k version.seen index rise read.next)
        (λ v has. subst (λ xs. Has xs v) (sym (parted h version.reader version.position k))
        (Has-append_right _ (appended k (drop version.position (operations_of h version.reader))) v has))
        (λ front x t same appends differ.
        end_below h at links rank version.reader k version.seen front x t index rise read.last same appends differ))

    unseen : (t k v : ℕ) (o : Option Line) → lines k ≡ o → MayRun h t → Appends h t k v → ¬ Has (values_or_none o) v
        → end_rank rank (length h) o < rank t
    unseen t k v None none runs appends not = some t (may_within h t runs)
    unseen t k v (Some line) there runs appends not =
        let p = append_at h t k v appends in
        linked_less links rank (length h + line.number) t rise (linked.appends t p.0 k v runs p.1 line there not)
        (λ e. omega (arith, e, may_within h t runs))
