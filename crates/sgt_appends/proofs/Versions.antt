-- What the lines say of the reads: each is a line of its key, and a reader that knows all of it knows no more.
use Rattle.std.proofs.Common.{◌≡◌, ◌≢◌, ◌<◌, ◌++◌, ℕ, List, [], ◌∷◌, Option, Some, None, length, take, drop, refl, sym, ap, ◌∙◌, subst, inl, inr, arith, length-append, take-append-drop}
use Rattle.sgt_appends.specs.declared.lines.Line.{Line}
use Rattle.sgt_appends.specs.declared.transaction.Status.TheVariants.{Committed}
use Rattle.sgt_appends.specs.declared.transaction.Transaction.{Transaction}
use Rattle.sgt_appends.specs.Lists.{Has, IsOnce}
use Rattle.sgt_appends.specs.Runs.{operations_of, Ended}
use Rattle.sgt_appends.specs.Precedences.{appended, Appends, Reads, AppendsOnce}
use Rattle.sgt_appends.specs.Orders.{IsClean, AllClean}
use Rattle.sgt_appends.specs.Linear.{IsKnown, IsLine}
use Rattle.sgt_appends.specs.Reads.{own_at}
use Rattle.sgt_appends.specs.Lines.{KeyLines, version_of, values_or_none, values_in, AreAllLines, KnowsNoMore, AreWritten}
use Rattle.sgt_appends.specs.Indexes.{Positions, IsIndex}
use Rattle.sgt_appends.specs.Links.{AreAllIndexed}
use Rattle.sgt_appends.proofs.Filed.{append_at}
use Rattle.sgt_appends.proofs.Words.{Has-append_left, Has-append_right, Has-append_cases, IsOnce-append}
use Rattle.sgt_appends.proofs.Added.{appended-append}
use Rattle.sgt_appends.proofs.Along.{apart, has_or_not}
use Rattle.sgt_appends.proofs.ReadFaults.{IsOnce-following}
use Rattle.sgt_appends.proofs.Passed.{reads_at, at_reads}

-- what a transaction appends to a key before a position, and from it on
pub parted : (h : List Transaction) (t p k : ℕ) → appended k (operations_of h t) ≡ own_at h t p k ++ appended k (drop p (operations_of h t))
parted h t p k =
    ap (appended k) (sym (take-append-drop p (operations_of h t)))
    ∙ appended-append k (take p (operations_of h t)) (drop p (operations_of h t))

version_known : (h : List Transaction) (t p k : ℕ) (seen : List ℕ) (v : ℕ) → Has (version_of h t p k seen) v → IsKnown h t k seen v
version_known h t p k seen v has = elim (Has-append_cases seen (appended k (drop p (operations_of h t))) v has) [
  | inl there ↦ inl there
  | inr later ↦ inr (subst (λ xs. Has xs v) (sym (parted h t p k))
      (Has-append_right (own_at h t p k) (appended k (drop p (operations_of h t))) v later))
]

known_version : (h : List Transaction) (t p k : ℕ) (seen : List ℕ) (v : ℕ) → IsClean h t k (own_at h t p k) seen → IsKnown h t k seen v
    → Has (version_of h t p k seen) v
known_version h t p k seen v clean (inl there) = Has-append_left seen (appended k (drop p (operations_of h t))) v there
known_version h t p k seen v clean (inr appends) =
    elim (Has-append_cases (own_at h t p k) (appended k (drop p (operations_of h t))) v (subst (λ xs. Has xs v) (parted h t p k) appends)) [
      | inl own ↦ Has-append_left seen (appended k (drop p (operations_of h t))) v
          (subst (λ xs. Has xs v) (sym clean.ends) (Has-append_right clean.base (own_at h t p k) v own))
      | inr later ↦ Has-append_right seen (appended k (drop p (operations_of h t))) v later
    ]

version_once : (h : List Transaction) (t p k : ℕ) (seen : List ℕ) → AppendsOnce h → IsClean h t k (own_at h t p k) seen
    → IsOnce (version_of h t p k seen)
version_once h t p k seen once clean =
    let mine : IsOnce (own_at h t p k ++ appended k (drop p (operations_of h t))) =
    subst (λ xs. IsOnce xs) (parted h t p k) (once.once t k) in
    IsOnce-append seen (appended k (drop p (operations_of h t))) clean.once
    (IsOnce-following (own_at h t p k) (appended k (drop p (operations_of h t))) mine)
    (λ v there later.
    apart (own_at h t p k) (appended k (drop p (operations_of h t))) v mine
    (clean.not_ahead v there (subst (λ xs. Has xs v) (sym (parted h t p k))
    (Has-append_right (own_at h t p k) (appended k (drop p (operations_of h t))) v later))) later)

-- an item of a list has an index in it
stands : (ys : List ℕ) (x : ℕ) → Has ys x → (front : List ℕ) × (back : List ℕ) × (ys ≡ front ++ x ∷ back)
stands [] x has = absurd has
stands (y ∷ ys) x (inl same) = ([], ys, ap (λ z. z ∷ ys) same)
stands (y ∷ ys) x (inr there) = let it = stands ys x there in (y ∷ it.0, it.1, ap (λ zs. y ∷ zs) it.2)

others_stay : (front back : List ℕ) (x v : ℕ) → Has (front ++ x ∷ back) v → x ≢ v → Has (front ++ back) v
others_stay [] back x v (inl same) differ = absurd (differ same)
others_stay [] back x v (inr there) differ = there
others_stay (y ∷ front) back x v (inl same) differ = inl same
others_stay (y ∷ front) back x v (inr there) differ = inr (others_stay front back x v there differ)

-- a list without repetition is shorter than one that has all of it and more
fewer : (xs ys : List ℕ) (w : ℕ) → IsOnce xs → ((v : ℕ) → Has xs v → Has ys v) → Has ys w → ¬ Has xs w → length xs < length ys
fewer [] [] w once all has not = absurd has
fewer [] (y ∷ ys) w once all has not = omega arith
fewer (x ∷ xs) ys w once all has not =
    let it = stands ys x (all x (inl refl)) in
    let rest : length xs < length (it.0 ++ it.1) =
    fewer xs (it.0 ++ it.1) w once.1
    (λ v there. others_stay it.0 it.1 x v (subst (λ zs. Has zs v) it.2 (all v (inr there)))
    (λ same. once.0 (subst (λ n. Has xs n) (sym same) there)))
    (others_stay it.0 it.1 x w (subst (λ zs. Has zs w) it.2 has) (λ same. not (inl same)))
    (λ there. not (inr there)) in
    omega (arith, rest, ap length it.2, length-append it.0 (x ∷ it.1), length-append it.0 it.1)

-- each read has a line of its key
pub line_of_read : (h : List Transaction) (lines : KeyLines) (keys : List ℕ) (r k : ℕ) (own seen : List ℕ) → AreAllLines h lines keys
    → Ended h r Committed → Reads h r k own seen → IsLine h k (values_in lines k)
line_of_read h lines keys r k own seen are committed reads =
    let at = at_reads h r k own seen reads in
    let covered = are.longest r at.0 k seen committed at.1 in
    let version = are.versions k covered.0 covered.1 in
    record {
      reader = version.reader;
      own = own_at h version.reader version.position k;
      seen = version.seen;
      committed = version.committed;
      reads = reads_at h version.reader version.position k version.seen version.reads;
      known = λ v has. version_known h version.reader version.position k version.seen v
          (subst (λ xs. Has xs v) version.is (subst (λ o. Has (values_or_none o) v) covered.1 has));
    }

-- a reader that knows all of the line knows no more
pub no_more : (h : List Transaction) (lines : KeyLines) (keys : List ℕ) → AppendsOnce h → AllClean h → AreAllLines h lines keys
    → KnowsNoMore h lines
no_more h lines keys once clean are r k own seen committed reads all v known =
    let at = at_reads h r k own seen reads in
    let covered = are.longest r at.0 k seen committed at.1 in
    let version = are.versions k covered.0 covered.1 in
    let same : values_in lines k ≡ version_of h version.reader version.position k version.seen = ap values_or_none covered.1 ∙ version.is in
    let mine : IsClean h r k (own_at h r at.0 k) seen =
    clean r k (own_at h r at.0 k) seen committed (reads_at h r at.0 k seen at.1) in
    let theirs : IsClean h version.reader k (own_at h version.reader version.position k) version.seen =
    clean version.reader k (own_at h version.reader version.position k) version.seen version.committed
    (reads_at h version.reader version.position k version.seen version.reads) in
    elim (has_or_not (values_in lines k) v) [
      | inl has ↦ has
      | inr not ↦
          let short : length (values_in lines k) < length (version_of h r at.0 k seen) =
          fewer (values_in lines k) (version_of h r at.0 k seen) v
          (subst (λ xs. IsOnce xs) (sym same) (version_once h version.reader version.position k version.seen once theirs))
          (λ w has. known_version h r at.0 k seen w mine (all w has))
          (known_version h r at.0 k seen v mine known) not in
          absurd (omega (arith, short, covered.2, ap length (ap values_or_none covered.1)))
    ]

-- each value of a line is appended by a transaction
pub lines_written : (h : List Transaction) (lines : KeyLines) (keys : List ℕ) → AllClean h → AreAllLines h lines keys → AreWritten h lines
lines_written h lines keys clean are k v has = go (lines k) refl has
  where
    known : (r : ℕ) (own seen : List ℕ) → Ended h r Committed → Reads h r k own seen → IsKnown h r k seen v → (t : ℕ) × Appends h t k v
    known r own seen committed reads (inl there) = let it = (clean r k own seen committed reads).written v there in (it.0, it.1)
    known r own seen committed reads (inr appends) = (r, appends)

    go : (o : Option Line) → lines k ≡ o → Has (values_or_none o) v → (t : ℕ) × Appends h t k v
    go None is never = absurd never
    go (Some line) is there =
        let version = are.versions k line is in
        known version.reader (own_at h version.reader version.position k) version.seen version.committed
        (reads_at h version.reader version.position k version.seen version.reads)
        (version_known h version.reader version.position k version.seen v (subst (λ xs. Has xs v) version.is there))

-- each value of a line has its position in the index
pub lines_indexed : (h : List Transaction) (at : Positions) (lines : KeyLines) → IsIndex h at → AreWritten h lines → AreAllIndexed at lines
lines_indexed h at lines index written k v has =
    let it = written k v has in
    let p = append_at h it.0 k v it.1 in
    ((it.0, p.0), index.all k v it.0 p.0 p.1)
