-- The links of one read more, one append more, one transaction more.
use Rattle.std.proofs.Common.{◌≡◌, ◌≤◌, ◌+◌, ℕ, List, [], Some, length, sym, subst, inl, inr, arith}
use Rattle.std.specs.Prelude.{slice_get}
use Rattle.std.proofs.lemmas.Bool.{cases_eq}
use Rattle.sgt_appends.specs.declared.sorting.Link.{Link}
use Rattle.sgt_appends.specs.declared.transaction.Operation.{Operation}
use Rattle.sgt_appends.specs.declared.transaction.Operation.TheVariants.{Append, Read}
use Rattle.sgt_appends.specs.declared.transaction.Transaction.{Transaction}
use Rattle.sgt_appends.specs.Runs.{operations_of}
use Rattle.sgt_appends.specs.Orders.{AllClean}
use Rattle.sgt_appends.specs.Graphs.{AreAmong}
use Rattle.sgt_appends.specs.Links.{AreIndexed}
use Rattle.sgt_appends.specs.Indexes.{Positions, IsIndex, IsEarlier}
use Rattle.sgt_appends.specs.Lines.{KeyLines, AreNumbered}
use Rattle.sgt_appends.specs.Reads.{IsReadAt, own_at}
use Rattle.sgt_appends.specs.Meanings.{LeadsFromEnd, IsMeant}
use Rattle.sgt_appends.specs.Witnesses.{IsSeenAt}
use Rattle.sgt_appends.specs.Required.{AreMore, IsNextLink, AreNextLinked, IsSeenLink, IsLastLinked, IsMissLink, IsMissLinked, IsReadLinked, IsReadLinkedAt, IsAppendLinked, IsAppendLinkedAt, AreLinked, AreAllLinked}
use Rattle.sgt_appends.proofs.Filed.{earlier_cases, append_at}
use Rattle.sgt_appends.proofs.Passed.{same_read_at, stands_within, ended_within, reads_at}
use Rattle.sgt_appends.proofs.More.{more_as, more_on, linked_still}
use Rattle.sgt_appends.proofs.Meant.{next_meant, seen_meant, miss_meant, append_within}

read_still : (at : Positions) (n : ℕ) (lines : KeyLines) (old new : List Link) (r k : ℕ) (seen : List ℕ) → AreAmong old new
    → IsReadLinked at n lines old r k seen → IsReadLinked at n lines new r k seen
read_still at n lines old new r k seen stay it = record {
  next = λ i x y within one other. linked_still old new x.0 y.0 stay (it.next i x y within one other);
  last = λ i x within is following. linked_still old new x.0 r stay (it.last i x within is following);
  missed = λ line is. let m = it.missed line is in (m.0, m.1, linked_still old new r m.0.0 stay m.2);
}

append_still : (n : ℕ) (lines : KeyLines) (old new : List Link) (t k v : ℕ) → AreAmong old new → IsAppendLinked n lines old t k v
    → IsAppendLinked n lines new t k v
append_still n lines old new t k v stay it line is not = linked_still old new (n + line.number) t stay (it line is not)

-- each value that a read without a fault saw has its position in the index
pub seen_indexed : (h : List Transaction) (at : Positions) (r p k : ℕ) (seen : List ℕ) → IsIndex h at → AllClean h → IsSeenAt h r p k seen
    → AreIndexed at k seen
seen_indexed h at r p k seen index clean reads v has =
    let who = (clean r k (own_at h r p k) seen reads.0 (reads_at h r p k seen reads.1)).written v has in
    let place = append_at h who.0 k v who.1 in
    ((who.0, place.0), index.all k v who.0 place.0 place.1)

-- the three kinds of links of a read
pub read_more : (h : List Transaction) (at : Positions) (lines : KeyLines) (keys : List ℕ) (r p k : ℕ) (seen : List ℕ)
    (a b c d : List Link) → IsIndex h at → AreNumbered lines keys → IsSeenAt h r p k seen → AreMore a b (IsNextLink at r p k seen)
    → AreMore b c (IsSeenLink at r p k seen) → AreMore c d (IsMissLink at (length h) lines r p k seen) → AreMore a d (IsMeant h lines keys)
read_more h at lines keys r p k seen a b c d index numbered reads one two three =
    more_on a b d (IsMeant h lines keys) (IsMeant h lines keys) (IsMeant h lines keys)
    (more_as a b (IsNextLink at r p k seen) (IsMeant h lines keys) one
    (λ l differ is. inl (next_meant h at r p k seen l index reads differ is)))
    (more_on b c d (IsMeant h lines keys) (IsMeant h lines keys) (IsMeant h lines keys)
    (more_as b c (IsSeenLink at r p k seen) (IsMeant h lines keys) two
    (λ l differ is. inl (seen_meant h at r p k seen l index reads differ is)))
    (more_as c d (IsMissLink at (length h) lines r p k seen) (IsMeant h lines keys) three
    (λ l differ is. miss_meant h at lines keys r p k seen l index numbered reads differ is))
    (λ l is. is) (λ l is. is))
    (λ l is. is) (λ l is. is)

pub read_linked : (h : List Transaction) (at : Positions) (lines : KeyLines) (i j r p k : ℕ) (seen : List ℕ) (b c d : List Link)
    → r ≡ i → p ≡ j → IsReadAt h r p k seen → AreNextLinked at b k seen (length seen) → IsLastLinked at c r k seen
    → IsMissLinked at (length h) lines d r k seen → AreAmong b c → AreAmong c d → IsReadLinkedAt h at lines d i j
read_linked h at lines i j r p k seen b c d is place reads next last missed one two l others committed other =
    let same = same_read_at h r p k l seen others reads
    (subst (λ t. IsReadAt h t p l others) (sym is) (subst (λ q. IsReadAt h i q l others) (sym place) other)) in
    subst (λ t. IsReadLinked at (length h) lines d t l others) is
    (subst (λ m. IsReadLinked at (length h) lines d r m others) same.0
    (subst (λ xs. IsReadLinked at (length h) lines d r k xs) same.1 all))
  where
    all : IsReadLinked at (length h) lines d r k seen
    all = record {
      next = λ m x y within first second. linked_still b d x.0 y.0 (λ o there. two o (one o there)) (next m x y within first second);
      last = λ m x within here following. linked_still c d x.0 r two (last m x within here following);
      missed = missed;
    }

pub from_end_meant : (h : List Transaction) (lines : KeyLines) (keys : List ℕ) (old new : List Link)
    → AreMore old new (LeadsFromEnd h lines keys) → AreMore old new (IsMeant h lines keys)
from_end_meant h lines keys old new more =
    more_as old new (LeadsFromEnd h lines keys) (IsMeant h lines keys) more (λ l differ is. inr (inr is))

pub both_more : (old mid new : List Link) (are : Link → Type 0) → AreMore old mid are → AreMore mid new are → AreMore old new are
both_more old mid new are one other = more_on old mid new are are are one other (λ l is. is) (λ l is. is)

pub read_at_still : (h : List Transaction) (at : Positions) (lines : KeyLines) (old new : List Link) (t p : ℕ) → AreAmong old new
    → IsReadLinkedAt h at lines old t p → IsReadLinkedAt h at lines new t p
read_at_still h at lines old new t p stay it k seen committed reads =
    read_still at (length h) lines old new t k seen stay (it k seen committed reads)

-- no link yet
pub none_linked_yet : (h : List Transaction) (at : Positions) (lines : KeyLines) (keys : List ℕ) → AreLinked h at lines keys [] 0 0
none_linked_yet h at lines keys = record {
  meant = λ l is. absurd is;
  reads = λ t p earlier. absurd (never earlier);
  appends = λ t p earlier. absurd (never earlier);
}
  where
    never : {t p : ℕ} → ¬ IsEarlier t p 0 0
    never (inl less) = omega (arith, less)
    never (inr same) = omega (arith, same.1)

-- one position more
pub linked_one : (h : List Transaction) (at : Positions) (lines : KeyLines) (keys : List ℕ) (old new : List Link) (i j : ℕ)
    → AreLinked h at lines keys old i j → AreMore old new (IsMeant h lines keys) → IsReadLinkedAt h at lines new i j
    → IsAppendLinkedAt h lines new i j → AreLinked h at lines keys new i (j + 1)
linked_one h at lines keys old new i j are more read append = record {
  meant = λ l is. elim (more.only l is) [
    | inl there ↦ are.meant l there
    | inr this ↦ this.1
  ];
  reads = λ t p earlier. elim (earlier_cases t p i j earlier) [
    | inl before ↦ read_at_still h at lines old new t p more.stay (are.reads t p before)
    | inr same ↦ subst (λ u. IsReadLinkedAt h at lines new u p) (sym same.0)
        (subst (λ q. IsReadLinkedAt h at lines new i q) (sym same.1) read)
  ];
  appends = λ t p earlier. elim (earlier_cases t p i j earlier) [
    | inl before ↦ (λ k v runs is. append_still (length h) lines old new t k v more.stay (are.appends t p before k v runs is))
    | inr same ↦ subst (λ u. IsAppendLinkedAt h lines new u p) (sym same.0)
        (subst (λ q. IsAppendLinkedAt h lines new i q) (sym same.1) append)
  ];
}

earlier_within : (h : List Transaction) (t p i j : ℕ) (o : Operation) → length (operations_of h i) ≤ j
    → slice_get (operations_of h t) p ≡ Some o → IsEarlier t p (i + 1) 0 → IsEarlier t p i j
earlier_within h t p i j o whole is (inl less) = elim (cases_eq t i) [
  | inl same ↦ inr (
    same,
    omega (arith, whole, stands_within (operations_of h i) p o (subst (λ u. slice_get (operations_of h u) p ≡ Some o) same is)),
  )
  | inr differ ↦ inl (omega (arith, less, differ))
]
earlier_within h t p i j o whole is (inr same) = absurd (omega (arith, same.1))

-- one transaction more
pub linked_next : (h : List Transaction) (at : Positions) (lines : KeyLines) (keys : List ℕ) (links : List Link) (i j : ℕ)
    → AreLinked h at lines keys links i j → length (operations_of h i) ≤ j → AreLinked h at lines keys links (i + 1) 0
linked_next h at lines keys links i j are whole = record {
  meant = are.meant;
  reads = λ t p earlier k seen committed reads.
      are.reads t p (earlier_within h t p i j (Read k reads.0) whole reads.1 earlier) k seen committed reads;
  appends = λ t p earlier k v runs is. are.appends t p (earlier_within h t p i j (Append k v) whole is earlier) k v runs is;
}

-- all transactions
pub linked_whole : (h : List Transaction) (at : Positions) (lines : KeyLines) (keys : List ℕ) (links : List Link) (i : ℕ)
    → AreLinked h at lines keys links i 0 → length h ≤ i → AreAllLinked h at lines keys links
linked_whole h at lines keys links i are whole = record {
  meant = are.meant;
  reads = λ t p k seen committed reads.
      are.reads t p (inl (omega (arith, whole, ended_within h t committed.0 committed.1))) k seen committed reads;
  appends = λ t p k v runs is. are.appends t p (inl (omega (arith, whole, append_within h t p k v is))) k v runs is;
}
