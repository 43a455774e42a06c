-- Reads-from in the textbook's history agrees with `ReadFrom`; so it is recoverable.
use Rattle.std.proofs.Common.{◌≡◌, ◌<◌, ◌≤◌, ℕ, Bool, true, false, not, List, [], ◌∷◌, length, Option, Some, None, refl, sym, ap, ap₂, inl, inr, ◌∙◌, arith, ◌≢◌, ◌+◌, cond, subst}
use Rattle.std.specs.Option.{option_or}
use Rattle.std.proofs.lemmas.Option.{slice_get_within}
use Rattle.std.proofs.lemmas.Bool.{both_ways, not-true, not-false, and_from}
use Rattle.sgt_model.specs.declared.entry.Entry.{Entry}
use Rattle.sgt_model.specs.declared.kind.Kind.{Kind}
use Rattle.sgt_model.specs.declared.kind.Kind.TheVariants.{Look, Store}
use Rattle.sgt_model.specs.Contents.{Key}
use Rattle.sgt_model.specs.Accesses.{Access, access_of, is_store}
use Rattle.sgt_model.specs.Fates.{aborted}
use Rattle.sgt_model.specs.Values.{stores, newest_store}
use Rattle.sgt_model.specs.ReadFrom.{IsBy, LooksFrom, ReadFrom}
use Rattle.sgt_model.specs.Configurations.{Configuration}
use Rattle.sgt_model.specs.Legality.{Legal}
use Rattle.sgt_model.specs.Laws.{CommitsAlwaysInOrder, CommitsAlwaysInLine}
use Rattle.sgt_model.proofs.Stores.{key_eq-true, stores-some, Stored}
use Rattle.sgt_classes.specs.declared.operation.Operation.{Operation}
use Rattle.sgt_classes.specs.declared.operation.Action.{Action}
use Rattle.sgt_classes.specs.declared.operation.Action.TheVariants as action
use Rattle.sgt_classes.specs.Histories.{Does, AbortedBefore}
use Rattle.sgt_classes.specs.Classes.{ReadsFrom}
use Rattle.sgt_textbook.specs.Textbook.{IsNumbering, operations_of, textbook}
use Rattle.sgt_textbook.specs.Laws.{ReadsSomewhere, ReadsAgree, AreRecoverable}
use Rattle.sgt_textbook.proofs.Places.{split_at, in_first, in_second, still}
use Rattle.sgt_textbook.proofs.Entries.{does, action_on, IsAccess, reports}
use Rattle.sgt_textbook.proofs.Histories.{same_key, abort_aborted, aborted_aborts, does_access, commits_in_turn, commit_committed}

store_kind : (kind : Kind) → is_store kind ≡ true → kind ≡ Store
store_kind Look h = absurd (cc)
store_kind Store h = refl

-- a textbook write by a transaction that counts is a write of the history
stored_here : (number : Key → ℕ) → IsNumbering number → (e : Entry) (counts : ℕ → Bool) (k : Key) {j w : ℕ}
    (a : IsAccess number e.event e.reply j w Store (number k)) → counts w ≡ true → stores counts k (access_of e) ≡ Some a.access
stored_here number injective e counts k a counted = ap (stores counts k) a.is ∙ ap (λ b. cond b (Some a.access) None)
    (and_from _ _ (ap is_store a.kind_is) (and_from _ _ (same_key number injective _ _ a.item) (ap counts a.by ∙ counted)))

-- the last write of an item by a transaction that counts, if each later one is by none that does, is its newest write
newest_is : (number : Key → ℕ) → IsNumbering number → (past : List Entry) (counts : ℕ → Bool) (k : Key) (i w : ℕ)
    → Does (textbook number past) i w (action.Write (number k)) → counts w ≡ true
    → ((m t : ℕ) → i < m → Does (textbook number past) m t (action.Write (number k)) → counts t ≡ false)
    → IsBy (newest_store counts k past) w
newest_is number injective [] counts k i w at counted last = absurd (cc)
newest_is number injective (e ∷ past) counts k i w at counted last =
    elim (split_at (textbook number past) (operations_of number e) i _ at) [
      | inl old ↦ before (newest_is number injective past counts k i w old.1 counted
          (λ m t later write. last m t later (in_first (textbook number past) (operations_of number e) m _ write))) old.0
          (stores counts k (access_of e)) refl
      | inr new ↦ now (does_access number e new.0 w Store (number k) new.2)
    ]
  where
    now : {j : ℕ} → IsAccess number e.event e.reply j w Store (number k) → IsBy (newest_store counts k (e ∷ past)) w
    now a = subst (λ o. IsBy (option_or o (newest_store counts k past)) w)
        (sym (stored_here number injective e counts k a counted)) a.by

    uncounted : (a : Access) → Stored counts k (access_of e) a → i < length (textbook number past) → counts a.by ≡ false
    uncounted a stored within = let p = in_second (textbook number past) (operations_of number e) 0 _
        ((reports number e.event e.reply).access_there a stored.is) in
        last p.0 a.by (omega (arith, within, p.1)) (p.2 ∙ ap₂ (λ (kind : Kind) (key : Key). Some (does a.by (action_on kind (number key))))
        (store_kind a.kind stored.stores) (key_eq-true a.key k stored.same_key))

    before : IsBy (newest_store counts k past) w → i < length (textbook number past) → (o : Option Access)
        → stores counts k (access_of e) ≡ o → IsBy (option_or o (newest_store counts k past)) w
    before rest within None is = rest
    before rest within (Some a) is = let stored = stores-some counts k (access_of e) a is in
        absurd (both_ways _ (uncounted a stored within) stored.is_counted)

-- who reads from another in the textbook's history has read from it
reads_from : (number : Key → ℕ) → IsNumbering number → (s : Configuration) (past : List Entry) → Legal s past → (i k x w r : ℕ) → r ≢ w
    → ReadsFrom (textbook number past) i k x w r → ReadFrom past r w
reads_from number injective s [] h i k x w r apart reads = absurd (cc reads.read)
reads_from number injective s (e ∷ past) h i k x w r apart reads =
    elim (split_at (textbook number past) (operations_of number e) k _ reads.read) [
      | inl old ↦ inr (reads_from number injective s past h.0 i k x w r apart (earlier old.0 old.1))
      | inr new ↦ inl (apart, now new.0 new.1 (does_access number e new.0 r Look x new.2))
    ]
  where
    was : List Operation
    was = textbook number past

    back : (j t : ℕ) (a : Action) → j < length was → Does (textbook number (e ∷ past)) j t a → Does was j t a
    back j t a within at = still was (operations_of number e) j _ within at

    there : (j t : ℕ) (a : Action) → Does was j t a → Does (textbook number (e ∷ past)) j t a
    there j t a at = in_first was (operations_of number e) j _ at

    earlier : k < length was → Does was k r (action.Read x) → ReadsFrom was i k x w r
    earlier within at = record {
      earlier = reads.earlier;
      written = back i w (action.Write x) (let e = reads.earlier in omega (arith, within, e)) reads.written;
      read = at;
      standing = λ a. reads.standing (a.0, a.1, there a.0 w action.Abort a.2);
      last = λ m t above below write. let a = reads.last m t above below (there m t (action.Write x) write) in
          (a.0, a.1, back a.0 t action.Abort (omega (arith, within, a.1)) a.2);
    }

    aborted_before : (t : ℕ) → k ≡ length was → AbortedBefore (textbook number (e ∷ past)) t k → aborted past t ≡ true
    aborted_before t place a =
        abort_aborted number s past h.0 a.0 t (back a.0 t action.Abort (let l = a.1 in omega (arith, l, place)) a.2)

    stands : k ≡ length was → (b : Bool) → aborted past w ≡ b → not (aborted past w) ≡ true
    stands place false is = ap not is
    stands place true is = let a = aborted_aborts number past w is in let within = slice_get_within was a.0 _ a.1 in
        absurd (reads.standing (a.0, omega (arith, within, place), there a.0 w action.Abort a.1))

    now : (m : ℕ) → k ≡ length was + m → IsAccess number e.event e.reply m r Look x → LooksFrom past (access_of e) r w
    now m following a = let place : k ≡ length was = (let f = a.first in omega (arith, following, f)) in
        subst (λ o. LooksFrom past o r w) (sym a.is) (
          a.kind_is,
          a.by,
          newest_is number injective past (λ v. not (aborted past v))
              a.access.key i w
              (subst (λ y. Does was i w (action.Write y)) (sym a.item)
              (back i w (action.Write x) (let e = reads.earlier in omega (arith, e, place)) reads.written))
              (stands place (aborted past w) refl)
              (λ m t later write. let within = slice_get_within was m _ write in
              ap not (aborted_before t place (reads.last m t later (omega (arith, within, place))
              (there m t (action.Write x) (subst (λ y. Does was m t (action.Write y)) a.item write))))),
        )

pub recoverable : CommitsAlwaysInOrder → CommitsAlwaysInLine → AreRecoverable
recoverable in_order in_line number injective s past h k j broken = broken.uncommitted
    (commits_in_turn in_line number s past h broken.writer broken.reader j
    ((in_order s past h).sources broken.reader broken.writer (commit_committed number s past h j broken.reader broken.commits)
    (reads_from number injective s past h broken.write k broken.item broken.writer broken.reader
    (λ same. broken.differ (sym same)) broken.reads))
    broken.commits)

-- the write of an item that is w's and counts, where none that counts is later
record LastWrite (number : Key → ℕ) (past : List Entry) (counts : ℕ → Bool) (k : Key) (w : ℕ) : Type 0 where
  place : ℕ
  write : Does (textbook number past) place w (action.Write (number k))
  counted : counts w ≡ true
  last : (m t : ℕ) → place < m → Does (textbook number past) m t (action.Write (number k)) → counts t ≡ false

-- the newest write of a key is such a write
last_write : (number : Key → ℕ) → IsNumbering number → (past : List Entry) (counts : ℕ → Bool) (k : Key) (w : ℕ)
    → IsBy (newest_store counts k past) w → LastWrite number past counts k w
last_write number injective [] counts k w by = absurd by
last_write number injective (e ∷ past) counts k w by =
    go (λ b. last_write number injective past counts k w b) (stores counts k (access_of e)) refl by
  where
    uncounted : {j t : ℕ} → IsAccess number e.event e.reply j t Store (number k) → stores counts k (access_of e) ≡ None → (b : Bool)
        → counts t ≡ b → counts t ≡ false
    uncounted a none false is = is
    uncounted a none true is = absurd (cc (sym none ∙ stored_here number injective e counts k a is))

    go : (IsBy (newest_store counts k past) w → LastWrite number past counts k w) → (o : Option Access) → stores counts k (access_of e) ≡ o
        → IsBy (option_or o (newest_store counts k past)) w → LastWrite number (e ∷ past) counts k w
    go rest None is by = let o = rest by in record {
      place = o.place;
      write = in_first (textbook number past) (operations_of number e) o.place _ o.write;
      counted = o.counted;
      last = λ m t above write. elim (split_at (textbook number past) (operations_of number e) m _ write) [
        | inl old ↦ o.last m t above old.1
        | inr new ↦ uncounted (does_access number e new.0 t Store (number k) new.2) is (counts t) refl
      ];
    }
    go rest (Some a) is by = let stored = stores-some counts k (access_of e) a is in
        let p = in_second (textbook number past) (operations_of number e) 0 _ ((reports number e.event e.reply).access_there a stored.is) in
        record {
          place = p.0;
          write = p.2 ∙ ap₂ (λ (kind : Kind) (key : Key). Some (does a.by (action_on kind (number key))))
              (store_kind a.kind stored.stores) (key_eq-true a.key k stored.same_key)
              ∙ ap (λ (v : ℕ). Some (does v (action.Write (number k)))) by;
          counted = ap counts (sym by) ∙ stored.is_counted;
          last = λ m t above write. elim (split_at (textbook number past) (operations_of number e) m _ write) [
            | inl old ↦ absurd (let l = old.0 in let n = p.1 in omega (arith, above, l, n))
            | inr new ↦ absurd (let f = (does_access number e new.0 t Store (number k) new.2).first in let q = new.1 in let n = p.1 in
                omega (arith, above, f, q, n))
          ];
        }

-- who has read from another reads from it in the textbook's history
reads_back : (number : Key → ℕ) → IsNumbering number → (s : Configuration) (past : List Entry) → Legal s past → (w r : ℕ)
    → ReadFrom past r w
    → ReadsSomewhere (textbook number past) w r
reads_back number injective s [] h w r from = absurd from
reads_back number injective s (e ∷ past) h w r (inr before) = let o = reads_back number injective s past h.0 w r before in
    (o.0, o.1, o.2, later o.3)
  where
    later : {i k x : ℕ} → ReadsFrom (textbook number past) i k x w r → ReadsFrom (textbook number (e ∷ past)) i k x w r
    later {i} {k} {x} reads = let within = slice_get_within (textbook number past) k _ reads.read in record {
      earlier = reads.earlier;
      written = in_first (textbook number past) (operations_of number e) i _ reads.written;
      read = in_first (textbook number past) (operations_of number e) k _ reads.read;
      standing = λ a. let l = a.1 in
          reads.standing (a.0, l, still (textbook number past) (operations_of number e) a.0 _ (omega (arith, l, within)) a.2);
      last = λ m t above below write.
          let before = still (textbook number past) (operations_of number e) m _ (omega (arith, below, within)) write in
          let a = reads.last m t above below before in
          (a.0, a.1, in_first (textbook number past) (operations_of number e) a.0 _ a.2);
    }
reads_back number injective s (e ∷ past) h w r (inl now) = go (access_of e) refl now.1
  where
    here : (a : Access) (k : ℕ) → length (textbook number past) ≤ k
        → Does (textbook number (e ∷ past)) k a.by (action_on a.kind (number a.key)) → k ≡ length (textbook number past)
    here a k late at = elim (split_at (textbook number past) (operations_of number e) k _ at) [
      | inl old ↦ absurd (let l = old.0 in omega (arith, l, late))
      | inr new ↦ let f = (does_access number e new.0 a.by a.kind (number a.key) new.2).first in let q = new.1 in omega (arith, f, q)
    ]

    look : (a : Access) → a.kind ≡ Look → a.by ≡ r → (l : LastWrite number past (λ v. not (aborted past v)) a.key w) (k : ℕ)
        → k ≡ length (textbook number past) → Does (textbook number (e ∷ past)) k a.by (action_on a.kind (number a.key))
        → ReadsFrom (textbook number (e ∷ past)) l.place k (number a.key) w r
    look a is_look by l k place at = let within = slice_get_within (textbook number past) l.place _ l.write in record {
      earlier = omega (arith, within, place);
      written = in_first (textbook number past) (operations_of number e) l.place _ l.write;
      read = at ∙ ap₂ (λ (kind : Kind) (v : ℕ). Some (does v (action_on kind (number a.key)))) is_look by;
      standing = λ b. both_ways (aborted past w) (not-true (aborted past w) l.counted) (abort_aborted number s past h.0 b.0 w
          (still (textbook number past) (operations_of number e) b.0 _ (let less = b.1 in omega (arith, less, place)) b.2));
      last = λ m t above below write. following t (not-false (aborted past t) (l.last m t above
          (still (textbook number past) (operations_of number e) m _ (omega (arith, below, place)) write)));
    }
      where
        following : (t : ℕ) → aborted past t ≡ true → AbortedBefore (textbook number (e ∷ past)) t k
        following t ended = let b = aborted_aborts number past t ended in let less = slice_get_within (textbook number past) b.0 _ b.1 in
            (b.0, omega (arith, less, place), in_first (textbook number past) (operations_of number e) b.0 _ b.1)

    go : (o : Option Access) → access_of e ≡ o → LooksFrom past o r w → ReadsSomewhere (textbook number (e ∷ past)) w r
    go None is from = absurd from
    go (Some a) is from = let l = last_write number injective past (λ v. not (aborted past v)) a.key w from.2 in
        let p = in_second (textbook number past) (operations_of number e) 0 _ ((reports number e.event e.reply).access_there a is) in
        (l.place, p.0, number a.key, look a from.0 from.1 l p.0 (here a p.0 p.1 p.2) p.2)

pub reads_agree : ReadsAgree
reads_agree number injective s past h w r apart = (
  λ reads. reads_from number injective s past h reads.0 reads.1 reads.2 w r (λ same. apart (sym same)) reads.3,
  λ from. reads_back number injective s past h w r from,
)
