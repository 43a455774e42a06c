-- Packed entries, and the list of the entries that they stand for.
use Rattle.std.proofs.Common.{◌≡◌, ℕ, ℤ, zero, suc, ◌<◌, ◌≤◌, arith, List, [], ◌∷◌, ◌++◌, length, refl, ap, sym, subst, ◌∙◌, map}
use Rattle.std.specs.Prelude.{slice_index_or}
use Rattle.std.proofs.lemmas.List.{length-append, length-map, map-append}
use Rattle.sgt_log.specs.declared.packed_entry.PackedEntry.{PackedEntry}
use Rattle.sgt_log.specs.declared.packed_entry.PackedEntry.TheVariants as packed
use Rattle.sgt_log.specs.declared.stored_entry.StoredEntry.{StoredEntry}
use Rattle.sgt_log.specs.Spans.{HasMore}
use Rattle.sgt_log.specs.EntryParts.{IsQuiet}
use Rattle.sgt_log.specs.StoredEntries.{entry_of, HasNoArgs, HasNoLists}
use Rattle.sgt_log.specs.PackedEntries.{no_entry, unpacked, IsWhole, IsStep, IsAmong, AreAmong}
use Rattle.sgt_log.specs.StepKinds.{kind_of, IsOfKind}

-- items at an index

-- within a list, whatever stands for an item outside it
pub index_any : {X : Type 0} (xs : List X) (n : ℕ) (d e : X) → n < length xs → slice_index_or xs n d ≡ slice_index_or xs n e
index_any [] n d e h = absurd (omega (arith, h))
index_any (x ∷ xs) zero d e h = refl
index_any (x ∷ xs) (suc n) d e h = index_any xs n d e (omega (arith, h))

-- of the mapped list
pub index_map : {X Y : Type 0} (f : X → Y) (xs : List X) (n : ℕ) (x : X) → n < length xs → x ≡ slice_index_or xs n x
    → f x ≡ slice_index_or (map f xs) n (f x)
index_map f [] n x h is = absurd (omega (arith, h))
index_map f (y ∷ xs) zero x h is = ap f is
index_map f (y ∷ xs) (suc n) x h is = index_map f xs n x (omega (arith, h)) is

index_kept : {X : Type 0} (xs more : List X) (n : ℕ) (d : X) → n < length xs → slice_index_or (xs ++ more) n d ≡ slice_index_or xs n d
index_kept [] more n d h = absurd (omega (arith, h))
index_kept (x ∷ xs) more zero d h = refl
index_kept (x ∷ xs) more (suc n) d h = index_kept xs more n d (omega (arith, h))

-- the last one
pub index_last : {X : Type 0} (xs : List X) (x d : X) → slice_index_or (xs ++ x ∷ []) (length xs) d ≡ x
index_last [] x d = refl
index_last (y ∷ xs) x d = index_last xs x d

pub among_at : (n : ℕ) (ps : List PackedEntry) (k : ℕ) (p : PackedEntry) → AreAmong n ps → k < length ps → p ≡ slice_index_or ps k p
    → IsAmong n p
among_at n [] k p all h is = absurd (omega (arith, h))
among_at n (q ∷ ps) zero p all h is = subst (IsAmong n) (sym is) all.0
among_at n (q ∷ ps) (suc k) p all h is = among_at n ps k p all.1 (omega (arith, h)) is

-- more entries of other kinds keep the entries

unpacked_kept : (os more : List StoredEntry) (p : PackedEntry) → IsAmong (length os) p → unpacked (os ++ more) p ≡ unpacked os p
unpacked_kept os more (packed.Looked table t id v) h = refl
unpacked_kept os more (packed.Wrote table t id v) h = refl
unpacked_kept os more (packed.Ended t) h = refl
unpacked_kept os more (packed.Started procedure count t from) h = refl
unpacked_kept os more (packed.Committed count t from) h = refl
unpacked_kept os more (packed.Other at) h = index_kept os more at no_entry h

all_kept : (os more : List StoredEntry) (ps : List PackedEntry) → AreAmong (length os) ps
    → map (unpacked (os ++ more)) ps ≡ map (unpacked os) ps
all_kept os more [] h = refl
all_kept os more (p ∷ ps) h =
    ap (λ e. e ∷ map (unpacked (os ++ more)) ps) (unpacked_kept os more p h.0) ∙ ap (λ l. unpacked os p ∷ l) (all_kept os more ps h.1)

among_more : (m n : ℕ) (p : PackedEntry) → m ≤ n → IsAmong m p → IsAmong n p
among_more m n (packed.Looked table t id v) le h = tt
among_more m n (packed.Wrote table t id v) le h = tt
among_more m n (packed.Ended t) le h = tt
among_more m n (packed.Started procedure count t from) le h = tt
among_more m n (packed.Committed count t from) le h = tt
among_more m n (packed.Other at) le h = omega (arith, le, h)

among_added : (m n : ℕ) (ps : List PackedEntry) (p : PackedEntry) → m ≤ n → AreAmong m ps → IsAmong n p → AreAmong n (ps ++ p ∷ [])
among_added m n [] p le all one = (one, tt)
among_added m n (q ∷ ps) p le all one = (among_more m n q le all.0, among_added m n ps p le all.1 one)

longer : {X : Type 0} (xs ys : List X) → HasMore xs ys → length xs ≤ length ys
longer xs ys more = let long = ap length more.1 ∙ length-append xs more.0 in omega (arith, long)

-- what a push leaves

pub among_pushed : (os ms : List StoredEntry) (ps qs : List PackedEntry) (p : PackedEntry) → HasMore os ms → AreAmong (length os) ps
    → IsAmong (length ms) p → qs ≡ ps ++ p ∷ [] → AreAmong (length ms) qs
among_pushed os ms ps qs p more all one is = rw is (among_added _ _ ps p (longer os ms more) all one)

pub items_pushed : (os ms : List StoredEntry) (ps qs : List PackedEntry) (p : PackedEntry) → HasMore os ms → AreAmong (length os) ps
    → qs ≡ ps ++ p ∷ [] → map (unpacked ms) qs ≡ map (unpacked os) ps ++ unpacked ms p ∷ []
items_pushed os ms ps qs p more all is =
    let same : map (unpacked ms) ps ≡ map (unpacked os) ps = rw more.1 (all_kept os more.0 ps all) in
    ap (map (unpacked ms)) is ∙ map-append (unpacked ms) ps (p ∷ []) ∙ ap (λ l. l ++ unpacked ms p ∷ []) same

-- kinds

pub whole_among : (n : ℕ) (p : PackedEntry) → IsWhole p → IsAmong n p
whole_among n (packed.Looked table t id v) h = tt
whole_among n (packed.Wrote table t id v) h = tt
whole_among n (packed.Ended t) h = tt
whole_among n (packed.Started procedure count t from) h = tt
whole_among n (packed.Committed count t from) h = tt
whole_among n (packed.Other at) h = absurd h

pub step_whole : (p : PackedEntry) → IsStep p → IsWhole p
step_whole (packed.Looked table t id v) h = tt
step_whole (packed.Wrote table t id v) h = tt
step_whole (packed.Ended t) h = tt
step_whole (packed.Started procedure count t from) h = absurd h
step_whole (packed.Committed count t from) h = absurd h
step_whole (packed.Other at) h = absurd h

pub step_same : (os ms : List StoredEntry) (p : PackedEntry) → IsStep p → unpacked os p ≡ unpacked ms p
step_same os ms (packed.Looked table t id v) h = refl
step_same os ms (packed.Wrote table t id v) h = refl
step_same os ms (packed.Ended t) h = refl
step_same os ms (packed.Started procedure count t from) h = absurd h
step_same os ms (packed.Committed count t from) h = absurd h
step_same os ms (packed.Other at) h = absurd h

pub step_plain : (os : List StoredEntry) (p : PackedEntry) → IsStep p
    → HasNoArgs (unpacked os p).event × HasNoLists (unpacked os p).reply
step_plain os (packed.Looked table t id v) h = (refl, (refl, refl, refl))
step_plain os (packed.Wrote table t id v) h = (refl, (refl, refl, refl))
step_plain os (packed.Ended t) h = (refl, (refl, refl, refl))
step_plain os (packed.Started procedure count t from) h = absurd h
step_plain os (packed.Committed count t from) h = absurd h
step_plain os (packed.Other at) h = absurd h

-- what a step's entry says, whatever the lists of its history

pub step_quiet : (ns : List ℕ) (vs : List ℤ) (p : PackedEntry) → IsStep p → IsQuiet (entry_of ns vs (unpacked [] p))
step_quiet ns vs (packed.Looked table t id v) h = (refl, refl, refl, refl)
step_quiet ns vs (packed.Wrote table t id v) h = (refl, refl, refl, refl)
step_quiet ns vs (packed.Ended t) h = (refl, refl, refl, refl)
step_quiet ns vs (packed.Started procedure count t from) h = absurd h
step_quiet ns vs (packed.Committed count t from) h = absurd h
step_quiet ns vs (packed.Other at) h = absurd h

-- and what it is to a caller of steps
pub step_kind : (ns : List ℕ) (vs : List ℤ) (p : PackedEntry) → IsStep p → IsOfKind (kind_of p) (entry_of ns vs (unpacked [] p))
step_kind ns vs (packed.Looked table t id v) h = ((refl, refl, refl, refl), refl)
step_kind ns vs (packed.Wrote table t id v) h = ((refl, refl, refl, refl), refl)
step_kind ns vs (packed.Ended t) h = ((refl, refl, refl, refl), refl)
step_kind ns vs (packed.Started procedure count t from) h = absurd h
step_kind ns vs (packed.Committed count t from) h = absurd h
step_kind ns vs (packed.Other at) h = absurd h

pub whole_same : (os ms : List StoredEntry) (p : PackedEntry) → IsWhole p → unpacked os p ≡ unpacked ms p
whole_same os ms (packed.Looked table t id v) h = refl
whole_same os ms (packed.Wrote table t id v) h = refl
whole_same os ms (packed.Ended t) h = refl
whole_same os ms (packed.Started procedure count t from) h = refl
whole_same os ms (packed.Committed count t from) h = refl
whole_same os ms (packed.Other at) h = absurd h

-- an entry of a list that is seen at an index

pub item_at : (os : List StoredEntry) (ps : List PackedEntry) (items : List StoredEntry) (place : ℕ) (p : PackedEntry)
    → map (unpacked os) ps ≡ items → place < length items → p ≡ slice_index_or ps place p
    → unpacked os p ≡ slice_index_or items place (unpacked os p)
item_at os ps items place p seen h is =
    let long = length-map ps (unpacked os) in
    let count = ap length seen in
    subst (λ xs. unpacked os p ≡ slice_index_or xs place (unpacked os p)) seen
    (index_map (unpacked os) ps place p (omega (arith, h, long, count)) is)

pub step_item : (os : List StoredEntry) (ps : List PackedEntry) (items : List StoredEntry) (place : ℕ) (p : PackedEntry)
    → map (unpacked os) ps ≡ items → place < length items → p ≡ slice_index_or ps place p → IsStep p
    → unpacked [] p ≡ slice_index_or items place (unpacked [] p)
step_item os ps items place p seen h is step =
    subst (λ e. e ≡ slice_index_or items place e) (step_same os [] p step) (item_at os ps items place p seen h is)

pub whole_item : (os : List StoredEntry) (ps : List PackedEntry) (items : List StoredEntry) (place : ℕ) (p : PackedEntry)
    → map (unpacked os) ps ≡ items → place < length items → p ≡ slice_index_or ps place p → IsWhole p
    → unpacked [] p ≡ slice_index_or items place (unpacked [] p)
whole_item os ps items place p seen h is whole =
    subst (λ e. e ≡ slice_index_or items place e) (whole_same os [] p whole) (item_at os ps items place p seen h is)
