-- The meaning of the links that are added, and the edges that they make.
use Rattle.std.proofs.Common.{◌≡◌, ◌≢◌, ◌⊎◌, ◌<◌, ◌≤◌, ◌+◌, ℕ, zero, suc, List, [], ◌∷◌, Option, Some, None, length, get_or, refl, sym, ap, ◌∙◌, subst, inl, inr, arith}
use Rattle.std.specs.Prelude.{slice_get}
use Rattle.std.proofs.lemmas.Grind.{common_steps}
use Rattle.std.proofs.lemmas.Option.{slice_get_within}
use Rattle.sgt_appends.specs.declared.lines.Line.{Line}
use Rattle.sgt_appends.specs.declared.sorting.Link.{Link}
use Rattle.sgt_appends.specs.declared.transaction.Operation.TheVariants.{Append}
use Rattle.sgt_appends.specs.declared.transaction.Transaction.{Transaction}
use Rattle.sgt_appends.specs.declared.witness.Reason.TheVariants.{Missed}
use Rattle.sgt_appends.specs.Lists.{Has, StandsBefore}
use Rattle.sgt_appends.specs.Runs.{MayRun, operations_or_none, operations_of}
use Rattle.sgt_appends.specs.Precedences.{Appends}
use Rattle.sgt_appends.specs.Graphs.{AreWithin}
use Rattle.sgt_appends.specs.Indexes.{Positions, AppendAt, IsIndex}
use Rattle.sgt_appends.specs.Linear.{IsKnown}
use Rattle.sgt_appends.specs.Lines.{KeyLines, values_or_none, values_in, AreNumbered, KnowsNoMore}
use Rattle.sgt_appends.specs.Links.{IsKnownBy}
use Rattle.sgt_appends.specs.Reads.{own_at}
use Rattle.sgt_appends.specs.Required.{IsLinked, IsNextLink, IsSeenLink, IsMissTarget, IsMissLink, IsEndBefore, IsAppendLinkedAt}
use Rattle.sgt_appends.specs.Meanings.{IsBetween, LeadsToEnd, LeadsFromEnd, IsMeant, AreMeant}
use Rattle.sgt_appends.specs.Witnesses.{IsSeenAt, IsShown, EdgeIsShown}
use Rattle.sgt_appends.specs.Turns.{read_in, append_in, edge_after, MakeEdges}
use Rattle.sgt_appends.proofs.Words.{StandsBefore-cons}
use Rattle.sgt_appends.proofs.Filed.{at_appends, same_append}
use Rattle.sgt_appends.proofs.Passed.{ended_within, reads_at}

pub append_within : (h : List Transaction) (t p k v : ℕ) → AppendAt h t p k v → t < length h
append_within h t p k v there = go (slice_get h t) refl there
  where
    go : (x : Option Transaction) → slice_get h t ≡ x → slice_get (operations_or_none x) p ≡ Some (Append k v) → t < length h
    go None none is = absurd (grind (arith, common_steps, is))
    go (Some x) some is = ended_within h t x some

stand_next : (xs : List ℕ) (i : ℕ) → suc i < length xs → StandsBefore xs (get_or xs i 0) (get_or xs (suc i) 0)
stand_next [] i within = absurd (omega (arith, within))
stand_next (x ∷ []) i within = absurd (omega (arith, within))
stand_next (x ∷ y ∷ zs) zero within = ([], y ∷ zs, refl, inl refl)
stand_next (x ∷ y ∷ zs) (suc i) within =
    StandsBefore-cons x (y ∷ zs) (get_or (y ∷ zs) i 0) (get_or (y ∷ zs) (suc i) 0) (stand_next (y ∷ zs) i (omega (arith, within)))

-- a link from the appender of a value seen to the appender of the next one
pub next_meant : (h : List Transaction) (at : Positions) (r p k : ℕ) (seen : List ℕ) (l : Link) → IsIndex h at → IsSeenAt h r p k seen
    → l.from ≢ l.to → IsNextLink at r p k seen l → IsBetween h l
next_meant h at r p k seen l index reads differ (i, x, y, within, one, other, same) = subst (λ m. IsBetween h m) (sym same) (record {
  source = append_within h x.0 x.1 k (get_or seen i 0) first;
  target = append_within h y.0 y.1 k (get_or seen (suc i) 0) second;
  differ = subst (λ (m : Link). m.from ≢ m.to) same differ;
  shown = (k, get_or seen i 0, get_or seen (suc i) 0, seen, first, second, reads, stand_next seen i within);
})
  where
    first : AppendAt h x.0 x.1 k (get_or seen i 0)
    first = index.found k (get_or seen i 0) x.0 x.1 one

    second : AppendAt h y.0 y.1 k (get_or seen (suc i) 0)
    second = index.found k (get_or seen (suc i) 0) y.0 y.1 other

-- a link from the appender of a value seen to the reader
pub seen_meant : (h : List Transaction) (at : Positions) (r p k : ℕ) (seen : List ℕ) (l : Link) → IsIndex h at → IsSeenAt h r p k seen
    → l.from ≢ l.to → IsSeenLink at r p k seen l → IsBetween h l
seen_meant h at r p k seen l index reads differ (v, x, has, is, same) = subst (λ m. IsBetween h m) (sym same) (record {
  source = append_within h x.0 x.1 k v (index.found k v x.0 x.1 is);
  target = ended_within h r reads.0.0 reads.0.1;
  differ = subst (λ (m : Link). m.from ≢ m.to) same differ;
  shown = (k, v, seen, index.found k v x.0 x.1 is, reads, has);
})

-- what the index says that a reader knows
pub known_of : (h : List Transaction) (at : Positions) (r k : ℕ) (seen : List ℕ) (v : ℕ) → IsIndex h at → IsKnownBy at r k seen v
    → IsKnown h r k seen v
known_of h at r k seen v index (inl has) = inl has
known_of h at r k seen v index (inr it) = inr (at_appends h r it.0 k v (index.found k v r it.0 it.1))

-- a link from the reader to the appender of a value that it missed, or to the end of the line
pub miss_meant : (h : List Transaction) (at : Positions) (lines : KeyLines) (keys : List ℕ) (r p k : ℕ) (seen : List ℕ) (l : Link)
    → IsIndex h at → AreNumbered lines keys → IsSeenAt h r p k seen → l.from ≢ l.to → IsMissLink at (length h) lines r p k seen l
    → IsMeant h lines keys l
miss_meant h at lines keys r p k seen l index numbered reads differ (line, y, there, target, same) =
    subst (λ m. IsMeant h lines keys m) (sym same) (go target)
  where
    go : IsMissTarget at (length h) r k seen line y → IsMeant h lines keys (record { from = r; to = y.0; reason = Missed p y.1 })
    go (inl (front, w, back, is, known, unknown)) = inl (record {
      source = ended_within h r reads.0.0 reads.0.1;
      target = append_within h y.0 y.1 k w (index.found k w y.0 y.1 unknown.1);
      differ = subst (λ (m : Link). m.from ≢ m.to) same differ;
      shown = (k, w, seen, index.found k w y.0 y.1 unknown.1, reads, unknown.0);
    })
    go (inr (known, to)) = inr (inl (record {
      source = ended_within h r reads.0.0 reads.0.1;
      number = line.number;
      key = k;
      read = p;
      append = y.1;
      seen = seen;
      target = to;
      numbered = numbered k line there;
      reason_is = refl;
      reads = reads;
      known = λ v has. known_of h at r k seen v index (known v (subst (λ o. Has (values_or_none o) v) there has));
    }))

-- the nodes of links with a meaning are transactions and ends of lines
pub meant_within : (h : List Transaction) (lines : KeyLines) (keys : List ℕ) (links : List Link) → AreMeant h lines keys links
    → AreWithin links (length h + length keys)
meant_within h lines keys links meant l is = go (meant l is)
  where
    go : IsMeant h lines keys l → (l.from < length h + length keys) × (l.to < length h + length keys)
    go (inl it) = (omega (arith, it.source), omega (arith, it.target))
    go (inr (inl it)) = (omega (arith, it.source), omega (arith, it.target, slice_get_within keys it.number it.key it.numbered))
    go (inr (inr it)) = (omega (arith, it.source, slice_get_within keys it.number it.key it.numbered), omega (arith, it.target))

same_key : (o : Option ℕ) (x y : ℕ) → o ≡ Some x → o ≡ Some y → x ≡ y
same_key o x y one other = by (sym one ∙ other)
  where
    by : Some x ≡ Some y → x ≡ y
    by e = cc

-- two links through the end of a line
turn_shown : (h : List Transaction) (lines : KeyLines) (keys : List ℕ) (l m : Link) → KnowsNoMore h lines → LeadsToEnd h lines keys l
    → LeadsFromEnd h lines keys m → l.to ≡ m.from → EdgeIsShown h (edge_after (Some l) m)
turn_shown h lines keys l m no_more a b meet = (
  (λ e. unknown (inr (subst (λ t. Appends h t a.key b.value) (sym e) (at_appends h m.to b.append a.key b.value appends)))),
  subst (λ n. IsShown h l.from m.to (Missed n (append_in m.reason))) (sym (ap read_in a.reason_is))
      (subst (λ n. IsShown h l.from m.to (Missed a.read n)) (sym (ap append_in b.reason_is))
      (a.key, b.value, a.seen, appends, a.reads, (λ has. unknown (inl has)))),
)
  where
    numbers : b.number ≡ a.number
    numbers = omega (arith, sym a.target ∙ meet ∙ b.source)

    keys_same : b.key ≡ a.key
    keys_same = same_key (slice_get keys b.number) b.key a.key b.numbered
        (subst (λ n. slice_get keys n ≡ Some a.key) (sym numbers) a.numbered)

    appends : AppendAt h m.to b.append a.key b.value
    appends = subst (λ k. AppendAt h m.to b.append k b.value) keys_same b.appends

    unknown : ¬ IsKnown h l.from a.key a.seen b.value
    unknown known = b.not_there (subst (λ k. Has (values_in lines k) b.value) (sym keys_same)
        (no_more l.from a.key (own_at h l.from a.read a.key) a.seen a.reads.0 (reads_at h l.from a.read a.key a.seen a.reads.1) a.known
        b.value known))

-- links with a meaning make edges
pub make_edges : (h : List Transaction) (lines : KeyLines) (keys : List ℕ) (links : List Link) → KnowsNoMore h lines
    → AreMeant h lines keys links → MakeEdges h links
make_edges h lines keys links no_more meant = record {
  direct = λ l is from to. direct l (meant l is) from to;
  turn = λ l m is other meet beyond. turn l m (meant l is) (meant m other) meet beyond;
  apart = λ l is. apart l (meant l is);
}
  where
    direct : (l : Link) → IsMeant h lines keys l → l.from < length h → l.to < length h → EdgeIsShown h (edge_after None l)
    direct l (inl it) from to = (it.differ, it.shown)
    direct l (inr (inl it)) from to = absurd (omega (arith, it.target, to))
    direct l (inr (inr it)) from to = absurd (omega (arith, it.source, from))

    turn : (l m : Link) → IsMeant h lines keys l → IsMeant h lines keys m → l.to ≡ m.from → length h ≤ l.to
        → EdgeIsShown h (edge_after (Some l) m)
    turn l m (inl it) other meet beyond = absurd (omega (arith, it.target, beyond))
    turn l m (inr (inr it)) other meet beyond = absurd (omega (arith, it.target, beyond))
    turn l m (inr (inl it)) (inl other) meet beyond = absurd (omega (arith, other.source, beyond, meet))
    turn l m (inr (inl it)) (inr (inl other)) meet beyond = absurd (omega (arith, other.source, beyond, meet))
    turn l m (inr (inl it)) (inr (inr other)) meet beyond = turn_shown h lines keys l m no_more it other meet

    apart : (l : Link) → IsMeant h lines keys l → (l.from < length h) ⊎ (l.to < length h)
    apart l (inl it) = inl it.source
    apart l (inr (inl it)) = inl it.source
    apart l (inr (inr it)) = inr it.target

-- a link from the end of a line to the appender of a value that is not in it
pub unseen_meant : (h : List Transaction) (lines : KeyLines) (keys : List ℕ) (t p end : ℕ) (l : Link) → AreNumbered lines keys
    → IsEndBefore h lines t p end → l ≡ record { from = end; to = t; reason = Missed 0 p } → LeadsFromEnd h lines keys l
unseen_meant h lines keys t p end l numbered (k, v, line, at, there, not, is) same =
    subst (λ m. LeadsFromEnd h lines keys m) (sym same) (record {
      target = append_within h t p k v at;
      number = line.number;
      key = k;
      value = v;
      read = 0;
      append = p;
      source = is;
      numbered = numbered k line there;
      reason_is = refl;
      appends = at;
      not_there = λ has. not (subst (λ o. Has (values_or_none o) v) there has);
    })

same_line : (o : Option Line) (a b : Line) → o ≡ Some a → o ≡ Some b → a ≡ b
same_line o a b one other = by (sym one ∙ other)
  where
    by : Some a ≡ Some b → a ≡ b
    by e = cc

pub unseen_linked : (h : List Transaction) (lines : KeyLines) (links : List Link) (t p end : ℕ) → IsEndBefore h lines t p end
    → IsLinked links end t → IsAppendLinkedAt h lines links t p
unseen_linked h lines links t p end (k, v, line, at, there, not, is) linked l w runs other line' is_there absent =
    let same = same_append (operations_of h t) p k v l w at other in
    let lines_same : line ≡ line' = same_line (lines l) line line' (subst (λ m. lines m ≡ Some line) same.0 there) is_there in
    subst (λ (o : Line). IsLinked links (length h + o.number) t) lines_same (subst (λ n. IsLinked links n t) is linked)

pub unseen_none : (h : List Transaction) (lines : KeyLines) (links : List Link) (t p : ℕ)
    → ((k v : ℕ) → MayRun h t → AppendAt h t p k v → (lines k ≡ None) ⊎ Has (values_in lines k) v) → IsAppendLinkedAt h lines links t p
unseen_none h lines links t p none k v runs at line there absent = go (none k v runs at)
  where
    never : ¬ (None ≡ Some line)
    never e = cc

    go : (lines k ≡ None) ⊎ Has (values_in lines k) v → IsLinked links (length h + line.number) t
    go (inl no_line) = absurd (never (sym no_line ∙ there))
    go (inr has) = absurd (absent (subst (λ o. Has (values_or_none o) v) there has))
