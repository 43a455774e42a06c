-- From a cycle of links to a cycle of edges.
use Rattle.std.proofs.Common.{◌≡◌, ◌≢◌, ◌⊎◌, ◌<◌, ◌≤◌, ◌+◌, ◌++◌, ℕ, zero, suc, List, [], ◌∷◌, Option, Some, None, length, take, drop, get_or, refl, sym, ap, ◌∙◌, subst, inl, inr, arith}
use Rattle.std.specs.Prelude.{slice_get}
use Rattle.std.proofs.lemmas.Grind.{common_steps}
use Rattle.std.proofs.lemmas.List.{take_all}
use Rattle.sgt_appends.specs.declared.sorting.Link.{Link}
use Rattle.sgt_appends.specs.declared.transaction.Transaction.{Transaction}
use Rattle.sgt_appends.specs.declared.witness.Edge.{Edge}
use Rattle.sgt_appends.specs.declared.witness.Reason.{Reason}
use Rattle.sgt_appends.specs.declared.witness.Reason.TheVariants.{Seen, Missed, InOrder}
use Rattle.sgt_appends.specs.Runs.{IsSerializable}
use Rattle.sgt_appends.specs.Precedences.{AppendsOnce, WasSeen, WasMissed, WereSeen, Precedes, IsPath}
use Rattle.sgt_appends.specs.Graphs.{IsAmong, AreAmong, LeadTo}
use Rattle.sgt_appends.specs.Witnesses.{AllPrecede, IsShown, EdgeIsShown, AreShown, EdgesLead, IsEdgeCycle}
use Rattle.sgt_appends.specs.Turns.{edge_after, MakeEdges, IsLoop, IsLoopBelow, IsEdgeAdded, origin, Waits, AreEdgesSoFar}
use Rattle.sgt_appends.proofs.Orders.{cycle_enough}
use Rattle.sgt_appends.proofs.Along.{saw_value, missed_value, saw_both}
use Rattle.sgt_appends.proofs.Filed.{at_appends}
use Rattle.sgt_appends.proofs.Passed.{has_seen_at}
use Rattle.sgt_appends.proofs.Sortings.{among_at, among_append, round_on, never_empty}

pub edges_lead_one : (a : ℕ) (es : List Edge) (e : Edge) → EdgesLead a es e.from → EdgesLead a (es ++ e ∷ []) e.to
edges_lead_one a [] e same = (sym same, refl)
edges_lead_one a (d ∷ es) e leads = (leads.0, edges_lead_one d.to es e leads.1)

pub shown_one : (h : List Transaction) (es : List Edge) (e : Edge) → AreShown h es → EdgeIsShown h e → AreShown h (es ++ e ∷ [])
shown_one h [] e shown here = (here, tt)
shown_one h (d ∷ es) e shown here = (shown.0, shown_one h es e shown.1 here)

no_edges : (es : List Edge) (e : Edge) → ¬ (es ++ e ∷ [] ≡ [])
no_edges [] e is = cc
no_edges (d ∷ es) e is = cc

drop_link : (links : List Link) (i : ℕ) (l : Link) → slice_get links i ≡ Some l → drop i links ≡ l ∷ drop (suc i) links
drop_link [] i l is = absurd (grind (arith, common_steps, is))
drop_link (x ∷ xs) zero l is = ap (λ y. y ∷ xs) (by is)
  where
    by : Some x ≡ Some l → x ≡ l
    by e = cc
drop_link (x ∷ xs) (suc i) l is = drop_link xs i l is

next_is : (i : ℕ) → suc i ≡ i + 1
next_is i = omega arith

not_none : (l : Link) → Some l ≢ None
not_none l e = cc

-- the link waits
waits_one : (h : List Transaction) (links : List Link) (i : ℕ) (edges : List Edge) (before : Option Link) (l : Link)
    → slice_get links i ≡ Some l → MakeEdges h links → AreEdgesSoFar h links i edges before → length h ≤ l.to
    → AreEdgesSoFar h links (i + 1) edges (Some l)
waits_one h links i edges before l here make so_far beyond = go before so_far.leads so_far.waits
  where
    rest : LeadTo so_far.at (l ∷ drop (i + 1) links) so_far.start
    rest = subst (λ n. LeadTo so_far.at (l ∷ drop n links) so_far.start) (next_is i)
        (subst (λ ls. LeadTo so_far.at ls so_far.start) (drop_link links i l here) so_far.rest)

    below : (l.from < length h) ⊎ (l.to < length h) → l.from < length h
    below (inl it) = it
    below (inr it) = absurd (omega (arith, it, beyond))

    go : (o : Option Link) → EdgesLead so_far.start edges (origin o so_far.at) → Waits (length h) links o so_far.at
        → AreEdgesSoFar h links (i + 1) edges (Some l)
    go (Some k) leads waits = absurd (omega (arith, waits.2, below (make.apart l (among_at links i l here)), rest.0))
    go None leads waits = record {
      start = so_far.start;
      below = so_far.below;
      at = l.to;
      leads = subst (λ n. EdgesLead so_far.start edges n) (sym rest.0) leads;
      rest = rest.1;
      shown = so_far.shown;
      waits = (among_at links i l here, refl, beyond);
      some = inr (inr (not_none l));
    }

-- the edge of the link is added
edge_one : (h : List Transaction) (links : List Link) (i : ℕ) (edges : List Edge) (before : Option Link) (l : Link)
    → slice_get links i ≡ Some l → MakeEdges h links → AreEdgesSoFar h links i edges before → l.to < length h
    → AreEdgesSoFar h links (i + 1) (edges ++ edge_after before l ∷ []) None
edge_one h links i edges before l here make so_far within = go before so_far.leads so_far.waits
  where
    rest : LeadTo so_far.at (l ∷ drop (i + 1) links) so_far.start
    rest = subst (λ n. LeadTo so_far.at (l ∷ drop n links) so_far.start) (next_is i)
        (subst (λ ls. LeadTo so_far.at ls so_far.start) (drop_link links i l here) so_far.rest)

    with : (e : Edge) → EdgesLead so_far.start edges e.from → EdgeIsShown h e → e.to ≡ l.to
        → AreEdgesSoFar h links (i + 1) (edges ++ e ∷ []) None
    with e leads shown to = record {
      start = so_far.start;
      below = so_far.below;
      at = l.to;
      leads = subst (λ n. EdgesLead so_far.start (edges ++ e ∷ []) n) to (edges_lead_one so_far.start edges e leads);
      rest = rest.1;
      shown = shown_one h edges e so_far.shown shown;
      waits = within;
      some = inr (inl (no_edges edges e));
    }

    go : (o : Option Link) → EdgesLead so_far.start edges (origin o so_far.at) → Waits (length h) links o so_far.at
        → AreEdgesSoFar h links (i + 1) (edges ++ edge_after o l ∷ []) None
    go None leads waits = with (edge_after None l) (subst (λ n. EdgesLead so_far.start edges n) (sym rest.0) leads)
        (make.direct l (among_at links i l here) (omega (arith, rest.0, waits)) within) refl
    go (Some k) leads waits = with (edge_after (Some k) l) leads
        (make.turn k l waits.0 (among_at links i l here) (waits.1 ∙ sym rest.0) (omega (arith, waits.1, waits.2))) refl

-- one link more
pub edges_one : (h : List Transaction) (links : List Link) (i : ℕ) (edges new : List Edge) (before waits : Option Link) (l : Link)
    → slice_get links i ≡ Some l → MakeEdges h links → AreEdgesSoFar h links i edges before
    → IsEdgeAdded (length h) edges new before l waits → AreEdgesSoFar h links (i + 1) new waits
edges_one h links i edges new before waits l here make so_far (inl it) =
    subst (λ w. AreEdgesSoFar h links (i + 1) new w) (sym it.1)
    (subst (λ es. AreEdgesSoFar h links (i + 1) es (Some l)) (sym it.2) (waits_one h links i edges before l here make so_far it.0))
edges_one h links i edges new before waits l here make so_far (inr it) =
    subst (λ w. AreEdgesSoFar h links (i + 1) new w) (sym it.1)
    (subst (λ es. AreEdgesSoFar h links (i + 1) es None) (sym it.2) (edge_one h links i edges before l here make so_far it.0))

drop_all : (links : List Link) (i : ℕ) → length links ≤ i → drop i links ≡ []
drop_all [] zero whole = refl
drop_all [] (suc i) whole = refl
drop_all (x ∷ xs) zero whole = absurd (omega (arith, whole))
drop_all (x ∷ xs) (suc i) whole = drop_all xs i (omega (arith, whole))

-- all links
pub edges_whole : (h : List Transaction) (links : List Link) (i : ℕ) (edges : List Edge) (before : Option Link)
    → AreEdgesSoFar h links i edges before → length links ≤ i → links ≢ [] → IsEdgeCycle h edges
edges_whole h links i edges before so_far whole some = go before so_far.leads so_far.waits so_far.some
  where
    closed : so_far.at ≡ so_far.start
    closed = subst (λ ls. LeadTo so_far.at ls so_far.start) (drop_all links i whole) so_far.rest

    empty : (ls : List Link) → length ls ≤ 0 → ls ≡ []
    empty [] none = refl
    empty (x ∷ ls) none = absurd (omega (arith, none))

    any : (o : Option Link) → o ≡ None → (i ≡ 0) ⊎ ((edges ≢ []) ⊎ (o ≢ None)) → edges ≢ []
    any o none (inl no_links) = absurd (some (empty links (omega (arith, whole, no_links))))
    any o none (inr (inl it)) = it
    any o none (inr (inr never)) = absurd (never none)

    go : (o : Option Link) → EdgesLead so_far.start edges (origin o so_far.at) → Waits (length h) links o so_far.at
        → (i ≡ 0) ⊎ ((edges ≢ []) ⊎ (o ≢ None)) → IsEdgeCycle h edges
    go (Some k) leads waits no_matter = absurd (omega (arith, waits.2, closed, so_far.below))
    go None leads waits there = record {
      start = so_far.start;
      leads = subst (λ n. EdgesLead so_far.start edges n) closed leads;
      some = any None refl there;
      shown = so_far.shown;
    }

-- what an edge shows
-- what a reason shows
pub shown_seen : (h : List Transaction) (from to append read : ℕ) → IsShown h from to (Seen append read) → WasSeen h from to
shown_seen h from to append read (k, v, seen, appends, reads, has) =
    saw_value h to k from v seen (has_seen_at h to read k seen reads) (at_appends h from append k v appends) has

pub shown_missed : (h : List Transaction) (from to read append : ℕ) → IsShown h from to (Missed read append) → WasMissed h from to
shown_missed h from to read append (k, v, seen, appends, reads, has_not) =
    missed_value h from k to v seen (has_seen_at h from read k seen reads) (at_appends h to append k v appends) has_not

pub shown_in_order : (h : List Transaction) (from to first second reader read : ℕ) → IsShown h from to (InOrder first second reader read)
    → WereSeen h from to
shown_in_order h from to first second reader read (k, v, w, seen, one, other, reads, stands) =
    saw_both h reader k from to v w seen (has_seen_at h reader read k seen reads) (at_appends h from first k v one)
    (at_appends h to second k w other) stands

shown_precedes : (h : List Transaction) (from to : ℕ) (reason : Reason) → from ≢ to → IsShown h from to reason → Precedes h from to
shown_precedes h from to (Seen append read) differ it = (differ, inl (shown_seen h from to append read it))
shown_precedes h from to (Missed read append) differ it = (differ, inr (inl (shown_missed h from to read append it)))
shown_precedes h from to (InOrder first second reader read) differ it =
    (differ, inr (inr (shown_in_order h from to first second reader read it)))

pub all_precede : (h : List Transaction) (es : List Edge) → AreShown h es → AllPrecede h es
all_precede h [] shown i e at = absurd (grind (arith, common_steps, at))
all_precede h (d ∷ es) shown zero e at =
    subst (λ (f : Edge). Precedes h f.from f.to) (by at) (shown_precedes h d.from d.to d.reason shown.0.0 shown.0.1)
  where
    by : Some d ≡ Some e → d ≡ e
    by same = cc
all_precede h (d ∷ es) shown (suc i) e at = all_precede h es shown.1 i e at

path_of : (h : List Transaction) (e : Edge) (es : List Edge) (b : ℕ) → AreShown h (e ∷ es) → EdgesLead e.to es b
    → (others : List ℕ) × IsPath h e.from others b
path_of h e [] b shown leads = ([], subst (λ n. Precedes h e.from n) leads (shown_precedes h e.from e.to e.reason shown.0.0 shown.0.1))
path_of h e (f ∷ es) b shown leads =
    let rest = path_of h f es b shown.1 leads.1 in (
      f.from ∷ rest.0,
      (subst (λ n. Precedes h e.from n) (sym leads.0) (shown_precedes h e.from e.to e.reason shown.0.0 shown.0.1), rest.1),
    )

-- a cycle of edges is a witness
pub cycle_shown : (h : List Transaction) (es : List Edge) → AppendsOnce h → IsEdgeCycle h es → ¬ IsSerializable h
cycle_shown h es once cycle = go es cycle.some cycle.leads cycle.shown
  where
    go : (fs : List Edge) → fs ≢ [] → EdgesLead cycle.start fs cycle.start → AreShown h fs → ¬ IsSerializable h
    go [] some leads shown = absurd (some refl)
    go (e ∷ fs) some leads shown =
        let path = path_of h e fs cycle.start shown leads.1 in
        cycle_enough h cycle.start path.0 once (subst (λ n. IsPath h n path.0 cycle.start) leads.0 path.1)

-- edges that lead back to where they start are a cycle
pub closed_cycle : (h : List Transaction) (start at i : ℕ) (edges : List Edge) → EdgesLead start (take i edges) at → AreShown h (take i edges)
    → length edges ≤ i → 0 < length edges → at ≡ start → IsEdgeCycle h edges
closed_cycle h start at i edges leads shown whole some same = record {
  start = start;
  leads = subst (λ n. EdgesLead start edges n) same (subst (λ es. EdgesLead start es at) (take_all i edges whole) leads);
  some = λ e. absurd (omega (arith, some, ap length e));
  shown = subst (λ es. AreShown h es) (take_all i edges whole) shown;
}

-- the same cycle, one link later
pub turned_loop : (h : List Transaction) (l : Link) (rest : List Link) → IsLoop (l ∷ rest) → MakeEdges h (l ∷ rest)
    → ¬ (l.from < length h) → IsLoopBelow (length h) (rest ++ l ∷ []) × AreAmong (rest ++ l ∷ []) (l ∷ rest)
turned_loop h l rest loop make beyond = (
  record {
    node = l.to;
    leads = round_on rest l l.to loop.node loop.leads.1 loop.leads.0;
    some = never_empty rest l;
    below = below (make.apart l (inl refl));
  },
  (λ k is. around k (among_append rest (l ∷ []) k is)),
)
  where
    below : (l.from < length h) ⊎ (l.to < length h) → l.to < length h
    below (inl it) = absurd (beyond it)
    below (inr it) = it

    around : (k : Link) → IsAmong rest k ⊎ IsAmong (l ∷ []) k → IsAmong (l ∷ rest) k
    around k (inl it) = inr it
    around k (inr (inl same)) = inl same
    around k (inr (inr never)) = absurd never

pub make_fewer : (h : List Transaction) (links few : List Link) → MakeEdges h links → AreAmong few links → MakeEdges h few
make_fewer h links few make among = record {
  direct = λ l is from to. make.direct l (among l is) from to;
  turn = λ l m is other meet beyond. make.turn l m (among l is) (among m other) meet beyond;
  apart = λ l is. make.apart l (among l is);
}

-- the same cycle from its second link on, if the first begins at the end of a line
pub turned_below : (h : List Transaction) (links : List Link) (d : Link) → IsLoop links → MakeEdges h links
    → length h ≤ (get_or links 0 d).from
    → IsLoopBelow (length h) (drop 1 links ++ take 1 links) × MakeEdges h (drop 1 links ++ take 1 links)
turned_below h [] d loop make beyond = absurd (loop.some refl)
turned_below h (x ∷ rest) d loop make beyond =
    let turned = turned_loop h x rest loop make (λ less. omega (arith, less, beyond)) in
    (turned.0, make_fewer h (x ∷ rest) (rest ++ x ∷ []) make turned.1)
