-- In a legal history each edge of the cycle of an abort exists, and is a conflict.
use Rattle.std.proofs.Common.{◌≡◌, ◌≢◌, ℕ, zero, suc, ◌+◌, ◌<◌, true, false, List, [], ◌∷◌, reverse, Option, Some, None, IfSome, IsSome, length, refl, sym, ap, subst, ◌∙◌, arith, slice_get}
use Rattle.std.proofs.lemmas.Option.{slice_get_within}
use Rattle.sgt_model.specs.declared.event.Event.{Event}
use Rattle.sgt_model.specs.declared.event.Event.TheVariants.{Start, Step, Access, Commit, Quit}
use Rattle.sgt_model.specs.declared.reply.Reply.{Reply}
use Rattle.sgt_model.specs.declared.reply.Reply.TheVariants as reply
use Rattle.sgt_model.specs.declared.reply.Cause.TheVariants as cause
use Rattle.sgt_model.specs.declared.entry.Entry.{Entry}
use Rattle.sgt_model.specs.declared.kind.Kind.{Kind}
use Rattle.sgt_model.specs.Contents.{Key}
use Rattle.sgt_model.specs.Traces.{Next, Looks, Puts, Ends, Raises}
use Rattle.sgt_model.specs.Paths.{PathOf, last_of, Member}
use Rattle.sgt_model.specs.Fates.{aborted}
use Rattle.sgt_model.specs.Questions.{named_by}
use Rattle.sgt_model.specs.Pairs.{has_conflicting, Pair}
use Rattle.sgt_model.specs.Closes.{Closes}
use Rattle.sgt_model.specs.Configurations.{Configuration}
use Rattle.sgt_model.specs.Legality.{Legal}
use Rattle.sgt_model.specs.Aborts.{Wants, ClosesCycle, ReplyIsJustified}
use Rattle.sgt_model.proofs.Aborts.{aborts_have_cause}
use Rattle.sgt_model.proofs.Facts.{some_is}
use Rattle.sgt_model.proofs.NoOrder.{pair_made}
use Rattle.sgt_model.proofs.Paths.{last_is_member}
use Rattle.sgt_explain.specs.declared.edge.CycleEdge.{CycleEdge}
use Rattle.sgt_explain.specs.declared.explanation.Pending.{Pending}
use Rattle.sgt_explain.specs.Places.{entries_before, cycle_in, listed_by, placed_cycle}
use Rattle.sgt_explain.specs.CycleEdges.{ReportsFrom, ReportsEdge, HasEdgeFrom, HasEdge, wanted_by, WasAbout, IsPairAt}
use Rattle.sgt_explain.proofs.Prefixes.{entry_there, legal_there}

-- along a path

-- one and the next are so; and the last, which has no next, is so
abbrev Along : (ℕ → ℕ → Type 0) → (ℕ → Type 0) → (one next : Option ℕ) → Type 0
Along pair last None next = ⊥
Along pair last (Some a) (Some b) = pair a b
Along pair last (Some a) None = last a

along_path : (pair : ℕ → ℕ → Type 0) (last : ℕ → Type 0) (t : ℕ) (rest : List ℕ) → PathOf pair t rest → last (last_of t rest)
    → (n : ℕ) → n < length (t ∷ rest) → Along pair last (slice_get (t ∷ rest) n) (slice_get (t ∷ rest) (suc n))
along_path pair last t [] p l zero below = l
along_path pair last t (u ∷ rest) p l zero below = p.0
along_path pair last t [] p l (suc n) below = absurd (omega (arith, below))
along_path pair last t (u ∷ rest) p l (suc n) below = along_path pair last u rest p.1 l n (omega (arith, below))

-- the last of a path is not aborted
last_stands : (past : List Entry) (t u : ℕ) (rest : List ℕ) → PathOf (Pair past) t (u ∷ rest)
    → aborted past (last_of t (u ∷ rest)) ≡ false
last_stands past t u [] p = p.0.second_stands
last_stands past t u (v ∷ rest) p = last_stands past u v rest p.1

-- for a path that an access would close to a cycle: its first and its last transaction
record Closing (past : List Entry) (t : ℕ) (k : Key) (kind : Kind) (a : ℕ) : Type 0 where
  apart : a ≢ t
  last_stands : aborted past a ≡ false
  first_stands : aborted past t ≡ false
  conflict : has_conflicting past a k kind ≡ true

closing : (past : List Entry) (t : ℕ) (k : Key) (kind : Kind) (rest : List ℕ) → Closes past t k kind rest
    → Closing past t k kind (last_of t rest)
closing past t k kind [] h = absurd (let few = h.at_least_two in omega (arith, few))
closing past t k kind (u ∷ rest) h = record {
  apart = λ same. h.distinct.0 (subst (λ x. Member x (u ∷ rest)) same (last_is_member t u rest));
  last_stands = last_stands past t u rest h.pairs;
  first_stands = h.pairs.0.first_stands;
  conflict = h.conflict;
}

along_closed : (past : List Entry) (t : ℕ) (k : Key) (kind : Kind) (rest : List ℕ) → Closes past t k kind rest → (n : ℕ)
    → n < length (t ∷ rest) → Along (Pair past) (Closing past t k kind) (slice_get (t ∷ rest) n) (slice_get (t ∷ rest) (n + 1))
along_closed past t k kind rest h n below = let one : n + 1 ≡ suc n = omega arith in
    subst (λ m. Along (Pair past) (Closing past t k kind) (slice_get (t ∷ rest) n) (slice_get (t ∷ rest) m)) (sym one)
    (along_path (Pair past) (Closing past t k kind) t rest h.pairs (closing past t k kind rest h) n below)

-- what comes of it

edge_from : (entries : List Entry) (end t : ℕ) (k : Key) (kind : Kind) (one next : Option ℕ)
    → Along (Pair (entries_before entries end)) (Closing (entries_before entries end) t k kind) one next
    → HasEdgeFrom entries end k kind one next
edge_from entries end t k kind None next h = h
edge_from entries end t k kind (Some a) (Some b) h = h.precedes
edge_from entries end t k kind (Some a) None h = h.conflict

pair_from : (entries : List Entry) (end t : ℕ) (p : Pending) (edge : CycleEdge) (one next first : Option ℕ) → first ≡ Some t
    → Along (Pair (entries_before entries end)) (Closing (entries_before entries end) t p.key p.kind) one next
    → ReportsFrom entries end p edge one next first
    → IsPairAt entries end edge
pair_from entries end t p edge None next first is along reported = absurd along
pair_from entries end t p edge (Some a) (Some b) first is along reported =
    let access = reported.access in
    rw (access.place_is, access.from, access.to) along
pair_from entries end t p edge (Some a) None None is along reported = absurd reported
pair_from entries end t p edge (Some a) None (Some u) is along reported =
    let first : u ≡ t = some_is u t is in
    rw (reported.place_is, reported.from, reported.to, reported.key_is, reported.kind_is, first) (λ e by.
    pair_made e (entries_before entries end) t p.key p.kind by a along.apart along.last_stands along.first_stands along.conflict)

-- the cycle of a legal abort

-- the entry aborts t because of this cycle, which an access that it was about to make would close
record ByCycle (s : Configuration) (past : List Entry) (event : Event) (cycle : List ℕ) : Type 0 where
  t : ℕ
  named : named_by event ≡ Some t
  closes : ClosesCycle past t (wanted_by s past t event) cycle

by_cycle : (s : Configuration) (past : List Entry) (event : Event) (r : Reply) → ReplyIsJustified s past event r → (n : ℕ)
    → n < length (cycle_in r)
    → ByCycle s past event (cycle_in r)
by_cycle s past (Step t) (reply.Aborted (cause.Cycle cycle) fell) h n below = record { t = t; named = refl; closes = h.0 }
by_cycle s past (Access t d) (reply.Aborted (cause.Cycle cycle) fell) h n below = record { t = t; named = refl; closes = h.0 }
by_cycle s past (Start p args) (reply.Aborted (cause.Cycle cycle) fell) h n below = absurd h.0
by_cycle s past (Commit t) (reply.Aborted (cause.Cycle cycle) fell) h n below = absurd h.0
by_cycle s past (Quit t) (reply.Aborted (cause.Cycle cycle) fell) h n below = absurd h.0
by_cycle s past event (reply.Aborted (cause.Asked code) fell) h n below = absurd (omega (arith, below))
by_cycle s past event (reply.Aborted cause.Quit fell) h n below = absurd (omega (arith, below))
by_cycle s past event _ h n below = absurd (omega (arith, below))

wanted : (next : Next) (k j : Key) (kind other : Kind) → Wants next k kind → Wants next j other → (k ≡ j) × (kind ≡ other)
wanted (Looks i) k j kind other (key, is) (same, so) = (key ∙ sym same, is ∙ sym so)
wanted (Puts i v) k j kind other (key, is) (same, so) = (key ∙ sym same, is ∙ sym so)
wanted (Ends answers) k j kind other h g = absurd h
wanted (Raises code) k j kind other h g = absurd h

-- the cycle at a position of a legal history, by the access that its transaction was about to make
record PathAt (entries : List Entry) (place : ℕ) (k : Key) (kind : Kind) : Type 0 where
  t : ℕ
  rest : List ℕ
  cycle : placed_cycle entries place ≡ t ∷ rest
  closes : Closes (entries_before entries place) t k kind rest

path_at : (s : Configuration) (entries : List Entry) (place n : ℕ) (k : Key) (kind : Kind) → place < length entries → Legal s (reverse entries)
    → WasAbout s entries place k kind → n < length (placed_cycle entries place) → PathAt entries place k kind
path_at s entries place n k kind within legal about below =
    let (e, is) = entry_there entries place within in
    let legal_here = legal_there s entries place e is legal in
    let path_is : placed_cycle entries place ≡ cycle_in e.reply = ap (listed_by (λ (x : Entry). cycle_in x.reply)) is in
    let why = by_cycle s (entries_before entries place) e.event e.reply
    (aborts_have_cause s (e ∷ entries_before entries place) legal_here).1 n (rw (sym path_is) below) in
    let same_entry : about.entry ≡ e = some_is _ _ (sym about.there ∙ is) in
    let named : about.by ≡ why.t = some_is _ _ (sym about.named ∙ ap (λ (x : Entry). named_by x.event) same_entry ∙ why.named) in
    let wants : Wants (wanted_by s (entries_before entries place) why.t e.event) k kind =
    subst (λ u. Wants (wanted_by s (entries_before entries place) u e.event) k kind) named
    (subst (λ (x : Entry). Wants (wanted_by s (entries_before entries place) about.by x.event) k kind) same_entry about.wants) in
    let same = wanted _ _ _ _ _ wants why.closes.wants in
    record { t = why.t; rest = why.closes.rest; cycle = path_is ∙ why.closes.is; closes = rw (same.0, same.1) why.closes.closes }

-- each edge is there
pub edges_are_there : (s : Configuration) (entries : List Entry) (place n : ℕ) (k : Key) (kind : Kind) → place < length entries
    → Legal s (reverse entries) → WasAbout s entries place k kind → n < length (placed_cycle entries place)
    → HasEdge entries place k kind (placed_cycle entries place) n
edges_are_there s entries place n k kind within legal about below =
    let w = path_at s entries place n k kind within legal about below in
    let short : n < length (w.t ∷ w.rest) = subst (λ l. n < length l) w.cycle below in
    subst (λ l. HasEdge entries place k kind l n) (sym w.cycle)
    (edge_from entries place w.t k kind _ _ (along_closed (entries_before entries place) w.t k kind w.rest w.closes n short))

-- and the edge returned is a conflict
reported_is_pair : (s : Configuration) (entries : List Entry) (place n : ℕ) (p : Pending) (edge : CycleEdge) → place < length entries
    → Legal s (reverse entries) → WasAbout s entries place p.key p.kind → n < length (placed_cycle entries place)
    → ReportsEdge entries place p (placed_cycle entries place) n edge → IsPairAt entries place edge
reported_is_pair s entries place n p edge within legal about below reported =
    let w = path_at s entries place n p.key p.kind within legal about below in
    let short : n < length (w.t ∷ w.rest) = subst (λ l. n < length l) w.cycle below in
    let reported_here = subst (λ l. ReportsEdge entries place p l n edge) w.cycle reported in
    pair_from entries place w.t p edge _ _ _ refl (along_closed (entries_before entries place)
    w.t p.key p.kind w.rest w.closes n short) reported_here

one_there : (entries : List Entry) (end : ℕ) (k : Key) (kind : Kind) (one next : Option ℕ) → HasEdgeFrom entries end k kind one next
    → (t : ℕ) × (one ≡ Some t)
one_there entries end k kind None next h = absurd h
one_there entries end k kind (Some t) next h = (t, refl)

pub reported_are_pairs : (entries : List Entry) (place n : ℕ) (p : Pending) → place < length entries → (reported : Option CycleEdge)
    → IfSome reported (ReportsEdge entries place p (placed_cycle entries place) n)
    → (IsSome reported → HasEdge entries place p.key p.kind (placed_cycle entries place) n)
    → IfSome reported (λ edge. (s : Configuration) → Legal s (reverse entries) → WasAbout s entries place p.key p.kind
    → IsPairAt entries place edge)
reported_are_pairs entries place n p within None reports there = tt
reported_are_pairs entries place n p within (Some edge) reports there = λ s legal about.
    let (t, is) = one_there entries place p.key p.kind _ _ (there refl) in
    reported_is_pair s entries place n p edge within legal about (slice_get_within (placed_cycle entries place) n t is) reports
