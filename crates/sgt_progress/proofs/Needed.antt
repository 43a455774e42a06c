-- Edges stay, so a cycle stays.
use Rattle.std.specs.Prelude.{◌≡◌, ◌≢◌, ℕ, ◌+◌, true, false, ◌⊎◌, List, [], ◌∷◌, ◌++◌, length, Option, Some, None}
use Rattle.std.proofs.Common.{refl, sym, ap, ◌∙◌, subst, inl, inr, arith, length-append}
use Rattle.std.proofs.lemmas.Bool.{both_ways}
use Rattle.sgt_model.specs.declared.entry.Entry.{Entry}
use Rattle.sgt_model.specs.declared.event.Event.{Event}
use Rattle.sgt_model.specs.declared.event.Event.TheVariants.{Start, Step, Commit, Quit}
use Rattle.sgt_model.specs.declared.event.Event.TheVariants as event
use Rattle.sgt_model.specs.declared.reply.Reply.{Reply}
use Rattle.sgt_model.specs.declared.reply.Reply.TheVariants as reply
use Rattle.std.specs.Option.{option_or}
use Rattle.sgt_model.specs.declared.kind.Kind.{Kind}
use Rattle.sgt_model.specs.Contents.{Key}
use Rattle.sgt_model.specs.Paths.{PathOf, last_of, Member, Acyclic}
use Rattle.sgt_model.specs.Accesses.{Access, access_in, access_of}
use Rattle.sgt_model.specs.Fates.{ending_in, fate_of, has_aborted, aborted, live}
use Rattle.sgt_model.specs.Pairs.{has_conflicting, FollowsIn, Precedes, Pair}
use Rattle.sgt_model.specs.Closes.{Closes}
use Rattle.sgt_model.specs.Configurations.{Configuration}
use Rattle.sgt_model.specs.Traces.{Next, Looks, Puts, Ends, Raises}
use Rattle.sgt_model.specs.Progress.{requested, next_of}
use Rattle.sgt_model.specs.Aborts.{Wants, IsAccessBy}
use Rattle.sgt_model.specs.Legality.{Legal, LegalReply, StepReply}
use Rattle.sgt_model.proofs.Facts.{live-stands}
use Rattle.sgt_model.proofs.Paths.{path-append, last_of-append, last_is_member}
use Rattle.sgt_model.proofs.NoCycle.{Granted, no_cycle_grows, no_cycle}
use Rattle.sgt_progress.specs.Needed.{is_rejection, Requests, ClosedCyclesStay, CyclesAloneAreRejected}
use Rattle.sgt_progress.proofs.Moves.{of_live, request_reply}

-- what comes before comes before in a longer history
pub precedes_later : (later past : List Entry) (a b : ℕ) → Precedes past a b → Precedes (later ++ past) a b
precedes_later [] past a b p = p
precedes_later (e ∷ later) past a b p = inr (precedes_later later past a b p)

-- the edge of the access from the path's last member
pub closing_precedes : (past : List Entry) (t : ℕ) (k : Key) (kind : Kind) (a : ℕ) → has_conflicting past a k kind ≡ true
    → (e : Entry) → IsAccessBy (access_of e) t k kind → Precedes (e ∷ past) a t
closing_precedes past t k kind a conflict e is = inl (go (access_of e) is)
  where
    go : (x : Option Access) → IsAccessBy x t k kind → FollowsIn past x a t
    go None h = absurd h
    go (Some x) (by, key, same_kind) = (by, rw (key, same_kind) conflict)

-- an edge between members that stand
module _ (past : List Entry) (t : ℕ) (k : Key) (kind : Kind) (e : Entry) (is : IsAccessBy (access_of e) t k kind) (later : List Entry) where
  edges_stay : (a : ℕ) (path : List ℕ) → ((u : ℕ) → Member u (a ∷ path) → aborted (later ++ e ∷ past) u ≡ false)
      → PathOf (Pair past) a path → PathOf (Pair (later ++ e ∷ past)) a path
  edges_stay a [] stand p = tt
  edges_stay a (b ∷ path) stand p = (
    record {
      apart = p.0.apart;
      first_stands = stand a (inl refl);
      second_stands = stand b (inr (inl refl));
      precedes = precedes_later later (e ∷ past) a b (inr p.0.precedes);
    },
    edges_stay b path (λ u m. stand u (inr m)) p.1,
  )

pub apart_from_last : (past : List Entry) (t : ℕ) (k : Key) (kind : Kind) (rest : List ℕ) → Closes past t k kind rest → last_of t rest ≢ t
apart_from_last past t k kind [] c e = omega (arith, c.at_least_two)
apart_from_last past t k kind (u ∷ rest) c e = c.distinct.0 (subst (λ x. Member x (u ∷ rest)) e (last_is_member t u rest))

pub last_member : (t : ℕ) (rest : List ℕ) → Member (last_of t rest) (t ∷ rest)
last_member t [] = inl refl
last_member t (u ∷ rest) = inr (last_is_member t u rest)

pub closed_cycles_stay : ClosedCyclesStay
closed_cycles_stay past t k kind rest c e is later stand acyclic =
    let whole : List Entry = later ++ e ∷ past in
    let closing : Pair whole (last_of t rest) t = record {
      apart = apart_from_last past t k kind rest c;
      first_stands = stand (last_of t rest) (last_member t rest);
      second_stands = stand t (inl refl);
      precedes = precedes_later later (e ∷ past) (last_of t rest) t (closing_precedes past t k kind (last_of t rest) c.conflict e is);
    } in
    let long : length (rest ++ t ∷ []) ≡ length rest + 1 = length-append rest (t ∷ []) in
    acyclic t (rest ++ t ∷ []) (omega arith)
    (path-append (Pair whole) t rest (t ∷ []) (edges_stay past t k kind e is later t rest stand c.pairs) (closing, tt))
    (last_of-append t rest (t ∷ []))

-- the members of a path of edges stand
members_stand : (past : List Entry) (t : ℕ) (rest : List ℕ) → aborted past t ≡ false → PathOf (Pair past) t rest → (u : ℕ)
    → Member u (t ∷ rest) → aborted past u ≡ false
members_stand past t rest stands p u (inl e) = ap (aborted past) e ∙ stands
members_stand past t [] stands p u (inr m) = absurd m
members_stand past t (v ∷ rest) stands p u (inr m) = members_stand past v rest p.0.second_stands p.1 u m

pub access_ends : (event : Event) (r : Reply) (t : ℕ) (k : Key) (kind : Kind) → IsAccessBy (access_in event r) t k kind → (u : ℕ)
    → ending_in event r u ≡ None
access_ends event (reply.Committed answers) t k kind is u = absurd is
access_ends event (reply.Aborted why fell) t k kind is u = absurd is
access_ends event (reply.Refused code fell) t k kind is u = absurd is
access_ends event _ t k kind is u = refl

pub access_aborts : (e : Entry) (past : List Entry) (t : ℕ) (k : Key) (kind : Kind) → IsAccessBy (access_of e) t k kind → (u : ℕ)
    → aborted (e ∷ past) u ≡ aborted past u
access_aborts e past t k kind is u = ap (λ ending. has_aborted (option_or ending (fate_of past u)))
    (access_ends e.event e.reply t k kind is u)

-- an access that closes no cycle leaves none
pub free_acyclic : (s : Configuration) (past : List Entry) → Legal s past → (t : ℕ) (k : Key) (kind : Kind) (e : Entry)
    → IsAccessBy (access_of e) t k kind
    → ((rest : List ℕ) → Closes past t k kind rest → ⊥) → Acyclic (Pair (e ∷ past))
free_acyclic s past legal t k kind e is free =
    no_cycle_grows past (access_of e) (Pair (e ∷ past)) (granted (access_of e) is) (λ a b p. (
      p.apart,
      sym (access_aborts e past t k kind is a) ∙ p.first_stands,
      sym (access_aborts e past t k kind is b) ∙ p.second_stands,
      p.precedes,
    )) (no_cycle s past legal)
  where
    granted : (o : Option Access) → IsAccessBy o t k kind → Granted past o
    granted None h = tt
    granted (Some a) (by, key, same_kind) = λ rest c. free rest (rw (by, key, same_kind) at c)

-- an access that is asked for is rejected, and a cycle would be closed; or it is not, and none would be
pub rejected_or_free : (s : Configuration) (past : List Entry) (event : Event) (t : ℕ) (k : Key) (kind : Kind) (r : Reply)
    → live past t ≡ true
    → Requests s past event t k kind → LegalReply s past event r
    → ((is_rejection r ≡ true) × ((rest : List ℕ) × Closes past t k kind rest))
    ⊎ ((is_rejection r ≡ false) × ((rest : List ℕ) → Closes past t k kind rest → ⊥))
rejected_or_free s past asked t k kind r alive asks legal = by_event asked asks legal
  where
    by_next : (n : Next) → Wants n k kind → StepReply s past t n r
        → ((is_rejection r ≡ true) × ((rest : List ℕ) × Closes past t k kind rest))
        ⊎ ((is_rejection r ≡ false) × ((rest : List ℕ) → Closes past t k kind rest → ⊥))
    by_next (Looks j) (key, same) (inl c) = inl (ap is_rejection c.aborts.is, (c.rest, rw (key, same) c.closes))
    by_next (Looks j) (key, same) (inr m) = inr (ap is_rejection m.is, λ rest c. m.free rest (rw (key, same) at c))
    by_next (Puts j v) (key, same) (inl c) = inl (ap is_rejection c.aborts.is, (c.rest, rw (key, same) c.closes))
    by_next (Puts j v) (key, same) (inr m) = inr (ap is_rejection m.is, λ rest c. m.free rest (rw (key, same) at c))
    by_next (Ends answers) w h = absurd w
    by_next (Raises code) w h = absurd w

    by_event : (v : Event) → Requests s past v t k kind → LegalReply s past v r
        → ((is_rejection r ≡ true) × ((rest : List ℕ) × Closes past t k kind rest))
        ⊎ ((is_rejection r ≡ false) × ((rest : List ℕ) → Closes past t k kind rest → ⊥))
    by_event (Step u) (same, wants) h = by_next (next_of s past t) wants
        (of_live past t r _ alive (subst (λ v. LegalReply s past (Step v) r) same h))
    by_event (event.Access u d) (same, may, wants) h = by_next (requested d) wants
        (request_reply s past t d may.answers r alive may.end may.fit (subst (λ v. LegalReply s past (event.Access v d) r) same h))
    by_event (Start p args) asks h = absurd asks
    by_event (Commit u) asks h = absurd asks
    by_event (Quit u) asks h = absurd asks

pub cycles_alone_are_rejected : CyclesAloneAreRejected
cycles_alone_are_rejected s past legal event t k kind r e at = elim (rejected_or_free s past event t k kind r at.is_live at.asks at.legal) [
  | inl (is, (rest, closes)) ↦ (
    λ _. closed_cycles_stay past t k kind rest closes e at.makes []
        (λ u m. access_aborts e past t k kind at.makes u ∙ members_stand past t rest (live-stands past t at.is_live) closes.pairs u m),
    λ _. is,
  )
  | inr (is, free) ↦ (
    λ rejected. absurd (both_ways _ is rejected),
    λ cyclic. absurd (cyclic (free_acyclic s past legal t k kind e at.makes free)),
  )
]
