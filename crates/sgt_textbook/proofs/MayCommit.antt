-- Which histories are serializable if their live transactions commit now.
use Rattle.std.specs.Prelude.{◌≡◌, ℕ, zero, suc, ◌+◌, ◌<◌, true, false, ◌⊎◌, List, [], ◌∷◌, ◌++◌, length, Option, Some, None, slice_get}
use Rattle.std.proofs.Common.{refl, sym, ap, ◌∙◌, subst, inl, inr, arith, length-append}
use Rattle.std.proofs.lemmas.Bool.{both_ways}
use Rattle.sgt_model.specs.declared.entry.Entry.{Entry}
use Rattle.sgt_model.specs.declared.kind.Kind.{Kind}
use Rattle.sgt_model.specs.Contents.{Key}
use Rattle.sgt_model.specs.Paths.{PathOf, last_of, Member, Acyclic, Rising}
use Rattle.sgt_model.specs.Accesses.{Access, access_of}
use Rattle.sgt_model.specs.Fates.{ending_in, aborted, live, live_ones, started_ones}
use Rattle.sgt_model.specs.Pairs.{Pair}
use Rattle.sgt_model.specs.Closes.{Closes}
use Rattle.sgt_model.specs.Configurations.{Configuration}
use Rattle.sgt_model.specs.Aborts.{IsAccessBy}
use Rattle.sgt_model.specs.Legality.{Legal}
use Rattle.sgt_model.proofs.Facts.{some_is, committed-stands, live-stands, live-not_committed, status, precedes-started}
use Rattle.sgt_model.specs.declared.reply.Fate.{Fate}
use Rattle.sgt_model.specs.declared.reply.Fate.TheVariants as fate
use Rattle.sgt_model.proofs.PairOrder.{no_pair_from_live}
use Rattle.sgt_model.proofs.OneReply.{rising_below, rising_rest}
use Rattle.sgt_model.proofs.Rises.{live_ones-rise}
use Rattle.sgt_model.proofs.Listed.{member_kept}
use Rattle.sgt_model.proofs.Aborts.{aborts_have_cause}
use Rattle.sgt_progress.proofs.Drains.{live-listed}
use Rattle.sgt_model.proofs.NoCycle.{no_cycle}
use Rattle.sgt_model.proofs.Paths.{last_of-append}
use Rattle.sgt_classes.specs.declared.operation.Operation.{Operation}
use Rattle.sgt_classes.specs.declared.operation.Action.{Action}
use Rattle.sgt_classes.specs.declared.operation.Action.TheVariants as action
use Rattle.sgt_classes.specs.Histories.{Does, Uses, Ends, IsWellFormed}
use Rattle.sgt_classes.specs.Serializability.{Commits, IsEdge, IsPath}
use Rattle.sgt_classes.specs.Equivalence.{IsSerializable}
use Rattle.sgt_classes.proofs.EdgeDecisions.{acyclic_serializable, serializability_theorem}
use Rattle.sgt_textbook.specs.Textbook.{IsNumbering, textbook, operations_of, each_does}
use Rattle.sgt_textbook.proofs.Places.{split_at, in_second, still}
use Rattle.sgt_textbook.proofs.Entries.{does, each_is, reports}
use Rattle.sgt_textbook.proofs.Histories.{abort_aborted, commit_committed, conflict_precedes}
use Rattle.sgt_progress.proofs.Needed.{closing_precedes, access_ends, access_aborts, free_acyclic, rejected_or_free}
use Rattle.sgt_textbook.proofs.Ends.{well_formed}
use Rattle.sgt_textbook.specs.NeededAborts.{LiveOnesMayCommit, RejectsExactly, CyclesAreLive}
use Rattle.sgt_progress.proofs.Needed.{apart_from_last, last_member}
use Rattle.sgt_textbook.proofs.Rejections.{edge_more}

-- positions in lists

at_member : (l : List ℕ) (j u : ℕ) → slice_get l j ≡ Some u → Member u l
at_member [] j u is = absurd (cc)
at_member (v ∷ l) zero u is = let e : v ≡ u = cc in inl (sym e)
at_member (v ∷ l) (suc j) u is = inr (at_member l j u is)

member_at : (l : List ℕ) (t : ℕ) → Member t l → (j : ℕ) × (slice_get l j ≡ Some t)
member_at [] t m = absurd m
member_at (u ∷ l) t (inl e) = (0, ap (λ v. Some v) (sym e))
member_at (u ∷ l) t (inr m) = let p = member_at l t m in (suc p.0, p.1)

each_at : (a : Action) (l : List ℕ) (j t : ℕ) → slice_get l j ≡ Some t → slice_get (each_does a l) j ≡ Some (does t a)
each_at a [] j t at = absurd (cc)
each_at a (u ∷ l) zero t at = ap (λ v. Some (does v a)) (some_is u t at)
each_at a (u ∷ l) (suc j) t at = each_at a l j t at

rising_once : (l : List ℕ) → Rising l → (i j u : ℕ) → slice_get l i ≡ Some u → slice_get l j ≡ Some u → i ≡ j
rising_once [] r i j u at also = absurd (cc)
rising_once (v ∷ l) r zero zero u at also = refl
rising_once (v ∷ l) r zero (suc j) u at also = let e : v ≡ u = cc in let less = rising_below v l r u (at_member l j u also) in
    absurd (omega arith)
rising_once (v ∷ l) r (suc i) zero u at also = let e : v ≡ u = cc in let less = rising_below v l r u (at_member l i u at) in absurd
    (omega arith)
rising_once (v ∷ l) r (suc i) (suc j) u at also = let same = rising_once l (rising_rest v l r) i j u at also in omega arith

-- an edge from a live transaction leads to a live one
next_live : (s : Configuration) (past : List Entry) → Legal s past → (t u : ℕ) → live past t ≡ true → Pair past t u → live past u ≡ true
next_live s past h t u alive p = elim (status past u (precedes-started s past h t u p.precedes).1) [
  | inl lives ↦ lives
  | inr (inl c) ↦ absurd (no_pair_from_live s past h t u alive c p)
  | inr (inr a) ↦ absurd (both_ways _ p.second_stands a)
]

-- a history whose edges have no cycle, followed by commits of such as stand, is serializable
module _ (number : Key → ℕ) (injective : IsNumbering number) (whole : List Entry) (ones : List ℕ)
    (stood : (t : ℕ) → Commits (textbook number whole) t → aborted whole t ≡ false)
    (stand : (u : ℕ) → Member u ones → aborted whole u ≡ false) where
  abbrev all : List Operation
  all = textbook number whole ++ each_does action.Commit ones

  pub stands : (t : ℕ) → Commits all t → aborted whole t ≡ false
  stands t (i, at) = elim (split_at (textbook number whole) (each_does action.Commit ones) i _ at) [
    | inl old ↦ stood t (i, old.1)
    | inr new ↦ stand t (at_member ones new.0 t (each_is action.Commit ones new.0 t action.Commit new.2).1)
  ]

  -- an access is one of the history so far
  did : (i t : ℕ) (a : Action) → (a ≡ action.Commit → ⊥) → Does all i t a → Does (textbook number whole) i t a
  did i t a other at = elim (split_at (textbook number whole) (each_does action.Commit ones) i _ at) [
    | inl old ↦ old.1
    | inr new ↦ absurd (other (sym (each_is action.Commit ones new.0 t a new.2).0))
  ]

  used : (i t x : ℕ) → Uses all i t x → Uses (textbook number whole) i t x
  used i t x (inl at) = inl (did i t (action.Read x) (λ e. cc e) at)
  used i t x (inr at) = inr (did i t (action.Write x) (λ e. cc e) at)

  written : (i j t u x : ℕ) → Does all i t (action.Write x) ⊎ Does all j u (action.Write x)
      → Does (textbook number whole) i t (action.Write x) ⊎ Does (textbook number whole) j u (action.Write x)
  written i j t u x (inl at) = inl (did i t (action.Write x) (λ e. cc e) at)
  written i j t u x (inr at) = inr (did j u (action.Write x) (λ e. cc e) at)

  pair_of : (t u : ℕ) → IsEdge all t u → Pair whole t u
  pair_of t u edge = let c = edge.conflict in record {
    apart = edge.differ;
    first_stands = stands t edge.commits_first;
    second_stands = stands u edge.commits_second;
    precedes = conflict_precedes number injective whole edge.place edge.later t u edge.order
        (c.0, used edge.place t c.0 c.1, used edge.later u c.0 c.2, written edge.place edge.later t u c.0 c.3);
  }

  path_of : (t : ℕ) (others : List ℕ) (u : ℕ) → IsPath all t others u → PathOf (Pair whole) t (others ++ u ∷ [])
  path_of t [] u p = (pair_of t u p, tt)
  path_of t (v ∷ others) u p = (pair_of t v p.0, path_of v others u p.1)

  pub completed : Acyclic (Pair whole) → IsSerializable all
  completed acyclic = acyclic_serializable _ (λ t others p.
      let long : length (others ++ t ∷ []) ≡ length others + 1 = length-append others (t ∷ []) in
      acyclic t (others ++ t ∷ []) (omega arith) (path_of t others t p) (last_of-append t others (t ∷ [])))

committed_stood : (number : Key → ℕ) (s : Configuration) (past : List Entry) → Legal s past → (t : ℕ)
    → Commits (textbook number past) t → aborted past t ≡ false
committed_stood number s past h t c = committed-stands past t (commit_committed number s past h c.0 t c.1)

pub live_ones_may_commit : LiveOnesMayCommit
live_ones_may_commit number injective s past h ones alive = completed number injective past ones (committed_stood number s past h)
    (λ u m. live-stands past u (alive u m)) (no_cycle s past h)

-- a path from a live transaction is of live ones
live_path : (s : Configuration) (past : List Entry) → Legal s past → (t : ℕ) → live past t ≡ true → (rest : List ℕ)
    → PathOf (Pair past) t rest
    → (u : ℕ) → Member u (t ∷ rest) → live past u ≡ true
live_path s past h t alive rest p u (inl e) = subst (λ x. live past x ≡ true) (sym e) alive
live_path s past h t alive [] p u (inr m) = absurd m
live_path s past h t alive (v ∷ rest) p u (inr m) = live_path s past h v (next_live s past h t v alive p.0) rest p.1 u m

pub cycles_are_live : CyclesAreLive
cycles_are_live s past h t alive k kind rest c u m = live_path s past h t alive rest c.pairs u m

module _ (number : Key → ℕ) (injective : IsNumbering number) (s : Configuration) (past : List Entry) (h : Legal s past) (t : ℕ)
    (alive : live past t ≡ true)
    (k : Key) (kind : Kind) (e : Entry) (is : IsAccessBy (access_of e) t k kind) where
  abbrev with_it : List Operation
  with_it = textbook number (e ∷ past)

  abbrev done : List Operation
  done = with_it ++ each_does action.Commit (live_ones past)

  -- the access ends none, and is t's
  ends_none : (j u : ℕ) (f : Fate) → ending_in e.event e.reply u ≡ Some f → ⊥
  ends_none j u f ends = cc (sym (access_ends e.event e.reply t k kind is u) ∙ ends)

  not_commit : (j u : ℕ) → slice_get (operations_of number e) j ≡ Some (does u action.Commit) → ⊥
  not_commit j u at = ends_none j u fate.Committed ((reports number e.event e.reply).reported j u action.Commit at)

  not_abort : (j u : ℕ) → slice_get (operations_of number e) j ≡ Some (does u action.Abort) → ⊥
  not_abort j u at = let w = (reports number e.event e.reply).reported j u action.Abort at in ends_none j u w.0 w.1

  by_access : (o : Option Access) → access_of e ≡ o → IsAccessBy o t k kind → (a : Access) → access_of e ≡ Some a → a.by ≡ t
  by_access None same w a own = absurd w
  by_access (Some b) same w a own = ap (λ (x : Access). x.by) (some_is a b (sym own ∙ same)) ∙ w.0

  is_by_t : (j u : ℕ) (a : Action) → slice_get (operations_of number e) j ≡ Some (does u a) → u ≡ t
  is_by_t j u (action.Read x) at = let w = (reports number e.event e.reply).reported j u (action.Read x) at in
      sym w.by ∙ by_access (access_of e) refl is w.access w.is
  is_by_t j u (action.Write x) at = let w = (reports number e.event e.reply).reported j u (action.Write x) at in
      sym w.by ∙ by_access (access_of e) refl is w.access w.is
  is_by_t j u action.Commit at = absurd (not_commit j u at)
  is_by_t j u action.Abort at = absurd (not_abort j u at)

  stood : (u : ℕ) → Commits with_it u → aborted (e ∷ past) u ≡ false
  stood u (i, at) = elim (split_at (textbook number past) (operations_of number e) i _ at) [
    | inl old ↦ access_aborts e past t k kind is u ∙ committed_stood number s past h u (i, old.1)
    | inr new ↦ absurd (not_commit new.0 u new.2)
  ]

  listed_live : (u : ℕ) → Member u (live_ones past) → live past u ≡ true
  listed_live u m = (member_kept (live past) u (started_ones past) m).0

  -- who has ended in it is not live
  ended_over : (j u : ℕ) → Ends with_it j u → live past u ≡ true → ⊥
  ended_over j u (inl at) lives = elim (split_at (textbook number past) (operations_of number e) j _ at) [
    | inl old ↦ live-not_committed past u lives (commit_committed number s past h j u old.1)
    | inr new ↦ not_commit new.0 u new.2
  ]
  ended_over j u (inr at) lives = elim (split_at (textbook number past) (operations_of number e) j _ at) [
    | inl old ↦ both_ways _ (live-stands past u lives) (abort_aborted number s past h j u old.1)
    | inr new ↦ not_abort new.0 u new.2
  ]

  ends_before : (j u : ℕ) → j < length with_it → Ends done j u → Ends with_it j u
  ends_before j u within (inl at) = inl (still with_it (each_does action.Commit (live_ones past)) j _ within at)
  ends_before j u within (inr at) = inr (still with_it (each_does action.Commit (live_ones past)) j _ within at)

  ends_in : (j u : ℕ) → Ends with_it j u → j < length (textbook number past) → Ends (textbook number past) j u
  ends_in j u (inl at) within = inl (still (textbook number past) (operations_of number e) j _ within at)
  ends_in j u (inr at) within = inr (still (textbook number past) (operations_of number e) j _ within at)

  well_with_it : (i u : ℕ) (a : Action) → Does with_it i u a → (j : ℕ) → j < i → Ends with_it j u → ⊥
  well_with_it i u a at j less ends = elim (split_at (textbook number past) (operations_of number e) i _ at) [
    | inl old ↦ well_formed aborts_have_cause number injective s past h i u a old.1
        (j, less, ends_in j u ends (let w = old.0 in omega arith))
    | inr new ↦ ended_over j u ends (subst (λ x. live past x ≡ true) (sym (is_by_t new.0 u a new.2)) alive)
  ]

  done_before : (j u : ℕ) → Ends done j u → (j < length with_it) ⊎
      ((n : ℕ) × (j ≡ length with_it + n) × (slice_get (live_ones past) n ≡ Some u))
  done_before j u (inl at) = elim (split_at with_it (each_does action.Commit (live_ones past)) j _ at) [
    | inl old ↦ inl old.0
    | inr new ↦ inr (new.0, new.1, (each_is action.Commit (live_ones past) new.0 u action.Commit new.2).1)
  ]
  done_before j u (inr at) = elim (split_at with_it (each_does action.Commit (live_ones past)) j _ at) [
    | inl old ↦ inl old.0
    | inr new ↦ absurd (let q : action.Commit ≡ action.Abort = (each_is action.Commit (live_ones past) new.0 u action.Abort new.2).0 in cc)
  ]

  well_done : IsWellFormed done
  well_done i u a at (j, less, ends) = elim (split_at with_it (each_does action.Commit (live_ones past)) i _ at) [
    | inl old ↦ well_with_it i u a old.1 j less (ends_before j u (let w = old.0 in omega arith) ends)
    | inr new ↦
        let own = (each_is action.Commit (live_ones past) new.0 u a new.2).1 in
        elim (done_before j u ends) [
          | inl early ↦ ended_over j u (ends_before j u early ends) (listed_live u (at_member (live_ones past) new.0 u own))
          | inr late ↦ let same = rising_once (live_ones past) (live_ones-rise past) new.0 late.0 u own late.2 in
              let p = new.1 in let q = late.1 in omega arith
        ]
  ]

  commits_done : (u : ℕ) → live past u ≡ true → Commits done u
  commits_done u lives = let m = member_at (live_ones past) u (live-listed past u lives) in
      let p = in_second with_it (each_does action.Commit (live_ones past)) m.0 _
      (each_at action.Commit (live_ones past) m.0 u m.1) in (p.0, p.2)

  closed_done : (a : ℕ) → live past a ≡ true → (path : List ℕ) → PathOf (Pair past) a path → IsEdge done (last_of a path) t
      → IsPath done a path t
  closed_done a la [] p back = back
  closed_done a la (b ∷ path) p back = let lb = next_live s past h a b la p.0 in (
    edge_more number (e ∷ past) (each_does action.Commit (live_ones past)) a b p.0.apart (commits_done a la) (commits_done b lb)
        (inr p.0.precedes),
    closed_done b lb path p.1 back,
  )

  pub closing_not : (rest : List ℕ) → Closes past t k kind rest → ¬ IsSerializable done
  closing_not rest c serializable =
      let back = edge_more number (e ∷ past) (each_does action.Commit (live_ones past)) (last_of t rest) t
      (apart_from_last past t k kind rest c)
      (commits_done (last_of t rest) (live_path s past h t alive rest c.pairs (last_of t rest) (last_member t rest))) (commits_done t alive)
      (closing_precedes past t k kind (last_of t rest) c.conflict e is) in
      (serializability_theorem done well_done).0 serializable t rest (closed_done t alive rest c.pairs back)

  pub free_serializable : ((rest : List ℕ) → Closes past t k kind rest → ⊥) → IsSerializable done
  free_serializable free = completed number injective (e ∷ past) (live_ones past) stood
      (λ u m. access_aborts e past t k kind is u ∙ live-stands past u (listed_live u m)) (free_acyclic s past h t k kind e is free)

pub rejects_exactly : RejectsExactly
rejects_exactly number injective s past h event t k kind r e at = elim
    (rejected_or_free s past event t k kind r at.is_live at.asks at.legal) [
      | inl (is, (rest, closes)) ↦ (λ _. closing_not number injective s past h t at.is_live k kind e at.makes rest closes, λ _. is)
      | inr (is, free) ↦ (
        λ rejected. absurd (both_ways _ is rejected),
        λ none. absurd (none (free_serializable number injective s past h t at.is_live k kind e at.makes free)),
      )
    ]
