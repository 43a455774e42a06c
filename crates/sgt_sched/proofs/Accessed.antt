-- What an access does to the state, where nothing blocks it.
use Rattle.std.proofs.Common.{◌≡◌, ◌≢◌, ℕ, ℤ, arith, Bool, true, false, ◌&&◌, cond, nat_eq, ◌⊎◌, inl, inr, List, [], ◌∷◌, ◌++◌, Option, Some, None, refl, sym, ap, ◌∙◌, subst}
use Rattle.std.specs.Prelude.{◌↔◌}
use Rattle.std.proofs.lemmas.Bool.{and_from, or_cases, or_left, or_right, eqb-true, eqb-false}
use Rattle.sgt_model.specs.declared.kind.Kind.{Kind}
use Rattle.sgt_model.specs.declared.kind.Kind.TheVariants.{Look, Store}
use Rattle.sgt_model.specs.Contents.{Key, key_eq}
use Rattle.sgt_model.specs.Paths.{Member, AtMost, Rising, last_of}
use Rattle.sgt_model.specs.Pairs.{one_stores}
use Rattle.sgt_model.specs.AccessList.{ListedAccess, is_conflicting, lists_conflicting, is_listed}
use Rattle.sgt_sched.specs.LiveProgress.{Progress, left_kept}
use Rattle.sgt_model.specs.State.{Has}
use Rattle.sgt_model.specs.Found.{top_value, SourceIs}
use Rattle.sgt_model.specs.Blocks.{Blocks}
use Rattle.sgt_model.specs.Soundness.{Sound}
use Rattle.sgt_model.specs.Changes.{Notes}
use Rattle.sgt_model.proofs.Stores.{key_eq-refl}
use Rattle.sgt_cycle.specs.Path.{Path, NoPath}
use Rattle.sgt_records.specs.Tops.{top_from, value_of_top}
use Rattle.sgt_sched.specs.LiveList.{numbers, progress_at, changed}
use Rattle.sgt_sched.specs.SchedulerView.{SchedulerView, state_of, IsAlong, IsKept}
use Rattle.sgt_sched.specs.Endings.{IsBlocked}
use Rattle.sgt_sched.specs.Steps.{with_source}
use Rattle.sgt_sched.proofs.Lists.{numbers-changed, progress_at-changed, progress_at-own}

-- a listed transaction has accessed some key
store_conflicts : (kind : Kind) → one_stores kind Store ≡ true
store_conflicts Look = refl
store_conflicts Store = refl

listed_conflicting : (list : List ListedAccess) (t : ℕ) → is_listed list t ≡ true → (k : Key) × (lists_conflicting list t k Store ≡ true)
listed_conflicting [] t h = absurd (cc)
listed_conflicting (a ∷ rest) t h = elim (or_cases (nat_eq a.by t) (is_listed rest t) h) [
  | inl here ↦ (
    a.key,
    or_left (is_conflicting t a.key Store a) _
        (and_from (nat_eq a.by t) (key_eq a.key a.key && one_stores a.kind Store) here
        (and_from (key_eq a.key a.key) (one_stores a.kind Store) (key_eq-refl a.key) (store_conflicts a.kind))),
  )
  | inr there
      ↦ (let r = listed_conflicting rest t there in (r.0, or_right (is_conflicting t r.0 Store a) _ r.1))
]

-- a read's source, as the state has it
pub read_added : (o : Option (ℕ × Option ℤ)) (s : Option ℤ) (t : ℕ) (reads : List (ℕ × ℕ)) (u v : ℕ)
    → Has (with_source (top_from o s) t reads) u v ↔ (Has reads u v ⊎ ((v ≡ t) × (u ≢ t) × SourceIs o u))
read_added None None t reads u v = ((λ h. inl h), (λ h. elim h [ inl old ↦ old | inr new ↦ absurd new.2 ]))
read_added None (Some x) t reads u v = ((λ h. inl h), (λ h. elim h [ inl old ↦ old | inr new ↦ absurd new.2 ]))
read_added (Some w) s t reads u v = both (nat_eq w.0 t) refl where
  added : (l : List (ℕ × ℕ)) → Has (l ++ (w.0, t) ∷ []) u v → Has l u v ⊎ ((w.0 ≡ u) × (t ≡ v))
  added [] (inl h) = inr h
  added [] (inr h) = absurd h
  added (p ∷ l) (inl h) = inl (inl h)
  added (p ∷ l) (inr h) = elim (added l h) [ inl old ↦ inl (inr old) | inr new ↦ inr new ]

  old_stays : (l : List (ℕ × ℕ)) → Has l u v → Has (l ++ (w.0, t) ∷ []) u v
  old_stays [] h = absurd h
  old_stays (p ∷ l) (inl h) = inl h
  old_stays (p ∷ l) (inr h) = inr (old_stays l h)

  new_there : (l : List (ℕ × ℕ)) → w.0 ≡ u → t ≡ v → Has (l ++ (w.0, t) ∷ []) u v
  new_there [] h i = inl (h, i)
  new_there (p ∷ l) h i = inr (new_there l h i)

  both : (b : Bool) → nat_eq w.0 t ≡ b → Has (cond (nat_eq w.0 t) reads (reads ++ (w.0, t) ∷ [])) u v
      ↔ (Has reads u v ⊎ ((v ≡ t) × (u ≢ t) × (w.0 ≡ u)))
  both true e = subst (λ c. Has (cond c reads (reads ++ (w.0, t) ∷ [])) u v ↔ (Has reads u v ⊎ ((v ≡ t) × (u ≢ t) × (w.0 ≡ u)))) (sym e)
      ((λ h. inl h), (λ h. elim h [ inl old ↦ old | inr new ↦ absurd (new.1 (sym new.2 ∙ eqb-true w.0 t e)) ]))
  both false e = subst (λ c. Has (cond c reads (reads ++ (w.0, t) ∷ [])) u v ↔ (Has reads u v ⊎ ((v ≡ t) × (u ≢ t) × (w.0 ≡ u)))) (sym e) (
    (λ h. elim (added reads h) [ inl old ↦ inl old | inr new ↦ inr (sym new.1, (λ i. eqb-false w.0 t e (new.0 ∙ i)), new.0) ]),
    (λ h. elim h [ inl old ↦ old_stays reads old | inr new ↦ new_there reads new.2 (sym new.0) ]),
  )

-- what a read returns, as the state has it
pub value_of_top-from : (o : Option (ℕ × Option ℤ)) (s : Option ℤ) → value_of_top (top_from o s) ≡ top_value o s
value_of_top-from None None = refl
value_of_top-from None (Some v) = refl
value_of_top-from (Some w) s = refl

-- of the same parts that are seen as others the rivals are the same
pub rivals_seen : {R A G : Type 0} (list : A → List ListedAccess) (before now : SchedulerView R A G) → before ≡ now
    → (t : ℕ) (k : Key) (kind : Kind) (rivals : List ℕ)
    → ((u : ℕ) → Member u rivals ↔ ((u ≢ t) × (lists_conflicting (list before.accesses) u k kind ≡ true))) → (u : ℕ)
    → Member u rivals ↔ ((u ≢ t) × (lists_conflicting (list now.accesses) u k kind ≡ true))
rivals_seen list before now seen t k kind rivals exact = subst
    (λ p. (u : ℕ) → Member u rivals ↔ ((u ≢ t) × (lists_conflicting (list p.accesses) u k kind ≡ true))) seen exact

-- where no other has a conflicting access, the rivals are none, and no path leads to one
pub no_rivals : (list : List ListedAccess) (t : ℕ) (k : Key) (kind : Kind) (rivals : List ℕ) → rivals ≡ []
    → ((u : ℕ) × (u ≢ t) × (lists_conflicting list u k kind ≡ true) → ⊥) → (u : ℕ)
    → Member u rivals ↔ ((u ≢ t) × (lists_conflicting list u k kind ≡ true))
no_rivals list t k kind rivals none alone u = (
  (λ m. absurd (subst (Member u) none m)),
  (λ r. absurd (alone (u, r.0, r.1))),
)

pub no_path : (test : ℕ → ℕ → Bool) (t : ℕ) (rivals : List ℕ) → rivals ≡ [] → NoPath test t rivals
no_path test t rivals none rest w = absurd (subst (Member (last_of t rest)) none w.ends)

module _ {R A G : Type 0} {chain : R → Key → List (ℕ × Option ℤ)} {settled : R → Key → Option ℤ} {list : A → List ListedAccess}
    {nodes : G → ℕ → Bool} {pairs : G → ℕ → ℕ → Bool} {before : SchedulerView R A G}
    (kept : IsKept chain settled list nodes pairs before) where
  -- few have accesses
  pub rivals_few : AtMost 32 (is_listed (list before.accesses))
  rivals_few = record {
    among = numbers before.live;
    few = omega (arith, kept.sound.few, kept.in_range.few_live);
    all = λ u h. (kept.sound.listed u).0 (let r = listed_conflicting (list before.accesses) u h in kept.sound.access_nodes u r.0 Store r.1);
  }

  module _ (t : ℕ) (live_t : nodes before.graph t ≡ true) (k : Key) (kind : Kind) (rivals : List ℕ)
      (exact : (u : ℕ) → Member u rivals ↔ ((u ≢ t) × (lists_conflicting (list before.accesses) u k kind ≡ true))) where
    -- the rivals are nodes, and others
    pub rivals_are_nodes : (u : ℕ) → Member u rivals → (nodes before.graph u ≡ true) × (u ≢ t)
    rivals_are_nodes u m = let r = (exact u).0 m in (kept.sound.access_nodes u k kind r.1, r.0)

    -- a path to a rival blocks the access, and nothing else does
    pub blocks_from_cycle : (rest : List ℕ) → Path (pairs before.graph) t rivals rest
        → Blocks (state_of chain settled list nodes pairs before) t k kind rest
    blocks_from_cycle rest w = let r = (exact (last_of t rest)).0 w.ends in record
        { distinct = w.distinct; pairs = w.goes; rival = record { apart = r.0; has_conflicting = r.1 } }

    -- without a path to a rival nothing blocks
    pub not_blocked : NoPath (pairs before.graph) t rivals → (rest : List ℕ)
        → Blocks (state_of chain settled list nodes pairs before) t k kind rest → ⊥
    not_blocked free rest b = free rest (record {
      distinct = b.distinct;
      goes = b.pairs;
      ends = (exact (last_of t rest)).1
          (b.rival.apart, b.rival.has_conflicting);
    })

    -- the same of parts that were seen as others
    pub free_seen : (now : SchedulerView R A G) → before ≡ now → NoPath (pairs before.graph) t rivals
        → IsBlocked (state_of chain settled list nodes pairs now) t k kind → ⊥
    free_seen now seen free b = let q = subst (λ (p : SchedulerView R A G). IsBlocked
        (state_of chain settled list nodes pairs p) t k kind) (sym seen) b in not_blocked free q.0 q.1

    -- the parts after an access that was noted
    module _ (records : R) (accesses : A) (graph : G) (change : Progress → Progress) (read_from : List (ℕ × ℕ))
        (settled_is : (j : Key) → settled records j ≡ settled before.records j)
        (list_is : list accesses ≡ list before.accesses ++ record { by = t; key = k; kind = kind } ∷ [])
        (nodes_are : (u : ℕ) → nodes graph u ≡ nodes before.graph u)
        (pairs_are : (u v : ℕ) → (pairs graph u v ≡ true) ↔ ((pairs before.graph u v ≡ true) ⊎ ((v ≡ t) × Member u rivals))) where
      -- the parts after the access
      abbrev pub after_access : SchedulerView R A G
      after_access = record before {
        records = records;
        accesses = accesses;
        graph = graph;
        live = changed t change before.live;
        read_from = read_from;
      }

      -- the state has the access
      pub notes : Notes t k kind (state_of chain settled list nodes pairs before) (state_of chain settled list nodes pairs after_access)
      notes = record {
        live = numbers-changed t change before.live;
        nodes = nodes_are;
        pairs = λ u v. (
          (λ q. elim ((pairs_are u v).0 q) [
            | inl old ↦ inl old
            | inr new
                ↦ (let r = (exact u).0 new.1 in inr (new.0, record { apart = r.0; has_conflicting = r.1 }))
          ]),
          (λ q. (pairs_are u v).1 (elim q [
            | inl old ↦ inl old
            | inr new ↦ inr
                (new.0, (exact u).1 (new.1.apart, new.1.has_conflicting))
          ])),
        );
        accesses = list_is;
        settled = settled_is;
        fates = λ u. refl;
        start_count = refl;
        left = λ u h. ap left_kept (progress_at-changed t u change before.live h);
      }

      -- t's progress is the changed one
      pub own_progress_is : progress_at (changed t change before.live) t ≡ change (progress_at before.live t)
      own_progress_is = progress_at-own t change before.live ((kept.sound.listed t).0 live_t)

      -- what holds at every moment holds afterwards, where it does of the state and of t's progress
      pub kept_access : IsAlong before.procedures (change (progress_at before.live t))
          → Sound before.limits.live (state_of chain settled list nodes pairs after_access)
          → IsKept chain settled list nodes pairs after_access
      kept_access own sound = record {
        in_range = kept.in_range;
        begun = kept.begun;
        sound = sound;
        rising = subst Rising (sym notes.live) kept.rising;
        unended = λ u. ((λ h. (kept.unended u).0 (sym (nodes_are u) ∙ h)), (λ h. nodes_are u ∙ (kept.unended u).1 h));
        along = λ u h. both u (nat_eq u t) refl (sym (nodes_are u) ∙ h);
      } where
        both : (u : ℕ) (b : Bool) → nat_eq u t ≡ b → nodes before.graph u ≡ true
            → IsAlong before.procedures (progress_at (changed t change before.live) u)
        both u true e h = subst (IsAlong before.procedures)
            (sym (ap (progress_at (changed t change before.live)) (eqb-true u t e) ∙ own_progress_is)) own
        both u false e h = subst (IsAlong before.procedures) (sym (progress_at-changed t u change before.live (eqb-false u t e)))
            (kept.along u h)
