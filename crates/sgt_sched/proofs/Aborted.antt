-- What an abort does to the state: the one that aborts and those aborted in cascade leave, one after the other.
use Rattle.std.proofs.Common.{◌≡◌, ◌≢◌, ℕ, zero, suc, ◌+◌, ◌<◌, ◌≤◌, arith, Bool, true, false, not, ◌||◌, ◌&&◌, cond, nat_eq, inl, inr, List, [], ◌∷◌, ◌++◌, length, take, get_or, Some, refl, sym, ap, ◌∙◌, subst, subst₂}
use Rattle.std.specs.Prelude.{◌↔◌}
use Rattle.std.specs.List.{list_any}
use Rattle.std.proofs.Math.Path.{fun_ext}
use Rattle.std.proofs.lemmas.Bool.{eqb-true}
use Rattle.std.proofs.lemmas.List.{take_more, take_all}
use Rattle.std.proofs.lemmas.List.Folds.{list_any-append}
use Rattle.sgt_model.specs.declared.reply.Cause.{Cause}
use Rattle.sgt_model.specs.declared.reply.Fate.TheVariants as fate
use Rattle.sgt_model.specs.declared.reply.Reply.{Reply}
use Rattle.sgt_model.specs.Contents.{Key}
use Rattle.sgt_model.specs.State.{State, Has}
use Rattle.sgt_model.specs.Paths.{Member, Distinct, Rising, Reaches}
use Rattle.sgt_model.specs.Changes.{Removes, Drops}
use Rattle.sgt_model.specs.FallsIn.{FallsIn}
use Rattle.sgt_model.specs.declared.kind.Kind.{Kind}
use Rattle.sgt_model.specs.declared.reply.Cause.TheVariants as cause
use Rattle.sgt_model.specs.Blocks.{Blocks}
use Rattle.sgt_model.specs.CallEffects.{Undo, AbortEffect, CycleAbortEffect}
use Rattle.sgt_model.specs.Soundness.{Sound}
use Rattle.sgt_model.proofs.Facts.{member_from}
use Rattle.sgt_model.proofs.Removals.{removes_then}
use Rattle.sgt_sched.specs.Endings.{EndsAborted}
use Rattle.sgt_sched.proofs.Lists.{rising-distinct}

-- those that are reached along the reads are aborted in cascade
pub falls_in : (most : ℕ) (c : State) (t : ℕ) (fell : List ℕ) → Sound most c → Rising fell
    → ((u : ℕ) → Member u fell ↔ (Member u c.live × (u ≢ t) × Reaches (Has c.read_from) t u)) → FallsIn c t fell
falls_in most c t fell sound rising exact = record {
  rising = rising;
  each = λ u m. (let r = (exact u).0 m in ((sound.listed u).1 r.0, r.1, r.2));
  all = λ u node apart reached. (exact u).1 ((sound.listed u).0 node, apart, reached);
}

-- the same, by lists of the live ones and the reads
pub falls_listed : (most : ℕ) (c : State) (t : ℕ) (fell live : List ℕ) (read_from : List (ℕ × ℕ)) → Sound most c → live ≡ c.live
    → read_from ≡ c.read_from → Rising fell → ((u : ℕ) → Member u fell ↔ (Member u live × (u ≢ t) × Reaches (Has read_from) t u))
    → FallsIn c t fell
falls_listed most c t fell live read_from sound lives reads rising exact =
    falls_in most c t fell sound rising (subst₂ (λ (l : List ℕ) (r : List (ℕ × ℕ)). (u : ℕ)
    → Member u fell ↔ (Member u l × (u ≢ t) × Reaches (Has r) t u)) lives reads exact)

-- the end of t alone is an abort with none aborted in cascade yet
or_false : (b : Bool) → b ≡ (b || false)
or_false true = refl
or_false false = refl

pub drops_first : (t : ℕ) (why : Cause) (before after : State) → EndsAborted t (fate.Aborted why) before after → Drops t why [] before after
drops_first t why before after e = record {
  removes = subst (λ gone. Removes gone before after) (fun_ext (λ u. or_false (nat_eq t u))) e.removes;
  settled = e.settled;
  fates = e.fates;
}

-- one more is aborted in cascade
group : (a b c : Bool) → ((a || b) || c) ≡ (a || (b || (c || false)))
group true b c = refl
group false true c = refl
group false false true = refl
group false false false = refl

later : {X : Type 0} (first falls old : X) (a b c : Bool) → (c ≡ true → a ≡ true → ⊥)
    → cond c falls (cond a first (cond b falls old)) ≡ cond a first (cond (b || (c || false)) falls old)
later first falls old true b true apart = absurd (apart refl refl)
later first falls old true b false apart = refl
later first falls old false true true apart = refl
later first falls old false true false apart = refl
later first falls old false false true apart = refl
later first falls old false false false apart = refl

pub drops_more : (t : ℕ) (why : Cause) (fell : List ℕ) (u : ℕ) (before now after : State) → u ≢ t → Drops t why fell before now
    → EndsAborted u (fate.Fell t) now after → Drops t why (fell ++ u ∷ []) before after
drops_more t why fell u before now after apart d e = record {
  removes = subst (λ gone. Removes gone before after) (fun_ext same) (removes_then _ _ before now after d.removes e.removes);
  settled = λ k. e.settled k ∙ d.settled k;
  fates = λ w. e.fates w ∙ (ap (cond (nat_eq u w) (Some (fate.Fell t))) (d.fates w)
      ∙ (later (Some (fate.Aborted why)) (Some (fate.Fell t)) (before.fates w) (nat_eq t w) (list_any (λ v. nat_eq v w) fell) (nat_eq u w)
      (λ is_u is_t. apart (eqb-true u w is_u ∙ sym (eqb-true t w is_t)))
      ∙ ap (λ b. cond (nat_eq t w) (Some (fate.Aborted why)) (cond b (Some (fate.Fell t)) (before.fates w)))
      (sym (list_any-append (λ v. nat_eq v w) fell (u ∷ [])))));
} where
  same : (w : ℕ) → ((nat_eq t w || list_any (λ v. nat_eq v w) fell) || nat_eq u w)
      ≡ (nat_eq t w || list_any (λ v. nat_eq v w) (fell ++ u ∷ []))
  same w = group (nat_eq t w) (list_any (λ v. nat_eq v w) fell) (nat_eq u w)
      ∙ ap (λ b. nat_eq t w || b) (sym (list_any-append (λ v. nat_eq v w) fell (u ∷ [])))

-- a transaction that has not left yet is a node still
pub still_node : (t : ℕ) (why : Cause) (fell : List ℕ) (u : ℕ) (before now : State) → Drops t why fell before now → before.nodes u ≡ true
    → u ≢ t → (Member u fell → ⊥) → now.nodes u ≡ true
still_node t why fell u before now d node apart stays =
    d.removes.nodes u ∙ both (before.nodes u) (nat_eq t u) (list_any (λ v. nat_eq v u) fell) node (λ e. apart (sym (eqb-true t u e)))
    (λ e. stays (member_from u fell e)) where
      both : (n a b : Bool) → n ≡ true → (a ≡ true → ⊥) → (b ≡ true → ⊥) → (n && not (a || b)) ≡ true
      both false a b h f g = h
      both true true b h f g = absurd (f refl)
      both true false true h f g = absurd (g refl)
      both true false false h f g = refl

-- what stands at an out is no one of those before it
got : (l : List ℕ) (i u : ℕ) → i < length l → u ≡ get_or l i u → Member u l
got [] i u within at = absurd (omega (arith, within))
got (x ∷ l) zero u within at = inl at
got (x ∷ l) (suc i) u within at = inr (got l i u (omega (arith, within)) at)

not_before : (l : List ℕ) (i u : ℕ) → Distinct l → i < length l → u ≡ get_or l i u → Member u (take i l) → ⊥
not_before [] i u d within at m = omega (arith, within)
not_before (x ∷ l) zero u d within at m = m
not_before (x ∷ l) (suc i) u d within at (inl e) = d.0 (subst (λ y. Member y l) e (got l i u (omega (arith, within)) at))
not_before (x ∷ l) (suc i) u d within at (inr m) = not_before l i u d.1 (omega (arith, within)) at m

module _ (t : ℕ) (why : Cause) (fell : List ℕ) (before now : State) (falls : FallsIn before t fell) (i u : ℕ) (within : i < length fell)
    (at : u ≡ get_or fell i u) (drops : Drops t why (take i fell) before now) where
  -- the next that is aborted in cascade is a node still
  pub next_node : now.nodes u ≡ true
  next_node = let e = falls.each u (got fell i u within at) in still_node t why (take i fell) u before now drops e.0 e.1
      (not_before fell i u (rising-distinct fell falls.rising) within at)

  -- and is aborted in cascade
  pub next_falls : (after : State) → EndsAborted u (fate.Fell t) now after → Drops t why (take (i + 1) fell) before after
  next_falls after e =
      subst (λ l. Drops t why l before after) (sym (take_more fell i u within ∙ ap (λ x. take i fell ++ x ∷ []) (sym at)))
      (drops_more t why (take i fell) u before now after (falls.each u (got fell i u within at)).1 drops e)

-- when all have left, t is undone
pub undone : (t : ℕ) (why : Cause) (fell items : List ℕ) (i : ℕ) (before after : State) → items ≡ fell → length items ≤ i
    → FallsIn before t fell → Drops t why (take i items) before after → Undo t why fell before after
undone t why fell items i before after same all falls drops = record {
  falls = falls;
  drops = subst (λ l. Drops t why l before after) (take_all i items all ∙ same) drops;
}

-- an access that is blocked is rejected, by an abort with that path
pub refuses : (t : ℕ) (k : Key) (kind : Kind) (rest cycle : List ℕ) (before : State) (r : Reply) (after : State) → cycle ≡ t ∷ rest
    → Blocks before t k kind rest → AbortEffect t (cause.Cycle cycle) before r after → CycleAbortEffect t k kind before r after
refuses t k kind rest cycle before r after is blocks aborts = record {
  rest = rest;
  blocks = blocks;
  aborts = subst (λ w. AbortEffect t (cause.Cycle w) before r after) is aborts;
}
