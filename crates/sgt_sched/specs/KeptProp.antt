-- `IsKept` has at most one proof, as a ghost field requires.
use Rattle.std.specs.Prelude.{◌≡◌, ℕ, ℤ, ◌<◌, ◌≤◌, Bool, List, [], ◌∷◌, Option}
use Rattle.std.specs.Coded.{Coded, Coded-set, codes, ×_prop, Unit-prop}
use Rattle.std.proofs.Props.{props}
use mathlib.Core.Logic.{inl, inr}
use Rattle.std.proofs.Common.{ap, arith}
use Rattle.sgt_model.proofs.OneReply.{rising_below, rising_rest}
use Rattle.sgt_model.specs.declared.limits.Limits.{Limits}
use Rattle.sgt_model.specs.declared.reply.Fate.{Fate}
use Rattle.sgt_model.specs.Bounds.{AreInRange}
use Rattle.sgt_model.specs.Codes.{coded_procedure}
use Rattle.sgt_model.specs.Contents.{Key}
use Rattle.sgt_model.specs.Syntax.{ProcedureText}
use Rattle.sgt_model.specs.Paths.{Rising, Member}
use Rattle.sgt_model.specs.AccessList.{ListedAccess}
use Rattle.sgt_model.specs.ChainOrder.{EachAfter, InOrder}
use Rattle.sgt_model.specs.State.{State, PairIn}
use Rattle.sgt_model.specs.Soundness.{Sound}
use Rattle.sgt_sched.specs.SchedulerView.{SchedulerView, state_of, IsKept}

lt_prop : (a b : ℕ) → IsProp (a < b)
lt_prop a b = Prim.hlevel props

leq_prop : (a b : ℕ) → IsProp (a ≤ b)
leq_prop a b = Prim.hlevel props

nat_prop : (a b : ℕ) → IsProp (a ≡ b)
nat_prop a b = Prim.hlevel props

bool_prop : (a b : Bool) → IsProp (a ≡ b)
bool_prop a b = Prim.hlevel props

not_prop : {X : Type 0} → IsProp (X → ⊥)
not_prop = Prim.hlevel props

range_prop : (limits : Limits) → IsProp (AreInRange limits)
range_prop limits = Prim.hlevel props

fate_code : Coded (Option Fate)
fate_code = Prim.hlevel codes

procedure_code : Coded (Option ProcedureText)
procedure_code = Prim.hlevel (codes, coded_procedure)

Rising-prop : (l : List ℕ) → IsProp (Rising l)
Rising-prop [] = Unit-prop
Rising-prop (t ∷ []) = Unit-prop
Rising-prop (t ∷ u ∷ rest) = ×_prop (lt_prop t u) (Rising-prop (u ∷ rest))

EachAfter-prop : (c : State) (t : ℕ) (l : List (ℕ × Option ℤ)) → IsProp (EachAfter (PairIn c) t l)
EachAfter-prop c t [] = Unit-prop
EachAfter-prop c t (w ∷ rest) = ×_prop (bool_prop _ _) (EachAfter-prop c t rest)

InOrder-prop : (c : State) (l : List (ℕ × Option ℤ)) → IsProp (InOrder (PairIn c) l)
InOrder-prop c [] = Unit-prop
InOrder-prop c (w ∷ rest) = ×_prop (EachAfter-prop c w.0 rest) (InOrder-prop c rest)

Member-prop : (l : List ℕ) → Rising l → (t : ℕ) → IsProp (Member t l)
Member-prop [] r t a b = absurd a
Member-prop (u ∷ rest) r t (inl x) (inl y) = ap inl (nat_prop t u x y)
Member-prop (u ∷ rest) r t (inl x) (inr m) = let less : u < t = rising_below u rest r t m in absurd (omega arith)
Member-prop (u ∷ rest) r t (inr m) (inl y) = let less : u < t = rising_below u rest r t m in absurd (omega arith)
Member-prop (u ∷ rest) r t (inr m) (inr n) = ap inr (Member-prop rest (rising_rest u rest r) t m n)

Sound-prop : (most : ℕ) (c : State) → Rising c.live → IsProp (Sound most c)
Sound-prop most c rising a b i = record {
  begun = λ t h. lt_prop _ _ (a.begun t h) (b.begun t h) i;
  listed = λ t. (
    (λ h. Member-prop c.live rising t ((a.listed t).0 h) ((b.listed t).0 h) i),
    (λ m. bool_prop _ _ ((a.listed t).1 m) ((b.listed t).1 m) i),
  );
  few = leq_prop _ _ a.few b.few i;
  pair_nodes = λ t u h. ×_prop (bool_prop _ _) (bool_prop _ _) (a.pair_nodes t u h) (b.pair_nodes t u h) i;
  pair_apart = λ t u h. not_prop (a.pair_apart t u h) (b.pair_apart t u h) i;
  access_nodes = λ t k kind h. bool_prop _ _ (a.access_nodes t k kind h) (b.access_nodes t k kind h) i;
  read_nodes = λ u t h. ×_prop (bool_prop _ _) (bool_prop _ _) (a.read_nodes u t h) (b.read_nodes u t h) i;
  writers = λ k t h. bool_prop _ _ (a.writers k t h) (b.writers k t h) i;
  order = λ k. InOrder-prop c (c.chain k) (a.order k) (b.order k) i;
}

module _ {R A G : Type 0} {chain : R → Key → List (ℕ × Option ℤ)} {settled : R → Key → Option ℤ} {list : A → List ListedAccess}
    {nodes : G → ℕ → Bool} {pairs : G → ℕ → ℕ → Bool} where
  pub IsKept-prop : (p : SchedulerView R A G) → IsProp (IsKept chain settled list nodes pairs p)
  IsKept-prop p a b i = record {
    in_range = range_prop p.limits a.in_range b.in_range i;
    begun = leq_prop _ _ a.begun b.begun i;
    sound = Sound-prop p.limits.live (state_of chain settled list nodes pairs p) a.rising a.sound b.sound i;
    rising = Rising-prop _ a.rising b.rising i;
    unended = λ t. (
      (λ h. ×_prop (lt_prop _ _) (Coded-set fate_code _ _) ((a.unended t).0 h) ((b.unended t).0 h) i),
      (λ h. bool_prop _ _ ((a.unended t).1 h) ((b.unended t).1 h) i),
    );
    along = λ t h. Coded-set procedure_code _ _ (a.along t h) (b.along t h) i;
  }
