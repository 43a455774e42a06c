-- A procedure without a flaw makes at most 64 accesses.
use Rattle.std.proofs.Common.{◌≡◌, ℕ, zero, suc, ℤ, ◌<◌, arith, List, [], ◌∷◌, Option, Some, subst}
use Rattle.sgt_model.specs.Syntax.{ProcedureText}
use Rattle.sgt_model.specs.Runs.{Run, looks, puts, ends, raises}
use Rattle.sgt_model.specs.Traces.{Next, Looks, Puts, Ends, Raises, trace, next_at, Used}
use Rattle.sgt_model.specs.Meaning.{run_with}
use Rattle.sgt_proc.specs.declared.flaw.Flaw.TheVariants.{TooLong}
use Rattle.sgt_proc.specs.declared.next.Next.{Next as DeclaredNext}
use Rattle.sgt_proc.specs.declared.next.Next.TheVariants as declared
use Rattle.sgt_proc.specs.Nexts.{seen, IsAccess}
use Rattle.sgt_proc.specs.Flaws.{IsFlawless}
use Rattle.sgt_proc.specs.LongestPaths.{accesses_in}
use Rattle.sgt_proc.proofs.LongestPaths.{MakesAtMost, within_more, within_most, accesses_few}

-- if an access is next, the run has made fewer than it may make

abbrev pub AccessNext : Next → Type 0
AccessNext (Looks k) = Unit {0}
AccessNext (Puts k v) = Unit {0}
AccessNext (Ends answers) = ⊥
AccessNext (Raises code) = ⊥

pub fewer : (r : Run) (n : ℕ) (vs : List (Option ℤ)) (made : ℕ) → MakesAtMost r n → Used r vs made → AccessNext (next_at (trace r vs) made)
    → made < n
fewer (looks k go) zero vs made w u a = absurd w
fewer (looks k go) (suc n) [] zero w u a = omega arith
fewer (looks k go) (suc n) (v ∷ vs) zero w u a = absurd u
fewer (looks k go) (suc n) [] (suc made) w u a = absurd u
fewer (looks k go) (suc n) (v ∷ vs) (suc made) w u a = let h = fewer (go v) n vs made (w v) u a in omega arith
fewer (puts k x rest) zero vs made w u a = absurd w
fewer (puts k x rest) (suc n) [] zero w u a = omega arith
fewer (puts k x rest) (suc n) (v ∷ vs) zero w u a = absurd u
fewer (puts k x rest) (suc n) vs (suc made) w u a = let h = fewer rest n vs made w u a in omega arith
fewer (ends answers) n [] zero w u a = absurd a
fewer (ends answers) n (v ∷ vs) zero w u a = absurd u
fewer (ends answers) n vs (suc made) w u a = absurd u
fewer (raises code) n [] zero w u a = absurd a
fewer (raises code) n (v ∷ vs) zero w u a = absurd u
fewer (raises code) n vs (suc made) w u a = absurd u

access_seen : (n : DeclaredNext) → IsAccess n → AccessNext (seen n)
access_seen (declared.Look k) a = tt
access_seen (declared.Put k v) a = tt
access_seen (declared.Ends answers) a = absurd a
access_seen (declared.Asks code) a = absurd a

pub few_made : (p : ProcedureText) (args : List ℤ) (vs : List (Option ℤ)) (made : ℕ) (n : DeclaredNext) → IsFlawless p
    → seen n ≡ next_at (trace (run_with p args) vs) made → IsAccess n → Used (run_with p args) vs made → made < 64
few_made p args vs made n flawless reported a used =
    let few = accesses_few p.body in
    let flaw = flawless TooLong in
    fewer (run_with p args) 64 vs made (within_more (run_with p args) (accesses_in p.body) 64 (omega (arith, few, flaw)) (within_most (Some p) args)) used
    (subst AccessNext reported (access_seen n a))
