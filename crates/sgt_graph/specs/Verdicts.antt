-- What a verdict says, and what insertion does with it.
use Rattle.std.specs.Prelude.{◌≡◌, ℕ, Bool, true, ◌⊎◌, ◌↔◌, List}
use Rattle.sgt_model.specs.Paths.{Member}
pub use Rattle.sgt_cycle.specs.Path.{Holds, Path, IsPath, NoPath}
use Rattle.sgt_graph.specs.declared.verdict.Verdict.{Verdict}
use Rattle.sgt_graph.specs.declared.verdict.Verdict.TheVariants.{Accepted, Closes}
use Rattle.sgt_graph.specs.declared.verdict.Link.{Link}
use Rattle.sgt_graph.specs.declared.verdict.Plan.{Plan}
use Rattle.sgt_graph.specs.declared.verdict.Plan.TheVariants as plan

-- Accepted if no path leads from t to one of the targets, else such a path
abbrev pub IsVerdict : (ℕ → ℕ → Bool) → ℕ → List ℕ → Verdict → Type 0
IsVerdict pairs t targets Accepted = NoPath pairs t targets
IsVerdict pairs t targets (Closes cycle) = IsPath pairs t targets cycle

-- with Accepted, an edge from each pred to t is added, and no other; else nothing changes
abbrev pub Inserts : (ℕ → ℕ → Bool) → (ℕ → ℕ → Bool) → ℕ → List ℕ → Verdict → Type 0
Inserts old new t preds Accepted = (u v : ℕ) → (new u v ≡ true) ↔ ((old u v ≡ true) ⊎ ((v ≡ t) × Member u preds))
Inserts old new t preds (Closes cycle) = (u v : ℕ) → new u v ≡ old u v

-- a planned link if no path leads from t to one of the targets, else such a path
abbrev pub IsPlan : (ℕ → ℕ → Bool) → (Link → Type 0) → ℕ → List ℕ → Plan → Type 0
IsPlan pairs planned t targets (plan.Free link) = NoPath pairs t targets × planned link
IsPlan pairs planned t targets (plan.Closes cycle) = IsPath pairs t targets cycle
