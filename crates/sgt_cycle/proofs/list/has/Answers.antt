use Rattle.std.proofs.Common.{◌≡◌, refl, subst, ℕ, List, Option, Some, None, IfSome, IsNone, IsTrue, is_some, ◌<◌, ◌↔◌, length, slice_index}
use Rattle.sgt_model.specs.Paths.{Member}
use Rattle.sgt_cycle.proofs.Members.{at_member}
use Rattle.sgt_cycle.proofs.list.has.Goals as goal

decides : (found : Option ℕ) (list : List ℕ) (t : ℕ) → IfSome found (λ i. (i < length list) × (slice_index list i ≡ t))
    → (IsNone found → Member t list → ⊥)
    → IsTrue (is_some found) ↔ Member t list
decides None list t some none = ((λ e. cc), λ m. absurd (none refl m))
decides (Some i) list t some none = ((λ e. subst (λ x. Member x list) some.1 (at_member list i 0 some.0)), λ m. refl)

pub returns : goal.returns
returns c = rw c.is_some.ensures (decides c.index.result c.args.list.now c.args.t c.index.ensures.some c.index.ensures.none)
