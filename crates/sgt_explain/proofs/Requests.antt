-- The access that a caller requests by an event is what its transaction was about to make.
use Rattle.std.proofs.Common.{◌≡◌, ℕ, List, Some, IfSome, refl, sym, ap, subst, slice_get}
use Rattle.sgt_model.specs.declared.entry.Entry.{Entry}
use Rattle.sgt_model.specs.declared.event.Event.{Event}
use Rattle.sgt_model.specs.declared.event.Event.TheVariants.{Start, Step, Access, Commit, Quit}
use Rattle.sgt_model.specs.declared.event.Request.TheVariants.{Read, Write}
use Rattle.sgt_model.specs.declared.kind.Kind.TheVariants.{Look, Store}
use Rattle.sgt_model.specs.Aborts.{Wants}
use Rattle.sgt_model.specs.Questions.{named_by}
use Rattle.sgt_model.specs.Configurations.{Configuration}
use Rattle.sgt_explain.specs.Places.{entries_before}
use Rattle.sgt_explain.specs.CycleEdges.{requested_access, wanted_by, WasAbout}

pub requested_about : (event : Event) → IfSome (requested_access event) (λ p. (s : Configuration) (entries : List Entry) (place : ℕ)
    (e : Entry) → slice_get entries place ≡ Some e → e.event ≡ event → WasAbout s entries place p.key p.kind)
requested_about (Access t (Read k)) = λ s entries place e there same. record {
  entry = e;
  there = there;
  by = t;
  named = ap named_by same;
  wants = subst (λ v. Wants (wanted_by s (entries_before entries place) t v) k Look) (sym same) (refl, refl);
}
requested_about (Access t (Write k v)) = λ s entries place e there same. record {
  entry = e;
  there = there;
  by = t;
  named = ap named_by same;
  wants = subst (λ v. Wants (wanted_by s (entries_before entries place) t v) k Store) (sym same) (refl, refl);
}
requested_about (Start p args) = tt
requested_about (Step t) = tt
requested_about (Commit t) = tt
requested_about (Quit t) = tt
