use Rattle.std.proofs.Common.{◌≡◌, [], Some, ap, ap₂, sym, ◌∙◌}
use Rattle.std.proofs.lemmas.Option.{none-some, same_Some}
use Rattle.sgt_model.specs.declared.event.Event.{Event}
use Rattle.sgt_model.specs.declared.event.Event.TheVariants.{Start, Step, Access, Commit, Quit}
use Rattle.sgt_model.specs.Progress.{Call, call_at}
use Rattle.sgt_audit.specs.Outcomes.{call_for}
use Rattle.sgt_audit.proofs.events.requests.Goals as goal

-- only a start requests a call
start_of : (e : Event) (call : Call) → call_at e ≡ Some call → e ≡ Start call.procedure call.args
start_of (Start p args) call is =
    let same = same_Some _ call is in ap₂ Start (ap (λ (c : Call). c.procedure) same) (ap (λ (c : Call). c.args) same)
start_of (Step t) call is = absurd (none-some call is)
start_of (Access t d) call is = absurd (none-some call is)
start_of (Commit t) call is = absurd (none-some call is)
start_of (Quit t) call is = absurd (none-some call is)

pub returns : goal.returns
returns c =
    let job = c.args.job.now in (
      (λ t. ap call_at (c.is_start_of.ensures.0 t)
          ∙ ap (λ args. Some (record { procedure = job.procedure; args = args; caller_accesses = [] })) c.as_slice.ensures),
      λ is. c.is_start_of.ensures.1 (start_of c.args.entry.now.event (call_for job) is ∙ ap (Start job.procedure) (sym c.as_slice.ensures)),
    )
