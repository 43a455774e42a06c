use Rattle.std.proofs.Common.{◌≡◌, None, Some, slice_get, sym, ap, ◌∙◌}
use Rattle.std.specs.Option.{option_and_then}
use Rattle.std.proofs.lemmas.Bool.{false≢true}
use Rattle.std.proofs.lemmas.Option.{none-some}
use Rattle.sgt_model.specs.declared.entry.Entry.{Entry}
use Rattle.sgt_model.specs.Progress.{call_at}
use Rattle.sgt_audit.specs.Outcomes.{call_for}
use Rattle.sgt_audit.proofs.attempts.is_started_for.Goals as goal

pub returns-in-Some : goal.returns-in-Some
returns-in-Some c =
    let call = ap (option_and_then (λ (e : Entry). call_at e.event)) (sym c.get_entry.ensures ∙ c.in-Some.is) in
    ((λ t. call ∙ c.requests.ensures.0 t), λ is. c.requests.ensures.1 (sym call ∙ is))

pub returns-in-None : goal.returns-in-None
returns-in-None c =
    let call = ap (option_and_then (λ (e : Entry). call_at e.event)) (sym c.get_entry.ensures ∙ c.in-None.is) in
    ((λ t. absurd (false≢true t)), λ is. absurd (none-some (call_for c.args.job.now) (sym call ∙ is)))
