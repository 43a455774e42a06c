use Rattle.std.proofs.Common.{[], ◌∷◌, ◌++◌, ap, sym, subst, ◌∙◌}
use Rattle.std.proofs.lemmas.Option.{same_Some}
use Rattle.sgt_log.specs.PackedEntries.{unpacked}
use Rattle.sgt_log.proofs.Entries.{seen_at, plain-entry}
use Rattle.sgt_log.specs.StepKinds.{kind_of, IsOfKind}
use Rattle.sgt_log.proofs.Packed.{step_plain, step_kind}
use Rattle.sgt_log.proofs.history.History.push_copy.Goals as goal

pub push_packed-requires-clause-key : goal.push_packed-requires-clause-key
push_packed-requires-clause-key c =
    (seen_at c.other.inside.tids.items c.other.inside.values.items c.other.inside.entries.items c.args.other.now.entries
    c.args.place (unpacked [] c.in-Some.step) (ap (λ h. h.entries) c.other.view_is) c.other.invariant.0 c.requires.there
    c.in-Some.ensures.here).1.1.key

pub returns-in-Some-clause-entries : goal.returns-in-Some-clause-entries
returns-in-Some-clause-entries c e there =
    let step = unpacked [] c.in-Some.step in
    let plain = step_plain [] c.in-Some.step c.in-Some.ensures.step in
    let seen = seen_at c.other.inside.tids.items c.other.inside.values.items c.other.inside.entries.items c.args.other.now.entries
    c.args.place step (ap (λ h. h.entries) c.other.view_is) c.other.invariant.0 c.requires.there c.in-Some.ensures.here in
    let same = same_Some _ e (sym seen.0 ∙ there) in
    c.push_packed.ensures.entries
    ∙ ap (λ x. c.args.self.now.entries ++ x ∷ [])
    (sym (plain-entry c.other.inside.tids.items c.other.inside.values.items step.event step.reply plain.0 plain.1) ∙ same)

pub returns-in-Some-clause-kind : goal.returns-in-Some-clause-kind
returns-in-Some-clause-kind c e there =
    let seen = seen_at c.other.inside.tids.items c.other.inside.values.items c.other.inside.entries.items c.args.other.now.entries
    c.args.place (unpacked [] c.in-Some.step) (ap (λ h. h.entries) c.other.view_is) c.other.invariant.0 c.requires.there
    c.in-Some.ensures.here in
    subst (λ k. IsOfKind k e) (sym c.kind.ensures)
    (subst (IsOfKind (kind_of c.in-Some.step)) (same_Some _ e (sym seen.0 ∙ there))
    (step_kind c.other.inside.tids.items c.other.inside.values.items c.in-Some.step c.in-Some.ensures.step))
