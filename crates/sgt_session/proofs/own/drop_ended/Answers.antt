use Rattle.std.proofs.Common.{rules, ℕ, nat_eq, not, ap, sym, ◌∙◌}
use Rattle.std.proofs.lemmas.Fn.{filter_same}
use Rattle.sgt_session.specs.Own.{open_without}
use Rattle.sgt_session.proofs.own.drop_ended.Goals as goal

pub returns-in-Some : goal.returns-in-Some
returns-in-Some c =
    filter_same _ (λ (u : ℕ). not (nat_eq u c.in-Some.t)) _ (λ x b f call. search rules) _ _ c.retain.ensures.filtered
    ∙ ap (λ o. open_without o c.args.own.now.items) (sym c.in-Some.is ∙ c.over.ensures)
