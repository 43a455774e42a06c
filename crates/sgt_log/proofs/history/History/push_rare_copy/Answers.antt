use Rattle.std.proofs.Common.{[], ◌∷◌, ◌++◌, ap, sym, ◌∙◌}
use Rattle.std.proofs.lemmas.Option.{same_Some}
use Rattle.sgt_log.proofs.history.History.push_rare_copy.Goals as goal

pub returns-clause-entries : goal.returns-clause-entries
returns-clause-entries c e there =
    c.push_entry.ensures.entries ∙ ap (λ x. c.args.self.now.entries ++ x ∷ []) (same_Some _ e (sym c.entry.ensures.entry ∙ there))
