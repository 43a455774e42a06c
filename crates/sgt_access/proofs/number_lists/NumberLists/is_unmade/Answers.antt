use Rattle.std.proofs.Common.{rules, ◌≡◌, length, sym, ap, ◌∙◌}
use Rattle.std.proofs.lemmas.List.{nil_from_length}
use Rattle.sgt_access.specs.NumberLists.{contents, joined}
use Rattle.sgt_access.proofs.number_lists.NumberLists.is_unmade.Goals as goal

pub returns : goal.returns
returns c is =
    let none : length c.self.inside.lists.items ≡ 0 = search rules in
    sym c.self.view_is ∙ ap (λ lists. joined (contents lists)) (nil_from_length c.self.inside.lists.items none)
