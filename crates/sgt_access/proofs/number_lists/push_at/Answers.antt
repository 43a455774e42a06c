use Rattle.std.proofs.Common.{rules, ◌≡◌, ◌<◌, length, get_or, set, ap, sym, subst, ◌∙◌, ◌++◌, ◌∷◌, []}
use Rattle.sgt_access.specs.NumberLists.{contents}
use Rattle.sgt_access.proofs.NumberLists.{contents_set, contents_read, contents_long}
use Rattle.sgt_access.proofs.number_lists.push_at.Goals as goal

pub returns-clause-within : goal.returns-clause-within
returns-clause-within c did =
    let short : c.args.index < length c.args.lists.now.items = search rules in
    subst (λ n. c.args.index < n) (sym (contents_long c.args.lists.now.items)) short

pub returns-clause-pushed : goal.returns-clause-pushed
returns-clause-pushed c did =
    let lists = c.args.lists.now.items in
    let short : c.args.index < length lists = search rules in
    contents_set lists c.args.index c.push_reserved.new.self
    ∙ ap (set (contents lists) c.args.index) (c.push_reserved.ensures.items
    ∙ ap (λ l. l ++ c.args.access ∷ []) (sym (contents_read lists c.args.index c.index_mut.result.now short c.index_mut.ensures.value)))
