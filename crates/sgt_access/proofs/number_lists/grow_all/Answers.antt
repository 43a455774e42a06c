use Rattle.std.proofs.Common.{rules, ◌≡◌, ◌<◌, length, arith, ◌∙◌}
use Rattle.std.proofs.lemmas.List.{length-set}
use Rattle.sgt_access.proofs.NumberLists.{contents_kept}
use Rattle.sgt_access.proofs.number_lists.grow_all.Goals as goal

pub returns-in_err-reserve : goal.returns-in_err-reserve
returns-in_err-reserve c =
    let short : c.loop-index.index < length c.loop-index.lists.items = search rules in
    contents_kept c.loop-index.lists.items c.loop-index.index c.index_mut.result.now c.reserve.new.self short c.index_mut.ensures.value
    c.reserve.ensures.items ∙ c.loop-index.invariant.same

pub loop-index-preserved : goal.loop-index-preserved
loop-index-preserved c =
    let short : c.loop-index.index < length c.loop-index.lists.items = search rules in
    record {
      long = length-set c.loop-index.lists.items c.loop-index.index c.reserve.new.self ∙ c.loop-index.invariant.long;
      same = contents_kept c.loop-index.lists.items c.loop-index.index c.index_mut.result.now c.reserve.new.self short
          c.index_mut.ensures.value c.reserve.ensures.items ∙ c.loop-index.invariant.same;
    }
