use Rattle.std.proofs.Common.{◌≡◌, ◌+◌, ◌≤◌, [], ◌∷◌, ◌++◌, length, get_or, sym, ap, subst, ◌∙◌, arith}
use Rattle.std.proofs.lemmas.List.{length_push}
use Rattle.sgt_explain.specs.Indexes.{IsIndex}
use Rattle.sgt_explain.proofs.IndexSteps.{index_same, index_more}
use Rattle.sgt_explain.proofs.indexed_history.IndexedHistory.push.Goals as goal

pub invariant_of-self-2 : goal.invariant_of-self-2
invariant_of-self-2 c =
    let entries = c.self.inside.history.entries in
    let e = c.args.entry.now in
    let links = c.self.inside.links.items in
    let link = c.last_end-link.result in
    let count : c.len.result ≡ length entries = c.len.ensures ∙ ap length c.reserve.ensures.entries in
    let index : IsIndex entries c.cover_entry.new.firsts.items c.cover_entry.new.ends.items links =
    index_same entries c.self.inside.firsts.items c.self.inside.ends.items links c.cover_entry.new.firsts.items c.cover_entry.new.ends.items
    c.len.result count c.self.invariant c.cover_entry.ensures.firsts c.cover_entry.ensures.ends in
    let pushed : c.push_reserved.new.self.items ≡ links ++ link ∷ [] =
    c.push_reserved.ensures.items ∙ ap (λ l. l ++ link ∷ []) c.reserve-2.ensures.items in
    let longer : c.push_entry.new.self.entries ≡ entries ++ e ∷ [] =
    c.push_entry.ensures.entries ∙ ap (λ l. l ++ e ∷ []) c.reserve.ensures.entries in
    let after : c.len-2.result ≡ length entries + 1 =
    omega (arith, c.len-2.ensures, c.push_reserved.new.self.ok.0, ap length pushed, length_push links link, c.self.invariant.linked) in
    let within : link ≤ length entries = c.last_end-link.ensures.within (length entries)
    (λ u. subst (λ l. get_or l u 0 ≤ length entries) (sym c.as_slice.ensures.value) (index.end_within u)) in
    rw (longer, pushed) (index_more entries e c.cover_entry.new.firsts.items c.cover_entry.new.ends.items c.move_end.new.ends.items links link
    index c.in_ok-cover_entry.ensures.part within
    (λ t by. c.last_end-link.ensures.end t by ∙ ap (λ l. get_or l t 0) c.as_slice.ensures.value)
    (λ t by. c.move_end.ensures.at t by ∙ after)
    c.move_end.ensures.others)
