use Rattle.std.proofs.Common.{rules, ◌≡◌, ◌<◌, ◌+◌, ◌++◌, ◌∷◌, [], get_or, length, subst, sym}
use Rattle.std.specs.Prelude.{slice_set}
use Rattle.sgt_appends.specs.Graphs.{IsSorted, AreOrdered}
use Rattle.sgt_appends.proofs.Sortings.{place_one, order_one, new_still}
use Rattle.sgt_appends.proofs.sorting.place.Goals as goal

pub returns-in_ok-push-clause-sorted : goal.returns-in_ok-push-clause-sorted
returns-in_ok-push-clause-sorted c =
    let long : c.len.result ≡ length c.args.order.now.items + 1 = search rules in
    subst (λ n. IsSorted c.args.links.now c.args.heads.now c.args.before.now (slice_set c.args.ranks.now c.args.node n)) (sym long)
    (place_one c.args.links.now c.args.heads.now c.args.before.now c.args.ranks.now c.args.order.now.items c.args.node c.requires.sorted
    c.requires.ordered c.requires.within c.if-ranks-node-eq0.true c.requires.none)

pub returns-in_ok-push-clause-ordered : goal.returns-in_ok-push-clause-ordered
returns-in_ok-push-clause-ordered c =
    let long : c.len.result ≡ length c.args.order.now.items + 1 = search rules in
    let items : c.push.new.self.items ≡ c.args.order.now.items ++ c.args.node ∷ [] = c.in_ok-push.ensures.items in
    subst (λ n. AreOrdered (slice_set c.args.ranks.now c.args.node n) c.push.new.self.items) (sym long)
    (subst (λ xs. AreOrdered (slice_set c.args.ranks.now c.args.node (length c.args.order.now.items + 1)) xs) (sym items)
    (order_one c.args.ranks.now c.args.order.now.items c.args.node c.requires.ordered c.requires.within c.if-ranks-node-eq0.true))

pub returns-in_ok-push-clause-others : goal.returns-in_ok-push-clause-others
returns-in_ok-push-clause-others c = λ v ranked.
    let long : c.len.result ≡ length c.args.order.now.items + 1 = search rules in
    subst (λ n. 0 < get_or (slice_set c.args.ranks.now c.args.node n) v 0) (sym long)
    (new_still c.args.ranks.now c.args.order.now.items c.args.node v c.if-ranks-node-eq0.true ranked)
