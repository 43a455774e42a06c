use Rattle.std.proofs.Common.{rules, sym, ◌∙◌, take}
use Rattle.sgt_sched.proofs.Lives.{found_at, index_within, below_places, place_read}
use Rattle.sgt_sched.proofs.live.Live.at.Goals as goal

pub index-requires : goal.index-requires
index-requires c =
    let below = below_places c.self.inside.count c.args.index c.self.inside.running.items
    (index_within c.args._t (take c.self.inside.count c.self.inside.running.items) c.args.self.now c.args.index c.self.view_is
    c.requires.at) in
    search (rules, below.1)

pub returns : goal.returns
returns c =
    let live = take c.self.inside.count c.self.inside.running.items in
    let below = (below_places c.self.inside.count c.args.index c.self.inside.running.items
    (index_within c.args._t live c.args.self.now c.args.index c.self.view_is c.requires.at)).0 in
    let first = found_at c.args._t live c.args.self.now c.args.index c.index.result.now c.self.view_is (sym c.requires.at)
    (c.index.ensures ∙ place_read c.self.inside.count c.args.index c.self.inside.running.items c.index.result.now below) in
    λ i. (first.number i, sym first.own_progress i)
