use Rattle.std.proofs.Common.{rules, sym, ap, ◌∙◌, ◌+◌, ◌-◌, ◌<◌, ◌≤◌, ◌++◌, [], ◌∷◌, take}
use Rattle.sgt_sched.proofs.Lives.{index_within, below_places, removed, moved_after, left_last}
use Rattle.sgt_sched.proofs.live.Live.remove_at.Goals as goal
use Rattle.sgt_sched.proofs.live.Live.remove_at.Goals.{then-index-count, else-index-count}

pub overflow_add-index : goal.overflow_add-index
overflow_add-index c =
    let n = c.self.inside.count in
    let rows = c.self.inside.running.items in
    let below = (below_places n c.args.index rows
    (index_within c.args._t (take n rows) c.args.self.now c.args.index c.self.view_is c.requires.at)).0 in
    search (rules, below)

pub returns : goal.returns
returns c =
    let n = c.self.inside.count in
    let rows = c.self.inside.running.items in
    let i = c.args.index in
    let without = removed c.args._t (take n rows) c.args.self.now i c.self.view_is (sym c.requires.at) c.requires.rising in
    let below : i < n =
    (below_places n i rows (index_within c.args._t (take n rows) c.args.self.now i c.self.view_is c.requires.at)).0 in
    elim c.if-index-count.branch [
      | then-index-count w ↦ rw w.self-inside-is (
          ap (take (n - 1)) (w.push_reserved.ensures.items ∙ ap (λ l. l ++ w.remove-ended.result ∷ []) w.remove-ended.ensures.items)
          ∙ (moved_after n i rows w.remove-ended.result below c.self.invariant ∙ without)
          )
      | else-index-count w ↦
          let last : n ≤ i + 1 = search rules in
          rw w.self-inside-is (left_last n i rows below last ∙ without)
    ]
