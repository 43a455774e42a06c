use Rattle.std.proofs.Common.{rules, ◌∙◌}
use Rattle.std.proofs.lemmas.List.Sorted.{answers_always}
use Rattle.sgt_sched.proofs.Halves.{index_searched}
use Rattle.sgt_sched.proofs.live.Live.search.Goals as goal

-- the closure gives a transaction's number, and the slice is the list
pub returns : goal.returns
returns c =
    let facts = c.binary_search_by_key.ensures in
    let by_number = facts.position (λ running. running.0) (answers_always _ _ _ (λ f a r g called. search rules)) in
    c.ok.ensures.value ∙ index_searched c.args.t c.args.self.now _ c.requires.rising
    (rw c.live.ensures at facts.bound) (rw c.live.ensures at by_number)
