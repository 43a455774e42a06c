use Rattle.std.proofs.Common.{◌≡◌, ◌+◌, ◌<◌, false, true, get_or, set, length, take, drop, sym, subst, ◌∙◌}
use Rattle.std.proofs.lemmas.Bool.{true≢false, false≢true}
use Rattle.std.proofs.lemmas.List.{get_or_read, take_more, take-append-drop, length-set}
use Rattle.sgt_model.specs.Paths.{Distinct}
use Rattle.sgt_audit.proofs.Numbers.{is_among, among_member, member_among, distinct_push, distinct_front, pushed_twice, marked_more}
use Rattle.sgt_audit.proofs.names.none_twice.Goals.{After-index}
use Rattle.sgt_audit.proofs.names.none_twice.Goals as goal

-- the number has a mark
within : (c : After-index) → get_or c.args.numbers.now c.loop-n.n-index 0 < length c.loop-n.seen.items
within c = subst (λ n. get_or c.args.numbers.now c.loop-n.n-index 0 < n) (sym c.loop-n.invariant.long)
    (c.requires c.loop-n.n-index 0 c.loop-n-test.true)

-- which says whether it occurs before
mark : (c : After-index) → c.index.result.now ≡ is_among (take c.loop-n.n-index c.args.numbers.now)
    (get_or c.args.numbers.now c.loop-n.n-index 0)
mark c = get_or_read c.loop-n.seen.items (get_or c.args.numbers.now c.loop-n.n-index 0) c.index.result.now (within c) c.index.ensures
    false ∙ c.loop-n.invariant.marked (get_or c.args.numbers.now c.loop-n.n-index 0)

pub returns-then-index : goal.returns-then-index
returns-then-index c =
    let xs = c.args.numbers.now in
    let i = c.loop-n.n-index in
    let seen : is_among (take i xs) (get_or xs i 0) ≡ true = sym (mark (goal.at.returns-then-index c).After-index) ∙ c.if-index.true in (
      (λ t. absurd (false≢true t)),
      λ once. absurd (pushed_twice (take i xs) (get_or xs i 0) (among_member (get_or xs i 0) (take i xs) seen)
          (subst Distinct (take_more xs i 0 c.loop-n-test.true) (distinct_front (take (i + 1) xs) (drop (i + 1) xs)
          (subst Distinct (sym (take-append-drop (i + 1) xs)) once)))),
    )

pub loop-n-preserved : goal.loop-n-preserved
loop-n-preserved c =
    let xs = c.args.numbers.now in
    let i = c.loop-n.n-index in
    let x = get_or xs i 0 in
    let at = (goal.at.loop-n-preserved c).After-index in
    let new : is_among (take i xs) x ≡ false = sym (mark at) ∙ c.if-index.false in
    let more = take_more xs i 0 c.loop-n-test.true in
    record {
      long = length-set c.loop-n.seen.items x true ∙ c.loop-n.invariant.long;
      marked = λ k. subst (λ l. get_or (set c.loop-n.seen.items x true) k false ≡ is_among l k) (sym more)
          (marked_more c.loop-n.seen.items (take i xs) x k (within at) (c.loop-n.invariant.marked k));
      once = subst Distinct (sym more) (distinct_push (take i xs) x c.loop-n.invariant.once
          (λ m. true≢false (sym (member_among x (take i xs) m) ∙ new)));
    }
