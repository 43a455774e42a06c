use Rattle.std.proofs.Common.{rules, ◌≡◌, ◌≤◌, ◌+◌, ◌-◌, ◌∙◌, ℕ, sym, ap, subst, inl, inr, arith, drop, take, get_or}
use Rattle.sgt_clients.specs.Objects.{outside, after_all, is_closed}
use Rattle.sgt_clients.proofs.Scans.{StaysOpen, line_more, open_more, stays_more, object_of, depth_more}
use Rattle.sgt_clients.proofs.pieces.object_end.Goals.{then-place-text-via-then-place-text, then-place-text-via-else-place-text+then-is_closed}
use Rattle.sgt_clients.proofs.pieces.object_end.Goals as goal

pub returns-then-place-text-clause-object : goal.returns-then-place-text-clause-object
returns-then-place-text-clause-object c =
    let was = c.loop-place.invariant in
    let nests : c.after-nesting.result ≡ after_all outside (take (c.loop-place.place.at + 1 - c.args.from.at) (drop c.args.from.at c.args.text.now)) =
    c.after-nesting.ensures ∙ open_more c.args.text.now c.args.from.at c.loop-place.place.at 0 c.loop-place.nesting was.onwards was.bounds was.nesting in
    object_of c.args.text.now c.args.from.at (c.loop-place.place.at + 1) (omega (arith, was.onwards)) (omega (arith, was.bounds)) c.requires.starts
    (subst (StaysOpen (drop c.args.from.at c.args.text.now)) (same c.args.from.at c.loop-place.place.at was.onwards) was.stays)
    (elim c.then-place-text.branch [
      | then-place-text-via-then-place-text w ↦ inl (search rules)
      | then-place-text-via-else-place-text+then-is_closed w ↦ inr (ap is_closed (sym nests) ∙ sym w.is_closed.ensures ∙ w.if-is_closed.true)
    ])
  where
    same : (a b : ℕ) → a ≤ b → b - a ≡ b + 1 - a - 1
    same a b from = omega (arith, from)

pub returns-then-place-text-clause-line : goal.returns-then-place-text-clause-line
returns-then-place-text-clause-line c =
    let was = c.loop-place.invariant in
    c.line_after.ensures ∙ line_more c.args.text.now c.args.from.at c.loop-place.place.at 0 c.args.from.line
    c.loop-place.place.line was.onwards was.bounds was.line

pub loop-place-preserved : goal.loop-place-preserved
loop-place-preserved c =
    let was = c.loop-place.invariant in
    let nests : c.after-nesting.result ≡ after_all outside (take (c.loop-place.place.at + 1 - c.args.from.at) (drop c.args.from.at c.args.text.now)) =
    c.after-nesting.ensures ∙ open_more c.args.text.now c.args.from.at c.loop-place.place.at 0 c.loop-place.nesting was.onwards was.bounds was.nesting in
    record {
      onwards = search rules;
      bounds = search rules;
      depth = omega (
        arith,
        was.depth,
        depth_more c.loop-place.nesting (get_or c.args.text.now c.loop-place.place.at 0),
        ap (λ n. n.depth) c.after-nesting.ensures,
      );
      nesting = nests;
      stays = stays_more (drop c.args.from.at c.args.text.now) (c.loop-place.place.at - c.args.from.at) (c.loop-place.place.at + 1 - c.args.from.at)
          was.stays (omega (arith, was.onwards)) (ap is_closed (sym nests) ∙ sym c.is_closed.ensures ∙ c.if-is_closed.false);
      line = c.line_after.ensures ∙ line_more c.args.text.now c.args.from.at c.loop-place.place.at 0 c.args.from.line
          c.loop-place.place.line was.onwards was.bounds was.line;
    }
