use Rattle.std.proofs.Common.{rules, ◌≡◌, ◌∙◌, sym, true, get_or}
use Rattle.sgt_clients.specs.Objects.{is_between}
use Rattle.sgt_clients.proofs.Scans.{gap_more, line_more}
use Rattle.sgt_clients.proofs.pieces.next_object.Goals as goal

pub loop-place-preserved : goal.loop-place-preserved
loop-place-preserved c =
    let was = c.loop-place.invariant in
    let between : is_between (get_or c.args.text.now c.loop-place.place.at 0) ≡ true = sym c.is_between.ensures ∙ c.if-is_between.true in
    record {
      onwards = search rules;
      bounds = search rules;
      gap = gap_more c.args.text.now c.args.from.at c.loop-place.place.at 0 was.onwards c.loop-place-test.true was.gap between;
      line = c.line_after.ensures ∙ line_more c.args.text.now c.args.from.at c.loop-place.place.at 0 c.args.from.line
          c.loop-place.place.line was.onwards c.loop-place-test.true was.line;
    }
