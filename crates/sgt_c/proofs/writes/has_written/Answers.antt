use Rattle.std.proofs.Common.{◌∙◌, reverse, rules, sym, ap, arith}
use Rattle.std.proofs.lemmas.List.{take_all}
use Rattle.sgt_model.specs.Accesses.{acts}
use Rattle.sgt_c.specs.Writes.{any_store}
use Rattle.sgt_c.proofs.WritesSoFar.{writes_before, writes_from_start, writes_here}
use Rattle.sgt_c.proofs.writes.has_written.Goals as goal

pub loop-at-init : goal.loop-at-init
loop-at-init c = record {
  within = search rules;
  same = ap (λ l. any_store (acts (reverse l) c.args.t)) (sym (take_all c.len-at.result c.args.history.now.entries (omega (arith, c.len-at.ensures))));
}

pub loop-at-preserved : goal.loop-at-preserved
loop-at-preserved c = record {
  within = search rules;
  same = c.loop-at.invariant.same
      ∙ writes_before c.args.history.now.entries c.loop-at.at c.args.t c.entry-entry.result c.loop-at-test.true c.entry-entry.ensures.next
      (sym c.is_write_by.ensures ∙ c.if-is_write_by.false);
}

pub returns-then-is_write_by : goal.returns-then-is_write_by
returns-then-is_write_by c =
    sym (c.loop-at.invariant.same
    ∙ writes_here c.args.history.now.entries c.loop-at.at c.args.t c.entry-entry.result c.loop-at-test.true c.entry-entry.ensures.next
    (sym c.is_write_by.ensures ∙ c.if-is_write_by.true))

pub returns-then-eq : goal.returns-then-eq
returns-then-eq c =
    sym (c.loop-at.invariant.same
    ∙ writes_from_start c.args.history.now.entries c.loop-at.at c.args.t c.entry-entry.result c.loop-at-test.true c.entry-entry.ensures.next
    c.requires.0 c.requires.1 (search rules) (sym c.is_write_by.ensures ∙ c.if-is_write_by.false))
