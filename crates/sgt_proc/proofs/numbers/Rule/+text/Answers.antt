use Rattle.std.proofs.Common.{rules}
use Rattle.sgt_proc.specs.NumberFlaws.{is_bad}
use Rattle.sgt_proc.proofs.Ifs.{if_in_block}
use Rattle.sgt_proc.proofs.StatementLists.{in_drop}
use Rattle.sgt_proc.proofs.numbers.Rule.+text.Goals as goal

pub is_broken_by-returns-then-is_broken_in_text : goal.is_broken_by-returns-then-is_broken_in_text
is_broken_by-returns-then-is_broken_in_text t c =
    rw (c.in-If.is, if_in_block c.in-If.cond c.in-If.yes c.in-If.no (is_bad c.args.self.flaw c.args.self.args)) (search rules)

pub is_broken_by-returns-else-is_broken_in_text : goal.is_broken_by-returns-else-is_broken_in_text
is_broken_by-returns-else-is_broken_in_text t c =
    rw (c.in-If.is, if_in_block c.in-If.cond c.in-If.yes c.in-If.no (is_bad c.args.self.flaw c.args.self.args)) (search rules)

pub is_broken_in_text-returns-then-is_broken_by : goal.is_broken_in_text-returns-then-is_broken_by
is_broken_in_text-returns-then-is_broken_by t c =
    let h = in_drop c.args.statements.now c.loop-statement.statement-index c.statement-item.result c.loop-statement-test.true
    c.statement-item.is (is_bad c.args.self.flaw c.args.self.args) in
    rw (c.loop-statement.invariant, h, ← c.is_broken_by.ensures, c.if-is_broken_by.true) (search rules)

pub is_broken_in_text-loop-statement-preserved : goal.is_broken_in_text-loop-statement-preserved
is_broken_in_text-loop-statement-preserved t c =
    let h = in_drop c.args.statements.now c.loop-statement.statement-index c.statement-item.result c.loop-statement-test.true
    c.statement-item.is (is_bad c.args.self.flaw c.args.self.args) in
    rw (c.loop-statement.invariant, h, ← c.is_broken_by.ensures, c.if-is_broken_by.false) (search rules)
