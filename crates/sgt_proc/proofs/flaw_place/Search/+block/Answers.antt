use Rattle.std.proofs.Common.{rules, ◌≡◌, ◌<◌, None, length, refl}
use Rattle.sgt_model.specs.Syntax.{empty}
use Rattle.sgt_model.specs.ProcedureTexts.{in_front}
use Rattle.sgt_proc.specs.NumberFlaws.{is_bad}
use Rattle.sgt_proc.specs.FlawPlaces.{under, first_in_statement}
use Rattle.sgt_proc.proofs.FirstPlaces.{first_drop, if_first}
use Rattle.sgt_proc.proofs.flaw_place.Search.+block.Goals as goal

pub block-returns : goal.block-returns
block-returns t c = c.within.ensures _ _ c.statements.ensures

pub statement-returns : goal.statement-returns
statement-returns t c = c.within.ensures _ _ c.statement_items.ensures

pub statement_items-returns-in_err-block-in-If : goal.statement_items-returns-in_err-block-in-If
statement_items-returns-in_err-block-in-If t c =
    rw (c.in-If.is, if_first c.in-If.cond c.in-If.yes c.in-If.no (is_bad c.args.self.rule.flaw c.args.self.rule.args)) (search rules)

pub statement_items-returns-in_ok-block-in-If : goal.statement_items-returns-in_ok-block-in-If
statement_items-returns-in_ok-block-in-If t c =
    rw (c.in-If.is, if_first c.in-If.cond c.in-If.yes c.in-If.no (is_bad c.args.self.rule.flaw c.args.self.rule.args)) (search rules)

pub statements-returns-in_err-statement : goal.statements-returns-in_err-statement
statements-returns-in_err-statement t c =
    let within : c.loop-index.index < length c.args.list.now = search rules in
    let first = first_drop c.args.list.now c.loop-index.index c.index-list-index.result within c.index-list-index.is
    (is_bad c.args.self.rule.flaw c.args.self.rule.args) in
    rw (c.loop-index.invariant, first) (search rules)

pub statements-loop-index-preserved : goal.statements-loop-index-preserved
statements-loop-index-preserved t c =
    let within : c.loop-index.index < length c.args.list.now = search rules in
    let first = first_drop c.args.list.now c.loop-index.index c.index-list-index.result within c.index-list-index.is
    (is_bad c.args.self.rule.flaw c.args.self.rule.args) in
    let none : under c.loop-index.index (first_in_statement (is_bad c.args.self.rule.flaw c.args.self.rule.args)
    (in_front c.index-list-index.result empty)) ≡ None = search rules in
    rw (c.loop-index.invariant, first, none) refl
