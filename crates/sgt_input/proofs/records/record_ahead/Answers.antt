use Rattle.std.proofs.Common.{rules, refl}
use Rattle.sgt_input.proofs.RecordsPut.{found-ahead, found-none, none-ahead}
use Rattle.sgt_input.proofs.records.record_ahead.Goals as goal

pub returns-in_ok-read_record_line-in-Some-clause-some :
    goal.returns-in_ok-read_record_line-in-Some-clause-some
returns-in_ok-read_record_line-in-Some-clause-some g c =
    found-ahead c.args.lines.now c.fill.new.self (g.S.Source.rest c.args.source.now) (g.S.Source.rest c.fill.new.source)
    c.in-Some.line.now _ c.fill.ensures.bytes c.fill.ensures.within c.in-Some.ensures.line (search rules)

pub returns-in_ok-read_record_line-in-Some-clause-none :
    goal.returns-in_ok-read_record_line-in-Some-clause-none
returns-in_ok-read_record_line-in-Some-clause-none g c =
    found-none c.args.lines.now c.fill.new.self (g.S.Source.rest c.args.source.now) (g.S.Source.rest c.fill.new.source)
    c.in-Some.line.now _ c.fill.ensures.bytes c.fill.ensures.within c.in-Some.ensures.line (search rules)

pub returns-in-None-clause-none : goal.returns-in-None-clause-none
returns-in-None-clause-none g c = λ none.
    none-ahead c.args.lines.now c.fill.new.self (g.S.Source.rest c.args.source.now) (g.S.Source.rest c.fill.new.source)
    c.fill.ensures.bytes c.fill.ensures.within (c.in-None.ensures.none refl)
