use Rattle.std.proofs.Common.{rules, ◌≡◌, ◌+◌, Err, List, arith, sym, subst}
use Rattle.sgt_model.specs.Databases.{contents_of, Row}
use Rattle.sgt_input.specs.Intake.{bytes_left, cut_left}
use Rattle.sgt_input.proofs.RecordsPut.{Fills, fills-more, fills-none, passes-more, passes-none, reads-records}
use Rattle.sgt_input.specs.Records.{GivesRecord, PutsNew}
use Rattle.sgt_input.specs.declared.fault.Fault.TheVariants as fault
use Rattle.sgt_input.proofs.records.read_records.Goals as goal

pub loop-rows-init : goal.loop-rows-init
loop-rows-init g c =
    let known = cut_left c.args.lines.now (g.S.Source.rest c.args.source.now) in
    let before = contents_of c.args.opening.database in
    record {
      fills = subst (λ (rows : List Row). Fills c.args.lines.now.number before known c.args.lines.now.number (contents_of rows) known)
          (sym c.of-rows.ensures) (fills-none c.args.lines.now.number before known);
      passed = λ going. passes-none c.args.lines.now.number (bytes_left c.args.lines.now (g.S.Source.rest c.args.source.now));
      counted = search rules;
      few = search rules;
      ended = λ same. same;
      well = search rules;
    }

pub returns-in_err-said-clause-unread : goal.returns-in_err-said-clause-unread
returns-in_err-said-clause-unread g c = λ reading.
    let failed : c.next_record.result ≡ Err fault.Reading = search rules in
    let none = c.next_record.ensures.unread failed in
    let going = c.next_record.ensures.ended none.2 in (
      c.loop-rows.invariant.ended going,
      reads-records c.args.lines.now.number c.loop-rows.lines.number c.loop-rows.lines c.next_record.new.lines
          (bytes_left c.args.lines.now (g.S.Source.rest c.args.source.now)) (g.S.Source.rest c.loop-rows.source)
          (g.S.Source.rest c.next_record.new.source) (c.loop-rows.invariant.passed going) none,
    )

pub loop-rows-preserved : goal.loop-rows-preserved
loop-rows-preserved g c =
    let gives : GivesRecord (cut_left c.loop-rows.lines (g.S.Source.rest c.loop-rows.source)) c.next_record.new.lines.line
    c.in-Some.said (cut_left c.next_record.new.lines (g.S.Source.rest c.next_record.new.source)) = search rules in
    let puts : PutsNew (contents_of c.loop-rows.rows) c.in-Some.said (contents_of c.put_record.new.rows) = search rules
    in
    let more : c.next_record.new.lines.number ≡ c.loop-rows.lines.number + 1 = search rules in
    record {
      fills = fills-more c.args.lines.now.number c.loop-rows.lines.number c.next_record.new.lines.number
          (contents_of c.args.opening.database) (contents_of c.loop-rows.rows) (contents_of c.put_record.new.rows)
          (cut_left c.args.lines.now (g.S.Source.rest c.args.source.now))
          (cut_left c.loop-rows.lines (g.S.Source.rest c.loop-rows.source))
          (cut_left c.next_record.new.lines (g.S.Source.rest c.next_record.new.source)) c.next_record.new.lines.line c.in-Some.said
          c.loop-rows.invariant.fills more gives puts;
      passed = λ going. passes-more c.args.lines.now.number c.loop-rows.lines.number c.next_record.new.lines.number
          c.loop-rows.lines c.next_record.new.lines (bytes_left c.args.lines.now (g.S.Source.rest c.args.source.now))
          (g.S.Source.rest c.loop-rows.source) (g.S.Source.rest c.next_record.new.source) c.in-Some.said
          (c.loop-rows.invariant.passed (c.next_record.ensures.ended going)) gives (search rules) (search rules) more going;
      counted = search (rules, arith);
      few = search rules;
      ended = λ going. c.loop-rows.invariant.ended (c.next_record.ensures.ended going);
      well = search rules;
    }
