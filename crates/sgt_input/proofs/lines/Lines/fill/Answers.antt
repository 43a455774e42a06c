use Rattle.std.proofs.Common.{rules, ◌≡◌, ◌<◌, ◌≤◌, sym, ◌∙◌, subst, false, length}
use Rattle.sgt_input.specs.Lines.{AtLongLine, AtLimit}
use Rattle.sgt_input.specs.Intake.{has_whole_line, IsReady}
use Rattle.sgt_input.proofs.Breaks.{long-none}
use Rattle.sgt_input.proofs.Known.{keeps-trans, not-ready}
use Rattle.sgt_input.proofs.Given.{keeps-ends, ends-at-long, ends-at-limit}
use Rattle.sgt_input.proofs.lines.Lines.fill.Goals as goal

pub loop-self-preserved : goal.loop-self-preserved
loop-self-preserved g c =
    let none : has_whole_line c.loop-self.self ≡ false = search rules in
    let going : c.loop-self.self.ended ≡ false = search rules in
    record {
      number = c.read.ensures.number ∙ c.loop-self.invariant.number;
      within = c.read.ensures.same ∙ c.loop-self.invariant.within;
      bytes = keeps-trans _ _ _ c.loop-self.invariant.bytes c.read.ensures.bytes;
      counted = search rules;
      untouched =
          λ ready. absurd (not-ready c.loop-self.self none going (subst IsReady (sym (c.loop-self.invariant.untouched ready).0) ready));
      ended = λ _. c.loop-self.invariant.ended going;
      well = search rules;
    }

pub returns-then-min-gt-LONGEST_LINE-clause-fault : goal.returns-then-min-gt-LONGEST_LINE-clause-fault
returns-then-min-gt-LONGEST_LINE-clause-fault g c =
    let none : has_whole_line c.loop-self.self ≡ false = search rules in
    let long : 65536 < length c.loop-self.self.held = search rules in
    let inside : 65536 < c.loop-self.self.within = search rules in (
      search rules,
      keeps-ends c.args.self.now.within c.loop-self.self.within _ _ AtLongLine c.loop-self.invariant.bytes c.loop-self.invariant.within
          (ends-at-long c.loop-self.self (g.S.Source.rest c.loop-self.source)
          (long-none c.loop-self.self.within c.loop-self.self.held none long inside, long, inside)),
    )

pub returns-then-held-self-clause-fault : goal.returns-then-held-self-clause-fault
returns-then-held-self-clause-fault g c =
    let none : has_whole_line c.loop-self.self ≡ false = search rules in
    let past : c.loop-self.self.within < length c.loop-self.self.held = search rules in
    let few : c.loop-self.self.within ≤ 65536 = search rules in
    keeps-ends c.args.self.now.within c.loop-self.self.within _ _ AtLimit c.loop-self.invariant.bytes c.loop-self.invariant.within
    (ends-at-limit c.loop-self.self (g.S.Source.rest c.loop-self.source) none few past)
