use Rattle.std.proofs.Common.{◌+◌, ◌-◌, take, refl, subst, sym, arith}
use Rattle.std.specs.Prelude.{Some}
use Rattle.sgt_input.specs.Lines.{IsBreak}
use Rattle.sgt_input.specs.Intake.{Intake, AtRest, IsGiven}
use Rattle.sgt_input.proofs.Breaks.{break-whole}
use Rattle.sgt_input.proofs.Ahead.{found-going, given-found, rest-following}
use Rattle.sgt_input.proofs.lines.Lines.pass.Goals as goal

pub overflow_sub-self-2 : goal.overflow_sub-self-2
overflow_sub-self-2 c =
    let at : IsBreak (take c.self.inside.within c.self.inside.buffer.held) (Some c.args.len) =
    subst (λ (i : Intake). IsBreak (take i.within i.held) (Some c.args.len)) (sym c.self.view_is) c.requires.line in
    omega (arith, break-whole (take c.self.inside.within c.self.inside.buffer.held) c.self.inside.whole c.args.len c.self.invariant.are at)

pub invariant_of-self : goal.invariant_of-self
invariant_of-self c =
    let at : IsBreak (take c.self.inside.within c.self.inside.buffer.held) (Some c.args.len) =
    subst (λ (i : Intake). IsBreak (take i.within i.held) (Some c.args.len)) (sym c.self.view_is) c.requires.line in
    subst (λ held. AtRest (c.self.inside.number + 1) (c.self.inside.within - (c.args.len + 1)) c.self.inside.ended held
    (c.self.inside.whole - (c.args.len + 1))) (sym c.take.ensures.held)
    (rest-following c.self.inside.number c.self.inside.within c.self.inside.ended c.self.inside.buffer.held c.self.inside.whole c.args.len
    c.self.invariant at)

pub returns-clause-given : goal.returns-clause-given
returns-clause-given c =
    let old : Intake = record {
      line = c.self.inside.buffer.line;
      number = c.self.inside.number;
      held = c.self.inside.buffer.held;
      within = c.self.inside.within;
      ended = c.self.inside.ended;
    } in
    let at : IsBreak (take old.within old.held) (Some c.args.len) =
    subst (λ (i : Intake). IsBreak (take i.within i.held) (Some c.args.len)) (sym c.self.view_is) c.requires.line in
    let new : Intake = record {
      line = c.take.new.self.line;
      number = c.self.inside.number + 1;
      held = c.take.new.self.held;
      within = c.self.inside.within - (c.args.len + 1);
      ended = c.self.inside.ended;
    } in
    subst (λ (i : Intake). IsGiven i new) c.self.view_is (given-found old new c.args.len at c.requires.short
    (found-going old.number old.within old.ended old.held c.self.inside.whole c.args.len c.self.invariant at)
    c.take.ensures.line c.take.ensures.held refl refl refl)
