use Rattle.std.proofs.Common.{rules, ◌≡◌, ◌<◌, ◌≤◌, false, take, length, ap, sym, ◌∙◌, subst, inl, arith}
use Rattle.std.specs.Prelude.{Some}
use Rattle.sgt_input.specs.Lines.{IsBreak, has_break}
use Rattle.sgt_input.specs.Intake.{Intake, IsGiven, IsReady}
use Rattle.sgt_input.proofs.Breaks.{long-found}
use Rattle.sgt_input.proofs.Ahead.{ahead-found, ahead-last, found-going, none-ended}
use Rattle.sgt_input.proofs.lines.Lines.ahead.Goals as goal

pub returns-then-len-gt-LONGEST_LINE-clause-none : goal.returns-then-len-gt-LONGEST_LINE-clause-none
returns-then-len-gt-LONGEST_LINE-clause-none c = λ none.
    let at : IsBreak (take c.args.self.now.within c.args.self.now.held) (Some c.in-Some.len) =
    subst (IsBreak (take c.args.self.now.within c.args.self.now.held)) c.in-Some.is c.first_break.ensures in
    inl (long-found c.args.self.now.within c.in-Some.len c.args.self.now.held at (search rules))

pub returns-else-len-gt-LONGEST_LINE-clause-line : goal.returns-else-len-gt-LONGEST_LINE-clause-line
returns-else-len-gt-LONGEST_LINE-clause-line c =
    let at : IsBreak (take c.args.self.now.within c.args.self.now.held) (Some c.in-Some.len) =
    subst (IsBreak (take c.args.self.now.within c.args.self.now.held)) c.in-Some.is c.first_break.ensures in
    let few : c.in-Some.len ≤ 65536 = search rules in
    let going : c.self.inside.ended ≡ false =
    found-going c.self.inside.number c.self.inside.within c.self.inside.ended c.self.inside.buffer.held c.self.inside.whole
    c.in-Some.len c.self.invariant
    (subst (λ (i : Intake). IsBreak (take i.within i.held) (Some c.in-Some.len)) (sym c.self.view_is) at) in
    let given = ahead-found c.args.self.now c.in-Some.len at few (sym (ap (λ (i : Intake). i.ended) c.self.view_is) ∙ going) in (
      given.0,
      given.1,
      given.2 ∙ ap (take c.in-Some.len) (sym (ap (λ (i : Intake). i.held) c.self.view_is) ∙ sym c.held-held.ensures.held),
    )

pub returns-else-is_empty-clause-line : goal.returns-else-is_empty-clause-line
returns-else-is_empty-clause-line c =
    let none : has_break (take c.args.self.now.within c.args.self.now.held) ≡ false =
    subst (IsBreak (take c.args.self.now.within c.args.self.now.held)) c.in-None.is c.first_break.ensures in
    let none' : has_break (take c.self.inside.within c.self.inside.buffer.held) ≡ false =
    subst (λ (i : Intake). has_break (take i.within i.held) ≡ false) (sym c.self.view_is) none in
    let some : 0 < length c.held-held.result.now = search (rules, arith) in
    let last = none-ended c.self.inside.number c.self.inside.within c.self.inside.ended c.self.inside.buffer.held c.self.inside.whole
    c.self.invariant none' (subst IsReady (sym c.self.view_is) c.requires) in
    let given = ahead-last (record {
      line = c.self.inside.buffer.line;
      number = c.self.inside.number;
      held = c.self.inside.buffer.held;
      within = c.self.inside.within;
      ended = c.self.inside.ended;
    }) none' last.0 last.1 (subst (λ bytes. 0 < length bytes) c.held-held.ensures.held some) last.2 in
    subst (λ (i : Intake). (k : Intake) × IsGiven i k × (k.line ≡ c.held-held.result.now)) c.self.view_is
    (given.0, given.1, given.2 ∙ sym c.held-held.ensures.held)
