use Rattle.std.proofs.Common.{rules, refl, sym, subst, ◌∙◌}
use Rattle.sgt_desk.specs.Desks.{state}
use Rattle.sgt_desk.specs.Runs as runs
use Rattle.sgt_desk.specs.Runs.{Grows, gives_up}
use Rattle.sgt_desk.proofs.Runs.{late_from_start, longer, not_meanwhile, start_longer}
use Rattle.sgt_desk.proofs.running.try_once.Goals as goal

pub returns-in-Started-clause-grows : goal.returns-in-Started-clause-grows
returns-in-Started-clause-grows g c on =
    runs.begins refl c.in-Started.t (search rules)
    (subst (λ l. Grows (gives_up c.attempt.result) c.in-Started.t l (g.E.Answering.state c.attempt.new.desk.engine).past)
    (c.in_ok-ask_start.ensures.asks.begun c.in-Started.t c.in-Started.is).is (c.attempt.ensures.gone_on refl).grows)

pub returns-in-Started-clause-late_why : goal.returns-in-Started-clause-late_why
returns-in-Started-clause-late_why g c on is =
    late_from_start c.args.now c.in-Started.t c.args.run.now c.attempt.new.run (state g.E.Answering.state c.attempt.new.desk) _ _ refl
    ((c.attempt.ensures.gone_on refl).late is) refl

pub returns-in-Started-clause-grown : goal.returns-in-Started-clause-grown
returns-in-Started-clause-grown g c kept rests =
    start_longer (gives_up c.attempt.result) c.in-Started.t _ _ _ _
    (c.in_ok-ask_start.ensures.asks.begun c.in-Started.t c.in-Started.is).is (c.attempt.ensures.gone_on refl).grows

pub returns-in-Full-clause-grows : goal.returns-in-Full-clause-grows
returns-in-Full-clause-grows g c on =
    let r = c.in_ok-ask_start.ensures.asks.refused (λ t is. cc (sym c.in-Full.is ∙ is)) in runs.refused r.reply r.nothing r.is

pub returns-in_default : goal.returns-in_default
returns-in_default g c = record {
  outcome = search rules;
  retried = search rules;
  full = search rules;
  meanwhile = λ kept rests. not_meanwhile _ (g.E.Answering.state c.args.desk.now.engine).past c.ask_start.new.reply c.in_ok-ask_start.ensures.asks.not_over;
  grows = λ on. let r = c.in_ok-ask_start.ensures.asks.refused c.in_default.not-Started in runs.refused r.reply r.nothing r.is;
  grown = λ kept rests. longer c.in_ok-ask_start.ensures.asks.adds.entry.answered.adds;
  goes_on = search rules;
  late_why = search rules;
  left = search rules;
  call = search rules;
  others = search rules;
  part = search rules;
  configuration = search rules;
  over = search rules;
  cut = search rules;
  counts = search rules;
  turn = search rules;
  why = search rules;
  wakes = search rules;
  woken = search rules;
}
