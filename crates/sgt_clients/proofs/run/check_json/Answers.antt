use Rattle.std.proofs.Common.{rules, sym, subst}
use Rattle.sgt_clients.specs.Levels.{keeps_time, IsAnswer, AreFound}
use Rattle.sgt_clients.proofs.Leveled.{answers_right, strongest_holds, strongest_is, level_keeps}
use Rattle.sgt_clients.proofs.run.check_json.Goals as goal

pub returns-clause-checked : goal.returns-clause-checked
returns-clause-checked c =
    let found : AreFound (keeps_time c.args.question) c.in_ok-clients.clients c.in_ok-found.found =
    subst (λ strict. AreFound strict c.in_ok-clients.clients c.in_ok-found.found) c.keeps_time-strict.ensures c.in_ok-found.ensures.found in
    record {
      clients = c.in_ok-clients.clients;
      findings = c.in_ok-found.found;
      read = search rules;
      timed = search rules;
      some = search rules;
      found = found;
      text = search rules;
      answers = λ level keeps. answers_right (keeps_time c.args.question) c.in_ok-clients.clients c.in_ok-found.found level found keeps;
      strongest = strongest_holds (keeps_time c.args.question) c.in_ok-clients.clients c.in_ok-found.found found;
      none_stronger = strongest_is (keeps_time c.args.question) c.in_ok-clients.clients c.in_ok-found.found found;
      answered = c.answer.ensures;
      verdict = subst (λ a. IsAnswer c.args.question.level c.in_ok-clients.clients a) (sym c.answer.ensures)
          (answers_right (keeps_time c.args.question) c.in_ok-clients.clients c.in_ok-found.found c.args.question.level found
          (level_keeps c.args.question.strict c.args.question.level));
    }
