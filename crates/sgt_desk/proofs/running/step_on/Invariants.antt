use Rattle.std.specs.Prelude.{◌≡◌, true, false}
use Rattle.sgt_model.specs.Fates.{live, start_count}
use Rattle.sgt_model.specs.Questions.{named_by}
use Rattle.sgt_desk.specs.Desks.{state, SameCounts, Wakes}
use Rattle.sgt_desk.specs.Attempts.{StaysLegal}
use Rattle.sgt_desk.specs.Runs.{Grows, RequestsOnly, KeepsCalls}
use Rattle.sgt_desk.proofs.running.step_on.Given as goal

abbrev pub invariant-loop : goal.invariant-loop
invariant-loop g l = record {
  starts : start_count (g.E.Answering.state l.desk.engine).past ≡ start_count (g.E.Answering.state l.initial.desk.engine).past;
  calls : KeepsCalls (g.E.Answering.state l.initial.desk.engine).past (g.E.Answering.state l.desk.engine).past;
  others : RequestsOnly (named_by l.step) (g.E.Answering.state l.initial.desk.engine).past (g.E.Answering.state l.desk.engine).past;
  part : l.desk.part ≡ l.initial.desk.part;
  configuration : (g.E.Answering.state l.desk.engine).configuration ≡ (g.E.Answering.state l.initial.desk.engine).configuration;
  counts : SameCounts (state g.E.Answering.state l.initial.desk) (state g.E.Answering.state l.desk);
  wakes : Wakes (state g.E.Answering.state l.initial.desk) (state g.E.Answering.state l.desk) l.wakes;
  woken : l.initial.wakes ≡ true → l.wakes ≡ true;
  grows : Grows false l.fn.t (g.E.Answering.state l.initial.desk.engine).past (g.E.Answering.state l.desk.engine).past;
  live_still : live (g.E.Answering.state l.initial.desk.engine).past l.fn.t ≡ true → live (g.E.Answering.state l.desk.engine).past l.fn.t ≡ true;
  legal : StaysLegal (state g.E.Answering.state l.initial.desk) (state g.E.Answering.state l.desk);
}
