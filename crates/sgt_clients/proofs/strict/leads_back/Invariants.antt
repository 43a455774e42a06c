use Rattle.sgt_clients.proofs.RealTime.{Climbs}
use Rattle.sgt_clients.proofs.strict.leads_back.Given as goal

abbrev pub invariant-loop-step : goal.invariant-loop-step
invariant-loop-step l = Climbs l.history l.spans l.step-index l.start l.at
