use Rattle.std.proofs.Common.{◌≤◌, length}
use Rattle.sgt_clients.proofs.explained.object_of.Given as goal

abbrev pub invariant-loop : goal.invariant-loop
invariant-loop l = l.end.at ≤ length l.json
