use Rattle.std.proofs.Common.{◌≡◌, take}
use Rattle.sgt_clients.proofs.access.are_same.Given as goal

abbrev pub invariant-loop-place : goal.invariant-loop-place
invariant-loop-place l = take l.place l.accesses ≡ take l.place l.others
