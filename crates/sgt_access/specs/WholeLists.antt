-- The access list after some calls.
use Rattle.std.specs.Prelude.{List, [], ◌∷◌, ◌++◌}
use Rattle.sgt_model.specs.AccessList.{ListedAccess, forgotten}
use Rattle.sgt_access.specs.declared.whole_list.Calls.{Calls, fold-Calls}
use Rattle.sgt_access.specs.declared.whole_list.Calls.TheOpen.{Calls-F}

-- the list after one more call, by the list before it
abbrev pub left_step : Calls-F (List ListedAccess) → List ListedAccess
left_step Calls-F.Empty = []
left_step (Calls-F.Note before access) = before.value ++ access ∷ []
left_step (Calls-F.Forget before t) = forgotten t before.value

-- the accesses recorded and not removed, oldest first
abbrev pub left_by : Calls → List ListedAccess
left_by = fold-Calls (List ListedAccess) left_step
