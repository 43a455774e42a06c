-- The whole report on what clients saw, and the same as one object of JSON.
use Rattle.std.specs.Prelude.{◌++◌, ℕ, Bool, List, codes}
use Rattle.sgt_clients.specs.declared.clients.Clients.{Clients}
use Rattle.sgt_clients.specs.declared.level_findings.LevelFindings.{LevelFindings}
use Rattle.sgt_clients.specs.AnomalyText.{anomalies_text, anomalies_member}
use Rattle.sgt_clients.specs.JsonText.{head_text}
use Rattle.sgt_clients.specs.LevelJson.{levels_members}
use Rattle.sgt_clients.specs.LevelText.{levels_text}
use Rattle.sgt_clients.specs.OrderText.{orders_text, orders_members}
use Rattle.sgt_clients.specs.ReportText.{verdict_text}

-- the lines of the verdict, those on the levels, on the orders that are kept, and on the anomalies
abbrev pub report_text : Bool → Clients → LevelFindings → List ℕ
report_text strict c f = verdict_text strict c f.finding ++ levels_text strict c f ++ orders_text c f.orders ++ anomalies_text c f.anomalies.items

-- the object, and the end of its line
abbrev pub json_text : Bool → Clients → LevelFindings → List ℕ
json_text strict c f = head_text strict c f.finding ++ levels_members strict c f ++ orders_members c f.orders ++ anomalies_member c f.anomalies.items ++ codes "}\n"
