-- The lines and members on the orders that a snapshot run keeps.
use Rattle.std.specs.Prelude.{◌++◌, List, ℕ, [], ◌∷◌, Option, Some, None, codes, if◌then◌else◌}
use Rattle.std.specs.List.{flat_map}
use Rattle.sgt_format.specs.Templates.{filled}
use Rattle.sgt_clients.specs.declared.clients.Clients.{Clients}
use Rattle.sgt_clients.specs.declared.level.Answer.{Answer}
use Rattle.sgt_clients.specs.declared.level.Answer.TheVariants.{Yes, No, Undecided}
use Rattle.sgt_clients.specs.declared.orders.Kept.{Kept}
use Rattle.sgt_clients.specs.declared.orders.Kept.TheVariants as kept
use Rattle.sgt_clients.specs.declared.orders.KeptOrders.{KeptOrders}
use Rattle.sgt_clients.specs.JsonText.{cycle_member, step_object}
use Rattle.sgt_clients.specs.LevelJson.{answer_text, run_members}
use Rattle.sgt_clients.specs.ReportText.{step_text}

-- whether a run keeps an order
abbrev pub kept_answer : Kept → Answer
kept_answer kept.Implied = Yes
kept_answer (kept.Run run) = Yes
kept_answer kept.NotSnapshot = No
kept_answer (kept.Cycle passages) = No
kept_answer kept.Open = Undecided

-- the end of the line, and the lines on what leaves no run
abbrev pub kept_lines : Clients → Kept → List ℕ
kept_lines c kept.Implied = codes "\n"
kept_lines c (kept.Run run) = codes "\n"
kept_lines c kept.NotSnapshot = codes "\n"
kept_lines c (kept.Cycle passages) = codes ":\n" ++ flat_map (step_text c) passages.items
kept_lines c kept.Open = codes "\n"

-- whether a run keeps the order of this name, and what leaves none
abbrev pub kept_text : List ℕ → Clients → Kept → List ℕ
kept_text name c k = filled (codes "# snapshot isolation #") (name ∷ answer_text (kept_answer k) ∷ []) ++ kept_lines c k

-- whether a run keeps real time, and what leaves none, unless the lines before say it
abbrev pub strong_text : Clients → KeptOrders → List ℕ
strong_text c o =
    if o.strong_above then codes "strong snapshot isolation no: by the lines above\n"
    else kept_text (codes "strong") c o.strong

-- the lines on both orders, if real time is kept
abbrev pub orders_text : Clients → Option KeptOrders → List ℕ
orders_text c None = []
orders_text c (Some o) = strong_text c o ++ kept_text (codes "session") c o.session

-- the run, or the cycle that leaves none
abbrev pub kept_members : Clients → Kept → List ℕ
kept_members c kept.Implied = []
kept_members c (kept.Run run) = run_members run
kept_members c kept.NotSnapshot = []
kept_members c (kept.Cycle passages) = cycle_member (step_object c) passages.items
kept_members c kept.Open = []

-- the member of the order of this name
abbrev pub kept_member : List ℕ → Clients → Kept → List ℕ
kept_member name c k = filled (codes ",\"#-snapshot-isolation\":{\"holds\":\"#\"") (name ∷ answer_text (kept_answer k) ∷ [])
    ++ kept_members c k ++ codes "}"

-- the members on both orders, if real time is kept
abbrev pub orders_members : Clients → Option KeptOrders → List ℕ
orders_members c None = []
orders_members c (Some o) = kept_member (codes "strong") c o.strong ++ kept_member (codes "session") c o.session
