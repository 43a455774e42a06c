-- The lines and the member of JSON on the anomalies that are counted.
use Rattle.std.specs.Prelude.{◌++◌, ℕ, List, [], ◌∷◌, codes}
use Rattle.std.specs.List.{flat_map}
use Rattle.std.specs.Fmt.{decimal}
use Rattle.sgt_clients.specs.declared.anomalies.Example.{Example}
use Rattle.sgt_clients.specs.declared.anomalies.Example.TheVariants.{Read, Partial, Update}
use Rattle.sgt_clients.specs.declared.anomalies.Seen.{Seen}
use Rattle.sgt_format.specs.Templates.{filled}
use Rattle.sgt_clients.specs.declared.clients.Clients.{Clients}
use Rattle.sgt_clients.specs.JsonText.{list_text, tie_object, cycle_member, reader_members}
use Rattle.sgt_clients.specs.ReportText.{fault_text, fault_line, tie_text, partial_text, partial_line}

-- the lines of an example
abbrev pub example_text : Clients → Example → List ℕ
example_text c (Read reader read fault) = fault_line c reader read fault
example_text c (Partial partial) = partial_line c partial
example_text c (Update one other) = flat_map (tie_text c) (one ∷ other ∷ [])

-- the line that names an anomaly, and how often it was seen, and those of its example
abbrev pub seen_text : Clients → Seen → List ℕ
seen_text c s = filled (codes "anomaly #: #, the first:\n") (s.name.now ∷ decimal s.count ∷ []) ++ example_text c s.first

-- the same of all anomalies
abbrev pub anomalies_text : Clients → List Seen → List ℕ
anomalies_text c all = flat_map (seen_text c) all

-- the members of an example
abbrev pub example_members : Clients → Example → List ℕ
example_members c (Read reader read fault) = reader_members c reader (fault_text c reader read fault)
example_members c (Partial partial) = reader_members c partial.reader (partial_text c partial)
example_members c (Update one other) = cycle_member (tie_object c) (one ∷ other ∷ [])

-- the object of an anomaly: its name, how often it was seen, and the example
abbrev pub seen_object : Clients → Seen → List ℕ
seen_object c s = filled (codes "{\"anomaly\":\"#\",\"count\":#") (s.name.now ∷ decimal s.count ∷ []) ++ example_members c s.first ++ codes "}"

-- the member with the anomalies
abbrev pub anomalies_member : Clients → List Seen → List ℕ
anomalies_member c all = list_text (codes ",\"anomalies\":[") (seen_object c) all
