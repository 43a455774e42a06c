-- A history as lists of events.
use Rattle.std.specs.Prelude.{List, map, reverse}
use Rattle.sgt_model.specs.declared.entry.Entry.{Entry}
use Rattle.sgt_model.specs.declared.event.Event.{Event}

-- its events, oldest first
abbrev pub events_of : List Entry → List Event
events_of past = map (λ (e : Entry). e.event) (reverse past)
