-- What the ends of a feed (queue) know.
use Rattle.std.specs.Prelude.{◌≡◌, ℕ, ◌+◌, true, false, List, [], sum_by}
use mathlib.Core.Option.{some}
use lib.ListN.{get_elem?}
use Rattle.sgt_dispatch.specs.declared.item.Item.{Item}
use Rattle.sgt_dispatch.specs.declared.log.Log.{Log}

-- the producer's log of a new queue, with every share
abbrev pub first_log : Log
first_log = record { parts = 17; is_producer = true; put = []; taken = []; joined = [] }

-- a new taker's log
abbrev pub consumer_log : Log
consumer_log = record { parts = 1; is_producer = false; put = []; taken = []; joined = [] }

-- what remains of a log that was joined to another
abbrev pub spent_log : Log
spent_log = record { parts = 0; is_producer = false; put = []; taken = []; joined = [] }

-- P holds of each log and its number
abbrev pub EachLog : (ℕ → Log → Type 0) → List Log → Type 0
EachLog P logs = (number : ℕ) (log : Log) → get_elem? logs number ≡ some log → P number log

-- the items that a log and those joined to it have received, weighed and added up
abbrev pub weight_of : (Item → ℕ) → Log → ℕ
weight_of weigh log = sum_by weigh log.taken + sum_by (sum_by weigh) log.joined
