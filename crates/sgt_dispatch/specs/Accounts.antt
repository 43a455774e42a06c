-- What is known of the items of a feed (queue) once takers are joined.
use Rattle.std.specs.Prelude.{◌≡◌, ◌≤◌, Bool, List, ◌++◌, All, sum_by, count_by}
use Rattle.sgt_dispatch.specs.declared.item.Item.{Item}
use Rattle.sgt_dispatch.specs.Subsequences.{IsSubsequence}

-- The first of the items sent have left the queue, and it holds the others. Each joined taker received some of those
-- that left, in their order. None was received more often than it left. With all takers joined, exactly these were
-- received
pub record AccountsForItems (put : List Item) (joined : List (List Item)) (held : List Item) (all : Type 0) : Type 0 where
  pub gone : List Item
  pub first_out : put ≡ gone ++ held
  pub order : All (λ taken. IsSubsequence taken gone) joined
  pub once : (test : Item → Bool) → sum_by (count_by test) joined ≤ count_by test gone
  pub whole : all → (test : Item → Bool) → sum_by (count_by test) joined ≡ count_by test gone
