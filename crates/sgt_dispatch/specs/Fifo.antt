-- The rule of the queue.
use Rattle.std.specs.Prelude.{◌≡◌, ◌≤◌, ℕ, true, List, [], ◌++◌, All, sum_by}
use Rattle.sgt_dispatch.specs.declared.item.Item.{Item}
use Rattle.sgt_dispatch.specs.declared.log.Log.{Log}
use Rattle.sgt_dispatch.specs.Accounts.{AccountsForItems}
use Rattle.sgt_dispatch.specs.Logs.{EachLog, weight_of}
use Rattle.sgt_dispatch.specs.Subsequences.{IsSubsequence}

-- The items sent are the ones gone, followed by those that the queue holds. Exactly the items gone were received, each
-- item as often, and by each taker in order
pub record IsFifo (held : List Item) (logs : List Log) : Type 0 where
  pub producer : ℕ
  pub gone : List Item
  pub parts : sum_by (λ log. log.parts) logs ≡ 17
  pub put : EachLog (λ number log. log.is_producer ≡ true → (number ≡ producer) × (log.put ≡ gone ++ held)) logs
  pub order : EachLog (λ _ log. IsSubsequence log.taken gone × All (λ taken. IsSubsequence taken gone) log.joined) logs
  pub once : (weigh : Item → ℕ) → sum_by (weight_of weigh) logs ≡ sum_by weigh gone
  pub spent : EachLog (λ _ log. log.parts ≡ 0 → (log.taken ≡ []) × (log.joined ≡ [])) logs

-- what the producer learns when it joins: its shares are at most 17, and with all 17 it knows of everything received
pub record IsLearned (log : Log) (held : List Item) : Type 0 where
  pub few : log.parts ≤ 17
  pub accounts : AccountsForItems log.put log.joined held (log.parts ≡ 17)
