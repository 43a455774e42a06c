-- The receipts of all sessions compared with a history.
use Rattle.std.specs.Prelude.{◌≡◌, ℕ, ◌+◌, ◌<◌, nat_eq, List, [], ◌∷◌, All, length, count_by}
use Rattle.std.specs.List.{sum_by}
use Rattle.sgt_model.specs.declared.entry.Entry.{Entry}
use Rattle.sgt_session.specs.declared.receipt.Receipt.{Receipt}
use Rattle.sgt_session.specs.Receipts.{ReceiptStands}

-- how often the number occurs among the receipts of all sessions
abbrev pub named : ℕ → List (List Receipt) → ℕ
named p [] = 0
named p (rs ∷ sessions) = count_by (λ r. nat_eq r.number p) rs + named p sessions

-- the numbers rise, starting at the first
abbrev pub Rises : List Receipt → Type 0
Rises [] = Unit {0}
Rises (r ∷ rs) = All (λ s. r.number < s.number) rs × Rises rs

-- the sessions' receipts are the entries of the history, oldest first, each once; the receipts of one session rise in
-- the order of its calls
pub record AccountsForHistory (history : List Entry) (sessions : List (List Receipt)) : Type 0 where
  pub counted : length history ≡ sum_by length sessions
  pub stands : All (λ rs. All (λ r. ReceiptStands history r) rs) sessions
  pub once : (p : ℕ) → p < length history → named p sessions ≡ 1
  pub rises : All Rises sessions
