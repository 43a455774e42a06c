-- The order in which transactions commit. It agrees with conflicts (commit-order preserving: Durner and Neumann,
-- ICDE 2019) and with who read from whom (recoverable: Bernstein, Hadzilacos and Goodman (1987), chapter 2).
use Rattle.std.specs.Prelude.{◌≡◌, ◌≢◌, ℕ, true, ◌⊎◌, List, [], ◌∷◌, length, Option, Some, None, nat_eq}
use Rattle.std.specs.Option.{option_or, option_map}
use Rattle.sgt_model.specs.declared.reply.Fate.TheVariants as fate
use Rattle.sgt_model.specs.declared.entry.Entry.{Entry}
use Rattle.sgt_model.specs.Contents.{Key}
use Rattle.sgt_model.specs.Accesses.{Access, access_of}
use Rattle.sgt_model.specs.Fates.{ending_in, committed}
use Rattle.sgt_model.specs.Values.{stores}
use Rattle.sgt_model.specs.ReadFrom.{ReadFrom}
use Rattle.sgt_model.specs.Pairs.{Pair}

-- t had committed before the entry in which u commits
abbrev pub CommitsBefore : List Entry → ℕ → ℕ → Type 0
CommitsBefore [] t u = ⊥
CommitsBefore (e ∷ past) t u = ((ending_in e.event e.reply u ≡ Some fate.Committed) × (committed past t ≡ true)) ⊎ CommitsBefore past t u

-- the index of t's last write of the key: how many entries are before it
abbrev pub last_store : List Entry → Key → ℕ → Option ℕ
last_store [] k t = None
last_store (e ∷ past) k t = option_or (option_map (λ (a : Access). length past) (stores (λ u. nat_eq u t) k (access_of e))) (last_store past k t)

-- if an edge leads from one committed transaction to another, the first committed first; and a committed transaction
-- committed after each other transaction that it read from
pub record CommitsInOrder (past : List Entry) : Type 0 where
  pub pairs : (t u : ℕ) → committed past t ≡ true → committed past u ≡ true → Pair past t u → CommitsBefore past t u
  pub sources : (t u : ℕ) → committed past t ≡ true → ReadFrom past t u → CommitsBefore past u t

-- commit order is a strict total order of the committed transactions
pub record CommitOrderIsTotal (past : List Entry) : Type 0 where
  pub of_committed : (t u : ℕ) → CommitsBefore past t u → (committed past t ≡ true) × (committed past u ≡ true)
  pub irreflexive : (t : ℕ) → CommitsBefore past t t → ⊥
  pub transitive : (t u v : ℕ) → CommitsBefore past t u → CommitsBefore past u v → CommitsBefore past t v
  pub total : (t u : ℕ) → t ≢ u → committed past t ≡ true → committed past u ≡ true → CommitsBefore past t u ⊎ CommitsBefore past u t
