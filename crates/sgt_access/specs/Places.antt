-- The places of transactions.
use Rattle.std.specs.Prelude.{◌≡◌, ℕ, ◌<◌, ◌%◌, ◌⊎◌, Bool, true, false, ◌&&◌, ◌||◌, nat_eq, List, slice_index, slice_set}
use Rattle.sgt_cycle.specs.Indices.{is_set}

-- the places that are taken, as a set, and the transaction at each of them
pub record Taken : Type 0 where
  pub taken : ℕ
  pub tids : List ℕ

-- whether the transaction is at the place
abbrev pub is_at : ℕ → List ℕ → ℕ → ℕ → Bool
is_at taken tids t place = is_set taken place && nat_eq (slice_index tids place) t

-- the transaction has a place now that was free
pub record IsTaken (taken : ℕ) (tids : List ℕ) (t place taken' : ℕ) (tids' : List ℕ) : Type 0 where
  pub low : place < 32
  pub free : is_set taken place ≡ false
  pub more : (i : ℕ) → is_set taken' i ≡ (is_set taken i || nat_eq i place)
  pub there : tids' ≡ slice_set tids place t

-- a place that is taken is hidden, or is the guess of its transaction
abbrev pub AreGuesses : ℕ → List ℕ → ℕ → List ℕ → Type 0
AreGuesses taken tids hidden guesses = (i : ℕ) → is_set taken i ≡ true
    → (is_set hidden i ≡ true) ⊎ (slice_index guesses (slice_index tids i % 128) % 32 ≡ i)
