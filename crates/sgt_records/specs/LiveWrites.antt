-- The live writes: which live transaction has written which key.
use Rattle.std.specs.Prelude.{◌≡◌, ℕ, Bool, false, ◌&&◌, ◌||◌, nat_eq, List, [], ◌∷◌, Option, Some}
use Rattle.std.specs.List.{All}
use Rattle.slab.specs.Slab.{Slab}
use Rattle.sgt_model.specs.Contents.{Key, key_eq}
use Rattle.sgt_model.specs.Chains.{writes_in}
use Rattle.sgt_records.specs.declared.chain.Chain.{Chain}
use Rattle.sgt_records.specs.declared.live_write.LiveWrite.{LiveWrite}
use Rattle.sgt_records.specs.declared.record.Record.{Record}
use Rattle.sgt_records.specs.Slots.{key_chain}

-- t has written the key
abbrev pub is_live : ℕ → Key → List LiveWrite → Bool
is_live t k [] = false
is_live t k (w ∷ writes) = (nat_eq w.by t && key_eq w.key k) || is_live t k writes

-- they name exactly the writers in the chains
abbrev pub AreLive : (Key → Option Record) → Slab Chain → List LiveWrite → Type 0
AreLive records chains writes = (t : ℕ) (k : Key) → is_live t k writes ≡ writes_in t (key_chain records chains k)

-- each has the index of its key's record
abbrev pub IndicesAgree : (Key → Option ℕ) → List LiveWrite → Type 0
IndicesAgree indices writes = All (λ (w : LiveWrite). indices w.key ≡ Some w.index) writes
