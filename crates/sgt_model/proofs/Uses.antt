-- How far a run has come: one more access keeps what was used, and a run of few accesses has made few.
use Rattle.std.proofs.Common.{◌≡◌, ℕ, zero, suc, ℤ, List, [], ◌∷◌, ◌++◌, Option}
use Rattle.sgt_model.specs.Contents.{Key}
use Rattle.sgt_model.specs.Runs.{Run, looks, puts, ends, raises}
use Rattle.sgt_model.specs.Traces.{Looks, Puts, trace, next_at, Used}

-- where a read is next, its value is used next
pub used_look-suc : (r : Run) (vs : List (Option ℤ)) (made : ℕ) (k : Key) (v : Option ℤ) → Used r vs made
    → next_at (trace r vs) made ≡ Looks k → Used r (vs ++ v ∷ []) (suc made)
used_look-suc (looks j go) [] zero k v u e = tt
used_look-suc (puts j x rest) [] zero k v u e = absurd (cc)
used_look-suc (ends answers) [] zero k v u e = absurd (cc)
used_look-suc (raises code) [] zero k v u e = absurd (cc)
used_look-suc r (w ∷ vs) zero k v u e = absurd u
used_look-suc (looks j go) [] (suc made) k v u e = absurd u
used_look-suc (looks j go) (w ∷ vs) (suc made) k v u e = used_look-suc (go w) vs made k v u e
used_look-suc (puts j x rest) vs (suc made) k v u e = used_look-suc rest vs made k v u e
used_look-suc (ends answers) vs (suc made) k v u e = absurd u
used_look-suc (raises code) vs (suc made) k v u e = absurd u

-- where a write is next, it is made
pub used_store-suc : (r : Run) (vs : List (Option ℤ)) (made : ℕ) (k : Key) (x : Option ℤ) → Used r vs made
    → next_at (trace r vs) made ≡ Puts k x → Used r vs (suc made)
used_store-suc (looks j go) [] zero k x u e = absurd (cc)
used_store-suc (puts j y rest) [] zero k x u e = tt
used_store-suc (ends answers) [] zero k x u e = absurd (cc)
used_store-suc (raises code) [] zero k x u e = absurd (cc)
used_store-suc r (w ∷ vs) zero k x u e = absurd u
used_store-suc (looks j go) [] (suc made) k x u e = absurd u
used_store-suc (looks j go) (w ∷ vs) (suc made) k x u e = used_store-suc (go w) vs made k x u e
used_store-suc (puts j y rest) vs (suc made) k x u e = used_store-suc rest vs made k x u e
used_store-suc (ends answers) vs (suc made) k x u e = absurd u
used_store-suc (raises code) vs (suc made) k x u e = absurd u
