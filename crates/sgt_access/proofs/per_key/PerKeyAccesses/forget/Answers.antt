use Rattle.sgt_access.proofs.per_key.PerKeyAccesses.forget.Goals as goal

pub invariant_of-self : goal.invariant_of-self
invariant_of-self c = rw c.forget.ensures (c.remove_all.ensures c.self.inside.whole c.self.invariant)
