use Rattle.sgt_access.proofs.Held.{first_stands, held_noted}
use Rattle.sgt_access.proofs.per_key.PerKeyAccesses.note.Goals as goal

pub invariant_of-self : goal.invariant_of-self
invariant_of-self c = rw c.note.ensures
    (held_noted c.self.inside.whole c.self.inside.known.only c.add-is_alone.new.self.only c.self.inside.known.masks c.add-is_alone.new.self.masks
    c.self.inside.accesses.items c.self.inside.lists c.store.new.accesses.items c.store.new.lists _ c.self.invariant
    c.store.ensures.stands (λ some. c.store.ensures.alone (c.add-is_alone.ensures.result.1 some)) c.add-is_alone.ensures.alone
    (c.add-is_alone.ensures.known c.self.inside.whole c.self.invariant.knows (λ some. rw c.as_slice.ensures.value
    (first_stands c.self.inside.whole c.self.inside.known.only c.self.inside.known.masks c.self.inside.accesses.items c.self.inside.lists
    c.self.invariant some))))
