use Rattle.std.proofs.Common.{ℕ, ◌<◌, subst, sym, inl, inr, Ok, Err, arith}
use Rattle.sgt_model.specs.Paths.{Member}
use Rattle.sgt_access.proofs.RisingLists.{IsIndex, search_finds, index_absent, index_rises, member_inserted, member_last, rises_last}
use Rattle.sgt_access.proofs.rising.add_rising.Goals as goal

pub push-requires : goal.push-requires
push-requires c = (
  omega arith,
  c.requires.capacity (λ m.
      let less : c.args.t < c.args.t = c.is_above.ensures c.if-is_above.true c.args.t
      (subst (Member c.args.t) (sym c.as_slice.ensures.value) m) in
      absurd (omega (arith, less))),
)

pub returns-then-is_above-clause-members : goal.returns-then-is_above-clause-members
returns-then-is_above-clause-members c = rw c.push.ensures.items (member_last c.args.tids.now.items c.args.t)

pub returns-then-is_above-clause-rising : goal.returns-then-is_above-clause-rising
returns-then-is_above-clause-rising c = rw c.push.ensures.items (rises_last c.args.tids.now.items c.args.t c.requires.rising
    (λ u m. c.is_above.ensures c.if-is_above.true u (subst (Member u) (sym c.as_slice.ensures.value) m)))

pub insert-requires : goal.insert-requires
insert-requires c =
    let index : IsIndex c.args.tids.now.items c.args.t c.in-Err.index =
    search_finds _ _ _ (Err c.in-Err.index) c.deref.ensures.0 c.requires.rising c.in-Err.ensures.position in
    (omega arith, (index.within, c.requires.capacity (index_absent _ _ _ index)))

pub returns-in-Err-clause-members : goal.returns-in-Err-clause-members
returns-in-Err-clause-members c = rw c.insert.ensures.items (member_inserted c.args.tids.now.items c.in-Err.index c.args.t)

pub returns-in-Err-clause-rising : goal.returns-in-Err-clause-rising
returns-in-Err-clause-rising c = rw c.insert.ensures.items
    (index_rises _ _ _ c.requires.rising (search_finds _ _ _ (Err c.in-Err.index) c.deref.ensures.0 c.requires.rising
    c.in-Err.ensures.position))

pub returns-in_default-clause-members : goal.returns-in_default-clause-members
returns-in_default-clause-members c =
    let there : Member c.args.t c.args.tids.now.items =
    search_finds _ _ _ (Ok c.in_default.field-0) c.deref.ensures.0 c.requires.rising c.in_default.ensures.ok in
    λ u. (λ m. inr m, λ m. elim m [ inl e ↦ subst (λ z. Member z c.args.tids.now.items) (sym e) there | inr old ↦ old ])
