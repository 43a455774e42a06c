use Rattle.std.proofs.Common.{rules, ◌≡◌, ◌+◌, ◌-◌, ℕ, get_or, subst, arith, refl}
use Rattle.sgt_appends.specs.Indexes.{position_of}
use Rattle.sgt_appends.specs.Required.{AreOwnFrom}
use Rattle.sgt_appends.proofs.More.{own_one}
use Rattle.sgt_appends.proofs.Spots.{has_at}
use Rattle.sgt_appends.proofs.graph.last_other.Goals as goal

pub position_in-found-requires : goal.position_in-found-requires
position_in-found-requires c =
    let i : ℕ = c.loop-rest.rest - 1 in
    c.requires (get_or c.args.read.seen.now i 0)
    (has_at c.args.read.seen.now i (get_or c.args.read.seen.now i 0)
    (omega (arith, c.loop-rest-test.true, c.loop-rest.invariant.within)) refl)

pub returns-then-found-read-clause-some : goal.returns-then-found-read-clause-some
returns-then-found-read-clause-some c =
    let i : ℕ = c.loop-rest.rest - 1 in
    let back : c.loop-rest.rest ≡ i + 1 = omega (arith, c.loop-rest-test.true) in (
      i,
      omega (arith, c.loop-rest-test.true, c.loop-rest.invariant.within),
      c.position_in-found.ensures,
      search rules,
      subst (λ n. AreOwnFrom (position_of c.args.appends.now) c.args.read.reader c.args.read.key c.args.read.seen.now n) back
          c.loop-rest.invariant.own,
    )

pub loop-rest-preserved : goal.loop-rest-preserved
loop-rest-preserved c =
    let i : ℕ = c.loop-rest.rest - 1 in
    let back : c.loop-rest.rest ≡ i + 1 = omega (arith, c.loop-rest-test.true) in
    record {
      within = omega (arith, c.loop-rest-test.true, c.loop-rest.invariant.within);
      own = own_one (position_of c.args.appends.now) c.args.read.reader c.args.read.key c.args.read.seen.now i c.position_in-found.result
          (subst (λ n. AreOwnFrom (position_of c.args.appends.now) c.args.read.reader c.args.read.key c.args.read.seen.now n) back
          c.loop-rest.invariant.own)
          c.position_in-found.ensures (search rules);
    }
