use Rattle.std.proofs.Common.{rules, refl, ◌≡◌, false}
use Rattle.std.proofs.lemmas.Bool.{true≢false}
use Rattle.sgt_access.proofs.Rivals.{rival_first, rival_second, rival_in_second, no_rival_in_none}
use Rattle.sgt_access.proofs.number_lists.has_rival_in_both.Goals as goal

pub returns-then-has_rival_among : goal.returns-then-has_rival_among
returns-then-has_rival_among c = record {
  exact = (
    λ is. rival_first c.args.t c.args.key c.args.kind c.args.accesses.now c.args.lists.now (c.has_rival_among.ensures.exact.0 c.if-has_rival_among.true),
    λ has. refl,
  );
}
