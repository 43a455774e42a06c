use Rattle.std.proofs.Common.{rules, ◌≡◌, ◌<◌, ◌%◌, Bool, true, false, ◌&&◌, nat_eq, length, slice_index, slice_index_or, refl, sym, ap, ◌∙◌}
use Rattle.sgt_cycle.specs.Indices.{is_set}
use Rattle.sgt_cycle.proofs.Bits.{none_in}
use Rattle.sgt_access.proofs.Collected.{read_at}
use Rattle.sgt_access.proofs.places.guessed.Goals as goal

pub returns : goal.returns
returns c i =
    let tids = c.args.tids.now in
    let size : length tids ≡ 32 = search rules in
    let low : c.args.guess < 32 = search rules in
    let read : slice_index_or tids c.from.result c.index-tids-from.result ≡ slice_index tids c.args.guess =
    read_at tids c.from.result c.args.guess c.index-tids-from.result size c.from.ensures low in
    let differs : nat_eq (slice_index tids c.args.guess % 128) c.args.index ≡ false = search (rules, read) in
    none_in i ∙ sym (ap (λ b. is_set c.args.taken i && nat_eq i c.args.guess && b) differs ∙ and_false (is_set c.args.taken i && nat_eq i c.args.guess))
  where
    and_false : (b : Bool) → (b && false) ≡ false
    and_false true = refl
    and_false false = refl
