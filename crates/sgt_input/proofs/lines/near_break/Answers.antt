use Rattle.std.proofs.Common.{eqb, sym, ap, ◌∙◌, arith, w8}
use lib.Count.{count_trailing_zeros}
use lib.Lanes.{chunk}
use Rattle.std.proofs.lemmas.Bool.{true≢false}
use Rattle.std.proofs.lemmas.Simd.{length-chunk, bitmask_splat, none_from_empty_mask}
use Rattle.sgt_input.proofs.Breaks.{first-marked-here}
use Rattle.sgt_input.proofs.lines.near_break.Goals as goal

pub returns-then-marks-eq0 : goal.returns-then-marks-eq0
returns-then-marks-eq0 c =
    let v = chunk 0 32 c.args.bytes.now in
    let marks = bitmask_splat w8 eqb v 32 10 (length-chunk 0 32 c.args.bytes.now c.requires) (omega arith) in
    λ k low high ten. true≢false (sym ten ∙ none_from_empty_mask (λ x. eqb x 10) c.args.bytes.now 0 32 0 c.requires
    (sym marks ∙ c.if-marks-eq0.true) k low high)

pub returns : goal.returns
returns c =
    let v = chunk 0 32 c.args.bytes.now in
    let marks = bitmask_splat w8 eqb v 32 10 (length-chunk 0 32 c.args.bytes.now c.requires) (omega arith) in
    first-marked-here c.args.bytes.now _ c.requires (omega (arith, marks)) (ap (count_trailing_zeros 64) marks)
