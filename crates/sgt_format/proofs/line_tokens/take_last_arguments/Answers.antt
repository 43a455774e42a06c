use Rattle.std.proofs.Common.{refl}
use Rattle.sgt_format.proofs.LineTokens.{last_list}
use Rattle.sgt_format.proofs.line_tokens.take_last_arguments.Goals as goal

pub returns : goal.returns
returns c = (
  c.in_ok-args.ensures.0,
  last_list _ _ _ _ _ (c.if-not-takes_begin_array.ensures refl) c.in_ok-args.ensures.1 (c.if-not-takes_end_array.ensures.taken refl)
      (c.if-not-has_ended.ensures refl),
  c.in_ok-args.ensures.2,
  c.in_ok-args.ensures.3,
)
