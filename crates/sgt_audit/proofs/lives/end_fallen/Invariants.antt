use Rattle.std.proofs.Common.{◌≡◌, ℕ, true, cond, nat_eq, take, slice_get, vec_len}
use Rattle.std.specs.List.{list_any}
use Rattle.std.specs.Option.{option_map}
use Rattle.sgt_audit.specs.Lives.{ended_life}
use Rattle.sgt_audit.proofs.lives.end_fallen.Given as goal

abbrev pub invariant-loop-t : goal.invariant-loop-t
invariant-loop-t l = record {
  rows : (u : ℕ) → slice_get l.lives.items u ≡ option_map (λ life. cond (list_any (λ v. nat_eq v u) (take l.t-index l.fell))
      (ended_life l.number true life) life) (slice_get l.fn.lives.items u);
  count : vec_len l.lives ≡ vec_len l.fn.lives;
}
