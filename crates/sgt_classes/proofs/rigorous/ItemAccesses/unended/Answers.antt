use Rattle.std.proofs.Common.{rules, inl, inr}
use Rattle.sgt_classes.proofs.Rigorousness.{rigorous_strict_before}
use Rattle.sgt_classes.proofs.rigorous.ItemAccesses.unended.Goals as goal

pub unended-write-requires-clause-strict : goal.unended-write-requires-clause-strict
unended-write-requires-clause-strict c = rigorous_strict_before _ _ c.requires.rigorous

pub unended_reader-requires-clause-strict : goal.unended_reader-requires-clause-strict
unended_reader-requires-clause-strict c i broken = let all = c.unended-write.ensures.none (search rules) in all i broken

pub returns-clause-none : goal.returns-clause-none
returns-clause-none c none i broken = elim broken [
  | inl strict ↦ (let all = c.unended-write.ensures.none (search rules) in all i strict)
  | inr over ↦ c.unended_reader.ensures.none none i over
]
