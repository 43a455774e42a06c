use Rattle.std.proofs.Common.{◌∷◌, [], take, subst, sym, inl, inr}
use Rattle.std.proofs.lemmas.List.{take_all}
use Rattle.sgt_appends.specs.Lists.{Has}
use Rattle.sgt_appends.specs.Precedences.{appended}
use Rattle.sgt_appends.proofs.Words.{Has-append_cases}
use Rattle.sgt_levels.proofs.Grown.{one_longer}
use Rattle.sgt_levels.proofs.replay.are_free.Goals as goal

pub loop-operation-preserved : goal.loop-operation-preserved
loop-operation-preserved c = λ k v has.
    elim (Has-append_cases (appended k (take c.loop-operation.operation-index c.args.operations.now))
    (appended k (c.operation-item.result ∷ [])) v
    (subst (λ l. Has l v)
    (one_longer c.args.operations.now c.loop-operation.operation-index c.operation-item.result k c.loop-operation-test.true c.operation-item.is)
    has)) [
      | inl w ↦ c.loop-operation.invariant k v w
      | inr w ↦ c.is_free.ensures c.if-not-is_free.false k v w
    ]

pub returns : goal.returns
returns c = λ yes k v has.
    c.loop-operation.invariant k v
    (subst (λ l. Has (appended k l) v) (sym (take_all c.loop-operation.operation-index c.args.operations.now c.loop-operation-test.false)) has)
