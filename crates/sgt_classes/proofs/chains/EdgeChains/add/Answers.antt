use Rattle.std.proofs.Common.{◌≡◌, ◌≢◌, ℕ, Some, ap, ◌∙◌, subst}
use Rattle.std.proofs.lemmas.Option.{slice_get-get_or}
use Rattle.sgt_classes.specs.Tables.{entry_of}
use Rattle.sgt_classes.proofs.EdgeChains.{chain_longer}
use Rattle.sgt_classes.proofs.chains.EdgeChains.add.Goals as goal

pub returns : goal.returns
returns c =
    let tops = entry_of c.args.self.now.tops in
    let tops' = entry_of c.put_on_top.new.tops in
    let is = c.of-transaction.ensures in
    let put = c.in_ok-put_on_top.ensures in
    chain_longer c.args.end c.args.edges.now c.args.place _ _ _ _ _
    (slice_get-get_or c.args.edges.now c.args.place _ c.requires.within) c.requires.before
    (subst (λ t. tops' t ≡ Some c.args.place) is put.top) (subst (λ t. (u : ℕ) → u ≢ t → tops' u ≡ tops u) is put.other_tops)
    (put.lower ∙ ap tops is) put.others_below
