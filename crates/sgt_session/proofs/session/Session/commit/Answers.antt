use Rattle.std.proofs.Common.{[], ◌∷◌, ◌++◌, ap, sym, ◌∙◌}
use Rattle.sgt_model.specs.Questions.{is_wait}
use Rattle.sgt_session.specs.declared.receipt.Receipt.{Receipt}
use Rattle.sgt_session.proofs.session.Session.commit.Goals as goal

pub returns : goal.returns
returns g c =
    let made = c.in_ok-make_commit.ensures in
    let last = made.2 in
    let same = c.last.ensures _ last.0 last.1 in (
      made.0,
      made.1,
      (
        last.1 ∙ ap (λ r. (c.args.self.now ++ made.0) ++ r ∷ []) (sym same),
        ap (λ (r : Receipt). r.event) same ∙ last.2,
        ap (λ (r : Receipt). is_wait r.reply) same ∙ last.3,
      ),
    )
