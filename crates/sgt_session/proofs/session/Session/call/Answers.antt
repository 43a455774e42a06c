use Rattle.std.proofs.Common.{[], ◌∷◌, ◌++◌, ap, sym, ◌∙◌}
use Rattle.sgt_session.specs.declared.receipt.Receipt.{Receipt}
use Rattle.sgt_session.proofs.session.Session.call.Goals as goal

pub returns : goal.returns
returns g c =
    let filed = c.in_ok-make.ensures in
    let same = c.last.ensures _ filed.0 filed.2 in
    record {
      event = ap (λ (r : Receipt). r.event) same ∙ filed.1;
      receipts = filed.2 ∙ ap (λ r. c.args.self.now ++ r ∷ []) (sym same);
    }
