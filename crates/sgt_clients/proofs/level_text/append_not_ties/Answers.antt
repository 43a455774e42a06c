use Rattle.sgt_clients.proofs.Stored.{on_ok}
use Rattle.sgt_check.proofs.Pieces.{grow}
use Rattle.sgt_clients.proofs.level_text.append_not_ties.Goals as goal

pub returns : goal.returns
returns c =
    on_ok c.append_ties.result _ _ (λ more.
    grow c.args.text.now.items c.append_not.new.text.items c.append_ties.new.text.items _ _ c.in_ok-append_not.ensures more)
    c.append_ties.ensures
