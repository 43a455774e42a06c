-- The entry of the receipt that was appended last.
use Rattle.std.proofs.Common.{◌≡◌, ◌∙◌, ◌∷◌, ap, sym}
use Rattle.sgt_model.specs.declared.entry.Entry.{Entry}
use Rattle.sgt_engine.specs.EngineView.{EngineView, with_entry}
use Rattle.sgt_session.specs.declared.receipt.Receipt.{Receipt}
use Rattle.sgt_session.specs.Receipts.{entry_of, IsNewest}

-- it is the newest one of the engine
pub filed_is_newest : (engine old : EngineView) (r : Receipt) (e : Entry) → engine ≡ with_entry r.event r.reply old → e ≡ entry_of r
    → IsNewest e engine.past
filed_is_newest engine old r e filed same =
    (old.past, ap (λ (v : EngineView). v.past) filed ∙ ap (λ (x : Entry). x ∷ old.past) (sym same))
