use Rattle.std.proofs.Common.{◌≡◌, ◌++◌, [], ◌∷◌, OnOk, sym, subst}
use Rattle.sgt_format.specs.Templates.{filled}
use Rattle.sgt_clients.specs.ReportText.{fault_line, witness_text}
use Rattle.sgt_check.proofs.Pieces.{grow}
use Rattle.sgt_clients.proofs.Stored.{on_ok}
use Rattle.sgt_clients.proofs.report_text.append_witness.Goals as goal

pub returns-in_ok-append_named-in-Fault : goal.returns-in_ok-append_named-in-Fault
returns-in_ok-append_named-in-Fault c =
    let start = c.args.text.now.items in
    let saw = c.args.clients.now in
    subst (λ x. OnOk c.append_fault_line.result (c.append_fault_line.new.text.items ≡ start ++ witness_text c.args.template.now saw x)) (sym c.in-Fault.is)
    (on_ok c.append_fault_line.result _ _ (λ line.
    grow start c.append_named-in-Fault.new.text.items c.append_fault_line.new.text.items
    (filled c.args.template.now (c.in-Fault.name.now ∷ []))
    (fault_line saw c.in-Fault.reader c.in-Fault.read c.in-Fault.fault) c.in_ok-append_named-in-Fault.ensures line)
    c.append_fault_line.ensures)
