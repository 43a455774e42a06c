use Rattle.std.proofs.Common.{◌≡◌, ◌++◌, OnOk, sym, subst}
use Rattle.sgt_clients.specs.JsonText.{anomaly_member, reader_members, finding_members}
use Rattle.sgt_clients.specs.ReportText.{fault_text}
use Rattle.sgt_check.proofs.Pieces.{grow}
use Rattle.sgt_clients.proofs.Stored.{on_ok}
use Rattle.sgt_clients.proofs.json_text.append_finding.Goals as goal

pub returns-in_ok-append_name-in-Fault : goal.returns-in_ok-append_name-in-Fault
returns-in_ok-append_name-in-Fault c =
    let start = c.args.text.now.items in
    let saw = c.args.clients.now in
    subst (λ x. OnOk c.append_reader.result (c.append_reader.new.text.items ≡ start ++ finding_members saw x)) (sym c.in-Fault.is)
    (on_ok c.append_reader.result _ _ (λ line.
    grow start c.append_name-in-Fault.new.text.items c.append_reader.new.text.items (anomaly_member c.in-Fault.name.now)
    (reader_members saw c.in-Fault.reader (fault_text saw c.in-Fault.reader c.in-Fault.read c.in-Fault.fault)) c.in_ok-append_name-in-Fault.ensures line)
    c.append_reader.ensures)
