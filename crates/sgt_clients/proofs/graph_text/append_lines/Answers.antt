use Rattle.std.proofs.Common.{◌≡◌, ◌++◌, OnOk, sym, subst}
use Rattle.sgt_clients.specs.GraphText.{graph_lines}
use Rattle.sgt_clients.proofs.graph_text.append_lines.Goals as goal

pub returns-in-Fault : goal.returns-in-Fault
returns-in-Fault c =
    subst (λ f. OnOk c.append_filled.result (c.append_filled.new.text.items ≡ c.args.text.now.items ++ graph_lines c.args.clients.now f))
    (sym c.in-Fault.is) c.append_filled.ensures
