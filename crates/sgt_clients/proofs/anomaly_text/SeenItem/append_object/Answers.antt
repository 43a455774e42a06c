use Rattle.std.proofs.Common.{rules, ◌≡◌, ◌++◌, ◌∙◌, ℕ, List, [], ◌∷◌, ap}
use Rattle.std.specs.Prelude.{codes}
use Rattle.std.specs.Fmt.{decimal}
use Rattle.sgt_format.specs.Templates.{filled}
use Rattle.sgt_check.proofs.Pieces.{grow}
use Rattle.sgt_clients.specs.AnomalyText.{example_members}
use Rattle.sgt_clients.proofs.anomaly_text.SeenItem.append_object.Goals as goal

abbrev head : ℕ → List ℕ → List ℕ
head count name = filled (codes "{\"anomaly\":\"#\",\"count\":#") (name ∷ decimal count ∷ [])

pub returns : goal.returns
returns c =
    let start = c.args.text.now.items in
    let s = c.args.self.now in
    let members = example_members c.args.clients.now s.first in
    let name : c.as_bytes.result.now ≡ s.name.now = search rules in
    grow start c.append_members.new.text.items c.extend_from_slice.new.self.items (head s.count s.name.now ++ members) (codes "}")
    (grow start c.append_filled.new.text.items c.append_members.new.text.items (head s.count s.name.now) members
    (c.in_ok-append_filled.ensures ∙ ap (λ n. start ++ head s.count n) name)
    c.in_ok-append_members.ensures)
    c.in_ok-extend_from_slice.ensures.items
