use Rattle.std.proofs.Common.{◌++◌, ◌∙◌, ℕ, List, [], ◌∷◌, ap}
use Rattle.std.specs.Prelude.{codes}
use Rattle.sgt_format.specs.Templates.{filled}
use Rattle.sgt_check.proofs.Pieces.{grow}
use Rattle.sgt_clients.specs.LevelJson.{answer_text}
use Rattle.sgt_clients.specs.OrderText.{kept_answer, kept_members}
use Rattle.sgt_clients.proofs.order_text.append_member.Goals as goal

abbrev head : List ℕ → List ℕ → List ℕ
head name answer = filled (codes ",\"#-snapshot-isolation\":{\"holds\":\"#\"") (name ∷ answer ∷ [])

pub returns : goal.returns
returns c =
    let start = c.args.text.now.items in
    let name = c.args.name.now in
    let answer = answer_text (kept_answer c.args.kept.now) in
    let members = kept_members c.args.clients.now c.args.kept.now in
    grow start c.append_members.new.text.items c.extend_from_slice.new.self.items (head name answer ++ members) (codes "}")
    (grow start c.append_filled.new.text.items c.append_members.new.text.items (head name answer) members
    (c.in_ok-append_filled.ensures ∙ ap (λ a. start ++ head name a) (c.answer_text.ensures ∙ ap answer_text c.answer_of.ensures))
    c.in_ok-append_members.ensures)
    c.in_ok-extend_from_slice.ensures.items
