use Rattle.std.proofs.Common.{◌≡◌, ◌<◌, ◌++◌, ◌+◌, ◌∙◌, Some, length, ap, sym, subst}
use Rattle.std.specs.Prelude.{codes, slice_get, slice_index_or}
use Rattle.std.proofs.lemmas.Option.{slice_get-get_or}
use Rattle.std.specs.Fmt.{decimal}
use Rattle.sgt_notation.specs.Spellings.{spelling}
use Rattle.sgt_notation.specs.Readings.{texts}
use Rattle.sgt_check.proofs.Pieces.{grow, grow_number, placed_there}
use Rattle.sgt_check.proofs.mentioned.append_placed.Goals as goal

pub returns : goal.returns
returns c =
    let items = c.args.history.now.operations.items in
    let op = c.in-Some.operation.now in
    let within : c.args.place < length items = subst (λ l. c.args.place < length l) c.deref.ensures.value c.in-Some.ensures.lookup.3.0 in
    let is : op ≡ slice_index_or items c.args.place op =
    c.in-Some.ensures.lookup.1 ∙ ap (λ l. slice_index_or l c.args.place op) c.deref.ensures.value in
    let there : slice_get items c.args.place ≡ Some op = slice_get-get_or items c.args.place op within ∙ ap Some (sym is) in
    (grow c.args.text.now.items c.append_numbered.new.line.items c.extend_from_slice.new.self.items _ (codes ")")
    (grow_number c.args.text.now.items c.append_operation.new.text.items c.append_numbered.new.line.items
    (spelling (texts c.args.history.now) c.in-Some.operation.now) (codes " (") (decimal (c.args.place + 1))
    c.in_ok-append_operation.ensures
    c.in_ok-append_numbered.ensures.ok)
    c.in_ok-extend_from_slice.ensures.items)
    ∙ ap (λ l. c.args.text.now.items ++ l) (sym (placed_there c.args.history.now c.args.place c.in-Some.operation.now there))
