use Rattle.std.proofs.Common.{◌≡◌, ℕ, length, ◌∷◌, [], None, subst, sym, ap, ◌∙◌, rules}
use Rattle.std.proofs.lemmas.List.{length-map}
use Rattle.std.specs.Prelude.{slice_get}
use Rattle.std.specs.Global.{Vec}
use Rattle.sgt_notation.proofs.Gets.{get_seam}
use Rattle.sgt_notation.proofs.ItemNumbers.{knows_more, texts_grown}
use Rattle.sgt_notation.specs.Numbering.{texts_of, number_of}
use Rattle.sgt_notation.proofs.items.Items.number.Goals as goal

pub returns-in-Some-clause-number : goal.returns-in-Some-clause-number
returns-in-Some-clause-number c = (c.requires.known c.args.text.now c.in-Some.number).0 (cc)

pub returns-clause-known : goal.returns-clause-known
returns-clause-known c =
    let key = c.in_ok-owned.field-0 in
    let grown = texts_grown c.args.self.now.texts.items c.push.new.self.items c.in_ok-owned-2.field-0 key.items c.in_ok-push.ensures.items
    (c.in_ok-owned-2.ensures ∙ sym c.in_ok-owned.ensures) in
    let absent : number_of c.args.self.now c.args.text.now ≡ None = cc in
    let count : c.len-number.result ≡ length (texts_of c.args.self.now) = search
    (rules, length-map c.args.self.now.texts.items (λ (t : Vec ℕ). t.items)) in
    knows_more c.args.self.now (record { numbers = c.insert.new.self; texts = c.push.new.self }) key.items c.len-number.result count
    c.requires.known (subst (λ t. number_of c.args.self.now t ≡ None) (sym c.in_ok-owned.ensures) absent) c.in_ok-insert.ensures.updates
    grown

pub returns-clause-number : goal.returns-clause-number
returns-clause-number c =
    let grown = texts_grown c.args.self.now.texts.items c.push.new.self.items c.in_ok-owned-2.field-0 c.args.text.now
    c.in_ok-push.ensures.items c.in_ok-owned-2.ensures in
    let count : c.len-number.result ≡ length (texts_of c.args.self.now) = search
    (rules, length-map c.args.self.now.texts.items (λ (t : Vec ℕ). t.items)) in
    ap (slice_get (texts_of (record { numbers = c.insert.new.self; texts = c.push.new.self }))) count
    ∙ ap (λ l. slice_get l (length (texts_of c.args.self.now))) grown ∙ get_seam (texts_of c.args.self.now) c.args.text.now []

pub returns-clause-kept : goal.returns-clause-kept
returns-clause-kept c = (
  c.args.text.now ∷ [],
  texts_grown c.args.self.now.texts.items c.push.new.self.items c.in_ok-owned-2.field-0 c.args.text.now c.in_ok-push.ensures.items
      c.in_ok-owned-2.ensures,
)
