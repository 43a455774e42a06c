use Rattle.std.proofs.Common.{sym, ap, subst, ◌∙◌, inl, inr, arith}
use Rattle.std.specs.Option.{option_and_then}
use Rattle.sgt_model.specs.declared.entry.Entry.{Entry}
use Rattle.sgt_model.specs.Questions.{named_by}
use Rattle.sgt_model.specs.ShortReplies.{fell_in}
use Rattle.sgt_model.specs.Paths.{Member}
use Rattle.sgt_explain.specs.Places.{listed_by}
use Rattle.sgt_explain.proofs.source.first_undone.Goals as goal

pub returns : goal.returns
returns c v n undone below = elim undone [
  | inl named ↦ c.first_if-first.ensures v n
      (c.named.ensures ∙ sym (ap (option_and_then (λ (e : Entry). named_by e.event)) c.entry-entry.ensures.entry) ∙ named)
      (let within = c.first_of_all.ensures.within in omega (arith, within, below))
  | inr member ↦ c.first_of_all.ensures.none v n
      (subst (Member v) (ap (listed_by (λ (e : Entry). fell_in e.reply)) c.entry-entry.ensures.entry ∙ sym c.fell.ensures.fell) member)
      below
]
