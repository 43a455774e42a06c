use Rattle.std.proofs.Common.{refl, sym, ◌∙◌, subst, inr, arith}
use Rattle.std.proofs.lemmas.Bool.{true≢false}
use Rattle.std.proofs.lemmas.Option.{slice_get_within}
use Rattle.sgt_appends.specs.Lists.{Has}
use Rattle.sgt_appends.specs.Runs.{operations_of}
use Rattle.sgt_appends.specs.Lines.{line_in, keys_in, values_in, values_or_none}
use Rattle.sgt_appends.proofs.Filed.{same_append}
use Rattle.sgt_appends.proofs.graph.end_before.Goals as goal

pub returns-then-contains-clause-none : goal.returns-then-contains-clause-none
returns-then-contains-clause-none c = λ none k v runs at.
    let has : Has (values_in (line_in c.args.lines.now) c.in_ok-key.key) c.in_ok-key.value =
    (c.requires.values c.in_ok-key.key c.in_ok-key.value).0 (sym c.contains.ensures ∙ c.if-contains.true) in
    let same = same_append (operations_of c.args.history.now c.args.number) c.args.position c.in_ok-key.key c.in_ok-key.value k v
    c.in_ok-key.ensures.some at in
    inr (subst (λ l. Has (values_in (line_in c.args.lines.now) l) v) same.0
    (subst (λ w. Has (values_in (line_in c.args.lines.now) c.in_ok-key.key) w) same.1 has))

pub overflow_add-result : goal.overflow_add-result
overflow_add-result c =
    omega (
      arith,
      c.requires.fits,
      slice_get_within (keys_in c.args.lines.now) c.in_ok-line.line.now.number c.in_ok-key.key
          (c.requires.numbered c.in_ok-key.key c.in_ok-line.line.now c.in_ok-line.ensures.some),
    )

pub returns-clause-some : goal.returns-clause-some
returns-clause-some c = (
  c.in_ok-key.key,
  c.in_ok-key.value,
  c.in_ok-line.line.now,
  c.in_ok-key.ensures.some,
  c.in_ok-line.ensures.some,
  (λ has. true≢false (sym ((c.requires.values c.in_ok-key.key c.in_ok-key.value).1
      (subst (λ o. Has (values_or_none o) c.in_ok-key.value) (sym c.in_ok-line.ensures.some) has)) ∙ sym c.contains.ensures
      ∙ c.if-contains.false)),
  refl,
)
