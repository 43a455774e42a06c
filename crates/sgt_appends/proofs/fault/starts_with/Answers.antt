use Rattle.std.proofs.Common.{◌++◌, ◌∙◌, ℕ, List, length, drop, take, ap, sym, take-append-drop}
use Rattle.std.proofs.lemmas.Bool.Decides.{Decides-eqb}
use Rattle.std.proofs.lemmas.Slice.Eq.{slice_eq-Decides}
use Rattle.sgt_appends.proofs.Prefixes.{take_front}
use Rattle.sgt_appends.proofs.fault.starts_with.Goals as goal

pub returns-then-start-values : goal.returns-then-start-values
returns-then-start-values c =
    let values : List ℕ = c.args.values.now in
    let start : List ℕ = c.args.start.now in
    let decides = slice_eq-Decides Decides-eqb (take (length start) values) start c.eq.result c.eq.ensures in (
      (λ yes. (
        drop (length start) values,
        sym (take-append-drop (length start) values) ∙ ap (λ xs. xs ++ drop (length start) values) (decides.0 yes),
      )),
      (λ it. decides.1 (ap (take (length start)) it.1 ∙ take_front start it.0)),
    )
