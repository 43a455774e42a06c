use Rattle.std.proofs.Common.{◌≡◌, ◌≤◌, ◌-◌, ◌++◌, ℕ, List, length, drop, take, ap, sym, ◌∙◌, arith, length-append, length-drop, take-append-drop}
use Rattle.std.proofs.Math.Seq.{drop-append_seam}
use Rattle.std.proofs.lemmas.List.{take_all}
use Rattle.std.proofs.lemmas.Bool.Decides.{Decides-eqb}
use Rattle.std.proofs.lemmas.Slice.Eq.{slice_eq-Decides}
use Rattle.sgt_appends.proofs.fault.ends_with.Goals as goal

tail_is : (values front end : List ℕ) → values ≡ front ++ end → drop (length values - length end) values ≡ end
tail_is values front end same =
    let long : length values - length end ≡ length front = omega (arith, ap length same, length-append front end) in
    rw long (rw same (drop-append_seam front end))

whole_tail_is : (values front end : List ℕ) → values ≡ front ++ end
    → take (length values - (length values - length end)) (drop (length values - length end) values) ≡ end
whole_tail_is values front end same =
    let enough : length end ≤ length values - (length values - length end) = omega (arith, ap length same, length-append front end) in
    ap (λ xs. take (length values - (length values - length end)) xs) (tail_is values front end same)
    ∙ take_all (length values - (length values - length end)) end enough

tail_split : (values end : List ℕ) → take (length values - (length values - length end)) (drop (length values - length end) values) ≡ end
    → values ≡ take (length values - length end) values ++ end
tail_split values end same =
    sym (take-append-drop (length values - length end) values)
    ∙ ap (λ xs. take (length values - length end) values ++ xs)
    (sym (take_all (length values - (length values - length end)) (drop (length values - length end) values)
    (omega (arith, length-drop (length values - length end) values))) ∙ same)

pub returns-then-end-values : goal.returns-then-end-values
returns-then-end-values c =
    let values : List ℕ = c.args.values.now in
    let end : List ℕ = c.args.end.now in
    let decides = slice_eq-Decides Decides-eqb (take (length values - (length values - length end)) (drop (length values - length end) values)) end
    c.eq.result c.eq.ensures in (
      (λ yes. (take (length values - length end) values, tail_split values end (decides.0 yes))),
      (λ it. decides.1 (whole_tail_is values it.0 end it.1)),
    )
