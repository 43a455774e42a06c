-- Laws of the next line of a script: it requests something, is faulty, or does not exist.
use Rattle.std.proofs.Common.{◌≡◌, ℕ, ◌+◌, ◌<◌, ◌≤◌, false, List, [], ◌∷◌, length, take, refl, sym, ap, ◌∙◌, subst, arith}
use Rattle.std.proofs.lemmas.List.{get_or-take, length-take, take-take}
use Rattle.std.specs.Prelude.{Option, None, Some, Ok, Err, ◌||◌, min, nat_eq, slice_index}
use Rattle.sgt_format.specs.PlainLines.{has_newline}
use Rattle.sgt_format.specs.declared.script_line.ScriptLine.{ScriptLine}
use Rattle.sgt_input.specs.declared.fault.Fault.{Fault}
use Rattle.sgt_input.specs.Lines.{Cut, Ending, IsBreak, has_break}
use Rattle.sgt_input.specs.Intake.{EndsAs, Explains, Gives}
use Rattle.sgt_input.specs.Ends.{End, IsOfInput, end_at}
use Rattle.sgt_input.specs.Spelled.{and_later, or_later, spelled, end_of}
use Rattle.sgt_input.proofs.FaultsRead.{explained-end}
use Rattle.sgt_script.specs.Scripts.{script_line_at}
use Rattle.sgt_script.specs.Answering.{BeginWith, NoLine}

-- it requests something
pub line-asks : (n m : ℕ) (old new : Option Cut) (line : List ℕ) (requested : ScriptLine) → m ≡ n → Gives old line new
    → script_line_at m line ≡ Ok requested → BeginWith n old (requested ∷ []) (m + 1) new
line-asks n m None new line requested number gives is = tt
line-asks n m (Some old) None line requested number gives is = absurd gives
line-asks n m (Some old) (Some new) line requested number gives is =
    subst (λ k. BeginWith k (Some old) (requested ∷ []) (m + 1) (Some new)) number (
      ap (spelled script_line_at m) gives.0 ∙ ap (λ r. and_later r (spelled script_line_at (m + 1) new.given)) is,
      ap (λ ls. end_of script_line_at m ls old.ending) gives.0
          ∙ ap (λ r. or_later r (end_of script_line_at (m + 1) new.given old.ending)) is
          ∙ ap (λ e. end_of script_line_at (m + 1) new.given e) gives.1,
    )

-- it is at fault
pub line-fails : (n m : ℕ) (old new : Option Cut) (line : List ℕ) (f : Fault) → m ≡ n → Gives old line new
    → script_line_at m line ≡ Err f → NoLine n old (Err f)
line-fails n m None new line f number gives is = tt
line-fails n m (Some old) None line f number gives is = absurd gives
line-fails n m (Some old) (Some new) line f number gives is =
    subst (λ k. NoLine k (Some old) (Err f)) number (
      ap (spelled script_line_at m) gives.0 ∙ ap (λ r. and_later r (spelled script_line_at (m + 1) new.given)) is,
      ap (λ ls. end_of script_line_at m ls old.ending) gives.0
          ∙ ap (λ r. or_later r (end_of script_line_at (m + 1) new.given old.ending)) is,
    )

-- it is not there
pub no-line-ends : (n : ℕ) (ending : Ending) (known : Option Cut) (end : End) → EndsAs ending known → end_at n ending ≡ end
    → NoLine n known end
no-line-ends n ending None end ends is = tt
no-line-ends n ending (Some c) end ends is = (
  ap (λ (x : Cut). spelled script_line_at n x.given) ends,
  ap (λ (x : Cut). end_of script_line_at n x.given x.ending) ends ∙ is,
)

pub no-line-fits : (number : ℕ) (known : Option Cut) (f : Fault) → Explains f number known → IsOfInput f
    → NoLine (number + 1) known (Err f)
no-line-fits number known f explained exact =
    let none = explained-end number known f explained exact in no-line-ends (number + 1) none.0 known (Err f) none.1 none.2

-- the first newline of a window of a text is the text's
same-breaks : (bytes : List ℕ) → has_newline bytes ≡ has_break bytes
same-breaks [] = refl
same-breaks (x ∷ xs) = ap (λ b. nat_eq x 10 || b) (same-breaks xs)

-- a whole window is of a text that is as long
wide-window : (text window : List ℕ) → window ≡ take 64 text → length window ≡ 64 → 64 ≤ length text
wide-window text window is size =
    let all : min 64 (length text) ≡ 64 = sym (length-take 64 text) ∙ ap length (sym is) ∙ size in
    omega (arith, all)

pub window-break : (text window : List ℕ) (n : ℕ) → window ≡ take 64 text → length window ≡ 64 → n < 64 → slice_index window n ≡ 10
    → has_newline (take n window) ≡ false → IsBreak text (Some n)
window-break text window n is size small at none =
    let wide = wide-window text window is size in
    let same : take n window ≡ take n text = ap (take n) is ∙ take-take n 64 text (omega (arith, small)) in (
      omega (arith, wide, small),
      sym (get_or-take 64 text n 0 small) ∙ ap (λ bytes. slice_index bytes n) (sym is) ∙ at,
      ap has_break (sym same) ∙ sym (same-breaks (take n window)) ∙ none,
    )

-- and the line before it is the text's
pub window-line : (held window : List ℕ) (within n : ℕ) → window ≡ take 64 (take within held) → length window ≡ 64 → n < 64
    → take n window ≡ take n held
window-line held window within n is size small =
    let wide = wide-window (take within held) window is size in
    let inside : n ≤ within = omega (arith, length-take within held, wide, small) in
    ap (take n) is ∙ take-take n 64 (take within held) (omega (arith, small)) ∙ take-take n within held inside
