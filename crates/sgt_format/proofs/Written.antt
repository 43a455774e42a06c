-- What a line that was written from its end holds.
use Rattle.std.proofs.Common.{◌≡◌, ◌≤◌, ◌+◌, ◌-◌, ℕ, List, ◌++◌, length, take, drop, ap, sym, ◌∙◌, append_assoc, arith, length-append}
use Rattle.std.specs.Prelude.{Result, Ok, Err, OnOk}
use Rattle.std.proofs.lemmas.List.{length-drop}
use Rattle.std.proofs.Math.Seq.{take-append_seam, take-append-add}
use Rattle.std.proofs.lemmas.Grind.{common_steps}

-- a text to which a longer one was added, of which the end is cut off
pub cut_off : (old chunk : List ℕ) (n most : ℕ) → n ≤ most
    → take (length old + n) (old ++ take most chunk) ≡ old ++ take n chunk
cut_off old chunk n most fewer =
    take-append-add old (take most chunk) n
    ∙ ap (λ more. old ++ more) (let same : take n (take most chunk) ≡ take n chunk = grind (arith, common_steps) in same)

-- the text between `start` and 64
pub written_is : (line text rest : List ℕ) (start : ℕ) → drop start line ≡ text ++ rest → length rest ≡ 32 → length line ≡ 96
    → start ≤ 64 → take (64 - start) (drop start line) ≡ text
written_is line text rest start is following whole within =
    let long : length text ≡ 64 - start = omega (arith, length-drop start line, ap length is, length-append text rest) in
    ap (λ n. take n (drop start line)) (sym long) ∙ ap (take (length text)) is ∙ take-append_seam text rest

-- the same after a cut, where the text was added with what is after it
pub cut_line : (old line longer new : List ℕ) (start before n most : ℕ) → before ≡ length old
    → longer ≡ old ++ take most (drop start line) → new ≡ take n longer → n ≡ before + (64 - start) → 64 - start ≤ most
    → new ≡ old ++ take (64 - start) (drop start line)
cut_line old line longer new start before n most long added cut at fewer =
    cut ∙ ap (λ more. take n more) added ∙ ap (λ k. take k (old ++ take most (drop start line))) (at ∙ ap (λ k. k + (64 - start)) long)
    ∙ cut_off old (drop start line) (64 - start) most fewer

-- what is added is two texts
pub adds_two : {T E : Type 0} (result : Result T E) (old line first second rest new : List ℕ) (start : ℕ)
    → OnOk result (new ≡ old ++ take (64 - start) (drop start line)) → drop start line ≡ first ++ (second ++ rest)
    → length rest ≡ 32 → length line ≡ 96 → start ≤ 64 → OnOk result (new ≡ (old ++ first) ++ second)
adds_two (Ok value) old line first second rest new start added is following whole within =
    added ∙ ap (λ more. old ++ more) (written_is line (first ++ second) rest start (is ∙ sym (append_assoc first second rest))
    following whole within)
    ∙ sym (append_assoc old first second)
adds_two (Err error) old line first second rest new start added is following whole within = tt

-- or three
pub adds_three : {T E : Type 0} (result : Result T E) (old line first second third rest new : List ℕ) (start : ℕ)
    → OnOk result (new ≡ old ++ take (64 - start) (drop start line)) → drop start line ≡ first ++ (second ++ (third ++ rest))
    → length rest ≡ 32 → length line ≡ 96 → start ≤ 64 → OnOk result (new ≡ ((old ++ first) ++ second) ++ third)
adds_three (Ok value) old line first second third rest new start added is following whole within =
    adds_two {T = ℕ} {E = ℕ} (Ok 0) old line first (second ++ third) rest new start added
    (is ∙ ap (λ more. first ++ more) (sym (append_assoc second third rest))) following whole within
    ∙ sym (append_assoc (old ++ first) second third)
adds_three (Err error) old line first second third rest new start added is following whole within = tt

-- or four
pub adds_four : {T E : Type 0} (result : Result T E) (old line first second third fourth rest new : List ℕ) (start : ℕ)
    → OnOk result (new ≡ old ++ take (64 - start) (drop start line)) → drop start line ≡ first ++ (second ++ (third ++ (fourth ++ rest)))
    → length rest ≡ 32 → length line ≡ 96 → start ≤ 64 → OnOk result (new ≡ (((old ++ first) ++ second) ++ third) ++ fourth)
adds_four (Ok value) old line first second third fourth rest new start added is following whole within =
    adds_three {T = ℕ} {E = ℕ} (Ok 0) old line first second (third ++ fourth) rest new start added
    (is ∙ ap (λ more. first ++ (second ++ more)) (sym (append_assoc third fourth rest))) following whole within
    ∙ sym (append_assoc ((old ++ first) ++ second) third fourth)
adds_four (Err error) old line first second third fourth rest new start added is following whole within = tt

-- of which the first two are one
pub adds_grouped : {T E : Type 0} (result : Result T E) (old line first second third rest new : List ℕ) (start : ℕ)
    → OnOk result (new ≡ old ++ take (64 - start) (drop start line)) → drop start line ≡ first ++ (second ++ (third ++ rest))
    → length rest ≡ 32 → length line ≡ 96 → start ≤ 64 → OnOk result (new ≡ (old ++ (first ++ second)) ++ third)
adds_grouped (Ok value) old line first second third rest new start added is following whole within =
    adds_three {T = ℕ} {E = ℕ} (Ok 0) old line first second third rest new start added is following whole within
    ∙ ap (λ more. more ++ third) (append_assoc old first second)
adds_grouped (Err error) old line first second third rest new start added is following whole within = tt

-- or four, of which the first three are one
pub adds_all_grouped : {T E : Type 0} (result : Result T E) (old line first second third fourth rest new : List ℕ) (start : ℕ)
    → OnOk result (new ≡ old ++ take (64 - start) (drop start line))
    → drop start line ≡ first ++ (second ++ ((third ++ fourth) ++ rest)) → length rest ≡ 32 → length line ≡ 96 → start ≤ 64
    → OnOk result (new ≡ (old ++ ((first ++ second) ++ third)) ++ fourth)
adds_all_grouped (Ok value) old line first second third fourth rest new start added is following whole within =
    adds_grouped {T = ℕ} {E = ℕ} (Ok 0) old line first second (third ++ fourth) rest new start added is following whole within
    ∙ sym (append_assoc (old ++ (first ++ second)) third fourth) ∙ ap (λ more. more ++ fourth) (append_assoc old (first ++ second) third)
adds_all_grouped (Err error) old line first second third fourth rest new start added is following whole within = tt
