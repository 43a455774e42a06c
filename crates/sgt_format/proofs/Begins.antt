-- A text that still begins with what it held.
use Rattle.std.proofs.Common.{◌≡◌, ◌≤◌, ◌<◌, ℕ, List, [], ◌∷◌, ◌++◌, length, take, ap, sym, ◌∙◌, append_assoc, arith, length-append}
use Rattle.std.specs.Prelude.{Result, Ok, Err, OnOk, OnErr, cond}
use Rattle.std.specs.Result.{is_ok}
use Rattle.std.proofs.lemmas.List.{take_all}
use Rattle.std.proofs.lemmas.Grind.{common_steps}
use Rattle.std.proofs.Math.Seq.{take-append_seam}

-- a text that begins with a longer one begins with a shorter one
pub still_begins : {A : Type 0} (old more new : List A) → take (length (old ++ more)) new ≡ old ++ more → take (length old) new ≡ old
still_begins old more new kept =
    let longer : length old ≤ length (old ++ more) = omega (arith, length-append old more) in
    let same : take (length old) (take (length (old ++ more)) new) ≡ take (length old) new = grind (arith, common_steps) in
    sym same ∙ ap (λ l. take (length old) l) kept ∙ take-append_seam old more

-- a text that has grown, and is then unchanged, still begins with what it held
pub begins_grown : {T E : Type 0} (result : Result T E) (n : ℕ) (old grown line new : List ℕ) → n ≡ length old → line ≡ old ++ grown
    → new ≡ line → OnErr result (take n new ≡ old)
begins_grown (Ok value) n old grown line new long is same = tt
begins_grown (Err error) n old grown line new long is same =
    ap (λ m. take m new) long ∙ ap (λ l. take (length old) l) (same ∙ is) ∙ take-append_seam old grown

-- a text to which words are added, or which is unchanged
pub added : {T E : Type 0} (result : Result T E) (old words new : List ℕ) → new ≡ cond (is_ok result) (old ++ words) old
    → OnOk result (new ≡ old ++ words)
added (Ok value) old words new is = is
added (Err error) old words new is = tt

pub kept : {T E : Type 0} (result : Result T E) (n : ℕ) (old words new : List ℕ) → n ≡ length old
    → new ≡ cond (is_ok result) (old ++ words) old → OnErr result (take n new ≡ old)
kept (Ok value) n old words new long is = tt
kept (Err error) n old words new long is =
    ap (λ m. take m new) long ∙ ap (λ l. take (length old) l) is ∙ take_all (length old) old (omega arith)

-- two texts that are added are one
pub grouped : {T E : Type 0} (result : Result T E) (old first second new : List ℕ) → OnOk result (new ≡ (old ++ first) ++ second)
    → OnOk result (new ≡ old ++ (first ++ second))
grouped (Ok value) old first second new is = is ∙ append_assoc old first second
grouped (Err error) old first second new is = tt

pub left_whole : {T E : Type 0} (result : Result T E) (n : ℕ) (old new : List ℕ) → n ≡ length old → OnErr result (new ≡ old)
    → OnErr result (take n new ≡ old)
left_whole (Ok value) n old new long is = tt
left_whole (Err error) n old new long is =
    ap (λ m. take m new) long ∙ ap (λ l. take (length old) l) is ∙ take_all (length old) old (omega arith)

-- words that are two texts
pub added_two : {T E : Type 0} (result : Result T E) (old first second new : List ℕ)
    → new ≡ cond (is_ok result) (old ++ (first ++ second)) old → OnOk result (new ≡ (old ++ first) ++ second)
added_two (Ok value) old first second new is = is ∙ sym (append_assoc old first second)
added_two (Err error) old first second new is = tt

-- three texts, one after another
pub added_three : {T E : Type 0} (result : Result T E) (old first second third one two new : List ℕ) → one ≡ old ++ first
    → two ≡ one ++ second → new ≡ cond (is_ok result) (two ++ third) two → OnOk result (new ≡ (old ++ (first ++ second)) ++ third)
added_three (Ok value) old first second third one two new to_one to_two is =
    is ∙ ap (λ l. l ++ third) (to_two ∙ ap (λ l. l ++ second) to_one ∙ append_assoc old first second)
added_three (Err error) old first second third one two new to_one to_two is = tt

-- the third of which is refused
pub kept_three : {T E : Type 0} (result : Result T E) (n : ℕ) (old first second third one two new : List ℕ) → n ≡ length old
    → one ≡ old ++ first → two ≡ one ++ second → new ≡ cond (is_ok result) (two ++ third) two → OnErr result (take n new ≡ old)
kept_three (Ok value) n old first second third one two new long to_one to_two is = tt
kept_three (Err error) n old first second third one two new long to_one to_two is =
    begins_grown {T = ℕ} (Err error) n old (first ++ second) two new long
    (to_two ∙ ap (λ l. l ++ second) to_one ∙ append_assoc old first second) is

-- a list of fewer than one
pub is_none : {A : Type 0} (shown items : List A) → shown ≡ items → length shown < 1 → items ≡ []
is_none [] items same few = sym same
is_none (a ∷ shown) items same few = absurd (omega arith)
