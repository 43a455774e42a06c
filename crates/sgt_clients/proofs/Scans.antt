-- Scans of a text, byte by byte.
use Rattle.std.proofs.Common.{◌≡◌, ◌<◌, ◌≤◌, ◌+◌, ◌-◌, ◌∙◌, ℕ, zero, suc, Bool, true, false, List, [], ◌∷◌, ◌++◌, length, take, drop, get_or, refl, sym, ap, subst, inl, inr, arith}
use Rattle.std.specs.Prelude.{◌⊎◌, ◌==◌, not, if◌then◌else◌}
use Rattle.std.proofs.lemmas.Bool.{cases_eq}
use Rattle.std.proofs.lemmas.List.{take_more, get_or-drop, length-drop, length-take, take-take, take-append-drop, drop-drop}
use Rattle.sgt_clients.specs.declared.pieces.Nesting.{Nesting}
use Rattle.sgt_clients.specs.Objects.{is_between, AreBetween, line_after, line_after_all, outside, after, after_all, is_closed, Starts, IsObject}

-- one byte more of a slice
pub slice_more : (text : List ℕ) (a b d : ℕ) → a ≤ b → b < length text
    → take (b + 1 - a) (drop a text) ≡ take (b - a) (drop a text) ++ get_or text b d ∷ []
slice_more text a b d from within =
    ap (λ n. take n (drop a text)) (longer a b from) ∙ take_more (drop a text) (b - a) d (omega (arith, length-drop a text, from, within))
    ∙ ap (λ y. take (b - a) (drop a text) ++ y ∷ []) (get_or-drop a text (b - a) d ∙ ap (λ n. get_or text n d) (back a b from))
  where
    longer : (a b : ℕ) → a ≤ b → b + 1 - a ≡ b - a + 1
    longer a b from = omega (arith, from)

    back : (a b : ℕ) → a ≤ b → a + (b - a) ≡ b
    back a b from = omega (arith, from)

between_one : (xs : List ℕ) (x : ℕ) → AreBetween xs → is_between x ≡ true → AreBetween (xs ++ x ∷ [])
between_one [] x it one = (one, tt)
between_one (y ∷ ys) x it one = (it.0, between_one ys x it.1 one)

line_one : (line : ℕ) (xs : List ℕ) (x : ℕ) → line_after_all line (xs ++ x ∷ []) ≡ line_after (line_after_all line xs) x
line_one line [] x = refl
line_one line (y ∷ ys) x = line_one (line_after line y) ys x

open_one : (n : Nesting) (xs : List ℕ) (x : ℕ) → after_all n (xs ++ x ∷ []) ≡ after (after_all n xs) x
open_one n [] x = refl
open_one n (y ∷ ys) x = open_one (after n y) ys x

pub gap_more : (text : List ℕ) (a b d : ℕ) → a ≤ b → b < length text → AreBetween (take (b - a) (drop a text))
    → is_between (get_or text b d) ≡ true → AreBetween (take (b + 1 - a) (drop a text))
gap_more text a b d from within it one =
    subst AreBetween (sym (slice_more text a b d from within)) (between_one (take (b - a) (drop a text)) (get_or text b d) it one)

pub line_more : (text : List ℕ) (a b d first line : ℕ) → a ≤ b → b < length text → line ≡ line_after_all first (take (b - a) (drop a text))
    → line_after line (get_or text b d) ≡ line_after_all first (take (b + 1 - a) (drop a text))
line_more text a b d first line from within is =
    ap (λ l. line_after l (get_or text b d)) is ∙ sym (line_one first (take (b - a) (drop a text)) (get_or text b d))
    ∙ ap (line_after_all first) (sym (slice_more text a b d from within))

pub open_more : (text : List ℕ) (a b d : ℕ) (n : Nesting) → a ≤ b → b < length text → n ≡ after_all outside (take (b - a) (drop a text))
    → after n (get_or text b d) ≡ after_all outside (take (b + 1 - a) (drop a text))
open_more text a b d n from within is =
    ap (λ l. after l (get_or text b d)) is ∙ sym (open_one outside (take (b - a) (drop a text)) (get_or text b d))
    ∙ ap (after_all outside) (sym (slice_more text a b d from within))

-- something is open up to this many bytes
abbrev pub StaysOpen : List ℕ → ℕ → Type 0
StaysOpen bytes n = (k : ℕ) → 0 < k → k ≤ n → is_closed (after_all outside (take k bytes)) ≡ false

pub stays_more : (bytes : List ℕ) (n m : ℕ) → StaysOpen bytes n → m ≡ n + 1 → is_closed (after_all outside (take m bytes)) ≡ false
    → StaysOpen bytes m
stays_more bytes n m stays next still = λ k some most. elim (cases_eq k m) [
  | inl e ↦ subst (λ l. is_closed (after_all outside (take l bytes)) ≡ false) (sym e) still
  | inr differ ↦ stays k some (omega (arith, most, next, differ))
]

starts_at : (bytes : List ℕ) (n : ℕ) → 0 < n → 0 < length bytes → is_between (get_or bytes 0 0) ≡ false → Starts (take n bytes)
starts_at [] n some there is = absurd (omega (arith, there))
starts_at (x ∷ xs) zero some there is = absurd (omega (arith, some))
starts_at (x ∷ xs) (suc n) some there is = is

-- a scan from a to b has passed an object
pub object_of : (text : List ℕ) (a b : ℕ) → a < b → b ≤ length text → is_between (get_or text a 0) ≡ false
    → StaysOpen (drop a text) (b - a - 1)
    → (length text ≤ b) ⊎ (is_closed (after_all outside (take (b - a) (drop a text))) ≡ true)
    → IsObject (take (b - a) (drop a text)) (drop b text)
object_of text a b some within starts stays ends = record {
  starts = starts_at (drop a text) (b - a) (omega (arith, some)) (omega (arith, length-drop a text, some, within))
      (subst (λ x. is_between x ≡ false) (sym (get_or-drop a text 0 0 ∙ ap (λ n. get_or text n 0) (none_more a))) starts);
  goes_on = λ k first less.
      let most : k < b - a = omega (arith, less, length-take (b - a) (drop a text)) in
      subst (λ bytes. is_closed (after_all outside bytes) ≡ false) (sym (take-take k (b - a) (drop a text) (omega (arith, most))))
      (stays k first (omega (arith, most)));
  ends = elim ends [
    | inl end ↦ inl (past text b end)
    | inr closed ↦ inr closed
  ];
}
  where
    none_more : (n : ℕ) → n + 0 ≡ n
    none_more n = omega arith

    past : (xs : List ℕ) (n : ℕ) → length xs ≤ n → drop n xs ≡ []
    past [] zero most = refl
    past [] (suc n) most = refl
    past (x ∷ xs) zero most = absurd (omega (arith, most))
    past (x ∷ xs) (suc n) most = past xs n (omega (arith, most))

-- a text from a on, as the slice to b and the text from b on
pub slice_rest : (text : List ℕ) (a b : ℕ) → a ≤ b → take (b - a) (drop a text) ++ drop b text ≡ drop a text
slice_rest text a b from =
    ap (λ n. take (b - a) (drop a text) ++ drop n text) (sym (back a b from))
    ∙ ap (λ rest. take (b - a) (drop a text) ++ rest) (sym (drop-drop (b - a) a text)) ∙ take-append-drop (b - a) (drop a text)
  where
    back : (a b : ℕ) → a ≤ b → a + (b - a) ≡ b
    back a b from = omega (arith, from)

abbrev the_same : Nesting → Nesting
the_same n = record { depth = n.depth; in_string = false; escaped = false }

-- a byte opens at most one brace
depth_of : (n : Nesting) (escaped quote in_string back opens closes : Bool)
    → (if escaped then record { depth = n.depth; in_string = n.in_string; escaped = false }
    else if quote then record { depth = n.depth; in_string = not n.in_string; escaped = false }
    else if in_string then record { depth = n.depth; in_string = true; escaped = back }
    else if opens then record { depth = n.depth + 1; in_string = false; escaped = false }
    else if closes then record { depth = n.depth - 1; in_string = false; escaped = false }
    else the_same n).depth ≤ n.depth + 1
depth_of n true quote in_string back opens closes = omega arith
depth_of n false true in_string back opens closes = omega arith
depth_of n false false true back opens closes = omega arith
depth_of n false false false back true closes = omega arith
depth_of n false false false back false true = omega arith
depth_of n false false false back false false = omega arith

pub depth_more : (n : Nesting) (x : ℕ) → (after n x).depth ≤ n.depth + 1
depth_more n x = depth_of n n.escaped (x == 34) n.in_string (x == 92) (x == 123) (x == 125)
