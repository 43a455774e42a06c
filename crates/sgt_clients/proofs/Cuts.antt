-- The objects of a text that is read step by step.
use Rattle.std.proofs.Common.{◌≡◌, ◌≤◌, ◌-◌, ◌∙◌, ℕ, zero, suc, List, [], ◌∷◌, ◌++◌, length, take, drop, refl, sym, ap, subst, arith, append_assoc}
use Rattle.sgt_clients.specs.Objects.{AreBetween, line_after, line_after_all, IsObject, Object, HasObjects}
use Rattle.sgt_clients.proofs.Scans.{slice_rest}

between_all : (xs ys : List ℕ) → AreBetween xs → AreBetween ys → AreBetween (xs ++ ys)
between_all [] ys one other = other
between_all (x ∷ xs) ys one other = (one.0, between_all xs ys one.1 other)

line_all : (line : ℕ) (xs ys : List ℕ) → line_after_all line (xs ++ ys) ≡ line_after_all (line_after_all line xs) ys
line_all line [] ys = refl
line_all line (x ∷ xs) ys = line_all (line_after line x) xs ys

-- a gap before the text
gap_before : (line : ℕ) (gap rest : List ℕ) (os : List Object) → AreBetween gap → HasObjects (line_after_all line gap) rest os
    → HasObjects line (gap ++ rest) os
gap_before line gap rest [] between has = between_all gap rest between has
gap_before line gap rest (o ∷ os) between has = (
  gap ++ has.0,
  has.1,
  ap (λ l. gap ++ l) has.2 ∙ sym (append_assoc gap has.0 (o.bytes ++ has.1)),
  between_all gap has.0 between has.3,
  has.4 ∙ sym (line_all line gap has.0),
  has.5,
  has.6,
)

-- a gap from a to b
pub after_gap : (text : List ℕ) (a b line next : ℕ) (os : List Object) → a ≤ b → AreBetween (take (b - a) (drop a text))
    → next ≡ line_after_all line (take (b - a) (drop a text)) → HasObjects next (drop b text) os → HasObjects line (drop a text) os
after_gap text a b line next os from between is has =
    subst (λ rest. HasObjects line rest os) (slice_rest text a b from)
    (gap_before line (take (b - a) (drop a text)) (drop b text) os between (subst (λ n. HasObjects n (drop b text) os) is has))

-- an object from a to b
pub after_object : (text : List ℕ) (a b line next : ℕ) (os : List Object) → a ≤ b → IsObject (take (b - a) (drop a text)) (drop b text)
    → next ≡ line_after_all line (take (b - a) (drop a text)) → HasObjects next (drop b text) os
    → HasObjects line (drop a text) (record { line = line; bytes = take (b - a) (drop a text) } ∷ os)
after_object text a b line next os from object is has =
    subst (λ rest. HasObjects line rest (record { line = line; bytes = take (b - a) (drop a text) } ∷ os)) (slice_rest text a b from)
    ([], drop b text, refl, tt, refl, object, subst (λ n. HasObjects n (drop b text) os) is has)

-- nothing is left
pub at_end : (text : List ℕ) (at line : ℕ) → length text ≤ at → HasObjects line (drop at text) []
at_end [] zero line most = tt
at_end [] (suc at) line most = tt
at_end (x ∷ xs) zero line most = absurd (omega (arith, most))
at_end (x ∷ xs) (suc at) line most = at_end xs at line (omega (arith, most))
