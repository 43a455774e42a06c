-- Laws of known bytes.
use Rattle.std.proofs.Common.{◌≡◌, ℕ, ◌+◌, ◌≤◌, List, ◌++◌, length, take, drop, refl, ap, sym, ◌∙◌, arith, append_assoc, inl, inr}
use Rattle.std.specs.Prelude.{Result, Ok, Err, OnErr, Option, None, Some, Bool, true, false, if◌then◌else◌}
use Rattle.std.proofs.lemmas.Grind.{common_steps}
use Rattle.sgt_input.specs.Lines.{has_break}
use Rattle.sgt_input.specs.Intake.{Intake, bytes_left, AtRest, IsReady, has_whole_line}
use Rattle.std.proofs.lemmas.Bool.{true≢false}
use Rattle.sgt_input.proofs.Breaks.{whole-zero}
use Rattle.std.proofs.lemmas.List.{take-append-drop}
use Rattle.std.specs.Io.KnownBytes.{Keeps, Consumes, prepend_known}

-- the bytes that a source gave come after those held
pub keeps-more : (held held' : List ℕ) (rest rest' : Option (List ℕ)) → take (length held) held' ≡ held → Consumes rest rest'
    (drop (length held) held') → Keeps (prepend_known held rest) (prepend_known held' rest')
keeps-more held held' None rest' kept came = tt
keeps-more held held' (Some xs) None kept came = came
keeps-more held held' (Some xs) (Some ys) kept came =
    ap (λ l. l ++ ys) (sym (take-append-drop (length held) held') ∙ ap (λ l. l ++ drop (length held) held') kept)
    ∙ append_assoc held (drop (length held) held') ys ∙ ap (λ l. held ++ l) (sym came)

-- what came as often as nothing is nothing
pub held-same : (held held' : List ℕ) → take (length held) held' ≡ held → length held' ≡ length held + 0 → held' ≡ held
held-same held held' kept count = grind (arith, common_steps)

-- a read leaves the bytes of lines not returned unchanged
pub keeps-read : (i : Intake) (ended' : Bool) (held' : List ℕ) (rest rest' : Option (List ℕ)) → i.ended ≡ false → ended' ≡ false
    → take (length i.held) held' ≡ i.held → Consumes rest rest' (drop (length i.held) held') → Keeps (bytes_left i rest)
    (if ended' then Some held' else prepend_known held' rest')
keeps-read i ended' held' rest rest' going going' kept came = rw (going, going') (keeps-more i.held held' rest rest' kept came)

-- if the source has ended, the bytes held are the last line
pub at-end : (number within : ℕ) (ended : Bool) (held held' : List ℕ) (whole : ℕ) → AtRest number within ended held whole
    → has_break (take within held) ≡ false → length held ≤ 65536 → length held ≤ within → held' ≡ held
    → AtRest number within true held' whole
at-end number within ended held held' whole rest none short inside same = rw (same) (record {
  counts = rest.counts;
  few = rest.few;
  are = rest.are;
  last = λ _. (whole-zero (take within held) whole rest.are none, inside, short);
})

-- the same bytes
pub keeps-same : (a : Option (List ℕ)) → Keeps a a
keeps-same None = tt
keeps-same (Some xs) = refl

-- known bytes that stay twice stay
pub keeps-trans : (a b c : Option (List ℕ)) → Keeps a b → Keeps b c → Keeps a c
keeps-trans None b c first second = tt
keeps-trans (Some xs) None c first second = absurd first
keeps-trans (Some xs) (Some ys) None first second = second
keeps-trans (Some xs) (Some ys) (Some zs) first second = second ∙ first

-- if no whole line is held and the source goes on, the next line has not been read
pub not-ready : (i : Intake) → has_whole_line i ≡ false → i.ended ≡ false → ¬ IsReady i
not-ready i none going (inl whole) = true≢false (sym whole ∙ none)
not-ready i none going (inr ended) = true≢false (sym ended ∙ going)

-- a fact also holds at an error
pub on_err : {T E P : Type 0} → P → (r : Result T E) → OnErr r P
on_err h (Ok x) = tt
on_err h (Err e) = h
