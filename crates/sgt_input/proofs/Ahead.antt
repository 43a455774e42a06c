-- The line that would be returned next.
use Rattle.std.proofs.Common.{◌≡◌, ℕ, ◌+◌, ◌-◌, ◌<◌, ◌≤◌, true, false, List, [], ◌∷◌, ◌++◌, length, take, drop, refl, ap, sym, ◌∙◌, arith, append-nil, subst, inl, inr}
use Rattle.std.specs.Prelude.{Bool, Some, ◌⊎◌}
use Rattle.std.proofs.lemmas.Grind.{common_steps}
use Rattle.std.proofs.lemmas.Bool.{true≢false}
use Rattle.std.proofs.lemmas.List.{drop-take, length-drop, take_all}
use Rattle.sgt_input.specs.Lines.{has_break, AreWhole, IsBreak}
use Rattle.sgt_input.specs.Intake.{AtRest, Intake, IsGiven, taken}
use Rattle.sgt_input.proofs.Breaks.{break-whole, whole-following}

-- a whole one
pub given-found : (i k : Intake) (n : ℕ) → IsBreak (take i.within i.held) (Some n) → n ≤ 65536 → i.ended ≡ false
    → k.line ≡ take n i.held → k.held ≡ drop (n + 1) i.held → k.number ≡ i.number + 1 → k.within ≡ i.within - (n + 1)
    → k.ended ≡ i.ended → IsGiven i k
given-found i k n at few going line held number rest ended =
    let inside : n < i.within = grind (arith, common_steps, at.0) in
    let within : n < length i.held = grind (arith, common_steps, at.0) in
    let same : take n (take i.within i.held) ≡ take n i.held = grind (arith, common_steps, inside) in
    let size : length (take n i.held) ≡ n = grind (arith, common_steps, within) in
    let parts : i.held ≡ (take n i.held ++ 10 ∷ []) ++ drop (n + 1) i.held = grind (arith, common_steps, at.1, inside, within) in
    let going' : k.ended ≡ false = ended ∙ going in
    let bytes : taken k ≡ take n i.held ++ 10 ∷ [] = rw going' (ap (λ l. l ++ 10 ∷ []) line) in
    let count : length (taken k) ≡ n + 1 = ap length bytes ∙ grind (arith, common_steps, size) in
    record {
      bytes = parts ∙ ap (λ l. l ++ drop (n + 1) i.held) (sym bytes) ∙ ap (λ l. taken k ++ l) (sym held);
      within = omega (arith, count, inside, rest);
      number = number;
      ended = ended;
      unbroken = ap has_break (line ∙ sym same) ∙ at.2;
      short = omega (arith, size, few, ap length line);
      last = λ last. absurd (cc (last, going'));
    }

pub ahead-found : (i : Intake) (n : ℕ) → IsBreak (take i.within i.held) (Some n) → n ≤ 65536 → i.ended ≡ false
    → (k : Intake) × IsGiven i k × (k.line ≡ take n i.held)
ahead-found i n at few going = (
  record {
    line = take n i.held;
    number = i.number + 1;
    held = drop (n + 1) i.held;
    within = i.within - (n + 1);
    ended = i.ended;
  },
  given-found i _ n at few going refl refl refl refl refl,
  refl,
)

-- the last one, without a newline
pub ahead-last : (i : Intake) → has_break (take i.within i.held) ≡ false → length i.held ≤ i.within → length i.held ≤ 65536
    → 0 < length i.held → i.ended ≡ true → (k : Intake) × IsGiven i k × (k.line ≡ i.held)
ahead-last i none fits few some ended =
    let k : Intake = record {
      line = i.held;
      number = i.number + 1;
      held = [];
      within = i.within - length i.held;
      ended = i.ended;
    } in
    let bytes : taken k ≡ i.held = rw ended refl in (
      k,
      record {
        bytes = sym (append-nil i.held) ∙ ap (λ l. l ++ []) (sym bytes);
        within = omega (arith, ap length bytes, fits);
        number = refl;
        ended = refl;
        unbroken = ap has_break (sym (take_all i.within i.held fits)) ∙ none;
        short = few;
        last = λ _. (refl, some);
      },
      refl,
    )

-- if a newline is held within the limit, the source goes on
pub found-going : (number within : ℕ) (ended : Bool) (held : List ℕ) (whole n : ℕ) → AtRest number within ended held whole
    → IsBreak (take within held) (Some n) → ended ≡ false
found-going number within true held whole n rest at =
    absurd (omega (arith, (rest.last refl).0, break-whole (take within held) whole n rest.are at))
found-going number within false held whole n rest at = refl

-- if none is and the next line has been read, the source has ended, and the bytes held are short
pub none-ended : (number within : ℕ) (ended : Bool) (held : List ℕ) (whole : ℕ) → AtRest number within ended held whole
    → has_break (take within held) ≡ false → (has_break (take within held) ≡ true) ⊎ (ended ≡ true)
    → (length held ≤ within) × (length held ≤ 65536) × (ended ≡ true)
none-ended number within ended held whole rest none (inl some) = absurd (true≢false (sym some ∙ none))
none-ended number within ended held whole rest none (inr last) = ((rest.last last).1, (rest.last last).2, last)

-- after the next line, whose newline is at n
pub rest-following : (number within : ℕ) (ended : Bool) (held : List ℕ) (whole n : ℕ) → AtRest number within ended held whole
    → IsBreak (take within held) (Some n)
    → AtRest (number + 1) (within - (n + 1)) ended (drop (n + 1) held) (whole - (n + 1))
rest-following number within ended held whole n rest at =
    let inside : n < within = grind (arith, common_steps, at.0) in
    let few : n < length held = grind (arith, common_steps, at.0) in
    let going : ended ≡ false = found-going number within ended held whole n rest at in
    let same : drop (n + 1) (take within held) ≡ take (within - (n + 1)) (drop (n + 1) held) =
    ap (λ k. drop (n + 1) (take k held)) (omega (arith, inside)) ∙ drop-take (n + 1) (within - (n + 1)) held in
    record {
      counts = omega (arith, rest.counts, inside);
      few = omega (arith, rest.few, length-drop (n + 1) held, inside, few);
      are = subst (λ bytes. AreWhole bytes (whole - (n + 1))) same (whole-following (take within held) whole n rest.are at);
      last = λ ended. absurd (cc (ended, going));
    }
