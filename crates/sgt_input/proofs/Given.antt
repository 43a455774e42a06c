-- What returning a line, or none, does to the lines that are left.
use Rattle.std.proofs.Common.{◌≡◌, ℕ, ◌+◌, ◌-◌, ◌<◌, ◌≤◌, true, false, List, [], ◌∷◌, ◌++◌, length, take, drop, refl, ap, sym, ◌∙◌, arith, append_assoc, append-nil, subst, inl, inr}
use Rattle.std.specs.Prelude.{Option, None, Some}
use Rattle.std.proofs.lemmas.Grind.{common_steps}
use Rattle.std.proofs.lemmas.Bool.{cases_Bool}
use Rattle.std.proofs.lemmas.List.{take-append-drop, take-append-le, take_all, length-take-le}
use Rattle.std.specs.Option.{option_map}
use Rattle.std.specs.Io.KnownBytes.{Keeps, prepend_known}
use Rattle.sgt_input.specs.Lines.{has_break, whole_lines, cut_within, Cut, Ending, AtLongLine, AtLimit}
use Rattle.sgt_input.specs.Intake.{Intake, cut_left, Gives, EndsAs, taken, IsGiven, IsLong}
use Rattle.sgt_input.proofs.Cuts.{cut-first, cut-last, cut-long, cut-limit, whole_lines-none}

-- a line returned with its newline
gives-whole : (i k : Intake) (rest : Option (List ℕ)) → IsGiven i k → i.ended ≡ false → k.ended ≡ false
    → Gives (option_map (cut_within i.within) (prepend_known i.held rest)) k.line
    (option_map (cut_within k.within) (prepend_known k.held rest))
gives-whole i k None given going going' = tt
gives-whole i k (Some ys) given going going' =
    let bytes : taken k ≡ k.line ++ 10 ∷ [] = rw going' refl in
    let text : i.held ++ ys ≡ k.line ++ 10 ∷ (k.held ++ ys) =
    ap (λ l. l ++ ys) (given.bytes ∙ ap (λ l. l ++ k.held) bytes ∙ append_assoc k.line (10 ∷ []) k.held) ∙ append_assoc k.line
    (10 ∷ k.held) ys in
    let size : length (taken k) ≡ length k.line + 1 = rw bytes (grind (arith, common_steps)) in
    let fits : length k.line + 1 ≤ i.within = grind (arith, given.within, size) in
    let within : i.within - (length k.line + 1) ≡ k.within = grind (arith, given.within, size) in
    rw (text, sym within) (cut-first i.within k.line (k.held ++ ys) given.unbroken given.short fits)

-- a last line returned without it
gives-last : (i k : Intake) (rest : Option (List ℕ)) → IsGiven i k → k.ended ≡ true
    → Gives (option_map (cut_within i.within) (Some i.held)) k.line (option_map (cut_within k.within) (Some k.held))
gives-last i k rest given ended =
    let bytes : taken k ≡ k.line = rw ended refl in
    let last = given.last ended in
    let text : i.held ≡ k.line = given.bytes ∙ ap (λ l. l ++ k.held) bytes ∙ ap (λ l. k.line ++ l) last.0 ∙ append-nil k.line in
    let size : length (taken k) ≡ length k.line = ap length bytes in
    let fits : length k.line ≤ i.within = grind (arith, given.within, size) in
    rw (text, last.0) (cut-last i.within k.within k.line given.unbroken last.1 given.short fits)

-- the lines left are the one returned and then those that are left after it
pub after-give : (i k : Intake) (rest : Option (List ℕ)) → IsGiven i k → Gives (cut_left i rest) k.line (cut_left k rest)
after-give i k rest given =
    elim (cases_Bool k.ended) [
      | inl ended ↦ (let ended' : i.ended ≡ true = sym given.ended ∙ ended in rw (ended, ended') (gives-last i k rest given ended))
      | inr going ↦ (let going' : i.ended ≡ false = sym given.ended ∙ going in rw (going, going') (gives-whole i k rest given going' going))
    ]

-- known bytes that stay have the same lines
pub keeps-gives : (k k' : ℕ) (old mid : Option (List ℕ)) (line : List ℕ) (new : Option Cut) → Keeps old mid → k' ≡ k
    → Gives (option_map (cut_within k') mid) line new → Gives (option_map (cut_within k) old) line new
keeps-gives k k' None mid line new kept same gives = tt
keeps-gives k k' (Some xs) None line new kept same gives = absurd kept
keeps-gives k k' (Some xs) (Some ys) line new kept same gives =
    subst (λ (l : ℕ). Gives (option_map (cut_within l) (Some xs)) line new) same
    (subst (λ (l : List ℕ). Gives (option_map (cut_within k') (Some l)) line new) kept gives)

pub keeps-ends : (k k' : ℕ) (old mid : Option (List ℕ)) (ending : Ending) → Keeps old mid → k' ≡ k
    → EndsAs ending (option_map (cut_within k') mid) → EndsAs ending (option_map (cut_within k) old)
keeps-ends k k' None mid ending kept same ends = tt
keeps-ends k k' (Some xs) None ending kept same ends = absurd kept
keeps-ends k k' (Some xs) (Some ys) ending kept same ends =
    subst (λ (l : ℕ). EndsAs ending (option_map (cut_within l) (Some xs))) same
    (subst (λ (l : List ℕ). EndsAs ending (option_map (cut_within k') (Some l))) kept ends)

-- as far as the rest is known
ends-with-known : (ending : Ending) (i : Intake) (rest : Option (List ℕ))
    → ((ys : List ℕ) → cut_within i.within (i.held ++ ys) ≡ record { given = []; ending = ending })
    → EndsAs ending (option_map (cut_within i.within) (prepend_known i.held rest))
ends-with-known ending i None each = tt
ends-with-known ending i (Some ys) each = each ys

-- the text of the bytes held and the rest, if known
ends-with : (ending : Ending) (i : Intake) (rest : Option (List ℕ))
    → ((ys : List ℕ) → cut_within i.within (i.held ++ ys) ≡ record { given = []; ending = ending }) → EndsAs ending (cut_left i rest)
ends-with ending i rest each =
    elim (cases_Bool i.ended) [
      | inl ended ↦ (let all : cut_within i.within i.held ≡ record { given = []; ending = ending } = ap (cut_within i.within)
          (sym (append-nil i.held)) ∙ each [] in rw ended all)
      | inr going ↦ rw going (ends-with-known ending i rest each)
    ]

-- if the bytes held begin with a line that is too long, that is the end
pub ends-at-long : (i : Intake) (rest : Option (List ℕ)) → IsLong i → EndsAs AtLongLine (cut_left i rest)
ends-at-long i rest (none, long, inside) =
    ends-with AtLongLine i rest (λ ys.
    let size : length (take 65537 i.held) ≡ 65537 = length-take-le 65537 i.held long in
    let text : i.held ++ ys ≡ take 65537 i.held ++ (drop 65537 i.held ++ ys) =
    ap (λ l. l ++ ys) (sym (take-append-drop 65537 i.held)) ∙ append_assoc (take 65537 i.held) (drop 65537 i.held) ys in
    ap (cut_within i.within) text ∙ cut-long i.within (take 65537 i.held) (drop 65537 i.held ++ ys) none (omega (arith, size))
    (omega (arith, size, inside)))

-- if a byte past the limit is held and no whole line, that is the end
pub ends-at-limit : (i : Intake) (rest : Option (List ℕ)) → has_break (take i.within i.held) ≡ false → i.within ≤ 65536
    → i.within < length i.held → EndsAs AtLimit (cut_left i rest)
ends-at-limit i rest none few past =
    ends-with AtLimit i rest (λ ys.
    let front : take i.within (i.held ++ ys) ≡ take i.within i.held = take-append-le i.within i.held ys (omega (arith, past)) in
    let size : i.within < length (i.held ++ ys) = grind (arith, common_steps, past) in
    cut-limit i.within (i.held ++ ys) (ap has_break front ∙ none) few size)

-- if all bytes held are within the limit and none is a newline, no whole line is held
pub no-line : (within : ℕ) (held : List ℕ) → has_break (take within held) ≡ false → length held ≤ within → whole_lines held ≡ []
no-line within held none fits = whole_lines-none held (sym (ap has_break (take_all within held fits)) ∙ none)
