-- Laws of a script's run from its first line.
use Rattle.std.proofs.Common.{◌≡◌, ℕ, List, [], ◌∷◌, refl, ap, sym, ◌∙◌, append-nil, subst, inl, inr}
use Rattle.std.specs.Prelude.{Option, None, Some, IfSome, Err}
use Rattle.std.specs.Io.KnownBytes.{Appends}
use Rattle.sgt_model.specs.Configurations.{Configuration}
use Rattle.sgt_format.specs.declared.opening.Opening.{Opening}
use Rattle.sgt_input.specs.Lines.{Cut, Ending, cut_within}
use Rattle.sgt_input.specs.Ends.{End}
use Rattle.sgt_script.specs.Opened.{IsRefused, LinesRefused}
use Rattle.sgt_script.specs.declared.output.Output.{Output}
use Rattle.sgt_script.specs.Scripts.{Execution, Script, ScriptOf, RunOutput}
use Rattle.sgt_script.specs.Outcomes.{IsWhole}
use Rattle.sgt_assembly.specs.Openings.{opened_configuration}
use Rattle.sgt_input.proofs.Begun.{Begun, HasBadRecord}
use Rattle.sgt_script.proofs.Answers.{RunWrote}
use Rattle.sgt_input.specs.declared.fault.Fault.{Fault}

-- what a run wrote over bytes that are known, before its laws are shown
abbrev pub Wrote : Output → ℕ → Option (List ℕ) → Option (List ℕ) → Option (List ℕ) → End → Type 0
Wrote w most rest held held' r =
    IfSome rest (λ bytes. (run : Option Execution) × (out : List ℕ) × Appends held held' out × Script w most bytes run out r)

-- nothing written
pub appends-none : (held : Option (List ℕ)) → Appends held held []
appends-none None = tt
appends-none (Some xs) = sym (append-nil xs)

-- line 1 is refused, or there is none
pub wrote-refused : (w : Output) (most : ℕ) (rest held : Option (List ℕ)) (f : Fault) (r : End) → IsRefused 1 most rest f → r ≡ Err f
    → IsWhole w most rest held held r
wrote-refused w most None held f r refused is = tt
wrote-refused w most (Some bytes) held f r refused is = record {
  run = None;
  out = [];
  appends = appends-none held;
  script = go (cut_within most bytes).given refused;
  laws = tt;
}
  where
    go : (ls : List (List ℕ)) → LinesRefused 1 ls (cut_within most bytes).ending f → ScriptOf w ls (cut_within most bytes).ending None [] r
    go [] none = (refl, is ∙ sym none)
    go (line ∷ later) (e, refuses, known, fault-is) = inl (record {
      error = e;
      refuses = refuses;
      known = known;
      nothing = refl;
      end_is = is ∙ ap (λ (g : Fault). Err g) fault-is;
    })

-- a record line after line 1 is refused
pub wrote-bad-record : (w : Output) (most : ℕ) (rest held : Option (List ℕ)) (line : List ℕ) (f : Fault) (r : End) → HasBadRecord 1 most rest line f
    → r ≡ Err f → IsWhole w most rest held held r
wrote-bad-record w most None held line f r refused is = tt
wrote-bad-record w most (Some bytes) held line f r (later, given, bad, refuses, fault-is) is = record {
  run = None;
  out = [];
  appends = appends-none held;
  script = subst (λ (ls : List (List ℕ)). ScriptOf w ls (cut_within most bytes).ending None [] r) (sym given)
      (inr (record { bad = bad; refuses = refuses; nothing = refl; end_is = is ∙ ap (λ (g : Fault). Err g) fault-is }));
  laws = tt;
}

-- the same lines from the same number on
pub output-same : (w : Output) (run : Execution) (m n : ℕ) (ls ls' : List (List ℕ)) (e e' : Ending) (out : List ℕ) (end : End)
    → m ≡ n → ls ≡ ls' → e ≡ e' → RunOutput w run n ls' e' out end → RunOutput w run m ls e out end
output-same w run m n ls ls' e e' out end number lines ending output = rw (number, lines, ending) output

-- they open
pub wrote-opened : (w : Output) (most : ℕ) (s : Configuration) (rest held held' : Option (List ℕ)) (line : List ℕ) (n : ℕ) (new : Option Cut) (o : Opening)
    (r : End) → Begun 1 most rest line o n new → s ≡ opened_configuration o → RunWrote w s n new held held' r → Wrote w most rest held held' r
wrote-opened w most s None held held' line n new o r begun is output = tt
wrote-opened w most s (Some bytes) held held' line n None o r begun is output = absurd begun
wrote-opened w most s (Some bytes) held held' line n (Some c) o r begun is (run, from, out, wrote, output) = (
  Some run,
  out,
  wrote,
  subst (λ (ls : List (List ℕ)). ScriptOf w ls (cut_within most bytes).ending (Some run) out r) (sym begun.given)
      (record {
        opening = o;
        opens = begun.opens;
        configuration = from ∙ is;
        output = output-same w run _ n _ c.given _ c.ending out r begun.number begun.left begun.ending output;
      }),
)
