-- Laws of an input from its first line.
use Rattle.std.proofs.Common.{◌≡◌, ◌≢◌, ℕ, ◌+◌, List, refl, ap, sym, ◌∙◌, subst, inl, inr}
use Rattle.std.specs.Prelude.{Option, None, Some, IfSome, Ok, Err}
use Rattle.sgt_format.specs.Openings.{Refuses}
use Rattle.sgt_format.specs.declared.opening.Opening.{Opening}
use Rattle.sgt_format.specs.declared.errors.OpeningError.{OpeningError}
use Rattle.sgt_format.specs.declared.errors.OpeningError.TheVariants as opening_error
use Rattle.sgt_audit.specs.declared.job.Job.{Job}
use Rattle.sgt_input.specs.declared.fault.Fault.{Fault}
use Rattle.sgt_input.specs.declared.fault.Fault.TheVariants as fault
use Rattle.sgt_input.specs.Lines.{Ending, AtLongLine, AtLimit, Cut, cut_within}
use Rattle.sgt_input.specs.Intake.{Intake, before_input, cut_left, Gives, EndsAs, Explains}
use Rattle.sgt_input.specs.Ends.{IsOfInput, no_opening, fault_of_opening}
use Rattle.sgt_input.specs.Spelled.{spelled, end_of}
use Rattle.sgt_input.proofs.Begun.{Begun, HasBadRecord}
use Rattle.sgt_bank.specs.Jobs.{job_at, numbered}
use Rattle.sgt_bank.specs.Taking.{EndsWith}
use Rattle.sgt_bank.specs.Inputs.{InputRequests, InputFails, LinesRequest, LinesFail}

-- the same lines from the same number on
same-calls : (m n : ℕ) (ls ls' : List (List ℕ)) → m ≡ n → ls ≡ ls' → spelled (job_at m) m ls ≡ spelled (job_at n) n ls'
same-calls m n ls ls' number lines = rw (number, lines) refl

same-end : (m n : ℕ) (ls ls' : List (List ℕ)) (e e' : Ending) → m ≡ n → ls ≡ ls' → e ≡ e'
    → end_of (job_at m) m ls e ≡ end_of (job_at n) n ls' e'
same-end m n ls ls' e e' number lines ending = rw (number, lines, ending) refl

-- the first fault of an input whose bytes are known
abbrev pub Fails : ℕ → ℕ → Option (List ℕ) → Fault → Type 0
Fails workers most rest f = IfSome rest (λ bytes. InputFails workers most bytes f)

-- there is no line 1
pub fails-empty : (workers most : ℕ) (i : Intake) (rest : Option (List ℕ)) (ending : Ending) (f : Fault) → i ≡ before_input most
    → EndsAs ending (cut_left i rest) → no_opening ending ≡ Err f → Fails workers most rest f
fails-empty workers most i None ending f start ends is = tt
fails-empty workers most i (Some bytes) ending f start ends is =
    subst (λ (c : Cut). LinesFail workers c.given c.ending f)
    (sym (subst (λ (j : Intake). EndsAs ending (cut_left j (Some bytes))) start ends)) is

-- line 1 is refused
pub fails-refused : (workers most : ℕ) (i : Intake) (rest : Option (List ℕ)) (line : List ℕ) (new : Option Cut) (e : OpeningError)
    (f : Fault) → i ≡ before_input most → Gives (cut_left i rest) line new → Refuses workers line e → e ≢ opening_error.NoMemory
    → f ≡ fault_of_opening e → Fails workers most rest f
fails-refused workers most i None line new e f start gives refuses known is = tt
fails-refused workers most i (Some bytes) line None e f start gives refuses known is =
    absurd (subst (λ (j : Intake). Gives (cut_left j (Some bytes)) line None) start gives)
fails-refused workers most i (Some bytes) line (Some c) e f start gives refuses known is =
    let gives' : Gives (cut_left (before_input most) (Some bytes)) line (Some c) =
    subst (λ (j : Intake). Gives (cut_left j (Some bytes)) line (Some c)) start gives in
    subst (λ (ls : List (List ℕ)). LinesFail workers ls (cut_within most bytes).ending f) (sym gives'.0)
    (inl (record { error = e; refuses = refuses; known = known; fault_is = is }))

-- a record line after line 1 is refused
pub fails-record : (workers most : ℕ) (rest : Option (List ℕ)) (line : List ℕ) (f : Fault) → HasBadRecord workers most rest line f
    → Fails workers most rest f
fails-record workers most None line f refused = tt
fails-record workers most (Some bytes) line f (later, given, bad, refuses, is) =
    subst (λ (ls : List (List ℕ)). LinesFail workers ls (cut_within most bytes).ending f) (sym given)
    (inr (inl (record { bad = bad; refuses = refuses; fault_is = is })))

-- they open, and a later line is at fault
pub fails-following : (workers most : ℕ) (rest : Option (List ℕ)) (line : List ℕ) (n : ℕ) (new : Option Cut) (o : Opening) (f : Fault)
    → Begun workers most rest line o n new → EndsWith n n (Err f) new → Fails workers most rest f
fails-following workers most None line n new o f begun ends = tt
fails-following workers most (Some bytes) line n None o f begun ends = absurd begun
fails-following workers most (Some bytes) line n (Some c) o f begun ends =
    subst (λ (ls : List (List ℕ)). LinesFail workers ls (cut_within most bytes).ending f) (sym begun.given)
    (inr (inr (record {
      opening = o;
      opens = begun.opens;
      ends = same-end _ n _ c.given _ c.ending begun.number begun.left begun.ending ∙ ends;
    })))

-- they are an opening, and the later lines request jobs
pub asks-all : (workers most : ℕ) (rest : Option (List ℕ)) (line : List ℕ) (n : ℕ) (new : Option Cut) (o : Opening)
    (jobs : List Job) → Begun workers most rest line o n new
    → IfSome new (λ c. (jobs ≡ numbered 0 (spelled (job_at n) n c.given)) × (end_of (job_at n) n c.given c.ending ≡ Ok tt))
    → IfSome rest (λ bytes. InputRequests workers most bytes o jobs)
asks-all workers most None line n new o jobs begun asks = tt
asks-all workers most (Some bytes) line n None o jobs begun asks = absurd begun
asks-all workers most (Some bytes) line n (Some c) o jobs begun asks =
    subst (λ (ls : List (List ℕ)). LinesRequest workers ls (cut_within most bytes).ending o jobs) (sym begun.given)
    (record {
      opens = begun.opens;
      jobs_are = asks.0 ∙ sym (ap (numbered 0) (same-calls _ n _ c.given begun.number begun.left));
      no_fault = same-end _ n _ c.given _ c.ending begun.number begun.left begun.ending ∙ asks.1;
    })

-- line 1 is too long, or the input is
pub fails-long : (workers most : ℕ) (i : Intake) (rest : Option (List ℕ)) (f : Fault) → i ≡ before_input most → Explains f i.number
    (cut_left i rest) → IsOfInput f → Fails workers most rest f
fails-long workers most i rest (fault.LongLine n) start explained exact =
    let one : n ≡ 1 = explained.0 ∙ ap (λ (j : Intake). j.number + 1) start in
    fails-empty workers most i rest AtLongLine (fault.LongLine n) start explained.1 (ap (λ k. Err (fault.LongLine k)) (sym one))
fails-long workers most i rest fault.TooLong start explained exact = fails-empty workers most i rest AtLimit fault.TooLong start explained refl
fails-long workers most i rest fault.Reading start explained exact = absurd exact
fails-long workers most i rest fault.Writing start explained exact = absurd exact
fails-long workers most i rest fault.NoMemory start explained exact = absurd exact
fails-long workers most i rest fault.NoOpening start explained exact = absurd explained
fails-long workers most i rest (fault.NotJson n) start explained exact = absurd explained
fails-long workers most i rest (fault.BadLine n) start explained exact = absurd explained
fails-long workers most i rest (fault.BadRecord n) start explained exact = absurd explained
fails-long workers most i rest fault.BadLimits start explained exact = absurd explained
fails-long workers most i rest (fault.BadOpening k) start explained exact = absurd explained
fails-long workers most i rest (fault.ProcShape n place) start explained exact = absurd explained
fails-long workers most i rest (fault.ProcFlaw n k) start explained exact = absurd explained
fails-long workers most i rest fault.TooManyJobs start explained exact = absurd explained
fails-long workers most i rest fault.Spawn start explained exact = absurd explained
fails-long workers most i rest fault.Mismatch start explained exact = absurd explained
