-- Laws of jobs that are read one after another.
use Rattle.std.proofs.Common.{◌≡◌, ℕ, ◌+◌, ◌<◌, true, false, List, [], ◌∷◌, ◌++◌, length, refl, ap, sym, ◌∙◌, append_assoc, arith}
use Rattle.std.specs.Prelude.{zero, suc, nat_lt, slice_get, if◌then◌else◌, Option, None, Some, Ok, Err}
use Rattle.std.proofs.lemmas.Bool.{le-ltb, lt-ltb}
use Rattle.std.proofs.lemmas.Option.{none-some, same_Some}
use Rattle.sgt_model.specs.declared.call.Call.{Call}
use Rattle.sgt_audit.specs.declared.job.Job.{Job}
use Rattle.sgt_input.specs.declared.fault.Fault.TheVariants as fault
use Rattle.sgt_input.specs.Lines.{Cut}
use Rattle.sgt_input.specs.Ends.{End}
use Rattle.sgt_input.specs.Spelled.{at_line, and_later, spelled, or_later, end_of}
use Rattle.sgt_bank.specs.Jobs.{unless_too_many, job_at, numbered}
use Rattle.sgt_bank.specs.Taking.{TakesCall, TakesCalls, EndsWith}

-- one call more
pub length-snoc : (cs : List Call) (c : Call) → length (cs ++ c ∷ []) ≡ length cs + 1
length-snoc [] c = refl
length-snoc (x ∷ xs) c = grind (arith, length-snoc xs c)

-- and one job more
pub numbered-snoc : (n : ℕ) (cs : List Call) (c : Call)
    → numbered n (cs ++ c ∷ []) ≡ numbered n cs ++ record { number = n + length cs; procedure = c.procedure; args = c.args } ∷ []
numbered-snoc n [] c = grind (arith)
numbered-snoc n (x ∷ xs) c = grind (arith, numbered-snoc (n + 1) xs c)

-- there are as many jobs as calls
pub length-numbered : (n : ℕ) (cs : List Call) → length (numbered n cs) ≡ length cs
length-numbered n [] = refl
length-numbered n (x ∷ xs) = grind (arith, length-numbered (n + 1) xs)

-- each has the number of its position
pub numbered-at : (n : ℕ) (cs : List Call) (i : ℕ) (job : Job) → slice_get (numbered n cs) i ≡ Some job → job.number ≡ n + i
numbered-at n [] i job at = absurd (none-some job at)
numbered-at n (c ∷ cs) zero job at = ap (λ (j : Job). j.number) (sym (same_Some _ job at)) ∙ omega arith
numbered-at n (c ∷ cs) (suc i) job at = numbered-at (n + 1) cs i job at ∙ omega arith

-- before the first
pub requested-none : (first : ℕ) (known : Option Cut) → TakesCalls first known [] known
requested-none first None = tt
requested-none first (Some c) =
    let here : first ≡ first + 0 = omega arith in
    (ap (λ n. spelled (job_at first) n c.given) here, ap (λ n. end_of (job_at first) n c.given c.ending) here)

-- one more line that requests a call
pub requested-next : (first : ℕ) (a b d : Option Cut) (cs : List Call) (c : Call) → length cs < 1000000
    → TakesCalls first a cs b → TakesCall b c d → TakesCalls first a (cs ++ c ∷ []) d
requested-next first None b d cs c few before next = tt
requested-next first (Some a) None d cs c few before next = absurd before
requested-next first (Some a) (Some b) None cs c few before next = next
requested-next first (Some a) (Some b) (Some d) cs c few before (line, given, asks, ending) =
    let fits : nat_lt (first + length cs) (first + 1000000) ≡ true = lt-ltb (first + length cs) (first + 1000000) (omega (arith, few)) in
    let at : job_at first (first + length cs) line ≡ Ok c =
    ap (λ r. unless_too_many first (first + length cs) (at_line (first + length cs) r)) asks
    ∙ ap (λ t. if t then Ok c else Err fault.TooManyJobs) fits in
    let count : first + length cs + 1 ≡ first + length (cs ++ c ∷ []) = grind (arith, length-snoc cs c) in
    let later : spelled (job_at first) (first + length cs) b.given ≡ c ∷ spelled (job_at first) (first + length (cs ++ c ∷ [])) d.given =
    ap (spelled (job_at first) (first + length cs)) given
    ∙ ap (λ r. and_later r (spelled (job_at first) (first + length cs + 1) d.given)) at
    ∙ ap (λ n. c ∷ spelled (job_at first) n d.given) count in
    let more : end_of (job_at first) (first + length cs) b.given b.ending
    ≡ end_of (job_at first) (first + length (cs ++ c ∷ [])) d.given d.ending =
    ap (λ g. end_of (job_at first) (first + length cs) g b.ending) given
    ∙ ap (λ r. or_later r (end_of (job_at first) (first + length cs + 1) d.given b.ending)) at
    ∙ ap (λ e. end_of (job_at first) (first + length cs + 1) d.given e) ending
    ∙ ap (λ n. end_of (job_at first) n d.given d.ending) count in (
      before.0 ∙ ap (λ l. cs ++ l) later
          ∙ sym (append_assoc cs (c ∷ []) (spelled (job_at first) (first + length (cs ++ c ∷ [])) d.given)),
      before.1 ∙ more,
    )

-- one more than may be requested
pub requested-many : (first : ℕ) (a b d : Option Cut) (cs : List Call) (c : Call) → length cs ≡ 1000000 → TakesCalls first a cs b
    → TakesCall b c d → EndsWith first first (Err fault.TooManyJobs) a
requested-many first None b d cs c many before next = tt
requested-many first (Some a) None d cs c many before next = absurd before
requested-many first (Some a) (Some b) None cs c many before next = absurd next
requested-many first (Some a) (Some b) (Some d) cs c many before (line, given, asks, ending) =
    let full : nat_lt (first + length cs) (first + 1000000) ≡ false =
    le-ltb (first + length cs) (first + 1000000) (omega (arith, many)) in
    let at : job_at first (first + length cs) line ≡ Err fault.TooManyJobs =
    ap (λ r. unless_too_many first (first + length cs) (at_line (first + length cs) r)) asks
    ∙ ap (λ t. if t then Ok c else Err fault.TooManyJobs) full in
    before.1 ∙ ap (λ g. end_of (job_at first) (first + length cs) g b.ending) given
    ∙ ap (λ r. or_later r (end_of (job_at first) (first + length cs + 1) d.given b.ending)) at

-- the next line is at fault
pub requested-fault : (first : ℕ) (a b : Option Cut) (cs : List Call) (n : ℕ) (end : End) → n ≡ first + length cs → TakesCalls first a cs b
    → EndsWith first n end b → EndsWith first first end a
requested-fault first None b cs n end at before next = tt
requested-fault first (Some a) None cs n end at before next = absurd before
requested-fault first (Some a) (Some b) cs n end at before next =
    before.1 ∙ ap (λ k. end_of (job_at first) k b.given b.ending) (sym at) ∙ next
