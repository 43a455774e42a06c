-- Two things that are read in order; the first shape error counts.
use Rattle.std.proofs.Common.{◌≡◌, ap, ◌∙◌, Ok, Err, Result}
use Rattle.std.specs.Prelude.{IfErr}
use Rattle.sgt_proc_json.specs.Readings.{Reading, two}
use Rattle.sgt_proc_json.specs.Refusals.{Says}
use Rattle.sgt_proc_json.specs.declared.errors.ReadError.{ReadError}

-- an error that is passed on reports the same
pub handed_on : {A B : Type 0} (reading : Reading A) (error : ReadError) (result : Result B ReadError) → result ≡ Err error
    → Says reading error → IfErr result (Says reading)
handed_on reading error result is reported = rw is reported

-- the first part's shape error is that of both
pub first_reports : {A B C : Type 0} (make : A → B → C) (reading : Reading C) (a : Reading A) (b : Reading B) (error : ReadError)
    → reading ≡ two make a b → Says a error → Says reading error
first_reports make reading a b error is reported place same = is ∙ ap (λ r. two make r b) (reported place same)

-- the second's, if the first is read
pub second_reports : {A B C : Type 0} (make : A → B → C) (reading : Reading C) (a : Reading A) (b : Reading B) (first : A)
    (error : ReadError) → reading ≡ two make a b → a ≡ Ok first → Says b error → Says reading error
second_reports make reading a b first error is read reported place same = is
    ∙ (ap (λ r. two make r b) read ∙ ap (λ r. two make (Ok first) r) (reported place same))

-- both
pub both_read : {A B C : Type 0} (make : A → B → C) (reading : Reading C) (a : Reading A) (b : Reading B) (first : A) (second : B)
    → reading ≡ two make a b → a ≡ Ok first → b ≡ Ok second → reading ≡ Ok (make first second)
both_read make reading a b first second is read read' =
    is ∙ (ap (λ r. two make r b) read ∙ ap (λ r. two make (Ok first) r) read')
