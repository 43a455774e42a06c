-- Line 1 of an input, as it is read.
use Rattle.std.proofs.Common.{◌≡◌, ◌≢◌, ℕ, ◌+◌, false, List, [], refl, ap, sym, ◌∙◌, subst}
use Rattle.std.specs.Prelude.{Option, None, Some, Err}
use Rattle.std.specs.Io.KnownBytes.{Consumes, Keeps, prepend_known}
use Rattle.sgt_format.specs.Openings.{Opens, Refuses}
use Rattle.sgt_format.specs.declared.opening.Opening.{Opening}
use Rattle.sgt_format.specs.declared.errors.OpeningError.{OpeningError}
use Rattle.sgt_format.specs.declared.errors.OpeningError.TheVariants as opening_error
use Rattle.sgt_input.specs.declared.fault.Fault.{Fault}
use Rattle.sgt_input.specs.Lines.{Ending, AtEnd, AtLongLine, AtLimit, Cut, cut_within, has_break, whole_lines}
use Rattle.sgt_input.specs.Intake.{Intake, before_input, bytes_left, cut_left, taken, Gives, EndsAs, Explains}
use Rattle.sgt_input.specs.Ends.{IsOfInput, end_at, no_opening, fault_of_opening}
use Rattle.sgt_model.specs.Databases.{contents_of}
use Rattle.sgt_input.specs.Records.{IsBadRecord, Leaves}
use Rattle.sgt_input.proofs.Begun.{Begun, HasBadRecord, begun, bad-record}
use Rattle.sgt_script.specs.Opened.{HasOpened, IsRefused, LinesRefused, ReadsNoLine}
use Rattle.sgt_input.proofs.FaultsRead.{explained-end}

-- it spells an opening
pub has-opened : (least most : ℕ) (i j : Intake) (input rest : Option (List ℕ)) (o : Opening) → i ≡ before_input most → Opens least j.line o
    → Gives (cut_left i input) j.line (cut_left j rest) → j.number ≡ i.number + 1
    → Consumes (bytes_left i input) (bytes_left j rest) (taken j) → has_break j.line ≡ false → HasOpened least most input j rest o
has-opened least most i j input rest o start opens gives number took unbroken = record {
  opens = opens;
  gives = subst (λ (k : Intake). Gives (cut_left k input) j.line (cut_left j rest)) start gives;
  number = number ∙ ap (λ (k : Intake). k.number + 1) start;
  took = subst (λ (k : Intake). Consumes (bytes_left k input) (bytes_left j rest) (taken j)) start took;
  unbroken = unbroken;
}

-- there is none
pub refused-empty : (least most : ℕ) (i : Intake) (input : Option (List ℕ)) (ending : Ending) (f : Fault) → i ≡ before_input most
    → EndsAs ending (cut_left i input) → no_opening ending ≡ Err f → IsRefused least most input f
refused-empty least most i None ending f start ends is = tt
refused-empty least most i (Some bytes) ending f start ends is =
    subst (λ (c : Cut). LinesRefused least c.given c.ending f)
    (sym (subst (λ (j : Intake). EndsAs ending (cut_left j (Some bytes))) start ends)) is

-- it spells none
pub refused-line : (least most : ℕ) (i : Intake) (input : Option (List ℕ)) (line : List ℕ) (new : Option Cut) (f : Fault)
    → i ≡ before_input most → Gives (cut_left i input) line new
    → (e : OpeningError) × Refuses least line e × (e ≢ opening_error.NoMemory) × (f ≡ fault_of_opening e) → IsRefused least most input f
refused-line least most i None line new f start gives refused = tt
refused-line least most i (Some bytes) line None f start gives refused =
    absurd (subst (λ (j : Intake). Gives (cut_left j (Some bytes)) line None) start gives)
refused-line least most i (Some bytes) line (Some c) f start gives refused =
    let gives' : Gives (cut_left (before_input most) (Some bytes)) line (Some c) =
    subst (λ (j : Intake). Gives (cut_left j (Some bytes)) line (Some c)) start gives in
    subst (λ (ls : List (List ℕ)). LinesRefused least ls (cut_within most bytes).ending f) (sym gives'.0) refused

-- without a line 1 a run ends as the reading of lines does
no-first : (ending : Ending) (f : Fault) → end_at 1 ending ≡ Err f → no_opening ending ≡ Err f
no-first AtEnd f is = absurd (cc is)
no-first AtLongLine f is = is
no-first AtLimit f is = is

-- it is too long, or the input is
pub refused-long : (least most : ℕ) (i : Intake) (input : Option (List ℕ)) (f : Fault) → i ≡ before_input most → Explains f i.number
    (cut_left i input) → IsOfInput f → IsRefused least most input f
refused-long least most i input f start explained exact =
    let none = explained-end i.number (cut_left i input) f explained exact in
    refused-empty least most i input none.0 f start none.1
    (no-first none.0 f (ap (λ (j : Intake). end_at (j.number + 1) none.0) (sym start) ∙ none.2))

-- a read failed before it had come
pub reads-no-line : (most : ℕ) (i j : Intake) (input rest : Option (List ℕ)) → i ≡ before_input most → Keeps (bytes_left i input) (bytes_left j rest)
    → whole_lines j.held ≡ [] → j.ended ≡ false → ReadsNoLine input rest
reads-no-line most i j input rest start kept none going = (
  j.held,
  go input rest (subst (Keeps (bytes_left (before_input most) input)) left (subst (λ (k : Intake). Keeps (bytes_left k input)
      (bytes_left j rest)) start kept)),
  none,
)
  where
    left : bytes_left j rest ≡ prepend_known j.held rest
    left = rw going refl

    go : (old new : Option (List ℕ)) → Keeps (bytes_left (before_input most) old) (prepend_known j.held new) → Consumes old new j.held
    go None new stays = tt
    go (Some xs) None stays = absurd stays
    go (Some xs) (Some ys) stays = sym stays

-- then come record lines
pub begun-following : (most : ℕ) (input : Option (List ℕ)) (i : Intake) (rest : Option (List ℕ)) (new : Option Cut) (first o : Opening) (m : ℕ)
    → HasOpened 1 most input i rest first → Leaves i.number (contents_of first.database) (cut_left i rest) m (contents_of o.database) new
    → o.limits ≡ first.limits → o.procedures ≡ first.procedures → Begun 1 most input i.line o (m + 1) new
begun-following most input i rest new first o m opened leaves limits procedures =
    begun 1 most (before_input most) input i.line (cut_left i rest) new first o i.number m refl opened.gives opened.opens opened.number leaves limits
    procedures

-- or one that is refused
pub bad-following : (most : ℕ) (input : Option (List ℕ)) (i : Intake) (rest : Option (List ℕ)) (first : Opening) (f : Fault)
    → HasOpened 1 most input i rest first → IsBadRecord f i.number (contents_of first.database) (cut_left i rest)
    → HasBadRecord 1 most input i.line f
bad-following most input i rest first f opened refused =
    bad-record 1 most (before_input most) input i.line (cut_left i rest) first i.number f refl opened.gives opened.opens opened.number refused
