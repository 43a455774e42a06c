-- The lines of an input from the first on, if they open a run.
use Rattle.std.proofs.Common.{◌≡◌, ℕ, ◌+◌, List, ◌∷◌, ap, sym, ◌∙◌, arith, subst}
use Rattle.std.specs.Prelude.{Option, None, Some, ⊤}
use Rattle.sgt_model.specs.Databases.{contents_of}
use Rattle.sgt_format.specs.Openings.{Opens}
use Rattle.sgt_format.specs.FilledOpenings.{OpensWith, RefusesRecord, after_records, leading_records, number_after, put_records}
use Rattle.sgt_format.specs.declared.opening.Opening.{Opening}
use Rattle.sgt_input.specs.declared.fault.Fault.{Fault}
use Rattle.sgt_input.specs.declared.fault.Fault.TheVariants as fault
use Rattle.sgt_input.specs.Lines.{Cut, cut_within}
use Rattle.sgt_input.specs.Intake.{Intake, before_input, cut_left, Gives}
use Rattle.sgt_input.specs.Records.{IsBadRecord, Leaves}

-- the lines of these bytes begin with an opening, whose line 1 is this; after it, from number n on, come these lines
pub record HaveBegun (least most : ℕ) (bytes line : List ℕ) (o : Opening) (n : ℕ) (c : Cut) : Type 0 where
  pub later : List (List ℕ)
  pub given : (cut_within most bytes).given ≡ line ∷ later
  pub opens : OpensWith least line (leading_records later) o
  pub number : number_after later ≡ n
  pub left : after_records later ≡ c.given
  pub ending : (cut_within most bytes).ending ≡ c.ending

-- the same for lines that are known
abbrev pub Begun : ℕ → ℕ → Option (List ℕ) → List ℕ → Opening → ℕ → Option Cut → Type 0
Begun least most None line o n known = ⊤
Begun least most (Some bytes) line o n None = ⊥
Begun least most (Some bytes) line o n (Some c) = HaveBegun least most bytes line o n c

-- line 1 opens, and then come record lines
pub begun : (least most : ℕ) (i : Intake) (rest : Option (List ℕ)) (line : List ℕ) (mid new : Option Cut) (first o : Opening) (n m : ℕ)
    → i ≡ before_input most → Gives (cut_left i rest) line mid → Opens least line first → n ≡ 1
    → Leaves n (contents_of first.database) mid m (contents_of o.database) new → o.limits ≡ first.limits
    → o.procedures ≡ first.procedures → Begun least most rest line o (m + 1) new
begun least most i None line mid new first o n m start gives opens one leaves limits procedures = tt
begun least most i (Some bytes) line None new first o n m start gives opens one leaves limits procedures =
    absurd (subst (λ (j : Intake). Gives (cut_left j (Some bytes)) line None) start gives)
begun least most i (Some bytes) line (Some c) None first o n m start gives opens one leaves limits procedures = absurd leaves
begun least most i (Some bytes) line (Some c) (Some d) first o n m start gives opens one leaves limits procedures =
    let gives' : Gives (cut_left (before_input most) (Some bytes)) line (Some c) =
    subst (λ (j : Intake). Gives (cut_left j (Some bytes)) line (Some c)) start gives in
    record {
      later = c.given;
      given = gives'.0;
      opens = record {
        first = first;
        opens = opens;
        limits = limits;
        procedures = procedures;
        values = leaves.values;
        put = ap (λ k. put_records (k + 1) (contents_of first.database) (leading_records c.given)) (sym one) ∙ leaves.put;
        contents = leaves.contents;
      };
      number = omega (arith, one, leaves.number);
      left = sym leaves.left;
      ending = gives'.1 ∙ sym leaves.ending;
    }

-- the lines of these bytes begin with an opening, whose line 1 is this, but for a record line that cannot be added:
-- that is the fault
abbrev pub HasBadRecord : ℕ → ℕ → Option (List ℕ) → List ℕ → Fault → Type 0
HasBadRecord least most None line f = ⊤
HasBadRecord least most (Some bytes) line f = (later : List (List ℕ)) × ((cut_within most bytes).given ≡ line ∷ later) × (bad : ℕ)
    × RefusesRecord least line (leading_records later) bad × (f ≡ fault.BadRecord bad)

-- line 1 opens, and then comes a record line that cannot be added
pub bad-record : (least most : ℕ) (i : Intake) (rest : Option (List ℕ)) (line : List ℕ) (mid : Option Cut) (first : Opening) (n : ℕ)
    (f : Fault) → i ≡ before_input most → Gives (cut_left i rest) line mid → Opens least line first → n ≡ 1
    → IsBadRecord f n (contents_of first.database) mid → HasBadRecord least most rest line f
bad-record least most i None line mid first n f start gives opens one bad = tt
bad-record least most i (Some bytes) line None first n f start gives opens one bad =
    absurd (subst (λ (j : Intake). Gives (cut_left j (Some bytes)) line None) start gives)
bad-record least most i (Some bytes) line (Some c) first n f start gives opens one (bad, is, put) =
    let gives' : Gives (cut_left (before_input most) (Some bytes)) line (Some c) =
    subst (λ (j : Intake). Gives (cut_left j (Some bytes)) line (Some c)) start gives in (
      c.given,
      gives'.0,
      bad,
      record {
        first = first;
        opens = opens;
        bad = ap (λ k. put_records (k + 1) (contents_of first.database) (leading_records c.given)) (sym one) ∙ put;
      },
      is,
    )
