-- The state of splitting a source's bytes into lines.
use Rattle.std.specs.Prelude.{◌≡◌, ℕ, ◌+◌, ◌-◌, ◌<◌, ◌≤◌, ◌⊎◌, Bool, true, false, ⊤, if◌then◌else◌, List, [], ◌∷◌, ◌++◌, length, take, Option, None, Some, IfSome, IsTrue}
use Rattle.std.specs.Option.{option_map}
use Rattle.std.specs.Io.KnownBytes.{Keeps, prepend_known}
use Rattle.sgt_input.specs.declared.fault.Fault.{Fault}
use Rattle.sgt_input.specs.declared.fault.Fault.TheVariants.{LongLine, TooLong, Reading}
use Rattle.sgt_input.specs.Lines.{AreWhole, Cut, cut_within, has_break, whole_lines, Ending, AtLongLine, AtLimit}

-- the last line returned; the number of lines returned; the bytes read of lines not returned yet; how many more bytes
-- of lines the input's limit allows; and whether the source has ended
pub record Intake : Type 0 where
  pub line : List ℕ
  pub number : ℕ
  pub held : List ℕ
  pub within : ℕ
  pub ended : Bool

-- the state before the first byte of an input with this limit
abbrev pub before_input : ℕ → Intake
before_input most = record { line = []; number = 0; held = []; within = most; ended = false }

-- whether a whole line within the input's limit is held
abbrev pub has_whole_line : Intake → Bool
has_whole_line i = has_break (take i.within i.held)

-- how many bytes were read, counted from what any limit leaves of 4,294,967,296: only differences of it count
abbrev pub come : Intake → ℕ
come i = (4294967296 - i.within) + length i.held

-- the bytes of lines not returned yet, if they are known: those held, and those that the source has still to give
abbrev pub bytes_left : Intake → Option (List ℕ) → Option (List ℕ)
bytes_left i rest = if i.ended then Some i.held else prepend_known i.held rest

-- the lines of these bytes
abbrev pub cut_left : Intake → Option (List ℕ) → Option Cut
cut_left i rest = option_map (cut_within i.within) (bytes_left i rest)

-- the known lines are this one and then these
abbrev pub Gives : Option Cut → List ℕ → Option Cut → Type 0
Gives None line new = ⊤
Gives (Some old) line None = ⊥
Gives (Some old) line (Some new) = (old.given ≡ line ∷ new.given) × (old.ending ≡ new.ending)

-- no known line is left, and the lines end this way
abbrev pub EndsAs : Ending → Option Cut → Type 0
EndsAs ending known = IfSome known (λ c. c ≡ record { given = []; ending = ending })

-- the bytes of a line in the text: with its newline, unless the source has ended without one
abbrev pub taken : Intake → List ℕ
taken i = if i.ended then i.line else i.line ++ 10 ∷ []

-- how many reads may still be made, at most
abbrev pub work : Intake → ℕ
work i = (i.within + 1 - length i.held) + (if i.ended then 0 else 1)

-- the invariant between two calls: lines and bytes are counted; at most one byte past the limit was read; it is known how many
-- bytes held are whole lines; and after the end of the source there is at most one last line
pub record AtRest (number within : ℕ) (ended : Bool) (held : List ℕ) (whole : ℕ) : Type 0 where
  pub counts : number + within ≤ 4294967296
  pub few : length held ≤ within + 1
  pub are : AreWhole (take within held) whole
  pub last : IsTrue ended → (whole ≡ 0) × (length held ≤ within) × (length held ≤ 65536)

-- the next line has been read: it is whole, or the source has ended and it is the last one
abbrev pub IsReady : Intake → Type 0
IsReady i = (has_whole_line i ≡ true) ⊎ (i.ended ≡ true)

-- the bytes held begin with a line that is too long
abbrev pub IsLong : Intake → Type 0
IsLong i = (has_break (take 65537 i.held) ≡ false) × (65536 < length i.held) × (65536 < i.within)

-- between the two states the next line was returned
pub record IsGiven (old new : Intake) : Type 0 where
  pub bytes : old.held ≡ taken new ++ new.held
  pub within : old.within ≡ length (taken new) + new.within
  pub number : new.number ≡ old.number + 1
  pub ended : new.ended ≡ old.ended
  pub unbroken : has_break new.line ≡ false
  pub short : length new.line ≤ 65536
  pub last : IsTrue new.ended → (new.held ≡ []) × (0 < length new.line)

-- what a fault says of the lines left: which of them is too long, or that the limit comes first
abbrev pub Explains : Fault → ℕ → Option Cut → Type 0
Explains (LongLine n) given known = (n ≡ given + 1) × EndsAs AtLongLine known
Explains TooLong given known = EndsAs AtLimit known
Explains Reading given known = ⊤
Explains _ given known = ⊥

-- no line was read: the bytes left are unchanged, the source has not ended, and no whole line is held
abbrev pub NoLineCame : Intake → Option (List ℕ) → Intake → Option (List ℕ) → Type 0
NoLineCame i rest i' rest' = Keeps (bytes_left i rest) (bytes_left i' rest') × (whole_lines i'.held ≡ []) × (i'.ended ≡ false)
