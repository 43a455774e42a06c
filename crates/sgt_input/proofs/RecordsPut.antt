-- Record lines that are added one after another.
use Rattle.std.proofs.Common.{◌≡◌, ℕ, ◌+◌, true, false, List, [], ◌∷◌, ◌++◌, length, refl, ap, sym, ◌∙◌, arith, subst, inl, inr, ◌⊎◌, append_assoc, append-nil}
use Rattle.std.proofs.lemmas.Bool.{le-leb}
use Rattle.std.proofs.lemmas.List.{length-append}
use Rattle.std.specs.Prelude.{Option, None, Some, ⊤, Bool, cond, if◌then◌else◌, take, IfSome, IsSome, IsNone}
use Rattle.std.specs.Option.{is_some, option_map}
use Rattle.std.specs.Io.KnownBytes.{Consumes, Keeps, prepend_known}
use Rattle.sgt_model.specs.Contents.{Key, Contents, key_eq, put_in}
use Rattle.sgt_format.specs.RecordLines.{record_line_of}
use Rattle.sgt_format.specs.FilledOpenings.{AreRecordLines, leading_records, after_records, led_by, from_other, put_record, put_records, and_then_put}
use Rattle.sgt_format.specs.declared.record_line.RecordLine.{RecordLine}
use Rattle.sgt_input.specs.Lines.{Cut, before_long, cut_within, ending_of, has_break, long_line, unended, whole_lines, Ending, AtEnd, AtLongLine}
use Rattle.sgt_input.specs.Intake.{Intake, IsGiven, IsLong, Gives, EndsAs, NoLineCame, bytes_left, cut_left, taken}
use Rattle.sgt_input.specs.Records.{ArePassed, GivesRecord, LeadsNone, IsAhead, Passes, PutsNew, ReadsRecords}
use Rattle.sgt_input.proofs.Cuts.{whole_lines-first}
use Rattle.sgt_input.proofs.Given.{after-give, ends-at-long}

-- adding the leading records of the old lines to the contents before equals adding those of the new lines to the
-- contents after
pub record FillsCut (n : ℕ) (before : Contents) (old : Cut) (n' : ℕ) (after : Contents) (new : Cut) : Type 0 where
  pub values : Contents
  pub contents : (key : Key) → after key ≡ values key
  pub put : put_records (n + 1) before (leading_records old.given) ≡ put_records (n' + 1) values (leading_records new.given)
  pub left : after_records old.given ≡ after_records new.given
  pub ending : new.ending ≡ old.ending
  pub number : n' + length (leading_records new.given) ≡ n + length (leading_records old.given)

-- the same for lines that are known
abbrev pub Fills : ℕ → Contents → Option Cut → ℕ → Contents → Option Cut → Type 0
Fills n before None n' after new = ⊤
Fills n before (Some old) n' after None = ⊥
Fills n before (Some old) n' after (Some new) = FillsCut n before old n' after new

-- before the first
pub fills-none : (n : ℕ) (before : Contents) (old : Option Cut) → Fills n before old n before old
fills-none n before None = tt
fills-none n before (Some old) = record {
  values = before;
  contents = λ k. refl;
  put = refl;
  left = refl;
  ending = refl;
  number = refl;
}

-- ---- one line

leads-some : (line : List ℕ) (later : List (List ℕ)) (said : RecordLine) → record_line_of line ≡ Some said
    → leading_records (line ∷ later) ≡ said ∷ leading_records later
leads-some line later said is = ap (λ o. led_by o (leading_records later)) is

following-some : (line : List ℕ) (later : List (List ℕ)) (said : RecordLine) → record_line_of line ≡ Some said
    → after_records (line ∷ later) ≡ after_records later
following-some line later said is = ap (λ o. from_other o (line ∷ later) (after_records later)) is

-- a record added under a new key of contents is added under a new key of the same contents
put-same : (before values after : Contents) (said : RecordLine) → ((key : Key) → before key ≡ values key) → PutsNew before said after
    → (next : Contents) × (put_record values said ≡ Some next) × ((key : Key) → after key ≡ next key)
put-same before values after said same (put, is, new, moved) = (
  put_in values put.key put.value,
  rw is (ap (λ o. cond (is_some o) None (Some (put_in values put.key put.value))) (sym (same put.key) ∙ new)),
  λ k. moved k ∙ ap (λ o. cond (key_eq put.key k) (Some put.value) o) (same k),
)

fills-cut : (n n1 n2 : ℕ) (m m1 m2 : Contents) (a b c : Cut) (line : List ℕ) (said : RecordLine) → FillsCut n m a n1 m1 b → n2 ≡ n1 + 1
    → GivesRecord (Some b) line said (Some c) → PutsNew m1 said m2 → FillsCut n m a n2 m2 c
fills-cut n n1 n2 m m1 m2 a b c line said fills more (given, ending, is) puts =
    let next = put-same m1 fills.values m2 said fills.contents puts in
    let leads : leading_records b.given ≡ said ∷ leading_records c.given = ap leading_records given ∙ leads-some line c.given said is in
    record {
      values = next.0;
      contents = next.2;
      put = fills.put ∙ ap (put_records (n1 + 1) fills.values) leads
          ∙ ap (λ o. and_then_put (n1 + 1) o (λ x. put_records (n1 + 1 + 1) x (leading_records c.given))) next.1
          ∙ ap (λ k. put_records (k + 1) next.0 (leading_records c.given)) (sym more);
      left = fills.left ∙ ap after_records given ∙ following-some line c.given said is;
      ending = sym ending ∙ fills.ending;
      number =
          let counts : length (leading_records b.given) ≡ length (leading_records c.given) + 1 = ap length leads ∙ grind (arith) in
          omega (arith, more, counts, fills.number);
    }

-- one more record is added
pub fills-more : (n n1 n2 : ℕ) (m m1 m2 : Contents) (a b c : Option Cut) (line : List ℕ) (said : RecordLine) → Fills n m a n1 m1 b
    → n2 ≡ n1 + 1
    → GivesRecord b line said c → PutsNew m1 said m2 → Fills n m a n2 m2 c
fills-more n n1 n2 m m1 m2 None b c line said fills more gives puts = tt
fills-more n n1 n2 m m1 m2 (Some a) None c line said fills more gives puts = absurd fills
fills-more n n1 n2 m m1 m2 (Some a) (Some b) None line said fills more gives puts = absurd gives
fills-more n n1 n2 m m1 m2 (Some a) (Some b) (Some c) line said fills more gives puts =
    fills-cut n n1 n2 m m1 m2 a b c line said fills more gives puts

-- ---- the line ahead

-- of known bytes that are unchanged
pub keeps-ahead : (k k' : ℕ) (old mid : Option (List ℕ)) (said : RecordLine) → Keeps old mid → k' ≡ k
    → IsAhead said (option_map (cut_within k') mid) → IsAhead said (option_map (cut_within k) old)
keeps-ahead k k' None mid said kept same ahead = tt
keeps-ahead k k' (Some xs) None said kept same ahead = absurd kept
keeps-ahead k k' (Some xs) (Some ys) said kept same ahead =
    subst (λ (l : ℕ). IsAhead said (option_map (cut_within l) (Some xs))) same
    (subst (λ (l : List ℕ). IsAhead said (option_map (cut_within k') (Some l))) kept ahead)

pub keeps-leads : (k k' : ℕ) (old mid : Option (List ℕ)) → Keeps old mid → k' ≡ k
    → LeadsNone (option_map (cut_within k') mid) → LeadsNone (option_map (cut_within k) old)
keeps-leads k k' None mid kept same none = tt
keeps-leads k k' (Some xs) None kept same none = absurd kept
keeps-leads k k' (Some xs) (Some ys) kept same none =
    subst (λ (l : ℕ). LeadsNone (option_map (cut_within l) (Some xs))) same
    (subst (λ (l : List ℕ). LeadsNone (option_map (cut_within k') (Some l))) kept none)

-- if the lines end, no record leads
pub ends-none : (ending : Ending) (known : Option Cut) → EndsAs ending known → LeadsNone known
ends-none ending None ends = tt
ends-none ending (Some c) ends = (
  ap (λ (x : Cut). leading_records x.given) ends,
  ap (λ (x : Cut). after_records x.given) ends
      ∙ sym (ap (λ (x : Cut). x.given) ends),
)

-- a returned line that is no record line leads none
pub other-leads : (i k : Intake) (rest : Option (List ℕ)) → IsGiven i k → record_line_of k.line ≡ None → LeadsNone (cut_left i rest)
other-leads i k rest given none = go (cut_left i rest) (cut_left k rest) (after-give i k rest given)
  where
    go : (old new : Option Cut) → Gives old k.line new → LeadsNone old
    go None new gives = tt
    go (Some old) None gives = absurd gives
    go (Some old) (Some new) gives = (
      ap leading_records gives.0 ∙ ap (λ o. led_by o (leading_records new.given)) none,
      ap after_records gives.0 ∙ ap (λ o. from_other o (k.line ∷ new.given) (after_records new.given)) none ∙ sym gives.0,
    )

-- a returned line that is a record line is ahead
pub record-ahead : (i k : Intake) (rest : Option (List ℕ)) (said : RecordLine) → IsGiven i k → record_line_of k.line ≡ Some said
    → IsAhead said (cut_left i rest)
record-ahead i k rest said given is = go (cut_left i rest) (cut_left k rest) (after-give i k rest given)
  where
    go : (old new : Option Cut) → Gives old k.line new → IsAhead said old
    go None new gives = tt
    go (Some old) None gives = absurd gives
    go (Some old) (Some new) gives = (k.line, new.given, gives.0, is)

-- the result of looking at the next line
pub found-ahead : (i mid : Intake) (rest rest' : Option (List ℕ)) (line : List ℕ) (found : Option RecordLine)
    → Keeps (bytes_left i rest) (bytes_left mid rest') → mid.within ≡ i.within → ((k : Intake) × IsGiven mid k × (k.line ≡ line))
    → found ≡ record_line_of line → IfSome found (λ said. IsAhead said (cut_left i rest))
found-ahead i mid rest rest' line None kept same given is = tt
found-ahead i mid rest rest' line (Some said) kept same (k, given, line-is) is =
    keeps-ahead i.within mid.within _ _ said kept same (record-ahead mid k rest' said given (ap record_line_of line-is ∙ sym is))

pub found-none : (i mid : Intake) (rest rest' : Option (List ℕ)) (line : List ℕ) (found : Option RecordLine)
    → Keeps (bytes_left i rest) (bytes_left mid rest') → mid.within ≡ i.within → ((k : Intake) × IsGiven mid k × (k.line ≡ line))
    → found ≡ record_line_of line → IsNone found → LeadsNone (cut_left i rest)
found-none i mid rest rest' line None kept same (k, given, line-is) is none =
    keeps-leads i.within mid.within _ _ kept same (other-leads mid k rest' given (ap record_line_of line-is ∙ sym is))
found-none i mid rest rest' line (Some said) kept same given is none = absurd (cc)

-- ---- bytes

-- one more record line
are-more : (ls : List (List ℕ)) (line : List ℕ) (said : RecordLine) → AreRecordLines ls → record_line_of line ≡ Some said
    → AreRecordLines (ls ++ line ∷ [])
are-more [] line said are is = (subst IsSome (sym is) refl, tt)
are-more (l ∷ ls) line said are is = (are.0, are-more ls line said are.1 is)

-- before the first
pub passes-none : (n : ℕ) (old : Option (List ℕ)) → Passes n old n old
passes-none n None = tt
passes-none n (Some xs) = record {
  read = [];
  lines = [];
  bytes = refl;
  whole = λ rest. refl;
  are = tt;
  number = omega arith;
}

-- one more, with its newline
passed-line : (n m m' : ℕ) (a b c line : List ℕ) (said : RecordLine) → ArePassed n a m b → b ≡ (line ++ 10 ∷ []) ++ c
    → has_break line ≡ false → record_line_of line ≡ Some said → m' ≡ m + 1 → ArePassed n a m' c
passed-line n m m' a b c line said passed took unbroken is more = record {
  read = passed.read ++ (line ++ 10 ∷ []);
  lines = passed.lines ++ line ∷ [];
  bytes = passed.bytes ∙ ap (λ l. passed.read ++ l) took ∙ sym (append_assoc passed.read (line ++ 10 ∷ []) c);
  whole = λ rest. ap whole_lines (append_assoc passed.read (line ++ 10 ∷ []) rest
      ∙ ap (λ l. passed.read ++ l) (append_assoc line (10 ∷ []) rest))
      ∙ passed.whole (line ++ 10 ∷ rest) ∙ ap (λ ls. passed.lines ++ ls) (whole_lines-first line rest unbroken)
      ∙ sym (append_assoc passed.lines (line ∷ []) (whole_lines rest));
  are = are-more passed.lines line said passed.are is;
  number = omega (arith, more, passed.number, length-append passed.lines (line ∷ []));
}

-- of known lines, if the source has not ended with this one
pub passes-more : (n m m' : ℕ) (i j : Intake) (from rest rest' : Option (List ℕ)) (said : RecordLine)
    → Passes n from m (bytes_left i rest) → GivesRecord (cut_left i rest) j.line said (cut_left j rest')
    → Consumes (bytes_left i rest) (bytes_left j rest') (taken j) → has_break j.line ≡ false → m' ≡ m + 1 → j.ended ≡ false
    → Passes n from m' (bytes_left j rest')
passes-more n m m' i j from rest rest' said passes gives took unbroken more going =
    go from (bytes_left i rest) (bytes_left j rest') passes gives
    (subst (Consumes (bytes_left i rest) (bytes_left j rest')) (line-of going) took)
  where
    line-of : j.ended ≡ false → taken j ≡ j.line ++ 10 ∷ []
    line-of still = rw still refl

    go : (a b c : Option (List ℕ)) → Passes n a m b → GivesRecord (option_map (cut_within i.within) b) j.line said
        (option_map (cut_within j.within) c)
        → Consumes b c (j.line ++ 10 ∷ []) → Passes n a m' c
    go None b c passed given consumed = tt
    go (Some xs) None c passed given consumed = absurd passed
    go (Some xs) (Some ys) None passed given consumed = absurd consumed
    go (Some xs) (Some ys) (Some zs) passed given consumed =
        passed-line n m m' xs ys zs j.line said passed consumed unbroken given.2 more

-- if a read failed after them, the bytes held were read, too
pub reads-records : (n m : ℕ) (i j : Intake) (from rest rest' : Option (List ℕ)) → Passes n from m (bytes_left i rest)
    → NoLineCame i rest j rest' → ReadsRecords from rest'
reads-records n m i j from rest rest' passes (kept, none, going) =
    go from (bytes_left i rest) rest' passes (subst (Keeps (bytes_left i rest)) (left-going going) kept)
  where
    left-going : j.ended ≡ false → bytes_left j rest' ≡ prepend_known j.held rest'
    left-going still = rw still refl

    go : (a b c : Option (List ℕ)) → Passes n a m b → Keeps b (prepend_known j.held c) → ReadsRecords a c
    go None b c passed stays = tt
    go (Some xs) None c passed stays = absurd passed
    go (Some xs) (Some ys) None passed stays = absurd stays
    go (Some xs) (Some ys) (Some zs) passed stays = (
      passed.read ++ j.held,
      passed.bytes ∙ ap (λ l. passed.read ++ l) (sym stays) ∙ sym (append_assoc passed.read j.held zs),
      subst AreRecordLines (sym (passed.whole j.held ∙ ap (λ ls. passed.lines ++ ls) none ∙ append-nil passed.lines)) passed.are,
    )

-- ---- where no line is ahead

-- no bytes have no lines
cut-nothing : (most : ℕ) → cut_within most [] ≡ record { given = []; ending = AtEnd }
cut-nothing most = ap cut-by (le-leb 0 most (omega arith))
  where
    counted-by : Bool → List (List ℕ)
    counted-by within = if within then [] else whole_lines (take most []) ++ long_line (unended (take most []))

    cut-by : Bool → Cut
    cut-by within = record { given = before_long (counted-by within); ending = ending_of within (counted-by within) }

-- the source has ended, and nothing is held
ends-empty : (i : Intake) (rest : Option (List ℕ)) → i.held ≡ [] → i.ended ≡ true → EndsAs AtEnd (cut_left i rest)
ends-empty i rest nothing ended = rw (ended, nothing) (cut-nothing i.within)

-- the next one is too long, or there is none
pub none-ahead : (i mid : Intake) (rest rest' : Option (List ℕ)) → Keeps (bytes_left i rest) (bytes_left mid rest')
    → mid.within ≡ i.within → IsLong mid ⊎ ((mid.held ≡ []) × (mid.ended ≡ true)) → LeadsNone (cut_left i rest)
none-ahead i mid rest rest' kept same (inl long) =
    keeps-leads i.within mid.within _ _ kept same (ends-none AtLongLine (cut_left mid rest') (ends-at-long mid rest' long))
none-ahead i mid rest rest' kept same (inr (nothing, ended)) =
    keeps-leads i.within mid.within _ _ kept same (ends-none AtEnd (cut_left mid rest') (ends-empty mid rest' nothing ended))
