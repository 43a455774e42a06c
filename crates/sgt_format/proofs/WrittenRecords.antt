-- The line that is written of a row is read as that row.
use Rattle.std.proofs.Common.{T, Bool, true, false, ◌≡◌, ◌≤◌, ◌<◌, ◌^◌, ℕ, ℤ, pos, negsuc, List, [], ◌++◌, Some, refl, ap, sym, ◌∙◌, append_assoc, arith, lt-ltb, le-leb}
use Rattle.std.specs.Prelude.{codes}
use Rattle.std.specs.Fmt.{decimal, signed_decimal}
use Rattle.std.proofs.lemmas.Bool.{leb-true}
use lib.Signed.{mag}
use Rattle.sgt_model.specs.Numbers.{IsValue}
use Rattle.sgt_model.specs.Databases.{Row}
use Rattle.sgt_smallbank.proofs.Values.{Decides-is_value}
use Rattle.sgt_format.specs.RecordText.{record_line}
use Rattle.sgt_format.specs.RecordLines.{record_line_of, record_of}
use Rattle.sgt_format.specs.WrittenRecords.{WrittenRecordsAreRead}
use Rattle.sgt_format.proofs.PlainRecords.{plain_record}

-- the text of a row's line, without its end
abbrev row_text : ℕ → ℤ → ℤ → List ℕ
row_text t n v = codes "[\"record\"," ++ (decimal t ++ (codes "," ++ (signed_decimal n ++ (codes "," ++ (signed_decimal v ++ codes "]")))))

-- the line of a row says the row's numbers
row_said : (t : ℕ) (n v : ℤ) → t ≤ 7 → mag n < 1_000_000_000_000_000_000 → mag v < 1_000_000_000_000_000_000
    → record_line_of (row_text t n v) ≡ Some (record { table = pos t; number = n; value = v })
row_said t n v few small low =
    plain_record (row_text t n v) [] _ _ [] _ _ [] _ _ (pos t) n v tt tt tt refl refl refl refl refl refl refl
    (omega (arith, few)) small low

-- and these are a record
row_put : (t : ℕ) (n v : ℤ) → t ≤ 7 → IsValue n → IsValue v
    → record_of (record { table = pos t; number = n; value = v }) ≡ Some (record { key = (t, n); value = v })
row_put t n v few id held =
    let bits : t < 2 ^ 8 = omega (arith, few) in
    rw (lt-ltb _ _ bits) (rw (le-leb _ _ few, (Decides-is_value n).1 id) (rw ((Decides-is_value v).1 held) refl))

of_test : (b : Bool) → T b → b ≡ true
of_test true t = refl
of_test false t = absurd t

-- the size of a value
value_small : (v : ℤ) → IsValue v → mag v < 1_000_000_000_000_000_000
value_small (pos n) fits =
    let within : n ≤ 999999999999999 = leb-true _ _ (of_test _ fits.1.le) in omega (arith, within)
value_small (negsuc n) fits =
    let within : n ≤ 999999999999998 = leb-true _ _ (of_test _ fits.0.le) in omega (arith, within)

-- texts in a row, joined from the right
from_right : (a b c d e f g : List ℕ) → a ++ (b ++ c ++ d ++ e ++ f) ++ g ≡ a ++ (b ++ (c ++ (d ++ (e ++ (f ++ g)))))
from_right a b c d e f g =
    append_assoc a (b ++ c ++ d ++ e ++ f) g
    ∙ ap (λ l. a ++ l) (append_assoc (b ++ c ++ d ++ e) f g ∙ append_assoc (b ++ c ++ d) e (f ++ g)
    ∙ append_assoc (b ++ c) d (e ++ (f ++ g)) ∙ append_assoc b c (d ++ (e ++ (f ++ g))))

-- and one more after them
one_after : (a b c d e f g h : List ℕ)
    → (a ++ (b ++ (c ++ (d ++ (e ++ (f ++ g)))))) ++ h ≡ a ++ (b ++ (c ++ (d ++ (e ++ (f ++ (g ++ h))))))
one_after a b c d e f g h =
    append_assoc a _ h ∙ ap (λ l. a ++ l) (append_assoc b _ h ∙ ap (λ l. b ++ l) (append_assoc c _ h
    ∙ ap (λ l. c ++ l) (append_assoc d _ h ∙ ap (λ l. d ++ l) (append_assoc e _ h ∙ ap (λ l. e ++ l) (append_assoc f g h)))))

row_line : (row : Row) → record_line row ≡ row_text row.0.0 row.0.1 row.1 ++ codes "\n"
row_line row =
    from_right (codes "[\"record\",") (decimal row.0.0) (codes ",") (signed_decimal row.0.1) (codes ",") (signed_decimal row.1)
    (codes "]\n")
    ∙ sym (one_after (codes "[\"record\",") (decimal row.0.0) (codes ",") (signed_decimal row.0.1) (codes ",") (signed_decimal row.1)
    (codes "]") (codes "\n"))

pub written_records_are_read : WrittenRecordsAreRead
written_records_are_read row few id held =
    let t = row.0.0 in
    let n = row.0.1 in
    let v = row.1 in (
      row_text t n v,
      row_line row,
      record { table = pos t; number = n; value = v },
      row_said t n v few (value_small n id) (value_small v held),
      row_put t n v few id held,
    )
