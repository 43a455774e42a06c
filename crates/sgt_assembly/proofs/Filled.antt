-- Contents that hold values still hold values after records are added.
use Rattle.std.proofs.Common.{◌≡◌, ℕ, ◌+◌, true, false, List, [], ◌∷◌, refl, ap, sym, ◌∙◌, subst}
use Rattle.std.specs.Prelude.{ℤ, Bool, cond, nat_le, ◌&&◌, Option, Some, None, IfSome, Result, Ok, Err, option_and_then}
use Rattle.std.specs.Option.{is_some}
use Rattle.sgt_model.specs.Contents.{Key, Contents, key_eq, put_in}
use Rattle.sgt_model.specs.Numbers.{IsValue, is_value}
use Rattle.sgt_model.specs.StoredValues.{HoldValues}
use Rattle.sgt_model.proofs.StoredValues.{is_value-fact}
use Rattle.sgt_format.specs.RecordLines.{key_of, record_of}
use Rattle.sgt_format.specs.FilledOpenings.{and_then_put, put_new, put_record, put_records}
use Rattle.sgt_format.specs.declared.record_line.RecordLine.{RecordLine}
use Rattle.sgt_format.specs.declared.record_line.Record.{Record}

-- what a line adds is a value
record-value : (said : RecordLine) (put : Record) → record_of said ≡ Some put → IsValue put.value
record-value said put is = of-key (key_of said.table said.number) is
  where
    of-test : (b : Bool) (k : Key) → is_value said.value ≡ b → cond b (Some (record { key = k; value = said.value })) None ≡ Some put
        → IsValue put.value
    of-test true k fits found = subst IsValue (ap (λ o. value_in o) found) (is_value-fact said.value fits)
      where
        value_in : Option Record → ℤ
        value_in (Some r) = r.value
        value_in None = said.value
    of-test false k fits found = absurd (cc found)

    of-key : (key : Option Key) → option_and_then (λ k. cond (is_value said.value) (Some (record { key = k; value = said.value })) None) key
        ≡ Some put
        → IsValue put.value
    of-key None found = absurd (cc found)
    of-key (Some k) found = of-test (is_value said.value) k refl found

-- with one value more
put-value : (m : Contents) (key : Key) (v : ℤ) → HoldValues m → IsValue v → HoldValues (put_in m key v)
put-value m key v hold is other = at (key_eq key other)
  where
    at : (same : Bool) → IfSome (cond same (Some v) (m other)) IsValue
    at true = is
    at false = hold other

-- with the record of one line
put-line : (m next : Contents) (said : RecordLine) → HoldValues m → put_record m said ≡ Some next → HoldValues next
put-line m next said hold is = of-record (record_of said) refl is
  where
    of-new : (put : Record) (there : Bool) → record_of said ≡ Some put
        → cond there None (Some (put_in m put.key put.value)) ≡ Some next → HoldValues next
    of-new put true says found = absurd (cc found)
    of-new put false says found =
        subst HoldValues (next-is found) (put-value m put.key put.value hold (record-value said put says))
      where
        next-is : Some (put_in m put.key put.value) ≡ Some next → put_in m put.key put.value ≡ next
        next-is same = cc same

    of-record : (put : Option Record) → record_of said ≡ put → option_and_then (put_new m) put ≡ Some next → HoldValues next
    of-record None says found = absurd (cc found)
    of-record (Some put) says found = of-new put (is_some (m put.key)) says found

-- what later lines make of the contents after a line, they make of some
after-put : (n : ℕ) (next : Option Contents) (later : Contents → Result Contents ℕ) (values : Contents)
    → and_then_put n next later ≡ Ok values → (m : Contents) × (next ≡ Some m) × (later m ≡ Ok values)
after-put n None later values is = absurd (cc is)
after-put n (Some m) later values is = (m, refl, is)

-- with those of all lines
pub put-values : (n : ℕ) (m values : Contents) (records : List RecordLine) → HoldValues m → put_records n m records ≡ Ok values
    → HoldValues values
put-values n m values [] hold is = let same : m ≡ values = cc is in subst HoldValues same hold
put-values n m values (said ∷ later) hold is =
    let next = after-put n (put_record m said) (λ (c : Contents). put_records (n + 1) c later) values is in
    put-values (n + 1) next.0 values later (put-line m next.0 said hold next.1) next.2
