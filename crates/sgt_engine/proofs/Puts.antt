-- Rows added, one after another; and an empty history.
use Rattle.std.proofs.Common.{◌≡◌, ℕ, zero, suc, ◌+◌, ◌<◌, cond, List, [], ◌∷◌, ◌++◌, length, reverse, take, get_or, Some, None, refl, sym, ap, ◌∙◌, arith}
use Rattle.std.proofs.lemmas.List.{take_more, reverse-reverse}
use Rattle.sgt_model.specs.Contents.{Key, Contents, key_eq, put_in}
use Rattle.sgt_model.specs.Databases.{Row, HasValues}
use Rattle.sgt_model.specs.Numbers.{IsValue}
use Rattle.sgt_engine.specs.Puts.{with_rows, AreNew}

with_rows-append : (contents : Contents) (rows : List Row) (r : Row)
    → with_rows contents (rows ++ r ∷ []) ≡ put_in (with_rows contents rows) r.0 r.1
with_rows-append contents [] r = refl
with_rows-append contents (x ∷ rows) r = with_rows-append (put_in contents x.0 x.1) rows r

AreNew-append : (contents : Contents) (rows : List Row) (r : Row) → AreNew contents rows → with_rows contents rows r.0 ≡ None
    → AreNew contents (rows ++ r ∷ [])
AreNew-append contents [] r new none = (none, tt)
AreNew-append contents (x ∷ rows) r new none = (new.0, AreNew-append (put_in contents x.0 x.1) rows r new.1 none)

module _ (contents : Contents) (rows : List Row) (i : ℕ) (r : Row) (within : i < length rows) (is : r ≡ get_or rows i r) where
  one_more : take (i + 1) rows ≡ take i rows ++ r ∷ []
  one_more = take_more rows i r within ∙ ap (λ x. take i rows ++ x ∷ []) (sym is)

  pub row_put : (before after : Contents)
      → ((k : Key) → before k ≡ with_rows contents (take i rows) k)
      → ((k : Key) → after k ≡ put_in before r.0 r.1 k)
      → (k : Key) → after k ≡ with_rows contents (take (i + 1) rows) k
  row_put before after same put k =
      put k
      ∙ ap (λ o. cond (key_eq r.0 k) (Some r.1) o) (same k)
      ∙ ap (λ m. m k) (sym (with_rows-append contents (take i rows) r))
      ∙ ap (λ rows. with_rows contents rows k) (sym one_more)

  pub row_new : AreNew contents (take i rows) → with_rows contents (take i rows) r.0 ≡ None → AreNew contents (take (i + 1) rows)
  row_new new none = rw one_more (AreNew-append contents (take i rows) r new none)

-- each row has a value
pub value_at : (rows : List Row) (i : ℕ) (d : Row) → i < length rows → HasValues rows → IsValue (get_or rows i d).1
value_at [] i d within values = absurd (omega (arith, within))
value_at (r ∷ rows) zero d within values = values.0
value_at (r ∷ rows) (suc i) d within values = value_at rows i d (omega (arith, within)) values.1

-- ---- an empty history

pub none_after : {X : Type 0} (xs : List X) → reverse xs ≡ [] → xs ≡ []
none_after xs none = sym (reverse-reverse xs) ∙ ap reverse none
