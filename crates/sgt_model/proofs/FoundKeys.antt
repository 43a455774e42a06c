-- A key that the order of keys finds.
use Rattle.std.proofs.Common.{◌≡◌, Bool, true, false, Equal, refl, sym, subst, ◌∙◌}
use Rattle.std.proofs.lemmas.Bool.{true≢false}
use Rattle.std.proofs.lemmas.Cmp.{tied_itself}
use Rattle.std.specs.Cmp.{Equal-is}
use Rattle.std.specs.Ordering.{is_eq}
use Rattle.sgt_model.specs.Contents.{Key, key_eq}
use Rattle.sgt_model.specs.Databases.{key_cmp}
use Rattle.sgt_model.proofs.Rows.{key_order, key_cmp-equal}
use Rattle.sgt_model.proofs.Stores.{key_eq-true, key_eq-refl}

-- the order of keys finds a key where it is the same
pub same_key : (a b : Key) → is_eq (key_cmp a b) ≡ key_eq a b
same_key a b = go (is_eq (key_cmp a b)) refl (key_eq a b) refl
  where
    go : (s : Bool) → is_eq (key_cmp a b) ≡ s → (t : Bool) → key_eq a b ≡ t → s ≡ t
    go true h true i = refl
    go false h false i = refl
    go true h false i =
        absurd (true≢false (sym (subst (λ c. key_eq a c ≡ true) (key_cmp-equal a b ((Equal-is (key_cmp a b)).0 h)) (key_eq-refl a)) ∙ i))
    go false h true i =
        absurd (true≢false (sym ((Equal-is (key_cmp a b)).1
        (subst (λ c. key_cmp a c ≡ Equal) (key_eq-true a b i) (tied_itself key_order a))) ∙ h))

-- the same for the other key
pub key_back : (a b : Key) → is_eq (key_cmp a b) ≡ key_eq b a
key_back a b = same_key a b ∙ go (key_eq a b) refl (key_eq b a) refl
  where
    go : (s : Bool) → key_eq a b ≡ s → (t : Bool) → key_eq b a ≡ t → s ≡ t
    go true h true i = refl
    go false h false i = refl
    go true h false i = absurd (true≢false (sym (subst (λ c. key_eq c a ≡ true) (key_eq-true a b h) (key_eq-refl a)) ∙ i))
    go false h true i = absurd (true≢false (sym (subst (λ c. key_eq c b ≡ true) (key_eq-true b a i) (key_eq-refl b)) ∙ h))
