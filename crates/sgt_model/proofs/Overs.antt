-- A map with a transaction's writes over it is what the transaction finds.
use Rattle.std.specs.Option.{option_or}
use Rattle.std.specs.Prelude.{◌≡◌, ℕ, ℤ, Bool, true, false, nat_eq, List, [], ◌∷◌, ◌++◌, Option, Some, None}
use Rattle.std.proofs.Common.{refl, sym, ap, ◌∙◌, subst, subst₂, ⊎_elim, append_assoc}
use Rattle.std.proofs.lemmas.Bool.{cases_eq}
use Rattle.sgt_model.specs.declared.entry.Entry.{Entry}
use Rattle.sgt_model.specs.declared.kind.Kind.{Kind}
use Rattle.sgt_model.specs.declared.kind.Kind.TheVariants.{Look, Store}
use Rattle.sgt_model.specs.Contents.{Key, key_eq, Contents}
use Rattle.sgt_model.specs.Accesses.{Access, access_of, act_in, acts}
use Rattle.sgt_model.specs.Fates.{live}
use Rattle.sgt_model.specs.Values.{stores, newest_store, value_or, settled}
use Rattle.sgt_model.specs.Configurations.{Configuration}
use Rattle.sgt_model.specs.Legality.{HasNoLivePredecessor, Legal}
use Rattle.sgt_model.specs.Laws.{LookAgrees, LooksAgree}
use Rattle.sgt_model.proofs.Acts.{over, FindsIn}
use Rattle.sgt_model.proofs.AtLook.{finds}
use Rattle.sgt_model.proofs.Plays.{act_own, act_other, act_none}

value_or-option_or : (x y : Option Access) (d : Option ℤ) → value_or (option_or x y) d ≡ value_or x (value_or y d)
value_or-option_or None y d = refl
value_or-option_or (Some a) y d = refl

over_access : (m : Contents) (t : ℕ) (k : Key) (rest : List Access) (x : Option Access) → over m (act_in x t rest) k ≡ value_or
    (stores (λ u. nat_eq u t) k x) (over m rest k)
over_access m t k rest None = refl
over_access m t k rest (Some a) = by_tests (nat_eq a.by t) a.kind (key_eq a.key k) refl refl refl
  where
    by_tests : (b : Bool) (kind : Kind) (c : Bool) → nat_eq a.by t ≡ b → a.kind ≡ kind → key_eq a.key k ≡ c
        → over m (act_in (Some a) t rest) k ≡ value_or (stores (λ u. nat_eq u t) k (Some a)) (over m rest k)
    by_tests true Look c h g f = simp (h, g)
    by_tests true Store true h g f = simp (h, g, f)
    by_tests true Store false h g f = simp (h, g, f)
    by_tests false Look c h g f = simp (h, g)
    by_tests false Store true h g f = simp (h, g, f)
    by_tests false Store false h g f = simp (h, g, f)

-- the value of t's own newest write, or else the map's, is what the map has with t's writes over it
pub over-acts : (m : Contents) (past : List Entry) (t : ℕ) (k : Key) → over m (acts past t) k ≡ value_or
    (newest_store (λ u. nat_eq u t) k past) (m k)
over-acts m [] t k = refl
over-acts m (e ∷ past) t k =
    over_access m t k (acts past t) (access_of e)
    ∙ (ap (λ d. value_or (stores (λ u. nat_eq u t) k (access_of e)) d) (over-acts m past t k)
    ∙ sym (value_or-option_or (stores (λ u. nat_eq u t) k (access_of e)) (newest_store (λ u. nat_eq u t) k past) (m k)))

-- what `finds` says, with the past and the transaction named
finds_at : (s : Configuration) (newer older past : List Entry) (e : Entry) (a : Access) (t : ℕ) → newer ++ e ∷ older ≡ past → a.by ≡ t
    → Legal s past → access_of e ≡ Some a → a.kind ≡ Look → live past t ≡ true → HasNoLivePredecessor past t → a.value ≡ value_or
    (newest_store (λ u. nat_eq u t) a.key older) (settled s.opening past a.key)
finds_at s newer older past e a t split by legal is is_look is_live none_live =
    let At : List Entry → ℕ → Type 0 = λ p u. Legal s p → live p u ≡ true → HasNoLivePredecessor p u → a.value ≡ value_or
    (newest_store (λ v. nat_eq v u) a.key older) (settled s.opening p a.key) in
    let at : At (newer ++ e ∷ older) a.by = λ g l n. finds s newer older e a g is is_look l n in
    (subst₂ At split by at) legal is_live none_live

-- each read of a transaction that may commit agrees with what is committed by then
pub looks_agree : (s : Configuration) (newer older past : List Entry) (t : ℕ) → newer ++ older ≡ past → Legal s past → live past t ≡ true
    → HasNoLivePredecessor past t → LooksAgree (settled s.opening past) t older
looks_agree s newer [] past t split legal is_live none_live = tt
looks_agree s newer (e ∷ older) past t split legal is_live none_live = (
  looks_agree s (newer ++ e ∷ []) older past t (append_assoc newer (e ∷ []) older ∙ split) legal is_live none_live,
  by_access (access_of e) refl,
)
  where
    by_access : (x : Option Access) → access_of e ≡ x → LookAgrees (settled s.opening past) t older x
    by_access None is = tt
    by_access (Some a) is = λ z is_look. finds_at s newer older past e a t split z legal is is_look is_live none_live

-- and so found what that map has with its own writes over it
pub finds_in : (m now : Contents) (l : List Entry) (t : ℕ) → ((k : Key) → m k ≡ now k) → LooksAgree now t l → FindsIn m (acts l t)
finds_in m now [] t same agree = tt
finds_in m now (e ∷ older) t same agree = by_access (finds_in m now older t same agree.0) (access_of e) refl
  where
    own : FindsIn m (acts older t) → (a : Access) → access_of e ≡ Some a → a.by ≡ t → FindsIn m (acts (e ∷ older) t)
    own ih a is z =
        let look : LookAgrees now t older (Some a) = subst (λ x. LookAgrees now t older x) is agree.1 in
        let value : a.kind ≡ Look → a.value ≡ over m (acts older t) a.key = λ is_look. look z is_look
        ∙ (ap (λ d. value_or (newest_store (λ u. nat_eq u t) a.key older) d) (sym (same a.key)) ∙ sym (over-acts m older t a.key)) in
        subst (λ l. FindsIn m l) (sym (act_own (access_of e) a t (acts older t) is z)) (ih, value)

    by_access : FindsIn m (acts older t) → (x : Option Access) → access_of e ≡ x → FindsIn m (acts (e ∷ older) t)
    by_access ih None is = subst (λ l. FindsIn m l) (sym (act_none (access_of e) t (acts older t) is)) ih
    by_access ih (Some a) is =
        ⊎_elim (λ z. own ih a is z) (λ z. subst (λ l. FindsIn m l) (sym (act_other (access_of e) a t (acts older t) is z)) ih)
        (cases_eq a.by t)
