-- Of two committed writers of a key the one whose last write of it came first committed first.
use Rattle.std.proofs.Common.{◌≡◌, ℕ, ◌<◌, true, ◌⊎◌, List, [], ◌∷◌, length, Option, Some, None, nat_eq, refl, sym, ap, subst, inl, inr, ◌∙◌, arith}
use Rattle.std.proofs.lemmas.Bool.{or_left, or_right, eqb-true}
use Rattle.std.specs.Option.{option_map}
use Rattle.sgt_model.specs.declared.entry.Entry.{Entry}
use Rattle.sgt_model.specs.declared.kind.Kind.TheVariants.{Look}
use Rattle.sgt_model.specs.Contents.{Key}
use Rattle.sgt_model.specs.Accesses.{Access, access_of}
use Rattle.sgt_model.specs.Fates.{committed}
use Rattle.sgt_model.specs.Pairs.{conflicts, has_conflicting, Precedes}
use Rattle.sgt_model.specs.Configurations.{Configuration}
use Rattle.sgt_model.specs.Legality.{Legal}
use Rattle.sgt_model.specs.CommitOrder.{CommitsBefore, last_store}
use Rattle.sgt_model.proofs.Facts.{some_is, option_or-cases, committed-stands}
use Rattle.sgt_model.proofs.PairOrder.{pair_commits_before}
use Rattle.sgt_model.proofs.Stores.{Stored, stores-some, stored-conflicts, store_follows}

map_some : (o : Option Access) (n p : ℕ) → option_map (λ (a : Access). n) o ≡ Some p → (a : Access) × (o ≡ Some a) × (n ≡ p)
map_some None n p e = absurd (cc)
map_some (Some a) n p e = (a, refl, some_is n p e)

last_case : (e : Entry) (past : List Entry) (k : Key) (t p : ℕ) → last_store (e ∷ past) k t ≡ Some p
    → ((a : Access) × Stored (λ u. nat_eq u t) k (access_of e) a × (length past ≡ p)) ⊎ (last_store past k t ≡ Some p)
last_case e past k t p h = elim (option_or-cases _ _ p h) [
  | inl now ↦ let m = map_some _ _ p now in
      inl (m.0, stores-some _ k _ m.0 m.1, m.2)
  | inr before ↦ inr before.1
]

last_below : (past : List Entry) (k : Key) (t p : ℕ) → last_store past k t ≡ Some p → p < length past
last_below [] k t p h = absurd (cc)
last_below (e ∷ past) k t p h = elim (last_case e past k t p h) [
  | inl now ↦ let q : length past ≡ p = now.2 in omega arith
  | inr before ↦ let q = last_below past k t p before in omega arith
]

pub last-has_conflicting : (past : List Entry) (k : Key) (t p : ℕ) → last_store past k t ≡ Some p → has_conflicting past t k Look ≡ true
last-has_conflicting [] k t p h = absurd (cc)
last-has_conflicting (e ∷ past) k t p h =
    elim (last_case e past k t p h) [
      | inl now ↦ or_left _ _ (subst (λ u. conflicts (access_of e) u k Look ≡ true)
          (eqb-true now.0.by t now.1.is_counted) (stored-conflicts _ k _ now.0 now.1))
      | inr before ↦ or_right _ _ (last-has_conflicting past k t p before)
    ]

pub last-precedes : (past : List Entry) (k : Key) (t u p q : ℕ) → last_store past k t ≡ Some p → last_store past k u ≡ Some q
    → p < q → Precedes past t u
last-precedes [] k t u p q ht hu less = absurd (cc)
last-precedes (e ∷ past) k t u p q ht hu less =
    elim (last_case e past k t p ht) [
      | inl t_now ↦ elim (last_case e past k u q hu) [
        | inl u_now ↦ absurd
            (let x : length past ≡ p = t_now.2 in let y : length past ≡ q = u_now.2 in omega arith)
        | inr u_before ↦ absurd (let x : length past ≡ p = t_now.2 in let y = last_below past k u q u_before in omega arith)
      ]
      | inr t_before ↦ elim (last_case e past k u q hu) [
        | inl u_now ↦ inl (store_follows _ past k _ u_now.0 t u u_now.1
            (eqb-true u_now.0.by u u_now.1.is_counted) (last-has_conflicting past k t p t_before))
        | inr u_before ↦ inr (last-precedes past k t u p q t_before u_before less)
      ]
    ]

-- of two committed writers of a key, the one whose last write of it came first committed first
pub last_store_commits_before : (s : Configuration) (past : List Entry) → Legal s past → (k : Key) (t u p q : ℕ) → committed past t ≡ true
    → committed past u ≡ true → last_store past k t ≡ Some p → last_store past k u ≡ Some q → p < q → CommitsBefore past t u
last_store_commits_before s past h k t u p q ct cu ht hu less =
    pair_commits_before s past h t u ct cu
    (record {
      apart = λ e. (let same : p ≡ q = some_is p q (sym ht ∙ (ap (last_store past k) e ∙ hu)) in omega arith);
      first_stands = committed-stands past t ct;
      second_stands = committed-stands past u cu;
      precedes = last-precedes past k t u p q ht hu less;
    })
