-- What a run leaves at each key, and what each read of it sees.
use Rattle.std.proofs.Common.{◌≡◌, ◌==◌, ℕ, Bool, true, false, cond, List, [], ◌∷◌, ◌++◌, refl, sym, ap, ◌∙◌, subst, inl, inr, append_assoc, append-nil}
use Rattle.sgt_appends.specs.declared.transaction.Operation.{Operation}
use Rattle.sgt_appends.specs.declared.transaction.Operation.TheVariants.{Append, Read}
use Rattle.sgt_appends.specs.declared.transaction.Transaction.{Transaction}
use Rattle.sgt_appends.specs.Lists.{Has}
use Rattle.sgt_appends.specs.Runs.{Contents, after, after_all, SeesAll, operations_of}
use Rattle.sgt_appends.specs.Precedences.{appended, Appends, HasReadAfter}
use Rattle.sgt_appends.specs.Guides.{appended_by}
use Rattle.sgt_appends.proofs.Words.{Has-append_left, Has-append_right, Has-append_cases}

-- operations leave at a key its old list followed by what they append to it
pub left_by : (os : List Operation) (c : Contents) (k : ℕ) → after_all os c k ≡ c k ++ appended k os
left_by [] c k = sym (append-nil (c k))
left_by (Append key value ∷ os) c k = left_by os (after (Append key value) c) k ∙ added (k == key)
  where
    added : (b : Bool) → cond b (c k ++ value ∷ []) (c k) ++ appended k os ≡ c k ++ cond b (value ∷ appended k os) (appended k os)
    added true = append_assoc (c k) (value ∷ []) (appended k os)
    added false = refl
left_by (Read key values ∷ os) c k = left_by os (after (Read key values) c) k

-- a read sees the old list, followed by what was appended before it
pub record IsSeenOver (base own rest whole seen : List ℕ) : Type 0 where
  pub are : seen ≡ base ++ own
  pub whole_is : whole ≡ own ++ rest

pub sees_read : (os : List Operation) (c : Contents) (k : ℕ) (base mine own seen : List ℕ) → SeesAll os c
    → c k ≡ base ++ mine → HasReadAfter mine os k own seen
    → (rest : List ℕ) × IsSeenOver base own rest (mine ++ appended k os) seen
sees_read [] c k base mine own seen sees stands reads = absurd reads
sees_read (Append key value ∷ os) c k base mine own seen sees stands reads =
    step (k == key) (sees_read os (after (Append key value) c) k base _ own seen sees.1 (grown (k == key)) reads)
  where
    grown : (b : Bool) → cond b (c k ++ value ∷ []) (c k) ≡ base ++ cond b (mine ++ value ∷ []) mine
    grown true = ap (λ xs. xs ++ value ∷ []) stands ∙ append_assoc base mine (value ∷ [])
    grown false = stands

    step : (b : Bool) → (rest : List ℕ) × IsSeenOver base own rest (cond b (mine ++ value ∷ []) mine ++ appended k os) seen
        → (rest : List ℕ) × IsSeenOver base own rest (mine ++ cond b (value ∷ appended k os) (appended k os)) seen
    step true it = (it.0, record { are = it.1.are; whole_is = sym (append_assoc mine (value ∷ []) (appended k os)) ∙ it.1.whole_is })
    step false it = it
sees_read (Read key values ∷ os) c k base mine own seen sees stands (inl here) = (
  appended k os,
  record {
    are = sym here.2 ∙ sees.0 ∙ ap c here.0 ∙ stands ∙ ap (λ xs. base ++ xs) here.1;
    whole_is = ap (λ xs. xs ++ appended k os) here.1;
  },
)
sees_read (Read key values ∷ os) c k base mine own seen sees stands (inr later) =
    sees_read os (after (Read key values) c) k base mine own seen sees.1 stands later

-- the converse: operations see what they observed if each read does
pub sees_all : (os : List Operation) (c : Contents) (base mine : ℕ → List ℕ) → ((k : ℕ) → c k ≡ base k ++ mine k)
    → ((k : ℕ) (own seen : List ℕ) → HasReadAfter (mine k) os k own seen → seen ≡ base k ++ own) → SeesAll os c
sees_all [] c base mine stand reads = tt
sees_all (Append key value ∷ os) c base mine stand reads = (
  tt,
  sees_all os (after (Append key value) c) base (λ k. cond (k == key) (mine k ++ value ∷ []) (mine k))
      (λ k. grown k (k == key)) reads,
)
  where
    grown : (k : ℕ) (b : Bool) → cond b (c k ++ value ∷ []) (c k) ≡ base k ++ cond b (mine k ++ value ∷ []) (mine k)
    grown k true = ap (λ xs. xs ++ value ∷ []) (stand k) ∙ append_assoc (base k) (mine k) (value ∷ [])
    grown k false = stand k
sees_all (Read key values ∷ os) c base mine stand reads = (
  reads key (mine key) values.items (inl (refl, refl, refl)) ∙ sym (stand key),
  sees_all os (after (Read key values) c) base mine stand (λ k own seen read. reads k own seen (inr read)),
)

-- an appender to a key is among the appenders to it
pub appended_has : (h : List Transaction) (k : ℕ) (ts : List ℕ) (t value : ℕ) → Has ts t → Appends h t k value
    → Has (appended_by h k ts) value
appended_has h k [] t value has appends = absurd has
appended_has h k (u ∷ ts) t value (inl same) appends =
    Has-append_left (appended k (operations_of h u)) (appended_by h k ts) value (subst (λ w. Appends h w k value) (sym same) appends)
appended_has h k (u ∷ ts) t value (inr later) appends =
    Has-append_right (appended k (operations_of h u)) (appended_by h k ts) value (appended_has h k ts t value later appends)

pub has_appended : (h : List Transaction) (k : ℕ) (ts : List ℕ) (value : ℕ) → Has (appended_by h k ts) value
    → (t : ℕ) × Has ts t × Appends h t k value
has_appended h k [] value has = absurd has
has_appended h k (u ∷ ts) value has =
    elim (Has-append_cases (appended k (operations_of h u)) (appended_by h k ts) value has) [
      | inl w ↦ (u, inl refl, w)
      | inr w ↦ let it = has_appended h k ts value w in (it.0, inr it.1, it.2)
    ]
