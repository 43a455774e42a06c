-- Whether a transaction has written, entry by entry.
use Rattle.std.proofs.Common.{◌≡◌, ℕ, ◌+◌, ◌-◌, ◌<◌, Bool, true, false, ◌&&◌, ◌||◌, cond, nat_eq, List, [], ◌∷◌, ◌++◌, take, reverse, Option, Some, None, refl, ap, subst, ◌∙◌, arith}
use Rattle.sgt_model.specs.declared.entry.Entry.{Entry}
use Rattle.sgt_model.specs.Accesses.{Access, access_of, act_in, acts, is_store}
use Rattle.sgt_model.specs.Legality.{Legal}
use Rattle.sgt_model.specs.Questions.{started_in}
use Rattle.sgt_model.specs.Configurations.{Configuration}
use Rattle.sgt_model.proofs.Plays.{acts_unstarted}
use Rattle.sgt_c.specs.ReplayedCalls.{past_at}
use Rattle.sgt_c.specs.Writes.{any_store, stores_by}
use Rattle.sgt_c.proofs.CallerAccesses.{legal_to, past_next}
use Rattle.sgt_c.proofs.Runs.{start_number}

and_true : (b : Bool) → b ≡ (b && true)
and_true true = refl
and_true false = refl

and_false : (b : Bool) → false ≡ (b && false)
and_false true = refl
and_false false = refl

-- one access more
added : (x : Option Access) (t : ℕ) (l : List Access) → any_store (act_in x t l) ≡ (stores_by x t || any_store l)
added None t l = refl
added (Some a) t l = go (nat_eq a.by t)
  where
    go : (b : Bool) → any_store (cond b (a ∷ l) l) ≡ ((is_store a.kind && b) || any_store l)
    go true = ap (λ w. w || any_store l) (and_true (is_store a.kind))
    go false = ap (λ w. w || any_store l) (and_false (is_store a.kind))

module _ (entries : List Entry) (at t : ℕ) (e : Entry) (some : 0 < at) (next : take (at - 1 + 1) entries ≡ take (at - 1) entries ++ e ∷ []) where
  -- one entry less
  pub step_back : any_store (acts (past_at entries at) t) ≡ (stores_by (access_of e) t || any_store (acts (past_at entries (at - 1)) t))
  step_back =
      ap (λ n. any_store (acts (past_at entries n) t)) (omega (arith, some))
      ∙ ap (λ l. any_store (acts l t)) (past_next entries (at - 1) e next)
      ∙ added (access_of e) t (acts (past_at entries (at - 1)) t)

  -- the entry is a write by the transaction, or not
  pub writes_here : stores_by (access_of e) t ≡ true → any_store (acts (past_at entries at) t) ≡ true
  writes_here is = step_back ∙ ap (λ b. b || any_store (acts (past_at entries (at - 1)) t)) is

  pub writes_before : stores_by (access_of e) t ≡ false → any_store (acts (past_at entries at) t) ≡ any_store (acts (past_at entries (at - 1)) t)
  writes_before is = step_back ∙ ap (λ b. b || any_store (acts (past_at entries (at - 1)) t)) is

  -- nothing is written before the start
  pub writes_from_start : (s : Configuration) → Legal s (reverse entries) → started_in e.event e.reply ≡ Some t → stores_by (access_of e) t ≡ false
      → any_store (acts (past_at entries at) t) ≡ false
  writes_from_start s legal starts is =
      let both = subst (Legal s) (past_next entries (at - 1) e next) (legal_to s entries (at - 1 + 1) legal) in
      let number = start_number s (past_at entries (at - 1)) e.event e.reply t both.1 starts in
      writes_before is ∙ ap any_store (acts_unstarted s (past_at entries (at - 1)) t both.0 (omega (arith, number)))
