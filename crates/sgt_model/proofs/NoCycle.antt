-- The edges of a legal history have no cycle.
use Rattle.std.specs.Prelude.{◌≡◌, ◌≢◌, ℕ, ◌<◌, true, false, ◌⊎◌, List, [], ◌∷◌, length, Option, Some, None}
use Rattle.std.proofs.Common.{refl, sym, ◌∙◌, inl, inr, arith}
use Rattle.sgt_model.specs.declared.entry.Entry.{Entry}
use Rattle.sgt_model.specs.declared.kind.Kind.{Kind}
use Rattle.sgt_model.specs.Contents.{Key}
use Rattle.sgt_model.specs.Paths.{PathOf, last_of, Reaches, Acyclic}
use Rattle.sgt_model.specs.Accesses.{Access, access_of}
use Rattle.sgt_model.specs.Fates.{aborted}
use Rattle.sgt_model.specs.Pairs.{has_conflicting, FollowsIn, Precedes, Pair}
use Rattle.sgt_model.specs.Closes.{Closes}
use Rattle.sgt_model.specs.Configurations.{Configuration}
use Rattle.sgt_model.specs.Legality.{LegalReply, Legal}
use Rattle.sgt_model.proofs.Paths.{Simple, simple, simple_some, acyclic_grows, acyclic_map}
use Rattle.sgt_model.proofs.Facts.{access-free, stood-before}

-- where t reaches another transaction that the access conflicts with, there is a cycle that it closes
pub closes_from_reach : (past : List Entry) (t : ℕ) (k : Key) (kind : Kind) (y : ℕ) → Reaches (Pair past) t y → y ≢ t
    → has_conflicting past y k kind ≡ true
    → (rest : List ℕ) × Closes past t k kind rest
closes_from_reach past t k kind y (path, goes, ends) apart conflict =
    let s : Simple (Pair past) t path = simple (Pair past) t path goes in (
      s.rest,
      record {
        distinct = s.distinct;
        at_least_two = simple_some (Pair past) t path s (λ e. apart (sym (e ∙ ends)));
        pairs = s.goes;
        conflict = rw (s.ends ∙ ends) conflict;
      },
    )

-- an access closes no cycle
abbrev pub Granted : List Entry → Option Access → Type 0
Granted past None = Unit {0}
Granted past (Some a) = (rest : List ℕ) → Closes past a.by a.key a.kind rest → ⊥

granted : (s : Configuration) (e : Entry) (past : List Entry) → LegalReply s past e.event e.reply → (o : Option Access) → access_of e ≡ o
    → Granted past o
granted s e past l None is = tt
granted s e past l (Some a) is = access-free s past e.event e.reply l a is

-- what an entry that may be an access does to the edges
abbrev pub Earlier : List Entry → Option Access → ℕ → ℕ → Type 0
Earlier past access a b = (a ≢ b) × (aborted past a ≡ false) × (aborted past b ≡ false) × (FollowsIn past access a b ⊎ Precedes past a b)

pub earlier : (s : Configuration) (e : Entry) (past : List Entry) → Legal s (e ∷ past) → (a b : ℕ) → Pair (e ∷ past) a b
    → Earlier past (access_of e) a b
earlier s e past l a b p = (p.apart, stood-before s e past l a p.first_stands, stood-before s e past l b p.second_stands, p.precedes)

-- another transaction has an access that this one conflicts with
abbrev pub Before : List Entry → Access → ℕ → Type 0
Before past x a = (a ≢ x.by) × (has_conflicting past a x.key x.kind ≡ true)

pub no_cycle_grows : (past : List Entry) (access : Option Access) (later : ℕ → ℕ → Type 0)
    → Granted past access → ((a b : ℕ) → later a b → Earlier past access a b) → Acyclic (Pair past) → Acyclic later
no_cycle_grows past None later free before acyclic = acyclic_map (λ a b p. go a b (before a b p)) acyclic
  where
    go : (a b : ℕ) → Earlier past None a b → Pair past a b
    go a b (apart, first, second, inl new) = absurd new
    go a b (apart, first, second, inr old) = record { apart = apart; first_stands = first; second_stands = second; precedes = old }
no_cycle_grows past (Some x) later free before acyclic =
    acyclic_grows (Pair past) later x.by (Before past x) (record { each = λ a b p. go a b (before a b p) }) acyclic
    (λ y r f. let (rest, closes) = closes_from_reach past x.by x.key x.kind y r f.0 f.1 in free rest closes)
  where
    go : (a b : ℕ) → Earlier past (Some x) a b → Pair past a b ⊎ (Before past x a × (b ≡ x.by))
    go a b (apart, first, second, inl (by, access_list)) = inr (((λ e. apart (e ∙ by)), access_list), sym by)
    go a b (apart, first, second, inr old) = inl (record { apart = apart; first_stands = first; second_stands = second; precedes = old })

-- the edges of a legal history have no cycle
pub no_cycle : (s : Configuration) (past : List Entry) → Legal s past → Acyclic (Pair past)
no_cycle s [] l = go
  where
    go : (t : ℕ) (path : List ℕ) → 0 < length path → PathOf (Pair []) t path → last_of t path ≡ t → ⊥
    go t [] some p e = omega arith
    go t (u ∷ path) some p e = p.0.precedes
no_cycle s (e ∷ past) l =
    no_cycle_grows past (access_of e) (Pair (e ∷ past)) (granted s e past l.1 (access_of e) refl) (earlier s e past l) (no_cycle s past l.0)
