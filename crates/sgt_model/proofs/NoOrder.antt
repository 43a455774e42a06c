-- A rejected access, added all the same, would leave the members of its path with no order.
-- an access ends no transaction
use Rattle.std.specs.Prelude.{◌≡◌, ◌≢◌, ℕ, ◌<◌, ◌≤◌, true, false, cond, nat_eq, List, [], ◌∷◌, Option, Some, None}
use Rattle.std.specs.Option.{option_or}
use Rattle.std.proofs.Common.{refl, ap, ◌∙◌, subst, inl, inr, suc, arith}
use Rattle.std.proofs.lemmas.Bool.{eq-eqb, ne_eqb}
use Rattle.sgt_model.specs.declared.event.Event.{Event}
use Rattle.sgt_model.specs.declared.reply.Reply.{Reply}
use Rattle.sgt_model.specs.declared.reply.Reply.TheVariants as reply
use Rattle.sgt_model.specs.declared.entry.Entry.{Entry}
use Rattle.sgt_model.specs.declared.kind.Kind.{Kind}
use Rattle.sgt_model.specs.Contents.{Key}
use Rattle.sgt_model.specs.Paths.{PathOf, last_of, Member, Distinct, StandsBefore, Orders}
use Rattle.sgt_model.specs.Accesses.{Access, access_in, access_of}
use Rattle.sgt_model.specs.Fates.{ending_in, fate_of, has_aborted, aborted}
use Rattle.sgt_model.specs.Pairs.{has_conflicting, FollowsIn, Pair}
use Rattle.sgt_model.specs.Closes.{Closes}
use Rattle.sgt_model.specs.Aborts.{IsAccessBy}
use Rattle.sgt_model.proofs.Paths.{Within, last_is_member}

access_ends : (event : Event) (r : Reply) (t : ℕ) (k : Key) (kind : Kind) → IsAccessBy (access_in event r) t k kind → (u : ℕ)
    → ending_in event r u ≡ None
access_ends event (reply.Committed answers) t k kind is u = absurd is
access_ends event (reply.Aborted why fell) t k kind is u = absurd is
access_ends event (reply.Refused code fell) t k kind is u = absurd is
access_ends event _ t k kind is u = refl

access_aborts : (e : Entry) (past : List Entry) (t : ℕ) (k : Key) (kind : Kind) → IsAccessBy (access_of e) t k kind → (u : ℕ)
    → aborted (e ∷ past) u ≡ aborted past u
access_aborts e past t k kind is u = ap (λ ending. has_aborted (option_or ending (fate_of past u)))
    (access_ends e.event e.reply t k kind is u)

-- what stood, stands after an access
pub pair_stays : (e : Entry) (past : List Entry) (t : ℕ) (k : Key) (kind : Kind) → IsAccessBy (access_of e) t k kind
    → (a b : ℕ) → Pair past a b → Pair (e ∷ past) a b
pair_stays e past t k kind is a b p = record {
  apart = p.apart;
  first_stands = access_aborts e past t k kind is a ∙ p.first_stands;
  second_stands = access_aborts e past t k kind is b ∙ p.second_stands;
  precedes = inr p.precedes;
}

-- the edge that the access makes with an earlier one
pub pair_made : (e : Entry) (past : List Entry) (t : ℕ) (k : Key) (kind : Kind) → IsAccessBy (access_of e) t k kind
    → (a : ℕ) → a ≢ t → aborted past a ≡ false → aborted past t ≡ false → has_conflicting past a k kind ≡ true → Pair (e ∷ past) a t
pair_made e past t k kind is a apart first second access_list = record {
  apart = apart;
  first_stands = access_aborts e past t k kind is a ∙ first;
  second_stands = access_aborts e past t k kind is t ∙ second;
  precedes = inl (go (access_of e) is);
}
  where
    go : (x : Option Access) → IsAccessBy x t k kind → FollowsIn past x a t
    go None h = absurd h
    go (Some x) (by, key, same_kind) = (by, rw (key, same_kind) access_list)

-- along a path whose members are ranked, the rank rises
pub rank_rises : (step : ℕ → ℕ → Type 0) (rank : ℕ → ℕ) (members : List ℕ)
    → ((a b : ℕ) → Member a members → Member b members → step a b → rank a < rank b)
    → (t : ℕ) (rest : List ℕ) → Within (t ∷ rest) members → PathOf step t rest → rank t ≤ rank (last_of t rest)
rank_rises step rank members up t [] w p = omega arith
rank_rises step rank members up t (u ∷ rest) w p =
    let here : rank t < rank u = up t u (w t (inl refl)) (w u (inr (inl refl))) p.0 in
    let there : rank u ≤ rank (last_of u rest) = rank_rises step rank members up u rest (λ x m. w x (inr m)) p.1 in
    omega arith

-- the last member of a path of edges stands
last_stands : (past : List Entry) (t u : ℕ) (rest : List ℕ) → PathOf (Pair past) t (u ∷ rest) → aborted past (last_of u rest) ≡ false
last_stands past t u [] p = p.0.second_stands
last_stands past t u (v ∷ rest) p = last_stands past u v rest p.1

-- with the rejected access added no numbers for the path's members rise along each edge among them
pub refused_has_no_rank : (past : List Entry) (t : ℕ) (k : Key) (kind : Kind) (rest : List ℕ) → Closes past t k kind rest
    → (e : Entry) → IsAccessBy (access_of e) t k kind
    → (rank : ℕ → ℕ) → ((a b : ℕ) → Member a (t ∷ rest) → Member b (t ∷ rest) → Pair (e ∷ past) a b → rank a < rank b) → ⊥
refused_has_no_rank past t k kind [] c e is rank up = omega (arith, c.at_least_two)
refused_has_no_rank past t k kind (u ∷ rest) c e is rank up =
    let last : ℕ = last_of u rest in
    let member : Member last (u ∷ rest) = last_is_member t u rest in
    let apart : last ≢ t = λ same. c.distinct.0 (subst (λ x. Member x (u ∷ rest)) same member) in
    let closing : Pair (e ∷ past) last t =
    pair_made e past t k kind is last apart (last_stands past t u rest c.pairs) c.pairs.0.first_stands c.conflict in
    let falls : rank last < rank t = up last t (inr member) (inl refl) closing in
    let rises : rank t ≤ rank last = rank_rises (Pair past) rank (t ∷ u ∷ rest)
    (λ a b ma mb p. up a b ma mb (pair_stays e past t k kind is a b p)) t (u ∷ rest) (λ x m. m) c.pairs in
    omega arith

-- the index of a number in a list
index : List ℕ → ℕ → ℕ
index [] a = 0
index (c ∷ rest) a = cond (nat_eq a c) 0 (suc (index rest a))

before_member : (a b : ℕ) (list : List ℕ) → StandsBefore a b list → Member a list × Member b list
before_member a b [] s = elim s [ ]
before_member a b (c ∷ rest) (inl (same, m)) = (inl same, inr m)
before_member a b (c ∷ rest) (inr s) = let (x, y) = before_member a b rest s in (inr x, inr y)

index-other : (c : ℕ) (rest : List ℕ) (a : ℕ) → (Member c rest → ⊥) → Member a rest → index (c ∷ rest) a ≡ suc (index rest a)
unfolding index
index-other c rest a new m = rw (ne_eqb a c (λ same. new (subst (λ x. Member x rest) same m)))

index-same : (c : ℕ) (rest : List ℕ) (a : ℕ) → a ≡ c → index (c ∷ rest) a ≡ 0
unfolding index
index-same c rest a same = rw (eq-eqb a c same)

index_rises : (a b : ℕ) (list : List ℕ) → Distinct list → StandsBefore a b list → index list a < index list b
index_rises a b [] d s = elim s [ ]
index_rises a b (c ∷ rest) d (inl (same, m)) = omega (arith, index-same c rest a same, index-other c rest b d.0 m)
index_rises a b (c ∷ rest) d (inr s) =
    let (ma, mb) = before_member a b rest s in
    omega (arith, index_rises a b rest d.1 s, index-other c rest a d.0 ma, index-other c rest b d.0 mb)

-- with the rejected access added as an entry, the members of its path have no order in which the first of each edge
-- among them comes first
pub refused_has_no_order : (past : List Entry) (t : ℕ) (k : Key) (kind : Kind) (rest : List ℕ) → Closes past t k kind rest
    → (e : Entry) → IsAccessBy (access_of e) t k kind → (order : List ℕ) → Orders (Pair (e ∷ past)) (t ∷ rest) order → ⊥
refused_has_no_order past t k kind rest c e is order o =
    refused_has_no_rank past t k kind rest c e is (index order) (λ a b ma mb p. index_rises a b order o.once (o.first_first a b ma mb p))
