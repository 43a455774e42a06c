-- The definitions as tests that compute, so that a written-out history is proved legal by computing. Each test says that its
-- definition holds; where the definition speaks of all paths or all transactions, the test is given a set that has them.
-- The tests of edges, and of who read from whom, hold exactly where the definitions do.
use Rattle.std.specs.Prelude.{◌≡◌, ◌≢◌, ℕ, ◌≤◌, ℤ, Bool, true, false, not, ◌&&◌, ◌||◌, nat_eq, nat_lt, List, [], ◌∷◌, length, Option, Some, None}
use Rattle.std.specs.List.{list_any, list_all}
use Rattle.std.proofs.Common.{refl, sym, ap, subst, inl, inr, arith}
use Rattle.std.proofs.lemmas.Bool.{and_parts, and_from, or_cases, or_left, or_right, eq-eqb, eqb-true, ne_eqb, both_ways, not-true, lt-ltb, ltb-true, not_from_false, cases_lt}
use Rattle.sgt_model.specs.declared.reply.Reply.{Reply}
use Rattle.sgt_model.specs.declared.reply.Reply.TheVariants as reply
use Rattle.sgt_model.specs.declared.reply.Cause.{Cause}
use Rattle.sgt_model.specs.declared.reply.Cause.TheVariants as cause
use Rattle.sgt_model.specs.declared.entry.Entry.{Entry}
use Rattle.sgt_model.specs.declared.kind.Kind.{Kind}
use Rattle.sgt_model.specs.declared.kind.Kind.TheVariants.{Look, Store}
use Rattle.sgt_model.specs.Contents.{Key}
use Rattle.sgt_model.specs.Paths.{PathOf, last_of, Member, Distinct, Rising, Reaches}
use Rattle.sgt_model.specs.Accesses.{Access, access_of}
use Rattle.sgt_model.specs.Fates.{aborted, live}
use Rattle.sgt_model.specs.Values.{newest_store}
use Rattle.sgt_model.specs.ReadFrom.{IsBy, LooksFrom, ReadFrom}
use Rattle.sgt_model.specs.Falls.{Feeds, Falls}
use Rattle.sgt_model.specs.Pairs.{has_conflicting, FollowsIn, Precedes, Pair}
use Rattle.sgt_model.specs.Closes.{Closes}
use Rattle.sgt_model.specs.Legality.{AbortReply, CycleAbortReply, Makes, HasNoLivePredecessor, MustWait, MayCommit, MayRefuse}
use Rattle.sgt_model.proofs.Paths.{last_is_member}
use Rattle.sgt_model.proofs.Facts.{some_is, member_from, member_to, conflicts-access, follows-access}
use Rattle.sgt_model.proofs.Sources.{read-precedes}

-- a legal history, and what shows that one more reply to it is legal: the oldest entry stands first
infixl 4 ◌▸◌
abbrev pub ◌▸◌ : {A B : Type 0} → A → B → A × B
legal ▸ reply_is_legal = (legal, reply_is_legal)

-- on lists of numbers

-- the number is in the list
abbrev pub has : List ℕ → ℕ → Bool
has l t = list_any (λ u. nat_eq u t) l

has-member : (l : List ℕ) (t : ℕ) → has l t ≡ true → Member t l
has-member l t h = member_from t l h

member-has : (l : List ℕ) (t : ℕ) → Member t l → has l t ≡ true
member-has l t m = member_to t l m

-- what a test says of each member
all-at : (p : ℕ → Bool) (l : List ℕ) (t : ℕ) → list_all p l ≡ true → Member t l → p t ≡ true
all-at p [] t h m = absurd m
all-at p (u ∷ l) t h (inl e) = subst (λ v. p v ≡ true) (sym e) (and_parts _ _ h).0
all-at p (u ∷ l) t h (inr m) = all-at p l t (and_parts _ _ h).1 m

-- if the first holds then the second
abbrev pub implies : Bool → Bool → Bool
implies a b = not a || b

implies-at : (a b : Bool) → implies a b ≡ true → a ≡ true → b ≡ true
implies-at true b h e = h
implies-at false b h e = absurd (cc)

-- those that have accesses
abbrev pub actor_in : Option Access → List ℕ → List ℕ
actor_in None rest = rest
actor_in (Some a) rest = a.by ∷ rest

abbrev pub actors : List Entry → List ℕ
actors [] = []
actors (e ∷ past) = actor_in (access_of e) (actors past)

actor-first : (o : Option Access) (rest : List ℕ) (a : Access) → o ≡ Some a → Member a.by (actor_in o rest)
actor-first None rest a is = absurd (cc)
actor-first (Some b) rest a is = inl (ap (λ (x : Access). x.by) (sym (some_is b a is)))

actor-later : (o : Option Access) (rest : List ℕ) (t : ℕ) → Member t rest → Member t (actor_in o rest)
actor-later None rest t m = m
actor-later (Some b) rest t m = inr m

pub has_conflicting-actor : (past : List Entry) (t : ℕ) (k : Key) (kind : Kind) → has_conflicting past t k kind ≡ true
    → Member t (actors past)
has_conflicting-actor [] t k kind h = absurd (cc)
has_conflicting-actor (e ∷ past) t k kind h = elim (or_cases _ _ h) [
  | inl now ↦ let c = conflicts-access _ t k kind now in
      subst (λ u. Member u (actor_in (access_of e) (actors past))) c.by (actor-first (access_of e) (actors past) c.access c.is)
  | inr before ↦ actor-later (access_of e) (actors past) t (has_conflicting-actor past t k kind before)
]

-- edges

-- the edges, as tests: FollowsIn, Precedes and Pair
abbrev pub follows : List Entry → Option Access → ℕ → ℕ → Bool
follows past None t u = false
follows past (Some a) t u = nat_eq a.by u && has_conflicting past t a.key a.kind

abbrev pub precedes : List Entry → ℕ → ℕ → Bool
precedes [] t u = false
precedes (e ∷ past) t u = follows past (access_of e) t u || precedes past t u

follows-so : (past : List Entry) (o : Option Access) (t u : ℕ) → follows past o t u ≡ true → FollowsIn past o t u
follows-so past None t u h = absurd (cc)
follows-so past (Some a) t u h = let p = and_parts _ _ h in (eqb-true a.by u p.0, p.1)

so-follows : (past : List Entry) (o : Option Access) (t u : ℕ) → FollowsIn past o t u → follows past o t u ≡ true
so-follows past None t u h = absurd h
so-follows past (Some a) t u h = and_from _ _ (eq-eqb a.by u h.0) h.1

precedes-so : (past : List Entry) (t u : ℕ) → precedes past t u ≡ true → Precedes past t u
precedes-so [] t u h = absurd (cc)
precedes-so (e ∷ past) t u h = elim (or_cases _ _ h) [
  | inl now ↦ inl (follows-so past (access_of e) t u now)
  | inr before ↦ inr (precedes-so past t u before)
]

so-precedes : (past : List Entry) (t u : ℕ) → Precedes past t u → precedes past t u ≡ true
so-precedes [] t u h = absurd h
so-precedes (e ∷ past) t u (inl now) = or_left _ _ (so-follows past (access_of e) t u now)
so-precedes (e ∷ past) t u (inr before) = or_right _ _ (so-precedes past t u before)

pub precedes-actors : (past : List Entry) (t u : ℕ) → Precedes past t u → Member t (actors past) × Member u (actors past)
precedes-actors [] t u h = absurd h
precedes-actors (e ∷ past) t u (inl now) = let f = follows-access past (access_of e) t u now in (
  actor-later (access_of e) (actors past) t (has_conflicting-actor past t f.access.key f.access.kind f.access_list),
  subst (λ v. Member v (actor_in (access_of e) (actors past))) f.by (actor-first (access_of e) (actors past) f.access f.is),
)
precedes-actors (e ∷ past) t u (inr before) = let p = precedes-actors past t u before in
    (actor-later (access_of e) (actors past) t p.0, actor-later (access_of e) (actors past) u p.1)

abbrev pub pair : List Entry → ℕ → ℕ → Bool
pair past t u = not (nat_eq t u) && (not (aborted past t) && (not (aborted past u) && precedes past t u))

pub pair-so : (past : List Entry) (t u : ℕ) → pair past t u ≡ true → Pair past t u
pair-so past t u h =
    let p = and_parts _ _ h in
    let q = and_parts _ _ p.1 in
    let r = and_parts _ _ q.1 in
    record {
      apart = λ e. both_ways _ (not-true _ p.0) (eq-eqb t u e);
      first_stands = not-true _ q.0;
      second_stands = not-true _ r.0;
      precedes = precedes-so past t u r.1;
    }

pub so-pair : (past : List Entry) (t u : ℕ) → Pair past t u → pair past t u ≡ true
so-pair past t u p = and_from _ _ (not_from_false _ (ne_eqb t u p.apart)) (and_from _ _ (not_from_false _ p.first_stands)
    (and_from _ _ (not_from_false _ p.second_stands) (so-precedes past t u p.precedes)))

-- an access closes no cycle

-- the set has t, and all that edges lead to from it; no other member has a conflicting access
abbrev pub free_test : List Entry → ℕ → Key → Kind → List ℕ → Bool
free_test past t k kind set =
    has set t
    && (list_all (λ a. list_all (λ b. implies (pair past a b) (has set b)) (actors past)) set
    && list_all (λ a. nat_eq a t || not (has_conflicting past a k kind)) set)

stays_in : (step : ℕ → ℕ → Type 0) (set : List ℕ) → ((a b : ℕ) → Member a set → step a b → Member b set) → (t : ℕ) (path : List ℕ)
    → Member t set → PathOf step t path → Member (last_of t path) set
stays_in step set closed t [] m p = m
stays_in step set closed t (u ∷ path) m p = stays_in step set closed u path (closed t u m p.0) p.1

pub free-so : (past : List Entry) (t : ℕ) (k : Key) (kind : Kind) (set : List ℕ) → free_test past t k kind set ≡ true
    → (rest : List ℕ) → Closes past t k kind rest → ⊥
free-so past t k kind set h [] c = omega (arith, c.at_least_two)
free-so past t k kind set h (u ∷ rest) c =
    let p = and_parts _ _ h in
    let q = and_parts _ _ p.1 in
    let closed : (a b : ℕ) → Member a set → Pair past a b → Member b set =
    λ a b m x. has-member set b
    (implies-at _ _ (all-at _ (actors past) b (all-at _ set a q.0 m) (precedes-actors past a b x.precedes).1) (so-pair past a b x)) in
    let last : Member (last_of u rest) set = stays_in (Pair past) set closed t (u ∷ rest) (has-member set t p.0) c.pairs in
    let other : last_of u rest ≢ t = λ e. c.distinct.0 (subst (λ x. Member x (u ∷ rest)) e (last_is_member t u rest)) in
    elim (or_cases _ _ (all-at _ set (last_of u rest) q.1 last)) [
      | inl same ↦ other (eqb-true _ t same)
      | inr free ↦ both_ways _ (not-true _ free) c.conflict
    ]

-- an access is made
pub made_by : {past : List Entry} {t : ℕ} {k : Key} {kind : Kind} {r : Reply} (set : List ℕ) → free_test past t k kind set ≡ true
    → Makes past t k kind r r
made_by {past} {t} {k} {kind} {r} set h = record { free = free-so past t k kind set h; is = refl }

-- an access would close a cycle

-- PathOf
abbrev pub is_path : (ℕ → ℕ → Bool) → ℕ → List ℕ → Bool
is_path step t [] = true
is_path step t (u ∷ rest) = step t u && is_path step u rest

path-so : (test : ℕ → ℕ → Bool) (step : ℕ → ℕ → Type 0) → ((a b : ℕ) → test a b ≡ true → step a b) → (t : ℕ) (path : List ℕ)
    → is_path test t path ≡ true → PathOf step t path
path-so test step so t [] h = tt
path-so test step so t (u ∷ path) h = let p = and_parts _ _ h in (so t u p.0, path-so test step so u path p.1)

-- Distinct
abbrev pub distinct : List ℕ → Bool
distinct [] = true
distinct (t ∷ rest) = not (has rest t) && distinct rest

distinct-so : (l : List ℕ) → distinct l ≡ true → Distinct l
distinct-so [] h = tt
distinct-so (t ∷ l) h = let p = and_parts _ _ h in ((λ m. both_ways _ (not-true _ p.0) (member-has l t m)), distinct-so l p.1)

-- Closes
abbrev pub closes_test : List Entry → ℕ → Key → Kind → List ℕ → Bool
closes_test past t k kind rest =
    distinct (t ∷ rest) && (nat_lt 0 (length rest) && (is_path (pair past) t rest && has_conflicting past (last_of t rest) k kind))

pub closes-so : (past : List Entry) (t : ℕ) (k : Key) (kind : Kind) (rest : List ℕ) → closes_test past t k kind rest ≡ true
    → Closes past t k kind rest
closes-so past t k kind rest h =
    let p = and_parts _ _ h in
    let q = and_parts _ _ p.1 in
    let r = and_parts _ _ q.1 in
    record {
      distinct = distinct-so (t ∷ rest) p.0;
      at_least_two = ltb-true 0 (length rest) q.0;
      pairs = path-so (pair past)
          (Pair past) (pair-so past) t rest r.0;
      conflict = r.1;
    }

-- which transactions are aborted in cascade

-- who read from whom, as tests: IsBy, LooksFrom and ReadFrom
abbrev pub is_by_test : Option Access → ℕ → Bool
is_by_test None u = false
is_by_test (Some a) u = nat_eq a.by u

abbrev pub is_look : Kind → Bool
is_look Look = true
is_look Store = false

abbrev pub looks_from : List Entry → Option Access → ℕ → ℕ → Bool
looks_from past None t u = false
looks_from past (Some a) t u = is_look a.kind && (nat_eq a.by t && is_by_test (newest_store (λ v. not (aborted past v)) a.key past) u)

abbrev pub read_from : List Entry → ℕ → ℕ → Bool
read_from [] t u = false
read_from (e ∷ past) t u = (not (nat_eq t u) && looks_from past (access_of e) t u) || read_from past t u

is_by-so : (o : Option Access) (u : ℕ) → is_by_test o u ≡ true → IsBy o u
is_by-so None u h = absurd (cc)
is_by-so (Some a) u h = eqb-true a.by u h

so-is_by : (o : Option Access) (u : ℕ) → IsBy o u → is_by_test o u ≡ true
so-is_by None u h = absurd h
so-is_by (Some a) u h = eq-eqb a.by u h

look-so : (kind : Kind) → is_look kind ≡ true → kind ≡ Look
look-so Look h = refl
look-so Store h = absurd (cc)

looks_from-so : (past : List Entry) (o : Option Access) (t u : ℕ) → looks_from past o t u ≡ true → LooksFrom past o t u
looks_from-so past None t u h = absurd (cc)
looks_from-so past (Some a) t u h = let p = and_parts _ _ h in let q = and_parts _ _ p.1 in
    (look-so a.kind p.0, eqb-true a.by t q.0, is_by-so _ u q.1)

so-looks_from : (past : List Entry) (o : Option Access) (t u : ℕ) → LooksFrom past o t u → looks_from past o t u ≡ true
so-looks_from past None t u h = absurd h
so-looks_from past (Some a) t u h = and_from _ _ (ap is_look h.0) (and_from _ _ (eq-eqb a.by t h.1) (so-is_by _ u h.2))

pub read_from-so : (past : List Entry) (t u : ℕ) → read_from past t u ≡ true → ReadFrom past t u
read_from-so [] t u h = absurd (cc)
read_from-so (e ∷ past) t u h = elim (or_cases _ _ h) [
  | inl now ↦ let p = and_parts _ _ now in
      inl ((λ q. both_ways _ (not-true _ p.0) (eq-eqb t u q)), looks_from-so past (access_of e) t u p.1)
  | inr before ↦ inr (read_from-so past t u before)
]

pub so-read_from : (past : List Entry) (t u : ℕ) → ReadFrom past t u → read_from past t u ≡ true
so-read_from [] t u h = absurd h
so-read_from (e ∷ past) t u (inl now) =
    or_left _ _ (and_from _ _ (not_from_false _ (ne_eqb t u now.0)) (so-looks_from past (access_of e) t u now.1))
so-read_from (e ∷ past) t u (inr before) = or_right _ _ (so-read_from past t u before)

pub read_from-actor : (past : List Entry) (t u : ℕ) → ReadFrom past t u → Member t (actors past)
read_from-actor past t u h = (precedes-actors past u t (read-precedes past t u h)).1

-- Rising
abbrev pub rising : List ℕ → Bool
rising [] = true
rising (t ∷ []) = true
rising (t ∷ u ∷ rest) = nat_lt t u && rising (u ∷ rest)

rising-so : (l : List ℕ) → rising l ≡ true → Rising l
rising-so [] h = tt
rising-so (t ∷ []) h = tt
rising-so (t ∷ u ∷ l) h = let p = and_parts _ _ h in (ltb-true t u p.0, rising-so (u ∷ l) p.1)

-- w read from v
abbrev pub feeds : List Entry → ℕ → ℕ → Bool
feeds past v w = read_from past w v

-- each of those aborted in cascade is live, another, and at the end of one of these paths
abbrev pub each_test : List Entry → ℕ → List ℕ → List (List ℕ) → Bool
each_test past t [] paths = true
each_test past t (u ∷ fell) [] = false
each_test past t (u ∷ fell) (path ∷ paths) =
    (live past u && (not (nat_eq u t) && (is_path (feeds past) t path && nat_eq (last_of t path) u))) && each_test past t fell paths

pub each-so : (past : List Entry) (t : ℕ) (fell : List ℕ) (paths : List (List ℕ)) → each_test past t fell paths ≡ true → (u : ℕ)
    → Member u fell → (live past u ≡ true) × (u ≢ t) × Reaches (Feeds past) t u
each-so past t [] paths h u m = absurd m
each-so past t (v ∷ fell) [] h u m = absurd (cc)
each-so past t (v ∷ fell) (path ∷ paths) h u (inl e) =
    let p = and_parts _ _ (and_parts _ _ h).0 in
    let q = and_parts _ _ p.1 in
    let r = and_parts _ _ q.1 in
    subst (λ x. (live past x ≡ true) × (x ≢ t) × Reaches (Feeds past) t x) (sym e) (
      p.0,
      (λ x. both_ways _ (not-true _ q.0) (eq-eqb v t x)),
      (path, path-so (feeds past) (Feeds past) (λ a b g. read_from-so past b a g) t path r.0, eqb-true _ v r.1),
    )
each-so past t (v ∷ fell) (path ∷ paths) h u (inr m) = each-so past t fell paths (and_parts _ _ h).1 u m

-- the set has t, and all that read from a member; the other live members are among those aborted in cascade
abbrev pub all_test : List Entry → ℕ → List ℕ → List ℕ → Bool
all_test past t fell set =
    has set t
    && (list_all (λ a. list_all (λ b. implies (feeds past a b) (has set b)) (actors past)) set
    && list_all (λ a. nat_eq a t || implies (live past a) (has fell a)) set)

pub all-so : (past : List Entry) (t : ℕ) (fell set : List ℕ) → all_test past t fell set ≡ true → (u : ℕ) → live past u ≡ true
    → u ≢ t → Reaches (Feeds past) t u → Member u fell
all-so past t fell set h u alive apart (path, goes, at) =
    let p = and_parts _ _ h in
    let q = and_parts _ _ p.1 in
    let closed : (a b : ℕ) → Member a set → Feeds past a b → Member b set =
    λ a b m x. has-member set b (implies-at _ _ (all-at _ (actors past) b (all-at _ set a q.0 m) (read_from-actor past b a x))
    (so-read_from past b a x)) in
    let member : Member u set = subst (λ x. Member x set) at (stays_in (Feeds past) set closed t path (has-member set t p.0) goes) in
    elim (or_cases _ _ (all-at _ set u q.1 member)) [
      | inl same ↦ absurd (apart (eqb-true u t same))
      | inr falls ↦ has-member fell u (implies-at _ _ falls alive)
    ]

-- exactly these are aborted in cascade
pub falls-so : (past : List Entry) (t : ℕ) (fell : List ℕ) (paths : List (List ℕ)) (set : List ℕ) → rising fell ≡ true
    → each_test past t fell paths ≡ true → all_test past t fell set ≡ true → Falls past t fell
falls-so past t fell paths set r e a = record {
  rising = rising-so fell r;
  each = each-so past t fell paths e;
  all = all-so past t fell set a;
}

-- t is aborted, and those that read from it in cascade
pub aborts_by : {past : List Entry} {t : ℕ} {why : Cause} (fell : List ℕ) (paths : List (List ℕ)) (set : List ℕ)
    → rising fell ≡ true → each_test past t fell paths ≡ true → all_test past t fell set ≡ true
    → AbortReply past t why (reply.Aborted why fell)
aborts_by {past} {t} {why} fell paths set r e a = record { fell = fell; falls = falls-so past t fell paths set r e a; is = refl }

-- an access is rejected, with a cycle that it would close
pub refused_by : {past : List Entry} {t : ℕ} {k : Key} {kind : Kind} (rest fell : List ℕ) (paths : List (List ℕ)) (set : List ℕ)
    → closes_test past t k kind rest ≡ true → rising fell ≡ true → each_test past t fell paths ≡ true
    → all_test past t fell set ≡ true → CycleAbortReply past t k kind (reply.Aborted (cause.Cycle (t ∷ rest)) fell)
refused_by {past} {t} {k} {kind} rest fell paths set c r e a = record {
  rest = rest;
  closes = closes-so past t k kind rest c;
  aborts = aborts_by fell paths set r e a;
}

-- which transactions must wait

-- HasNoLivePredecessor
abbrev pub none_live_test : List Entry → ℕ → Bool
none_live_test past t = list_all (λ v. not (live past v && pair past v t)) (actors past)

pub none_live-so : (past : List Entry) (t : ℕ) → none_live_test past t ≡ true → HasNoLivePredecessor past t
none_live-so past t h v p = both_ways _ (not-true _ (all-at _ (actors past) v h (precedes-actors past v t p.pair.precedes).0))
    (and_from _ _ p.is_live (so-pair past v t p.pair))

-- t commits
pub commits_by : {past : List Entry} {t : ℕ} {answers : List ℤ} → none_live_test past t ≡ true → MayCommit past t answers
    (reply.Committed answers)
commits_by {past} {t} {answers} h = record { none_live = none_live-so past t h; is = refl }

-- t is refused, with those aborted in cascade
pub refuses_by : {past : List Entry} {t code : ℕ} (fell : List ℕ) (paths : List (List ℕ)) (set : List ℕ)
    → none_live_test past t ≡ true → rising fell ≡ true → each_test past t fell paths ≡ true → all_test past t fell set ≡ true
    → MayRefuse past t code (reply.Refused code fell)
refuses_by {past} {t} fell paths set first r e a = record {
  none_live = none_live-so past t first;
  fell = fell;
  falls = falls-so past t fell paths set r e a;
  is = refl;
}

-- IsLeastPredecessor
abbrev pub least_test : List Entry → ℕ → ℕ → Bool
least_test past t u = (live past u && pair past u t) && list_all (λ v. implies (live past v && pair past v t) (not (nat_lt v u)))
    (actors past)

not_below : (u v : ℕ) → not (nat_lt v u) ≡ true → u ≤ v
not_below u v h = elim (cases_lt u v) [
  | inl less ↦ omega arith
  | inr le ↦ elim (cases_lt v u) [ inl less ↦ absurd (both_ways _ (not-true _ h) (lt-ltb v u less)) | inr ge ↦ ge ]
]

-- t must wait for the least
pub waits_by : {past : List Entry} {t u : ℕ} → least_test past t u ≡ true → MustWait past t (reply.Waits u)
waits_by {past} {t} {u} h =
    let p = and_parts _ _ h in
    let q = and_parts _ _ p.0 in
    record {
      predecessor = u;
      least = record {
        pair = record { is_live = q.0; pair = pair-so past u t q.1 };
        least = λ v x. not_below u v (implies-at _ _ (all-at _ (actors past) v p.1 (precedes-actors past v t x.pair.precedes).0)
            (and_from _ _ x.is_live (so-pair past v t x.pair)));
      };
      is = refl;
    }
