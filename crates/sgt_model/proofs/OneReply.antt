-- Two legal replies to one event are the same, but for the path of a rejected access.
use Rattle.std.specs.Prelude.{◌≡◌, ℕ, ◌<◌, Bool, true, false, ◌⊎◌, nat_lt, List, [], ◌∷◌, Option, Some, None, ℤ}
use Rattle.std.proofs.Common.{refl, sym, ◌∙◌, ap, ap₂, inl, inr, arith}
use Rattle.sgt_model.specs.declared.event.Event.TheVariants.{Start, Step, Access, Commit, Quit}
use Rattle.sgt_model.specs.declared.event.Request.{Request}
use Rattle.sgt_model.specs.declared.reply.Reply.{Reply}
use Rattle.sgt_model.specs.declared.reply.Reply.TheVariants as reply
use Rattle.sgt_model.specs.declared.reply.Cause.{Cause}
use Rattle.sgt_model.specs.declared.reply.Cause.TheVariants as cause
use Rattle.sgt_model.specs.declared.reply.Fate.{Fate}
use Rattle.sgt_model.specs.declared.entry.Entry.{Entry}
use Rattle.sgt_model.specs.declared.kind.Kind.{Kind}
use Rattle.sgt_model.specs.declared.kind.Kind.TheVariants.{Look, Store}
use Rattle.sgt_model.specs.declared.limits.Asks.{Asks}
use Rattle.sgt_model.specs.declared.limits.Asks.TheVariants.{AtStep, AtCommit}
use Rattle.sgt_model.specs.Contents.{Key}
use Rattle.sgt_model.specs.Traces.{Next, Looks, Puts, Ends, Raises}
use Rattle.sgt_model.specs.Paths.{Member, Rising, IsLeastPredecessor}
use Rattle.sgt_model.specs.Fates.{start_count, fate_of}
use Rattle.sgt_model.specs.Falls.{Falls}
use Rattle.sgt_model.specs.Configurations.{Configuration}
use Rattle.sgt_model.specs.Progress.{next_of, requested, is_fit}
use Rattle.sgt_model.specs.Legality.{AbortReply, CycleAbortReply, RaisedStep, RaisedCommit, Makes, StepReply, OfFit, RequestReply, LivePredecessor, MustWait, MayCommit, CommitReply, OfStarted}
use Rattle.sgt_model.specs.OneReply.{SameButCycle, RepliesAreUnique}
use Rattle.sgt_model.proofs.Paths.{Within}

-- rising lists

-- the first is below all others
pub rising_below : (t : ℕ) (l : List ℕ) → Rising (t ∷ l) → (u : ℕ) → Member u l → t < u
rising_below t [] r u m = absurd m
rising_below t (v ∷ l) r u (inl e) = let less : t < v = r.0 in omega arith
rising_below t (v ∷ l) r u (inr m) = let less : t < v = r.0 in let more : v < u = rising_below v l r.1 u m in omega arith

pub rising_rest : (t : ℕ) (l : List ℕ) → Rising (t ∷ l) → Rising l
rising_rest t [] r = tt
rising_rest t (u ∷ l) r = r.1

-- so the first of one list is the first of another with the same members
same_first : (t u : ℕ) (l m : List ℕ) → Rising (t ∷ l) → Rising (u ∷ m) → Member t (u ∷ m) → Member u (t ∷ l) → t ≡ u
same_first t u l m r q (inl e) k = e
same_first t u l m r q (inr j) (inl e) = sym e
same_first t u l m r q (inr j) (inr k) = let less : u < t = rising_below u m q t j in let more : t < u = rising_below t l r u k in
    absurd (omega arith)

rest_within : (t u : ℕ) (l m : List ℕ) → Rising (t ∷ l) → t ≡ u → Within (t ∷ l) (u ∷ m) → Within l m
rest_within t u l m r e w x k = go (w x (inr k))
  where
    go : Member x (u ∷ m) → Member x m
    go (inl same) = let less : t < x = rising_below t l r x k in absurd (omega arith)
    go (inr j) = j

-- rising lists with the same members are the same
pub rising_same : (l m : List ℕ) → Rising l → Rising m → Within l m → Within m l → l ≡ m
rising_same [] [] r q w v = refl
rising_same [] (u ∷ m) r q w v = absurd (v u (inl refl))
rising_same (t ∷ l) [] r q w v = absurd (w t (inl refl))
rising_same (t ∷ l) (u ∷ m) r q w v =
    let e : t ≡ u = same_first t u l m r q (w t (inl refl)) (v u (inl refl)) in
    let rest : l ≡ m = rising_same l m (rising_rest t l r) (rising_rest u m q) (rest_within t u l m r e w)
    (rest_within u t m l q (sym e) v) in
    ap₂ (λ x xs. x ∷ xs) e rest

-- aborts

falls_within : (past : List Entry) (t : ℕ) (fell other : List ℕ) → Falls past t fell → Falls past t other → Within fell other
falls_within past t fell other f g u m = let x = f.each u m in g.all u x.0 x.1 x.2

same_fall : (past : List Entry) (t : ℕ) (fell other : List ℕ) → Falls past t fell → Falls past t other → fell ≡ other
same_fall past t fell other f g = rising_same fell other f.rising g.rising (falls_within past t fell other f g)
    (falls_within past t other fell g f)

one_abort : (past : List Entry) (t : ℕ) (why : Cause) (r q : Reply) → AbortReply past t why r → AbortReply past t why q → r ≡ q
one_abort past t why r q a b = a.is ∙ (ap (λ l. reply.Aborted why l) (same_fall past t a.fell b.fell a.falls b.falls) ∙ sym b.is)

-- steps

one_access : (past : List Entry) (t : ℕ) (k : Key) (kind : Kind) (given r q : Reply)
    → CycleAbortReply past t k kind r ⊎ Makes past t k kind given r → CycleAbortReply past t k kind q ⊎ Makes past t k kind given q
    → SameButCycle r q
one_access past t k kind given r q (inl a) (inl b) = inr (record {
  cycle = t ∷ a.rest;
  other_path = t ∷ b.rest;
  fell = a.aborts.fell;
  one = a.aborts.is;
  other = b.aborts.is ∙ ap (λ l. reply.Aborted (cause.Cycle (t ∷ b.rest)) l)
      (same_fall past t b.aborts.fell a.aborts.fell b.aborts.falls a.aborts.falls);
})
one_access past t k kind given r q (inl a) (inr b) = absurd (b.free a.rest a.closes)
one_access past t k kind given r q (inr a) (inl b) = absurd (a.free b.rest b.closes)
one_access past t k kind given r q (inr a) (inr b) = inl (a.is ∙ sym b.is)

one_raised_step : (asks : Asks) (past : List Entry) (t code : ℕ) (r q : Reply) → RaisedStep asks past t code r
    → RaisedStep asks past t code q → r ≡ q
one_raised_step AtStep past t code r q a b = one_abort past t (cause.Asked code) r q a b
one_raised_step AtCommit past t code r q a b = a ∙ sym b

one_step : (s : Configuration) (past : List Entry) (t : ℕ) (next : Next) (r q : Reply) → StepReply s past t next r
    → StepReply s past t next q → SameButCycle r q
one_step s past t (Looks k) r q a b = one_access past t k Look _ r q a b
one_step s past t (Puts k v) r q a b = one_access past t k Store _ r q a b
one_step s past t (Ends answers) r q a b = inl (a ∙ sym b)
one_step s past t (Raises code) r q a b = inl (one_raised_step s.rules.limits.asks past t code r q a b)

one_fit : (s : Configuration) (past : List Entry) (t : ℕ) (n : Next) (fit : Bool) (r q : Reply) → OfFit fit r (StepReply s past t n r)
    → OfFit fit q (StepReply s past t n q) → SameButCycle r q
one_fit s past t n true r q a b = one_step s past t n r q a b
one_fit s past t n false r q a b = inl (a ∙ sym b)

one_request : (s : Configuration) (past : List Entry) (t : ℕ) (d : Request) (next : Next) (r q : Reply) → RequestReply s past t d next r
    → RequestReply s past t d next q → SameButCycle r q
one_request s past t d (Ends answers) r q a b = one_fit s past t (requested d) (is_fit d) r q a b
one_request s past t d (Looks k) r q a b = inl (a ∙ sym b)
one_request s past t d (Puts k v) r q a b = inl (a ∙ sym b)
one_request s past t d (Raises code) r q a b = inl (a ∙ sym b)

-- commits

one_least : (past : List Entry) (t u v : ℕ) → IsLeastPredecessor (LivePredecessor past) t u
    → IsLeastPredecessor (LivePredecessor past) t v → u ≡ v
one_least past t u v a b = let below = a.least v b.pair in let above = b.least u a.pair in omega arith

one_end : (past : List Entry) (t : ℕ) (answers : List ℤ) (r q : Reply) → MustWait past t r ⊎ MayCommit past t answers r
    → MustWait past t q ⊎ MayCommit past t answers q → r ≡ q
one_end past t answers r q (inl a) (inl b) = a.is ∙ (ap (λ u. reply.Waits u) (one_least past t a.predecessor b.predecessor a.least b.least)
    ∙ sym b.is)
one_end past t answers r q (inl a) (inr b) = absurd (b.none_live a.predecessor a.least.pair)
one_end past t answers r q (inr a) (inl b) = absurd (a.none_live b.predecessor b.least.pair)
one_end past t answers r q (inr a) (inr b) = a.is ∙ sym b.is

one_raised_commit : (asks : Asks) (past : List Entry) (t code : ℕ) (r q : Reply) → RaisedCommit asks past t code r
    → RaisedCommit asks past t code q → r ≡ q
one_raised_commit AtStep past t code r q a b = a ∙ sym b
one_raised_commit AtCommit past t code r q (inl a) (inl b) = a.is
    ∙ (ap (λ u. reply.Waits u) (one_least past t a.predecessor b.predecessor a.least b.least) ∙ sym b.is)
one_raised_commit AtCommit past t code r q (inl a) (inr b) = absurd (b.none_live a.predecessor a.least.pair)
one_raised_commit AtCommit past t code r q (inr a) (inl b) = absurd (a.none_live b.predecessor b.least.pair)
one_raised_commit AtCommit past t code r q (inr a) (inr b) =
    a.is ∙ (ap (λ l. reply.Refused code l) (same_fall past t a.fell b.fell a.falls b.falls) ∙ sym b.is)

one_commit : (s : Configuration) (past : List Entry) (t : ℕ) (next : Next) (r q : Reply) → CommitReply s past t next r
    → CommitReply s past t next q → r ≡ q
one_commit s past t (Ends answers) r q a b = one_end past t answers r q a b
one_commit s past t (Looks k) r q a b = a ∙ sym b
one_commit s past t (Puts k v) r q a b = a ∙ sym b
one_commit s past t (Raises code) r q a b = one_raised_commit s.rules.limits.asks past t code r q a b

-- every event

one_of_started : (P : Reply → Type 0) → ((r q : Reply) → P r → P q → SameButCycle r q) → (started : Bool) (ended : Option Fate)
    (r q : Reply) → OfStarted started ended r (P r) → OfStarted started ended q (P q) → SameButCycle r q
one_of_started P if_live true None r q a b = if_live r q a b
one_of_started P if_live true (Some fate) r q a b = inl (a ∙ sym b)
one_of_started P if_live false ended r q a b = inl (a ∙ sym b)

pub replies_are_unique : RepliesAreUnique
replies_are_unique s past (Start p args) r q a b = inl (a ∙ sym b)
replies_are_unique s past (Step t) r q a b = one_of_started (λ x. StepReply s past t (next_of s past t) x)
    (one_step s past t (next_of s past t)) (nat_lt t (start_count past)) (fate_of past t) r q a b
replies_are_unique s past (Access t d) r q a b = one_of_started (λ x. RequestReply s past t d (next_of s past t) x)
    (one_request s past t d (next_of s past t)) (nat_lt t (start_count past)) (fate_of past t) r q a b
replies_are_unique s past (Commit t) r q a b = one_of_started (λ x. CommitReply s past t (next_of s past t) x)
    (λ x y g h. inl (one_commit s past t (next_of s past t) x y g h)) (nat_lt t (start_count past)) (fate_of past t) r q a b
replies_are_unique s past (Quit t) r q a b = one_of_started (λ x. AbortReply past t cause.Quit x)
    (λ x y g h. inl (one_abort past t cause.Quit x y g h)) (nat_lt t (start_count past)) (fate_of past t) r q a b
