-- What a scheduler's calls require of each other.
use Rattle.std.specs.Prelude.{◌≡◌, ◌≢◌, ◌↔◌, ℕ, Bool, true, false, not, ◌&&◌, cond, nat_eq, nat_lt, List, [], ◌∷◌, ◌++◌, filter, Option, Some, None}
use Rattle.sgt_model.specs.declared.kind.Kind.{Kind}
use Rattle.sgt_model.specs.declared.reply.Fate.{Fate}
use Rattle.sgt_model.specs.declared.reply.Reply.{Reply}
use Rattle.sgt_model.specs.declared.reply.Reply.TheVariants as reply
use Rattle.sgt_model.specs.AccessList.{lists_conflicting}
use Rattle.sgt_model.specs.Contents.{Key}
use Rattle.sgt_model.specs.State.{State}
use Rattle.sgt_model.specs.Paths.{Member}
use Rattle.sgt_records.specs.declared.top.Top.{Top}
use Rattle.sgt_records.specs.declared.top.Top.TheVariants as top

-- the reply to an event of a transaction that is not live: by whether it was started, and how it ended
abbrev pub IsNotLiveBy : Bool → Option Fate → Reply → Type 0
IsNotLiveBy false ended r = r ≡ reply.Unknown
IsNotLiveBy true (Some f) r = r ≡ reply.Over f
IsNotLiveBy true None r = ⊥

-- t is not live in the state, and this is the reply to an event of it
abbrev pub IsNotLive : State → ℕ → Reply → Type 0
IsNotLive c t r = IsNotLiveBy (nat_lt t c.start_count) (c.fates t) r

-- t was started, and has not ended
pub record IsUnended (c : State) (t : ℕ) : Type 0 where
  pub begun : nat_lt t c.start_count ≡ true
  pub unended : c.fates t ≡ None

-- the reads, source and reader, without those from t or by t
abbrev pub unread : ℕ → List (ℕ × ℕ) → List (ℕ × ℕ)
unread t reads = filter (λ (p : ℕ × ℕ). not (nat_eq p.0 t) && not (nat_eq p.1 t)) reads

-- the reads with one more, if a read of t returned the value of another
abbrev pub with_source : Top → ℕ → List (ℕ × ℕ) → List (ℕ × ℕ)
with_source (top.Pending u v) t reads = cond (nat_eq u t) reads (reads ++ (u, t) ∷ [])
with_source (top.Settled v) t reads = reads
with_source top.Nothing t reads = reads

-- these are the rivals of an access of t: the other transactions with a listed access that conflicts with it
abbrev pub AreRivals : State → ℕ → Key → Kind → List ℕ → Type 0
AreRivals c t k kind rivals = (u : ℕ) → Member u rivals ↔ ((u ≢ t) × (lists_conflicting c.accesses u k kind ≡ true))
