-- Fields that keep their old values.
use Rattle.std.proofs.Common.{◌≡◌, ℕ, zero, suc, pos, ◌<◌, List, [], ◌∷◌, length, drop, get_or, set, refl, ap, subst, arith}
use Rattle.sgt_c.specs.declared.reply_struct.SgtOutcome.{SgtOutcome}
use Rattle.sgt_c.specs.declared.reply_struct.SgtReply.{SgtReply}
use Rattle.sgt_c.specs.KeptFields.{KeepsOtherFields, KeepOtherFields}

-- where nothing is written
pub keeps_all : (s : SgtReply) → KeepsOtherFields s s
keeps_all s = record {
  cause = λ _. refl;
  tid = λ _. refl;
  code = λ _. refl;
  table = λ _. refl;
  found = λ _. refl;
  number = λ _. refl;
  value = λ _. refl;
  answers = λ _. refl;
  walked = λ _. refl;
  fallen = λ _. refl;
  spare = refl;
  answer = refl;
  walk = refl;
  fell = refl;
}

pub keep_all : (outcomes : List SgtOutcome) → KeepOtherFields outcomes outcomes
keep_all [] = refl
keep_all (o ∷ outcomes) = (keeps_all o.reply, keep_all outcomes)

first_of : (o n : SgtOutcome) (outcomes before : List SgtOutcome) → o ∷ outcomes ≡ n ∷ before → o ≡ n
first_of o n outcomes before e = cc

-- one more outcome is written, over one that was not
pub kept_next : (before outcomes : List SgtOutcome) (i : ℕ) (d n : SgtOutcome) → i < length outcomes → drop i outcomes ≡ drop i before
    → KeepsOtherFields (get_or outcomes i d).reply n.reply → KeepOtherFields before outcomes → KeepOtherFields before (set outcomes i n)
kept_next [] outcomes i d n less rest one all = let none = ap length all in absurd (omega (arith, less, none))
kept_next (b ∷ before) [] i d n less rest one all = absurd all
kept_next (b ∷ before) (x ∷ outcomes) zero d n less rest one all =
    (subst (λ (y : SgtOutcome). KeepsOtherFields y.reply n.reply) (first_of x b outcomes before rest) one, all.1)
kept_next (b ∷ before) (x ∷ outcomes) (suc i) d n less rest one all =
    (all.0, kept_next before outcomes i d n (omega (arith, less)) rest one all.1)

-- an outcome of zeros
abbrev pub no_outcome : SgtOutcome
no_outcome = record {
  tid = 0;
  wrote = 0;
  reply = record {
    kind = 0;
    cause = 0;
    tid = 0;
    code = 0;
    table = 0;
    found = 0;
    number = pos 0;
    value = pos 0;
    answers = 0;
    walked = 0;
    fallen = 0;
    spare = 0;
    answer = [];
    walk = [];
    fell = [];
  };
}
