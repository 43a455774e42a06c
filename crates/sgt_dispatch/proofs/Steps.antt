-- Each step preserves the rule of the queue.
use Rattle.std.proofs.Common.{◌≡◌, ℕ, ◌+◌, ◌-◌, ◌<◌, true, false, true≢false, ⊎_elim, List, [], ◌∷◌, ◌++◌, set, refl, ap, sym, ◌∙◌, append_assoc, cond, All, arith}
use Rattle.std.specs.List.{sum_by}
use Rattle.std.proofs.lemmas.List.Sums.{sum_by-cons, sum_by-append}
use Rattle.std.proofs.lemmas.List.Elements.{All-push, All-weaker}
use mathlib.Core.Option.{some}
use lib.ListN.{get_elem?}
use Rattle.atomic_table.proofs.Lists.{at_set}
use Rattle.crossbeam_channel.specs.Fifo.{Pushes, Pops, Forks, Merges, Learns}
use Rattle.sgt_dispatch.specs.declared.item.Item.{Item}
use Rattle.sgt_dispatch.specs.declared.log.Log.{Log}
use Rattle.sgt_dispatch.specs.Subsequences.{IsSubsequence}
use Rattle.sgt_dispatch.specs.Logs.{first_log, consumer_log, spent_log, weight_of}
use Rattle.sgt_dispatch.specs.Fifo.{IsFifo, IsLearned}
use Rattle.sgt_dispatch.proofs.Subsequences.{IsSubsequence-nil, IsSubsequence-append, IsSubsequence-push}
use Rattle.sgt_dispatch.proofs.Sums.{EachLog-set, EachLog-push, EachLog-one, sum_by-set_log, sum_by-push_log, sum_by-has_log, sum_by-every_part}

-- the fields of `IsFifo` about each log
abbrev PutIs : ℕ → List Item → ℕ → Log → Type 0
PutIs producer items number log = log.is_producer ≡ true → (number ≡ producer) × (log.put ≡ items)

abbrev TookOf : List Item → ℕ → Log → Type 0
TookOf gone _ log = IsSubsequence log.taken gone × All (λ taken. IsSubsequence taken gone) log.joined

abbrev IsSpent : ℕ → Log → Type 0
IsSpent _ log = log.parts ≡ 0 → (log.taken ≡ []) × (log.joined ≡ [])

all_append : (lists : List (List Item)) (gone more : List Item) → All (λ taken. IsSubsequence taken gone) lists
    → All (λ taken. IsSubsequence taken (gone ++ more)) lists
all_append lists gone more all = All-weaker (λ taken. IsSubsequence taken gone) (λ taken. IsSubsequence taken (gone ++ more))
    (λ taken s. IsSubsequence-append taken gone more s) lists all

took_more : (gone more : List Item) (number : ℕ) (log : Log) → TookOf gone number log → TookOf (gone ++ more) number log
took_more gone more number log took = (IsSubsequence-append log.taken gone more took.0, all_append log.joined gone more took.1)

pub queue_begins : IsFifo [] (first_log ∷ [])
queue_begins = record {
  producer = 0;
  gone = [];
  parts = refl;
  put = EachLog-one (PutIs 0 []) first_log (λ _. (refl, refl));
  order = EachLog-one (TookOf []) first_log (refl, λ k d within. absurd (omega (arith, within)));
  once = λ weigh. refl;
  spent = EachLog-one IsSpent first_log (λ _. (refl, refl));
}

pub put_keeps : (capacity k : ℕ) (log : Log) (item : Item) → log.is_producer ≡ true → Pushes IsFifo capacity k log item
    (λ new. new ≡ record log { put = log.put ++ item ∷ [] })
put_keeps capacity k log item is_producer held logs _ fifo at =
    let new : Log = record log { put = log.put ++ item ∷ [] } in
    let mine = fifo.put k log at is_producer in (
      new,
      record {
        producer = fifo.producer;
        gone = fifo.gone;
        parts = omega (arith, sum_by-set_log (λ l. l.parts) logs k log new at, fifo.parts);
        put = EachLog-set (PutIs fifo.producer (fifo.gone ++ (held ++ item ∷ []))) logs k new
            (λ _. (mine.0, ap (λ (l : List Item). l ++ item ∷ []) mine.1 ∙ append_assoc fifo.gone held (item ∷ [])))
            (λ j other apart at' puts. absurd (apart ((fifo.put j other at' puts).0 ∙ sym mine.0)));
        order = EachLog-set (TookOf fifo.gone) logs k new (fifo.order k log at) (λ j other _ at'. fifo.order j other at');
        once = λ weigh. omega (arith, sum_by-set_log (weight_of weigh) logs k log new at, fifo.once weigh);
        spent = EachLog-set IsSpent logs k new (fifo.spent k log at) (λ j other _ at'. fifo.spent j other at');
      },
      refl,
    )

pub take_keeps : (k : ℕ) (log : Log) → log.is_producer ≡ false → 0 < log.parts
    → Pops IsFifo k log (λ item new. new ≡ record log { taken = log.taken ++ item ∷ [] })
take_keeps k log takes some_part item held logs fifo at =
    let new : Log = record log { taken = log.taken ++ item ∷ [] } in
    let gone : List Item = fifo.gone ++ item ∷ [] in
    let mine = fifo.order k log at in (
      new,
      record {
        producer = fifo.producer;
        gone = gone;
        parts = omega (arith, sum_by-set_log (λ l. l.parts) logs k log new at, fifo.parts);
        put = EachLog-set (PutIs fifo.producer (gone ++ held)) logs k new (λ puts. absurd (true≢false (sym puts ∙ takes)))
            (λ j other _ at' puts. (let p = fifo.put j other at' puts in (p.0, p.1 ∙ sym (append_assoc fifo.gone (item ∷ []) held))));
        order = EachLog-set (TookOf gone) logs k new (
          IsSubsequence-push log.taken fifo.gone item mine.0,
          all_append log.joined fifo.gone (item ∷ []) mine.1,
        )
            (λ j other _ at'. took_more fifo.gone (item ∷ []) j other (fifo.order j other at'));
        once = λ weigh. omega (
          arith,
          sum_by-set_log (weight_of weigh) logs k log new at,
          fifo.once weigh,
          sum_by-append weigh log.taken (item ∷ []),
          sum_by-append weigh fifo.gone (item ∷ []),
        );
        spent = EachLog-set IsSpent logs k new (λ none. absurd (omega (arith, none, some_part))) (λ j other _ at'. fifo.spent j other at');
      },
      refl,
    )

pub cut_keeps : (k : ℕ) (log : Log) → 1 < log.parts → Forks IsFifo k log (record log { parts = log.parts - 1 }) consumer_log
cut_keeps k log enough held logs fifo at =
    let left : Log = record log { parts = log.parts - 1 } in
    let rest : List Log = set logs k left in record {
      producer = fifo.producer;
      gone = fifo.gone;
      parts = omega (
        arith,
        sum_by-set_log (λ l. l.parts) logs k log left at,
        sum_by-push_log (λ l. l.parts) rest consumer_log,
        fifo.parts,
        enough,
      );
      put = EachLog-push (PutIs fifo.producer (fifo.gone ++ held)) rest consumer_log (λ j puts. absurd (true≢false (sym puts)))
          (EachLog-set (PutIs fifo.producer (fifo.gone ++ held)) logs k left (fifo.put k log at) (λ j other _ at'. fifo.put j other at'));
      order = EachLog-push (TookOf fifo.gone) rest consumer_log
          (λ j. (IsSubsequence-nil fifo.gone, λ k d within. absurd (omega (arith, within))))
          (EachLog-set (TookOf fifo.gone) logs k left (fifo.order k log at) (λ j other _ at'. fifo.order j other at'));
      once = λ weigh. omega (
        arith,
        sum_by-set_log (weight_of weigh) logs k log left at,
        sum_by-push_log (weight_of weigh) rest consumer_log,
        fifo.once weigh,
      );
      spent = EachLog-push IsSpent rest consumer_log (λ j none. (refl, refl))
          (EachLog-set IsSpent logs k left (λ none. absurd (omega (arith, none, enough))) (λ j other _ at'. fifo.spent j other at'));
    }

pub join_keeps : (k : ℕ) (log : Log) (o : ℕ) (other : Log) → 0 < log.parts → other.is_producer ≡ false → other.joined ≡ []
    → Merges IsFifo k log o other (record log { parts = log.parts + other.parts; joined = log.joined ++ other.taken ∷ [] }) spent_log
join_keeps k log o other some_part takes none held logs fifo at apart at' =
    let both : Log = record log { parts = log.parts + other.parts; joined = log.joined ++ other.taken ∷ [] } in
    let joined : List Log = set logs k both in
    let was : get_elem? logs o ≡ some other = ⊎_elim (λ x. absurd (apart x.0)) (λ x. x.1) (at_set logs k o both other at') in record {
      producer = fifo.producer;
      gone = fifo.gone;
      parts = omega (
        arith,
        sum_by-set_log (λ l. l.parts) logs k log both at,
        sum_by-set_log (λ l. l.parts) joined o other spent_log at',
        fifo.parts,
      );
      put = EachLog-set (PutIs fifo.producer (fifo.gone ++ held)) joined o spent_log (λ puts. absurd (true≢false (sym puts)))
          (λ j u _ e. EachLog-set (PutIs fifo.producer (fifo.gone ++ held)) logs k both (fifo.put k log at)
          (λ j u _ e. fifo.put j u e) j u e);
      order = EachLog-set (TookOf fifo.gone) joined o spent_log (IsSubsequence-nil fifo.gone, λ k d within. absurd (omega (arith, within)))
          (λ j u _ e. EachLog-set (TookOf fifo.gone) logs k both (
            (fifo.order k log at).0,
            All-push (λ taken. IsSubsequence taken fifo.gone) log.joined other.taken (fifo.order k log at).1
                (fifo.order o other was).0,
          )
          (λ j u _ e. fifo.order j u e) j u e);
      once = λ weigh. omega (
        arith,
        sum_by-set_log (weight_of weigh) logs k log both at,
        sum_by-set_log (weight_of weigh) joined o other spent_log at',
        sum_by-append (sum_by weigh) log.joined (other.taken ∷ []),
        sum_by-cons (sum_by weigh) other.taken [],
        ap (λ (l : List (List Item)). sum_by (sum_by weigh) l) none,
        fifo.once weigh,
      );
      spent = EachLog-set IsSpent joined o spent_log (λ _. (refl, refl))
          (λ j u _ e. EachLog-set IsSpent logs k both (λ none. absurd (omega (arith, none, some_part)))
          (λ j u _ e. fifo.spent j u e) j u e);
    }

spent_weight : (weigh : Item → ℕ) (number : ℕ) (log : Log) → IsSpent number log → log.parts ≡ 0 → weight_of weigh log ≡ 0
spent_weight weigh number log spent none =
    let s = spent none in
    omega (arith, ap (λ (l : List Item). sum_by weigh l) s.0, ap (λ (l : List (List Item)). sum_by (sum_by weigh) l) s.1)

-- what the producer learns
pub producer_learns : (k : ℕ) (log : Log) → log.is_producer ≡ true → log.taken ≡ [] → Learns IsFifo k log (IsLearned log)
producer_learns k log is_producer none held logs fifo at = record {
  few = omega (arith, sum_by-has_log (λ l. l.parts) logs k log at, fifo.parts);
  accounts = record {
    gone = fifo.gone;
    first_out = (fifo.put k log at is_producer).1;
    order = (fifo.order k log at).1;
    once = λ test. (let weigh : Item → ℕ = λ x. cond (test x) 1 0 in omega (
      arith,
      sum_by-has_log (weight_of weigh) logs k log at,
      fifo.once weigh,
    ));
    whole = λ all test. (
        let weigh : Item → ℕ = λ x. cond (test x) 1 0 in
        let nothing = λ (j : ℕ) (other : Log) (e : get_elem? logs j ≡ some other). spent_weight weigh j other (fifo.spent j other e) in
        let mine = sum_by-every_part (weight_of weigh) (λ l. l.parts) logs k log nothing at (fifo.parts ∙ sym all) in
        omega (arith, mine, ap (λ (l : List Item). sum_by weigh l) none, fifo.once weigh));
  };
}
