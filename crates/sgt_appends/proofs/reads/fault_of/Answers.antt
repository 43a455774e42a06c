use Rattle.std.proofs.Common.{rules, ◌≡◌, ◌++◌, true, get_or, sym, ap, ◌∙◌, subst, refl, arith}
use Rattle.std.proofs.lemmas.Grind.{common_steps}
use Rattle.std.proofs.lemmas.List.{take_all, take_more}
use Rattle.sgt_appends.specs.Indexes.{position_of}
use Rattle.sgt_appends.specs.Reads.{own_at, last_in, IsPassed}
use Rattle.sgt_appends.proofs.Passed.{passed_one, passed_clean, fault_one, twice_reported}
use Rattle.sgt_appends.proofs.reads.fault_of.Goals as goal

pub returns-then-not-is_end_of-clause-fault : goal.returns-then-not-is_end_of-clause-fault
returns-then-not-is_end_of-clause-fault c = (
  c.args.read.key,
  c.args.read.seen.now,
  c.requires.committed,
  c.requires.read,
  (λ base e.
      let ends : c.is_end_of.result ≡ true = c.is_end_of.ensures.1 (base, e ∙ ap (λ xs. base ++ xs) (sym c.requires.own)) in
      grind (arith, common_steps, ends, c.if-not-is_end_of.true)),
)

pub returns-in-Some-clause-fault : goal.returns-in-Some-clause-fault
returns-in-Some-clause-fault c = (
  c.args.read.key,
  c.args.read.seen.now,
  c.requires.committed,
  c.requires.read,
  twice_reported c.args.history.now c.args.read.reader c.args.read.key
      (own_at c.args.history.now c.args.read.reader c.args.read.position c.args.read.key) c.args.read.seen.now c.in-Some.fault
      _ c.in_ok-twice_or.ensures
      (fault_one c.args.history.now (position_of c.args.appends.now) c.args.read.reader c.args.read.position c.args.read.key
      c.args.read.seen.now c.loop-value.value-index (last_in c.loop-value.last) (get_or c.args.read.seen.now c.loop-value.value-index 0)
      c.in-Some.fault c.requires.index c.loop-value.invariant c.loop-value-test.true refl (search rules)),
)

pub loop-value-preserved : goal.loop-value-preserved
loop-value-preserved c =
    subst (λ vs. IsPassed c.args.history.now (position_of c.args.appends.now) c.args.read.reader c.args.read.position c.args.read.key vs
    (last_in c.fault_at.new.last)) (sym (take_more c.args.read.seen.now c.loop-value.value-index 0 c.loop-value-test.true))
    (passed_one c.args.history.now (position_of c.args.appends.now) c.args.read.reader c.args.read.position c.args.read.key _
    (last_in c.loop-value.last) (last_in c.fault_at.new.last) (get_or c.args.read.seen.now c.loop-value.value-index 0)
    c.loop-value.invariant (c.in_ok-fault.ensures.none (search rules)))

pub returns-clause-clean : goal.returns-clause-clean
returns-clause-clean c = λ none.
    let ends = c.is_end_of.ensures.0 (search rules) in
    passed_clean c.args.history.now (position_of c.args.appends.now) c.args.read.reader c.args.read.position c.args.read.key
    c.args.read.seen.now (last_in c.loop-value.last) c.requires.index
    (subst (λ vs. IsPassed c.args.history.now (position_of c.args.appends.now) c.args.read.reader c.args.read.position c.args.read.key vs
    (last_in c.loop-value.last)) (take_all c.loop-value.value-index c.args.read.seen.now (search rules)) c.loop-value.invariant)
    (ends.0, ends.1 ∙ ap (λ xs. ends.0 ++ xs) c.requires.own)
