use Rattle.std.proofs.Common.{◌≡◌, ℕ, ◌+◌, ◌≤◌, cond, length, reverse, take, refl, ap, sym, subst, ◌∙◌, inl, inr, arith}
use Rattle.std.proofs.lemmas.Bool.{false≢true, cases_lt, eqb-true, eq-eqb}
use Rattle.sgt_model.specs.declared.entry.Entry.{Entry}
use Rattle.sgt_model.specs.Fates.{live_ones}
use Rattle.sgt_model.specs.Questions.{is_commit, is_quit}
use Rattle.sgt_audit.specs.Lives.{AreLives}
use Rattle.sgt_audit.proofs.Histories.{one_more, legal_next, first_length}
use Rattle.sgt_audit.proofs.Idle.{ends_nothing, idle_live, idle_lives}
use Rattle.sgt_audit.proofs.LiveCount.{live_count, ends_live, at_end}
use Rattle.sgt_audit.proofs.Nexts.{one_counted}
use Rattle.sgt_audit.proofs.survey.make_survey.Goals.{After-live_after-live}
use Rattle.sgt_audit.proofs.survey.make_survey.Goals as goal

pub live_after-live-requires-clause-enough : goal.live_after-live-requires-clause-enough
live_after-live-requires-clause-enough c =
    let h = c.args.history.now.entries in
    let i = c.loop-place.place in
    let n = ends_live c.requires.0 (reverse (take i h)) c.entry-entry.result
    (legal_next c.requires.0 h i c.entry-entry.result c.entry-entry.ensures.next c.requires.1) in
    omega arith

-- after the entry as many are live as were counted
counted : (c : After-live_after-live) → c.live_after-live.result ≡ length (live_ones (reverse (take (c.loop-place.place + 1)
    c.args.history.now.entries)))
counted c =
    let h = c.args.history.now.entries in
    let i = c.loop-place.place in
    let e = c.entry-entry.result in
    let n = live_count c.requires.0 (reverse (take i h)) e (legal_next c.requires.0 h i e c.entry-entry.ensures.next c.requires.1) in
    let longer = ap (λ past. length (live_ones past)) (one_more h i e c.entry-entry.ensures.next) in
    omega arith

pub returns-then-live-workers-clause-few : goal.returns-then-live-workers-clause-few
returns-then-live-workers-clause-few c = (
  (λ t. absurd (false≢true t)),
  λ both.
      let now = counted (goal.at.returns-then-live-workers-clause-few c).After-live_after-live in
      let few = both.0 (c.loop-place.place + 1) in absurd (omega arith),
)

pub loop-place-preserved : goal.loop-place-preserved
loop-place-preserved c =
    let i = c.loop-place.place in
    let h = c.args.history.now.entries in
    let e = c.entry-entry.result in
    let legal = legal_next c.requires.0 h i e c.entry-entry.ensures.next c.requires.1 in
    let now = counted (goal.at.loop-place-preserved c).After-live_after-live in
    record {
      lives = subst (λ past. AreLives past c.add_entry.new.lives.items)
          (sym (one_more h i e c.entry-entry.ensures.next))
          (c.in_ok-add_entry.ensures c.requires.0 (reverse (take i h)) legal.1 legal.0
          (first_length h i (omega arith)) c.loop-place.invariant.lives);
      live = now;
      few = c.if-live-workers.false;
      before = λ k within. elim (cases_lt k (i + 1)) [
        | inl less ↦ c.loop-place.invariant.before k (omega arith)
        | inr last ↦
            let same : i + 1 ≡ k = omega arith in
            subst (λ m. length (live_ones (reverse (take m h))) ≤ c.args.workers) same
            (subst (λ m. m ≤ c.args.workers) now c.if-live-workers.false)
      ];
      commits = c.with-ends.ensures.commits
          ∙ one_counted (λ (x : Entry). is_commit x.reply) h i e c.entry-entry.ensures.next c.loop-place.invariant.commits;
      quits = c.with-ends.ensures.quits
          ∙ one_counted (λ (x : Entry). is_quit x.reply) h i e c.entry-entry.ensures.next c.loop-place.invariant.quits;
    }

-- a step that starts and ends nothing changes nothing that is counted
pub loop-place-preserved-then-is_step : goal.loop-place-preserved-then-is_step
loop-place-preserved-then-is_step c =
    let i = c.loop-place.place in
    let h = c.args.history.now.entries in
    let step = c.is_step.ensures c.if-is_step.true in
    let e = step.0 in
    let past = reverse (take i h) in
    let legal = legal_next c.requires.0 h i e step.3 c.requires.1 in
    let more = one_more h i e step.3 in
    let idle = step.1 in
    let none = ends_nothing e.reply idle.2 in
    let before = c.loop-place.invariant in
    let now : c.loop-place.live ≡ length (live_ones (reverse (take (i + 1) h))) =
    before.live ∙ sym (idle_live c.requires.0 past e legal idle.0 idle.2) ∙ sym (ap (λ l. length (live_ones l)) more) in
    let no_commit : ◌≡◌ {A = ℕ} (cond (is_commit e.reply) 1 0) 0 = rw none.0 refl in
    let no_quit : ◌≡◌ {A = ℕ} (cond (is_quit e.reply) 1 0) 0 = rw none.1 refl in
    record {
      lives = subst (λ l. AreLives l c.loop-place.lives.items) (sym more)
          (idle_lives c.requires.0 past e legal idle.0 idle.2 c.loop-place.lives.items before.lives);
      live = now;
      few = before.few;
      before = λ k within. elim (cases_lt k (i + 1)) [
        | inl less ↦ before.before k (omega arith)
        | inr last ↦
            let same : i + 1 ≡ k = omega arith in
            subst (λ m. length (live_ones (reverse (take m h))) ≤ c.args.workers) same
            (subst (λ m. m ≤ c.args.workers) now before.few)
      ];
      commits = omega (arith, no_commit, one_counted (λ (x : Entry). is_commit x.reply) h i e step.3 before.commits);
      quits = omega (arith, no_quit, one_counted (λ (x : Entry). is_quit x.reply) h i e step.3 before.quits);
    }

pub returns-then-live-gt0-clause-few : goal.returns-then-live-gt0-clause-few
returns-then-live-gt0-clause-few c =
    let i = c.loop-place.invariant in
    let end = at_end c.args.history.now.entries c.loop-place.place c.args.workers c.loop-place.live
    (omega (arith, c.loop-place-test.false)) i.live i.before in
    ((λ t. absurd (false≢true t)), λ both. let none = eqb-true c.loop-place.live 0 (end.1 both) in absurd (omega arith))

pub returns-clause-few : goal.returns-clause-few
returns-clause-few c =
    let i = c.loop-place.invariant in
    let end = at_end c.args.history.now.entries c.loop-place.place c.args.workers c.loop-place.live
    (omega (arith, c.loop-place-test.false)) i.live i.before in
    ((λ t. end.0 (eq-eqb c.loop-place.live 0 (omega arith))), λ both. refl)
