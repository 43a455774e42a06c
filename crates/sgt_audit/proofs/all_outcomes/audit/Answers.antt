use Rattle.std.proofs.Common.{rules, ◌≡◌, ◌↔◌, ℕ, ◌+◌, ◌<◌, ◌≤◌, IsTrue, sym, subst, ◌∙◌, reverse, length, arith}
use Rattle.std.specs.List.{All, AllZip, count_by, flat_map}
use Rattle.std.proofs.lemmas.Bool.{false≢true}
use Rattle.sgt_model.specs.Fates.{start_count}
use Rattle.sgt_model.specs.Paths.{Distinct}
use Rattle.sgt_model.specs.declared.entry.Entry.{Entry}
use Rattle.sgt_model.specs.Questions.{is_commit, is_quit}
use Rattle.sgt_audit.specs.Lives.{AreLives}
use Rattle.sgt_audit.specs.Outcomes.{OutcomeStands}
use Rattle.sgt_audit.specs.AllOutcomes.{entries_of, transactions_of, is_left, is_no_memory, NumbersAgree, FewLive, AllEnded}
use Rattle.sgt_audit.proofs.Named.{all_started, all_there}
use Rattle.sgt_audit.proofs.all_outcomes.audit.Goals as goal

pub none_twice-requires : goal.none_twice-requires
none_twice-requires g c =
    let h = c.args.history.now.entries in
    let stand : IsTrue c.all_stand.result ↔ AllZip (OutcomeStands h c.args.tries) c.args.jobs.now c.args.outcomes.now =
    c.all_stand.ensures in
    let all = all_started h c.args.tries c.args.jobs.now c.args.outcomes.now (stand.0 c.if-not-all_stand.false) in
    let named : c.deref-2.result.now ≡ flat_map (transactions_of h) c.args.outcomes.now = c.deref-2.ensures.value
    ∙ c.in_ok-transactions.ensures in
    let are : AreLives (reverse h) c.in-Some.field-0.lives.items = search (rules, c.in_ok-lives.ensures.lives) in
    let count : start_count (reverse h) ≡ c.len.result = omega (arith, are.counted, c.in-Some.field-0.lives.ok.0, c.len.ensures) in
    subst (All (λ t. t < c.len.result)) (sym named)
    (subst (λ (n : ℕ). All (λ t. t < n) (flat_map (transactions_of h) c.args.outcomes.now)) count all)

pub none_twice-requires-2 : goal.none_twice-requires-2
none_twice-requires-2 g c =
    let h = c.args.history.now.entries in
    let stand : IsTrue c.all_stand.result ↔ AllZip (OutcomeStands h c.args.tries) c.args.jobs.now c.args.outcomes.now =
    c.all_stand.ensures in
    let all = all_there h c.args.tries c.args.jobs.now c.args.outcomes.now (stand.0 c.if-not-all_stand.false) in
    let named : c.deref-3.result.now ≡ flat_map entries_of c.args.outcomes.now = c.deref-3.ensures.value ∙ c.in_ok-entries.ensures in
    subst (λ (count : ℕ). All (λ n. n < count) c.deref-3.result.now) (sym c.len-2.ensures)
    (subst (All (λ n. n < length h)) (sym named) all)

pub returns : goal.returns
returns g c =
    let h = c.args.history.now.entries in
    let stand : IsTrue c.all_stand.result ↔ AllZip (OutcomeStands h c.args.tries) c.args.jobs.now c.args.outcomes.now =
    c.all_stand.ensures in
    let transactions : IsTrue c.in_ok-none_twice.field-0 ↔ Distinct c.deref-2.result.now = c.in_ok-none_twice.ensures in
    let entries : IsTrue c.in_ok-none_twice-2.field-0 ↔ Distinct c.deref-3.result.now = c.in_ok-none_twice-2.ensures in
    let named : c.deref-2.result.now ≡ flat_map (transactions_of h) c.args.outcomes.now = c.deref-2.ensures.value
    ∙ c.in_ok-transactions.ensures in
    let named_too : c.deref-3.result.now ≡ flat_map entries_of c.args.outcomes.now = c.deref-3.ensures.value ∙ c.in_ok-entries.ensures in
    let counts : IsTrue c.counts_agree.result ↔ NumbersAgree c.in-Some.field-0.ends.commits c.in-Some.field-0.ends.quits c.args.outcomes.now
    c.args.workers = c.counts_agree.ensures in
    let commits : c.in-Some.field-0.ends.commits ≡ count_by (λ (e : Entry). is_commit e.reply) h =
    search (rules, c.in_ok-lives.ensures.commits) in
    let quits : c.in-Some.field-0.ends.quits ≡ count_by (λ (e : Entry). is_quit e.reply) h = search (rules, c.in_ok-lives.ensures.quits) in
    let few : FewLive h c.args.workers × AllEnded h = c.in_ok-lives.ensures.few.0 (search rules) in (
      (λ t. record {
        each = stand.0 c.if-not-all_stand.false;
        transactions_once = subst Distinct named (transactions.0 c.if-not-branch.false);
        entries_once = subst Distinct named_too (entries.0 c.if-not-branch-2.false);
        counts = record {
          commits = sym commits ∙ (counts.0 t).commits;
          quits = subst (λ n. n ≤ count_by is_left c.args.outcomes.now + count_by is_no_memory c.args.outcomes.now) quits
              (counts.0 t).quits;
          left = (counts.0 t).left;
          untaken = (counts.0 t).untaken;
        };
        few_live = few.0;
        all_ended = few.1;
      }),
      λ o. counts.1 (record {
        commits = commits ∙ o.counts.commits;
        quits = subst (λ n. n ≤ count_by is_left c.args.outcomes.now + count_by is_no_memory c.args.outcomes.now) (sym quits)
            o.counts.quits;
        left = o.counts.left;
        untaken = o.counts.untaken;
      }),
    )

pub returns-then-not-all_stand : goal.returns-then-not-all_stand
returns-then-not-all_stand g c =
    ((λ t. absurd (false≢true t)), λ o. absurd (false≢true (sym c.if-not-all_stand.true ∙ c.all_stand.ensures.1 o.each)))

pub returns-then-not-branch : goal.returns-then-not-branch
returns-then-not-branch g c =
    let h = c.args.history.now.entries in
    let once : IsTrue c.in_ok-none_twice.field-0 ↔ Distinct c.deref-2.result.now = c.in_ok-none_twice.ensures in
    let named : c.deref-2.result.now ≡ flat_map (transactions_of h) c.args.outcomes.now = c.deref-2.ensures.value
    ∙ c.in_ok-transactions.ensures in (
      (λ t. absurd (false≢true t)),
      λ o. absurd (false≢true (sym c.if-not-branch.true ∙ once.1 (subst Distinct (sym named) o.transactions_once))),
    )

pub returns-then-not-branch-2 : goal.returns-then-not-branch-2
returns-then-not-branch-2 g c =
    let once : IsTrue c.in_ok-none_twice-2.field-0 ↔ Distinct c.deref-3.result.now = c.in_ok-none_twice-2.ensures in
    let named : c.deref-3.result.now ≡ flat_map entries_of c.args.outcomes.now = c.deref-3.ensures.value ∙ c.in_ok-entries.ensures in (
      (λ t. absurd (false≢true t)),
      λ o. absurd (false≢true (sym c.if-not-branch-2.true ∙ once.1 (subst Distinct (sym named) o.entries_once))),
    )
