use Rattle.std.proofs.Common.{rules, ◌≡◌, true, false, ◌∙◌, ◌++◌, [], ◌∷◌, ap, append_assoc}
use Rattle.std.proofs.lemmas.List.{length-append}
use Rattle.std.proofs.lemmas.List.Elements.{All-append}
use Rattle.sgt_model.specs.Questions.{is_wait}
use Rattle.sgt_session.specs.Receipts.{IsWaitOf}
use Rattle.sgt_session.proofs.session.Session.repeat_commit.Goals as goal

pub loop-preserved : goal.loop-preserved
loop-preserved g c =
    let waits = c.loop.invariant.3 in
    let filed = c.in_ok-commit_once.ensures.receipt in
    let wait : is_wait filed.0.reply ≡ true = search (rules, filed.3) in (
      search rules,
      search rules,
      search rules,
      (
        waits.0 ++ filed.0 ∷ [],
        All-append (IsWaitOf c.args.t) waits.0 (filed.0 ∷ []) waits.1 (search (rules, wait, filed.1)),
        search (rules, waits.2, length-append waits.0 (filed.0 ∷ [])),
        filed.2 ∙ ap (λ l. l ++ filed.0 ∷ []) waits.3 ∙ append_assoc _ waits.0 _,
      ),
    )

pub returns-then-not-branch : goal.returns-then-not-branch
returns-then-not-branch g c =
    let waits = c.loop.invariant.3 in
    let filed = c.in_ok-commit_once.ensures.receipt in
    let done : is_wait filed.0.reply ≡ false = search (rules, filed.3) in
    record {
      waits = (
        waits.0,
        waits.1,
        search (rules, waits.2),
        (
          filed.0,
          filed.2 ∙ ap (λ l. l ++ filed.0 ∷ []) waits.3,
          filed.1,
          done,
        ),
      );
    }
