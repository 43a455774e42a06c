use Rattle.std.proofs.Common.{◌≡◌, ℕ, cond, refl, sym, ◌∙◌, arith}
use Rattle.sgt_model.specs.Questions.{is_commit, is_quit}
use Rattle.sgt_audit.proofs.Idle.{ends_nothing}
use Rattle.sgt_audit.proofs.survey.Ends.with.Goals as goal

pub returns-clause-commits : goal.returns-clause-commits
returns-clause-commits c =
    let none = ends_nothing c.args.entry.now.reply (sym c.is_ending.ensures ∙ c.if-is_ending.false) in
    let zero : ◌≡◌ {A = ℕ} (cond (is_commit c.args.entry.now.reply) 1 0) 0 = rw none.0 refl in omega (arith, zero)

pub returns-clause-quits : goal.returns-clause-quits
returns-clause-quits c =
    let none = ends_nothing c.args.entry.now.reply (sym c.is_ending.ensures ∙ c.if-is_ending.false) in
    let zero : ◌≡◌ {A = ℕ} (cond (is_quit c.args.entry.now.reply) 1 0) 0 = rw none.1 refl in omega (arith, zero)
