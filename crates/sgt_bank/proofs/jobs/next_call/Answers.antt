use Rattle.std.proofs.Common.{rules, ◌≡◌, ℕ, ◌+◌, Err, subst, sym}
use Rattle.std.specs.Prelude.{IfErr}
use Rattle.sgt_format.specs.JobLines.{job_of}
use Rattle.sgt_input.specs.Intake.{cut_left}
use Rattle.sgt_input.specs.Ends.{IsOfInput}
use Rattle.sgt_bank.specs.Taking.{EndsWith}
use Rattle.sgt_input.proofs.FaultsRead.{spells-none}
use Rattle.sgt_bank.proofs.NextCalls.{call-fails, no-call-fits}
use Rattle.sgt_bank.proofs.jobs.next_call.Goals as goal

pub returns-in_err-next_line-clause-fault : goal.returns-in_err-next_line-clause-fault
returns-in_err-next_line-clause-fault g c =
    let failed : c.from_residual.result ≡ Err c.in_err-next_line.field-0.0 = search rules in
    subst (λ r. IfErr r (λ f. IsOfInput f → (first : ℕ) → EndsWith first (c.args.lines.now.number + 1) (Err f)
    (cut_left c.args.lines.now (g.S.Source.rest c.args.source.now)))) (sym failed)
    (no-call-fits c.args.lines.now.number (cut_left c.args.lines.now (g.S.Source.rest c.args.source.now)) _
    c.in_err-next_line.ensures.fault)

pub returns-in_err-call-clause-fault : goal.returns-in_err-call-clause-fault
returns-in_err-call-clause-fault g c =
    let failed : c.from_residual-in_err-call.result ≡ Err c.in_err-call.field-0.0 = search rules in
    subst (λ r. IfErr r (λ f. IsOfInput f → (first : ℕ) → EndsWith first (c.args.lines.now.number + 1) (Err f)
    (cut_left c.args.lines.now (g.S.Source.rest c.args.source.now)))) (sym failed)
    (λ exact first. call-fails first (c.args.lines.now.number + 1) c.next_line.new.self.number
    (cut_left c.args.lines.now (g.S.Source.rest c.args.source.now))
    (cut_left c.next_line.new.self (g.S.Source.rest c.next_line.new.source)) c.next_line.new.self.line _ (search rules) (search rules)
    (spells-none c.next_line.new.self.number (job_of c.next_line.new.self.line) c.read_job.result _ (search rules) (search rules)
    exact))
