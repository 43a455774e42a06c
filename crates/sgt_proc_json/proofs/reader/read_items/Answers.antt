use Rattle.std.proofs.Common.{rules}
use Rattle.sgt_proc_json.proofs.Lengths.{reported_here, no_procedure, procedure_are, made_of}
use Rattle.sgt_proc_json.proofs.InTurn.{handed_on, first_reports, second_reports, both_read}
use Rattle.sgt_proc_json.proofs.reader.read_items.Goals as goal
use Rattle.sgt_proc_json.proofs.reader.read_items.Goals.{in_default-via-then-items-lt2, in_default-via-else-items-lt2+else-items-lt3}

pub returns-in_default-clause-shape : goal.returns-in_default-clause-shape
returns-in_default-clause-shape c =
    elim c.in_default.branch [
      | in_default-via-then-items-lt2 w ↦ reported_here _ _ c.here.ensures (no_procedure c.args.items.now (search rules))
      | in_default-via-else-items-lt2+else-items-lt3 w ↦ reported_here _ _ c.here.ensures (no_procedure c.args.items.now (search rules))
    ]

pub returns-in_err-byte_at-in-len2-clause-shape : goal.returns-in_err-byte_at-in-len2-clause-shape
returns-in_err-byte_at-in-len2-clause-shape c =
    handed_on _ c.in_err-byte_at-in-len2.field-0.0 c.from_residual.result (search rules)
    (first_reports made_of _ _ _ _ (procedure_are c.args.items.now _ _ c.in-len2.len_at_least c.in-len2.len_below c.args-item.is
    c.body-item.is)
    c.in_err-byte_at-in-len2.ensures.err)

pub returns-in_err-block_at-in-len2-clause-shape : goal.returns-in_err-block_at-in-len2-clause-shape
returns-in_err-block_at-in-len2-clause-shape c =
    handed_on _ c.in_err-block_at-in-len2.field-0.0 c.from_residual-in_err-block_at-in-len2.result (search rules)
    (second_reports made_of _ _ _ _ _ (procedure_are c.args.items.now _ _ c.in-len2.len_at_least c.in-len2.len_below c.args-item.is
    c.body-item.is)
    c.in_ok-byte_at-in-len2.ensures.ok c.in_err-block_at-in-len2.ensures.err)

pub returns-in_ok-block_at-in-len2-clause-procedure : goal.returns-in_ok-block_at-in-len2-clause-procedure
returns-in_ok-block_at-in-len2-clause-procedure c =
    both_read made_of _ _ _ _ _ (procedure_are c.args.items.now _ _ c.in-len2.len_at_least c.in-len2.len_below c.args-item.is
    c.body-item.is)
    c.in_ok-byte_at-in-len2.ensures.ok c.in_ok-block_at-in-len2.ensures.ok
