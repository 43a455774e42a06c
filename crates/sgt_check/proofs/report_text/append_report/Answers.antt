use Rattle.std.specs.Prelude.{codes}
use Rattle.sgt_check.specs.ReportText.{serial_text, class_text, recoverable_why, avoiding_why, follows_why, order_why}
use Rattle.sgt_check.proofs.Pieces.{grow}
use Rattle.sgt_check.proofs.report_text.append_report.Goals as goal

pub returns : goal.returns
returns c =
    (grow c.args.text.now.items c.append_follows-2.new.text.items c.append_order_kept.new.text.items _
    (class_text (codes "commit ordered") (order_why c.args.history.now) c.args.report.now.commit_ordered)
    (grow c.args.text.now.items c.append_follows.new.text.items c.append_follows-2.new.text.items _
    (class_text (codes "rigorous") (follows_why c.args.history.now) c.args.report.now.rigorous)
    (grow c.args.text.now.items c.append_avoiding.new.text.items c.append_follows.new.text.items _
    (class_text (codes "strict") (follows_why c.args.history.now) c.args.report.now.strict)
    (grow c.args.text.now.items c.append_recoverable.new.text.items c.append_avoiding.new.text.items _
    (class_text (codes "avoids cascading aborts") (avoiding_why c.args.history.now) c.args.report.now.avoiding)
    (grow c.args.text.now.items c.append_serial.new.text.items c.append_recoverable.new.text.items _
    (class_text (codes "recoverable") (recoverable_why c.args.history.now c.args.report.now.dirty_write
    c.args.report.now.dirty_abort) c.args.report.now.recoverable)
    (grow c.args.text.now.items c.append_counts.new.text.items c.append_serial.new.text.items _
    (serial_text c.args.history.now c.args.report.now.serializability)
    c.in_ok-append_counts.ensures
    c.in_ok-append_serial.ensures)
    c.in_ok-append_recoverable.ensures)
    c.in_ok-append_avoiding.ensures)
    c.in_ok-append_follows.ensures)
    c.in_ok-append_follows-2.ensures)
    c.in_ok-append_order_kept.ensures)
