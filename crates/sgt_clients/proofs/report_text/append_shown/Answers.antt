use Rattle.std.proofs.Common.{sym, arith}
use Rattle.std.proofs.lemmas.List.{length-take-le}
use Rattle.sgt_clients.proofs.report_text.append_shown.Goals as goal

pub slice_bounds-append_each-end : goal.slice_bounds-append_each-end
slice_bounds-append_each-end c = sym (length-take-le 100 c.args.order.now (omega (arith, c.if-order-gt100.true)))
