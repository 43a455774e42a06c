use Rattle.std.proofs.Common.{◌∙◌, sym, ap}
use Rattle.sgt_clients.specs.Findings.{is_order}
use Rattle.sgt_clients.proofs.level_findings.check_levels.Goals as goal

pub returns : goal.returns
returns c = record {
  finding = c.in_ok-finding.ensures;
  untimed = c.in_ok-untimed.ensures.found;
  timed = c.in_ok-untimed.ensures.none;
  weaker = c.in_ok-weaker.ensures.right;
  unseen = c.in_ok-weaker.ensures.unseen;
  implied = λ none. ap is_order (sym c.serial_finding.ensures) ∙ sym c.is_serial-ordered.ensures ∙ c.in_ok-weaker.ensures.none none;
}
