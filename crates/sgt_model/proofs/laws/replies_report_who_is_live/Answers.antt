use Rattle.sgt_model.proofs.Questions.{started_are_live, over_are_not_live, endings_end_one, others_end_none}
use Rattle.sgt_model.proofs.laws.replies_report_who_is_live.Goals as goal

pub returns : goal.returns
returns c = record {
  started = started_are_live;
  over = over_are_not_live;
  ends = endings_end_one;
  others = others_end_none;
}
