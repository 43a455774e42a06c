-- The headline, from its parts.
use Rattle.std.specs.Prelude.{List}
use Rattle.sgt_model.specs.declared.entry.Entry.{Entry}
use Rattle.sgt_model.specs.Configurations.{Configuration}
use Rattle.sgt_model.specs.Legality.{Legal}
use Rattle.sgt_model.specs.CommitOrder.{CommitsInOrder}
use Rattle.sgt_model.specs.Headline.{Headline}
use Rattle.sgt_model.proofs.PairOrder.{pair_commits_before}
use Rattle.sgt_model.proofs.Sources.{source_commits_before}
use Rattle.sgt_model.proofs.Replays.{is_serializable}
use Rattle.sgt_model.proofs.NoCycle.{no_cycle}
use Rattle.sgt_model.proofs.Aborts.{aborts_have_cause}

pub commits_in_order : (s : Configuration) (past : List Entry) → Legal s past → CommitsInOrder past
commits_in_order s past h =
    record { pairs = pair_commits_before s past h; sources = λ t u c reads. (source_commits_before s past h t u c reads).1 }

pub headline : (s : Configuration) (past : List Entry) → Legal s past → Headline s past
headline s past h = record {
  replay = is_serializable s past h;
  no_cycle = no_cycle s past h;
  causes = aborts_have_cause s past h;
  order = commits_in_order s past h;
}
