use Rattle.std.proofs.Common.{ℕ, refl, ap, ◌∙◌, sym}
use Rattle.std.proofs.lemmas.Bool.{true≢false}
use Rattle.sgt_model.specs.declared.reply.Fate.TheVariants as fate
use Rattle.sgt_model.specs.declared.reply.Reply.TheVariants as reply
use Rattle.sgt_model.specs.Left.{next_left}
use Rattle.sgt_model.proofs.Conditions.{may_settle}
use Rattle.sgt_sched.specs.LiveProgress.{Progress, left_kept}
use Rattle.sgt_sched.proofs.Found.{no_fate}
use Rattle.sgt_sched.proofs.Ended.{kept_after, removes_after, fates_after}
use Rattle.sgt_sched.proofs.sched.Sched.finish_commit.Goals as goal

pub finish-requires : goal.finish-requires
finish-requires g c = (
  c.type_bounds.send-R,
  (
    c.type_bounds.send-A,
    (
      c.type_bounds.send-G,
      may_settle c.args.self.now.limits.live _ c.args.self.now.kept.sound c.args.t
          (λ u h. true≢false (sym h ∙ c.requires.first u)),
    ),
  ),
)

pub leave_at-requires : goal.leave_at-requires
leave_at-requires g c = record { rising = c.args.self.now.kept.rising; at = c.requires.at }

pub end-requires : goal.end-requires
end-requires g c = record { live = no_fate c.args.self.now.kept c.args.t c.requires.live }

pub invariant_of-self : goal.invariant_of-self
invariant_of-self g c =
    record {
      kept = kept_after c.args.self.now.kept c.args.t c.requires.live fate.Committed c.finish.new.records c.finish.new.accesses
          c.finish.new.graph c.finish.ensures.chain c.finish.ensures.accesses c.finish.ensures.nodes c.finish.ensures.pairs
          c.leave_at.new.live c.leave_at.new.read_from.items _ c.leave_at.ensures.live c.leave_at.ensures.read_from c.end.ensures;
    }

pub returns : goal.returns
returns g c =
    let node = c.requires.live in
    let fates_are = c.end.ensures in
    let own = ap (λ (r : ℕ × Progress). left_kept r.1) c.at.ensures in
    record {
      turn = record {
        first = λ u h. true≢false (sym h ∙ c.requires.first u);
        reply = ap reply.Committed (c.copied-lists.ensures ∙ c.answers.ensures _ (ap next_left own ∙ sym c.requires.ends));
        settles = record {
          removes = removes_after c.args.self.now.kept c.args.t node fate.Committed c.finish.new.records c.finish.new.accesses
              c.finish.new.graph c.finish.ensures.chain c.finish.ensures.accesses c.finish.ensures.nodes c.finish.ensures.pairs
              c.leave_at.new.live c.leave_at.new.read_from.items _ c.leave_at.ensures.live c.leave_at.ensures.read_from fates_are;
          settled = λ k. c.finish.ensures.settled k;
          fates = fates_after c.args.self.now.kept c.args.t node fate.Committed c.finish.new.records c.finish.new.accesses
              c.finish.new.graph c.finish.ensures.chain c.finish.ensures.accesses c.finish.ensures.nodes c.finish.ensures.pairs
              c.leave_at.new.live c.leave_at.new.read_from.items _ c.leave_at.ensures.live c.leave_at.ensures.read_from fates_are;
        };
      };
      kept = (refl, refl);
    }
