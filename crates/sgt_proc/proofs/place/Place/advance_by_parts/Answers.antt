use Rattle.std.proofs.Common.{rules, ◌<◌, ◌+◌, refl, sym, ap, ◌∙◌, subst, ◌≤◌, length, get_or, arith}
use Rattle.std.proofs.lemmas.Bool.{true≢false}
use Rattle.arrayvec.specs.ArrayVec.{ArrayVec}
use Rattle.sgt_model.specs.ProcedureTexts.{block_of}
use Rattle.sgt_proc.specs.Paths.{inner, IsPath}
use Rattle.sgt_proc.specs.Places.{GoesOn, Passes, Stops}
use Rattle.sgt_proc.proofs.PathTexts.{path_less}
use Rattle.sgt_proc.proofs.Stepped.{at_statement, at_few, at_capacity, out_step, end_here, none_left}
use Rattle.sgt_proc.proofs.place.Place.advance_by_parts.Goals as goal
use Rattle.sgt_proc.proofs.place.Place.advance_by_parts.Goals.{After-step, After-list_at-list-in-Inside, In-On, In-Some}

pub step-requires-clause-capacity : goal.step-requires-clause-capacity
step-requires-clause-capacity c =
    let e : c.loop-list.self.at < length c.loop-list.list.now = search rules in
    at_capacity c.loop-list.list.now (block_of c.args.body.now) c.loop-list.self
    c.loop-list.invariant.list c.index-list-at.result e
    (c.index-list-at.is ∙ ap (λ n. get_or c.loop-list.list.now n c.index-list-at.result) c.from-at.ensures)
    c.loop-list.invariant.inside.path c.requires.shallow

pub step-requires-clause-few : goal.step-requires-clause-few
step-requires-clause-few c =
    let e : c.loop-list.self.at < length c.loop-list.list.now = search rules in
    at_few c.loop-list.list.now (block_of c.args.body.now) c.loop-list.self
    c.loop-list.invariant.list c.index-list-at.result e
    (c.index-list-at.is ∙ ap (λ n. get_or c.loop-list.list.now n c.index-list-at.result) c.from-at.ensures) c.requires.short

-- the statement of the list at the index was executed
went : (c : After-step) → GoesOn (block_of c.args.body.now) c.loop-list.self c.step.result c.step.new.stop c.step.new.self
went c =
    let e : c.loop-list.self.at < length c.loop-list.list.now = search rules in
    c.step.ensures.steps (block_of c.args.body.now) c.loop-list.invariant.inside
    (at_statement c.loop-list.list.now (block_of c.args.body.now) c.loop-list.self c.loop-list.invariant.list c.index-list-at.result e
    (c.index-list-at.is ∙ ap (λ n. get_or c.loop-list.list.now n c.index-list-at.result) c.from-at.ensures))

pub returns-in-Stopped-clause-stops : goal.returns-in-Stopped-clause-stops
returns-in-Stopped-clause-stops c =
    let r : Stops (block_of c.args.body.now) c.loop-list.self c.step.new.stop c.step.new.self =
    subst (λ w. GoesOn (block_of c.args.body.now) c.loop-list.self w c.step.new.stop c.step.new.self) c.in-Stopped.is
    (went (goal.at.returns-in-Stopped-clause-stops c).After-step) in
    record { same = r.same ∙ c.loop-list.invariant.same; inside = r.inside; before = r.before; found = r.found }

-- it continued in the list
on : (c : In-On) → Passes (block_of c.args.body.now) c.loop-list.self c.step.new.self
on c = subst (λ w. GoesOn (block_of c.args.body.now) c.loop-list.self w c.step.new.stop c.step.new.self) c.in-On.is
    (went (goal.at-loop-list-preserved-in-On c).After-step)

pub loop-list-smaller-in-On : goal.loop-list-smaller-in-On
loop-list-smaller-in-On c = (on c).nearer

pub loop-list-preserved-in-On : goal.loop-list-preserved-in-On
loop-list-preserved-in-On c = record {
  inside = (on c).inside;
  same = (on c).same ∙ c.loop-list.invariant.same;
  list = c.loop-list.invariant.list
      ∙ ap (λ (path : ArrayVec _). inner path.items (block_of c.args.body.now)) (sym (c.step.ensures.same_list c.in-On.is));
}

-- it entered a branch
entered : (c : After-list_at-list-in-Inside) → Passes (block_of c.args.body.now) c.loop-list.self c.step.new.self
entered c = subst (λ w. GoesOn (block_of c.args.body.now) c.loop-list.self w c.step.new.stop c.step.new.self) c.in-Inside.is
    (went (goal.at-loop-list-preserved-in-Inside c).After-step)

pub loop-list-smaller-in-Inside : goal.loop-list-smaller-in-Inside
loop-list-smaller-in-Inside c = (entered c).nearer

pub loop-list-preserved-in-Inside : goal.loop-list-preserved-in-Inside
loop-list-preserved-in-Inside c = record {
  inside = (entered c).inside;
  same = (entered c).same ∙ c.loop-list.invariant.same;
  list = c.list_at-list-in-Inside.ensures ∙ ap (λ p. inner p (block_of c.args.body.now)) c.as_slice-in-Inside.ensures.value;
}

pub overflow_add-self : goal.overflow_add-self
overflow_add-self c =
    let less = path_less c.pop.new.self.items c.in-Some.left (block_of c.args.body.now)
    (subst (λ p. IsPath p (block_of c.args.body.now)) c.in-Some.ensures.items c.loop-list.invariant.inside.path) in
    omega (arith, less.0)

-- it goes on after the statement whose branch has ended
out : (c : In-Some) → Passes (block_of c.args.body.now) c.loop-list.self
    (record c.loop-list.self { path = c.pop.new.self; at = c.in-Some.left.at + 1 })
out c =
    let e : length c.loop-list.list.now ≤ c.loop-list.self.at = search rules in
    out_step c.loop-list.list.now (block_of c.args.body.now) c.loop-list.self
    c.loop-list.invariant.list e
    (record c.loop-list.self { path = c.pop.new.self; at = c.in-Some.left.at + 1 }) c.in-Some.left c.loop-list.invariant.inside
    refl refl refl c.in-Some.ensures.items refl

pub loop-list-smaller : goal.loop-list-smaller
loop-list-smaller c = (out (goal.at.loop-list-smaller c).In-Some).nearer

pub loop-list-preserved : goal.loop-list-preserved
loop-list-preserved c =
    let r = out (goal.at.loop-list-preserved c).In-Some in
    record {
      inside = r.inside;
      same = r.same ∙ c.loop-list.invariant.same;
      list = c.list_at-list-in-Some.ensures ∙ ap (λ p. inner p (block_of c.args.body.now)) c.as_slice-in-Some.ensures.value;
    }

pub returns-in-None-clause-stops : goal.returns-in-None-clause-stops
returns-in-None-clause-stops c =
    let e : length c.loop-list.list.now ≤ c.loop-list.self.at = search rules in
    record {
      same = end_here c.loop-list.list.now (block_of c.args.body.now) c.loop-list.self
          c.loop-list.invariant.list e
          (none_left c.loop-list.self.path.items (λ h. true≢false (sym (c.in-None.ensures.variant.1 h)))) ∙ c.loop-list.invariant.same;
      inside = record {
        path = subst (λ (v : ArrayVec _). IsPath v.items (block_of c.args.body.now)) (sym c.in-None.ensures.empty)
            c.loop-list.invariant.inside.path;
        few = c.loop-list.invariant.inside.few;
      };
      before = tt;
      found = tt;
    }
