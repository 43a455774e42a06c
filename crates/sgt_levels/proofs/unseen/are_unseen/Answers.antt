use Rattle.std.proofs.Common.{rules, ◌≡◌, ◌≢◌, sym, subst}
use Rattle.sgt_appends.specs.Indexes.{AppendAt}
use Rattle.sgt_levels.proofs.unseen.are_unseen.Goals as goal

pub returns : goal.returns
returns c = λ yes.
    let differ : c.args.it.one ≢ c.args.it.other = search rules in
    let same : c.in-Some.key ≡ c.in-Some-append_of.other_key = search rules in
    record {
      differ = differ;
      one_committed = c.in-Some.ensures.ended;
      other_committed = c.in-Some-append_of.ensures.ended;
      key = c.in-Some.key;
      value = c.in-Some.value;
      next = c.in-Some-append_of.next;
      first = c.in-Some.ensures.at;
      second = subst (λ k. AppendAt c.args.history.now c.args.it.other c.args.it.second k c.in-Some-append_of.next) (sym same)
          c.in-Some-append_of.ensures.at;
      value_unseen = c.none_saw.ensures c.if-not-none_saw.false;
      next_unseen = c.none_saw-2.ensures yes;
    }
