use Rattle.std.proofs.Common.{rules, nat_eq, not}
use Rattle.std.proofs.lemmas.Fn.{filter_same}
use Rattle.sgt_model.specs.AccessList.{ListedAccess}
use Rattle.sgt_access.proofs.one_list.OneListAccesses.forget.Goals as goal

pub returns : goal.returns
returns c =
    record {
      forgotten = filter_same _ (λ (a : ListedAccess). not (nat_eq a.by c.args.t)) _ (λ x b f call. search rules) _ _
          c.retain.ensures.filtered;
    }
