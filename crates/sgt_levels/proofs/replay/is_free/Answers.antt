use Rattle.std.proofs.Common.{sym, subst}
use Rattle.sgt_appends.specs.Lists.{Has}
use Rattle.sgt_appends.specs.Precedences.{appended}
use Rattle.std.proofs.Common.{[], ◌∷◌}
use Rattle.sgt_levels.specs.Replays.{values_in, places_in, IsFront}
use Rattle.sgt_levels.proofs.Grown.{only_key}
use Rattle.sgt_levels.proofs.replay.is_free.Goals as goal

pub returns-in-Append : goal.returns-in-Append
returns-in-Append c = λ yes k v has.
    subst (λ q. IsFront (values_in c.args.columns.now q) (places_in c.args.columns.now q) (values_in c.args.columns.now q) c.args.start)
    (sym (only_key k c.in-Append.key c.in-Append.value v (subst (λ o. Has (appended k (o ∷ [])) v) c.in-Append.is has)))
    (c.stays.ensures yes)
