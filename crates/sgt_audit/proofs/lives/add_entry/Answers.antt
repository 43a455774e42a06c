use Rattle.std.proofs.Common.{◌≡◌, ℕ, [], ◌∷◌, ◌++◌, sym, subst, ◌∙◌, arith}
use Rattle.std.specs.List.{slice_get}
use Rattle.std.specs.Option.{option_map}
use Rattle.std.proofs.lemmas.Result.{on_ok_weaker}
use Rattle.sgt_model.specs.Fates.{ending_in}
use Rattle.sgt_audit.specs.Lives.{AreLives, started_life, life_after}
use Rattle.sgt_audit.proofs.Rows.{lives_ended, lives_started_by}
use Rattle.sgt_audit.proofs.Reported.{started_some}
use Rattle.sgt_audit.proofs.lives.add_entry.Goals as goal

pub returns-then-is_start : goal.returns-then-is_start
returns-then-is_start c s past reply_legal legal number are =
    let start_count = started_some c.args.entry.now.reply (sym c.is_start.ensures ∙ c.if-is_start.true) in
    let after : AreLives (c.args.entry.now ∷ past) (c.args.lives.now.items ++ started_life c.args.number ∷ []) =
    subst (λ n. AreLives (c.args.entry.now ∷ past) (c.args.lives.now.items ++ started_life n ∷ [])) number
    (lives_started_by s past c.args.entry.now c.args.lives.now.items start_count.0 legal reply_legal start_count.1 are) in
    on_ok_weaker c.add_started.result (λ is. subst (AreLives (c.args.entry.now ∷ past)) (sym is) after) c.add_started.ensures

pub returns : goal.returns
returns c s past reply_legal legal number are =
    lives_ended s past c.args.entry.now c.args.lives.now.items c.end_those.new.lives.items reply_legal
    (sym c.is_start.ensures ∙ c.if-is_start.false) are
    (subst (λ n. (t : ℕ) → slice_get c.end_those.new.lives.items t ≡ option_map
    (life_after n (ending_in c.args.entry.now.event c.args.entry.now.reply t)) (slice_get c.args.lives.now.items t))
    (sym number) c.end_those.ensures.rows) (omega (arith, c.end_those.ensures.count, c.end_those.new.lives.ok.0, c.args.lives.now.ok.0))
