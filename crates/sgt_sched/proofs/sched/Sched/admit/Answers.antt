use Rattle.std.proofs.Common.{◌≡◌, ◌≢◌, ℕ, ℤ, arith, Bool, true, false, cond, nat_eq, List, Some, None, length, refl, sym, ap, ◌∙◌}
use Rattle.std.specs.Option.{option_map}
use Rattle.std.proofs.lemmas.Bool.{eq-eqb, ne_eqb}
use Rattle.std.proofs.lemmas.List.{length-map}
use Rattle.sgt_model.specs.declared.reply.Reply.TheVariants as reply
use Rattle.sgt_model.specs.declared.limits.Limits.{Limits}
use Rattle.sgt_model.specs.Configurations.{rules_from, procedure_at}
use Rattle.sgt_model.specs.StartReply.{args_fit, capacity_reply, start_reply, taken_reply}
use Rattle.sgt_model.specs.Syntax.{ProcedureText}
use Rattle.sgt_sched.specs.LiveProgress.{Progress}
use Rattle.sgt_sched.proofs.sched.Sched.admit.Goals as goal

-- the reply to a start, by what is looked up
module _ (limits : Limits) (begun living p : ℕ) (args : List ℤ) (programs : List ProcedureText) where
  reply_to_unnamed : procedure_at programs p ≡ None → reply.NoProcedure ≡ start_reply (rules_from programs limits) begun living p args
  reply_to_unnamed none = ap (λ o. taken_reply limits begun living (option_map (λ (q : ProcedureText). q.args) o) args) (sym none)

  module _ (program : ProcedureText) (count : ℕ) (found : procedure_at programs p ≡ Some program) (counted : count ≡ program.args) where
    reply_to_named : (fit : Bool) → fit ≡ args_fit count args
        → cond fit (capacity_reply limits begun living) reply.BadArgs ≡ start_reply (rules_from programs limits) begun living p args
    reply_to_named fit fits = ap (λ b. cond b (capacity_reply limits begun living) reply.BadArgs)
        (fits ∙ ap (λ n. args_fit n args) counted)
        ∙ ap (λ o. taken_reply limits begun living (option_map (λ (q : ProcedureText). q.args) o) args) (sym found)

    reply_with_arguments : true ≡ args_fit count args → (spent full : Bool)
        → spent ≡ nat_eq begun limits.begins → full ≡ nat_eq living limits.live
        → cond spent reply.Spent (cond full reply.Full (reply.Started begun))
        ≡ start_reply (rules_from programs limits) begun living p args
    reply_with_arguments fits spent full is_spent is_full = ap (λ b. cond b reply.Spent (cond full reply.Full (reply.Started begun))) is_spent
        ∙ ap (λ b. cond (nat_eq begun limits.begins) reply.Spent (cond b reply.Full (reply.Started begun))) is_full ∙ reply_to_named true fits

pub returns-in-None : goal.returns-in-None
returns-in-None g c lists = record {
  reply = reply_to_unnamed c.args.self.now.limits _ _ c.args.procedure c.args.args.now c.args.self.now.procedures
      (c.in-None.ensures.none refl);
  does = refl;
}

pub returns-then-not-args_fit : goal.returns-then-not-args_fit
returns-then-not-args_fit g c lists = record {
  reply = reply_to_named c.args.self.now.limits _ _ c.args.procedure c.args.args.now c.args.self.now.procedures
      c.in-Some.checked.now c.args-count.result c.in-Some.ensures.found c.args-count.ensures.value
      false (sym c.if-not-args_fit.true ∙ c.args_fit.ensures);
  does = refl;
}

pub returns-then-len-self : goal.returns-then-len-self
returns-then-len-self g c lists = record {
  reply = reply_with_arguments c.args.self.now.limits _ _ c.args.procedure c.args.args.now c.args.self.now.procedures
      c.in-Some.checked.now c.args-count.result c.in-Some.ensures.found c.args-count.ensures.value
      (sym c.if-not-args_fit.false ∙ c.args_fit.ensures) true _ (sym (eq-eqb _ _ (sym c.len.ensures ∙ c.if-len-self.true))) refl;
  does = refl;
}

pub returns-then-len-self-2 : goal.returns-then-len-self-2
returns-then-len-self-2 g c lists = record {
  reply = reply_with_arguments c.args.self.now.limits _ _ c.args.procedure c.args.args.now c.args.self.now.procedures
      c.in-Some.checked.now c.args-count.result c.in-Some.ensures.found c.args-count.ensures.value
      (sym c.if-not-args_fit.false ∙ c.args_fit.ensures) false true
      (sym (ne_eqb _ _ (λ e. c.if-len-self.false (c.len.ensures ∙ e))))
      (sym (eq-eqb _ _ (length-map c.args.self.now.live _ ∙ (sym c.len-2.ensures ∙ c.if-len-self-2.true))));
  does = refl;
}

pub returns : goal.returns
returns g c =
    let spent : length c.args.self.now.fates.fates ≢ c.args.self.now.limits.begins = λ e. c.if-len-self.false (c.len.ensures ∙ e) in
    let full : length c.args.self.now.live ≢ c.args.self.now.limits.live = λ e. c.if-len-self-2.false (c.len-2.ensures ∙ e) in
    let many = length-map c.args.self.now.live (λ (p : ℕ × Progress). p.0) in (
      ap reply.Started c.len-3.ensures ∙ reply_with_arguments c.args.self.now.limits _ _ c.args.procedure c.args.args.now
          c.args.self.now.procedures c.in-Some.checked.now c.args-count.result c.in-Some.ensures.found c.args-count.ensures.value
          (sym c.if-not-args_fit.false ∙ c.args_fit.ensures) false false
          (sym (ne_eqb _ _ spent)) (sym (ne_eqb _ _ (λ e. full (sym many ∙ e)))),
      record {
        next = c.len-3.ensures;
        begins = omega (arith, c.args.self.now.kept.begun, spent);
        live = omega (arith, c.args.self.now.kept.sound.few, full, many);
      },
    )
