-- `into_box` passes the pointer, with what its owner had, to `from_raw`.
use mathlib.Core.Path.{◌≡◌, refl, sym, subst, ap}
use mathlib.Core.List.{List, [], ◌∷◌, ◌++◌}
use lib.Dec.{T}
use mir.Val.{Val, has_ty, WT}
use mir.Syntax.{a_type, dcons, dnil}
use mir.MapTy.{inst_fn}
use base.Logic.{id⊢}
use base.Fml.{ftrue, fsep, flft}
use contract.BorrowLft.{◌⊑◌}
use contract.Monad.{fact}
use contract.Running.{tables}
use prog.Wp.{WpFn}
use types.Kit.{Item, ‵, raw, prop, at_ret, ◌⊛◌, some, later, rewrite, ◌$◌, ◌∵◌, !, qed, move, drop, use1, join, split, split3, pick, fsplit, fjoin, feq_i, regoal, suffices, await, done}
use types.Part.{whole, sub}
use types.Run.{stop, fld, no_more, and_then, of_opd, returns, enter, first, blocks, exec}
use types.ByLocal.{alloc_all, pass_all, free_all, look_at, get, get_in, sets, lands_last, env}
use denote.Exit.{no}
use denote.Param.{bounded, layout, param}
use denote.RawPtr.{ptr_val}
use denote.Signature.{Slot, plain}
use denote.Steps.{heard, nothing, only}
use denote.Triple.Call.{calls_at_last}
use denote.Triple.Clauses.{Lasts, lasts}
use denote.Triple.Spec.{triple_of}
use denote.Triple.Table.{framed}
use denote.Triple.Walked.{says, Stays, stay_dropped, walk_of, ends_at}
use Rattle.std.proofs.VecSteps.Shapes.{after}
use Rattle.std.specs.Box.{box_allocator}
use Rattle.std.specs.contracts.boxed.Box as boxed
use Rattle.std.specs.contracts.boxed.Box.from_raw as closes
use Rattle.std.proofs.boxed.Box.from_raw.Met.{met}
use Rattle.std.proofs.alloc.Calls.{Al, Goes-blank}
use Rattle.std.proofs.raw_atomic.Walks.{proved_at}
use Rattle.sgt_c.proofs.Pointed.{laid, ptr_fits, laid_fits, fields_out, fields_in}
use Rattle.sgt_c.specs.contracts.slot.unboxed.Unboxed as unboxed
use Rattle.sgt_c.specs.contracts.slot.unboxed.Unboxed.into_box as F
use Rattle.sgt_c.specs.contracts.slot.unboxed.Unboxed.into_box.Key.{name}
use Rattle.sgt_c.proofs.slot.unboxed.Unboxed.into_box.Statement.{statement}
use Rattle.sgt_c.proofs.slot.unboxed.Unboxed.into_box.Code as code

pub into_box_spec : {M : Type 1} → statement M
into_box_spec 𝓤 𝓛 𝓜 𝓡 wired X Z LX LZ g d dd allocator md =
    let A : Al = record { row = Z; laws = LZ; g = g; d = d; drops = dd } in
    let inst = bounded (a_type ∷ a_type ∷ []) (X, (Z, tt)) (dcons d (dcons dd dnil)) in let fn = inst_fn inst code.function in
    let ended = F.ended X Z g d dd in let c = F.clauses X Z g d dd 𝓛 𝓜.mem 𝓡.returns in let 𝓣 = tables 𝓤 𝓛.H 𝓜 𝓡 𝓡.env in
    let Parts = unboxed.the_row (param 0 X) (param 1 Z) g in let Box = boxed.the_row (param 0 X) (param 1 Z) g in let from : Slot 2 = plain
    (λ _. Parts) in
    let stayed : Stays ended.signature.params ended.kept = (stay_dropped from no, tt) in
    let Closes = triple_of 𝓛 (closes.signature X Z g d dd) (closes.spec X Z g d dd 𝓛 𝓜.mem 𝓡.returns) in
    proved_at 𝓛 ended stayed c 𝓜 𝓡 (Goes-blank 𝓛 2 from no (λ κs x f. tt), tt) (name inst) fn
    (code.unfolded 𝓤 𝓛.H 𝓜 𝓡 wired (X, (Z, tt)) d dd) (λ y are.
    let κs = y.0.0 in let qs = y.0.1 in let u = y.0.3.0 in let vs = y.0.4.0 in let Post = (walk_of 𝓛 ended stayed c).post y in
    let lent : Item 𝓤 = ‵ (flft κs.0 qs.0) ⊛ ‵ (flft κs.1.0 qs.1.0) ⊛ ‵ ftrue in
    let alive : Item 𝓤 = raw (fact 𝓤 (κs.0 ⊑ X.lives)) ⊛ raw (fact 𝓤 (κs.1.0 ⊑ Z.lives)) ⊛ ‵ ftrue in
    qed 𝓛 ((lent ⊛ ‵ (fsep (Parts.own_val u vs) ftrue)) ∷ alive ∷ []) ∵ split ! $ move ! (1 ∷ []) $ fsplit ! $ fsplit ! $
    -- [the fields; what the box owned; true; the tokens; the bounds]
    fields_out A ! u.at u.alloc vs (λ h e fits.
    let z : Closes.Ghost = ((κs, qs, tt, (u.alloc, (u.at, tt)), (h ∷ [], (ptr_val u.at ∷ [], tt))), u.value) in
    move ! (2 ∷ []) $ drop ! $ nothing ! $ feq_i ! _ (ptr_val u.at ∷ []) (ptr_val u.at ∷ []) refl $ fjoin ! $ move ! (1 ∷ 0 ∷ []) $
    fjoin ! $ move ! (2 ∷ 0 ∷ []) $ join ! $
    -- [the tokens with the arguments; what the box owned; the bounds]
    move ! (2 ∷ []) $ split3 ! $ move ! (2 ∷ []) $ drop ! $ move ! (1 ∷ 3 ∷ []) $ join ! $ move ! (1 ∷ 0 ∷ []) $ join ! $
    move ! (1 ∷ 0 ∷ []) $ join ! $ use1 𝓛 (raw (Closes.pre z)) (id⊢ 𝓤 _) $
    regoal ! (λ us. prop (WpFn 𝓤 𝓛.H 𝓣.C 𝓣.Λ fn us Post)) (λ i. e i ++ []) refl $
    enter ! 𝓣.C 𝓣.Λ fn (laid u.at h ∷ []) Post $ alloc_all ! (λ l. pass_all ! refl (laid_fits A u.at h fits, tt) $
    sets ! (of_opd ! (get_in ! (fld ! refl (stop !)) (sub ! 0 refl (whole !)))) refl (ptr_fits u.at) $
    sets ! (of_opd ! (get_in ! (fld ! refl (stop !)) (sub ! 1 refl (whole !)))) refl fits $
    first ! $ blocks ! $ sets ! (of_opd ! (get ! refl)) refl fits $
    calls_at_last ! (framed 𝓤 𝓛.H 𝓜 𝓣) Closes (met 𝓤 𝓛 𝓜 𝓡 (code.calls-std_alloc::boxed::Box::from_raw 𝓡.env wired) X Z LX LZ g d dd
    allocator md) z
    (and_then ! (get ! refl) (and_then ! (get ! refl) (no_more !))) (λ v.
    use1 𝓛 (later (some (λ (r : Box.Denot). (lent ⊛ ‵ (Box.own_val r (v ∷ []))) ⊛
    some (λ (ws : Lasts (closes.ended X Z g d dd) κs z.0.3). ‵ (lasts (closes.ended X Z g d dd) κs z.0.3 ws) ⊛
    (raw (fact 𝓤 (r.value ≡ u.value)) ⊛ raw (fact 𝓤 (box_allocator r ≡ u.alloc))))))) (id⊢ 𝓤 _) $
    await ! tt $ pick ! (λ r. split ! $ move ! (1 ∷ []) $ pick ! (λ ws. split3 ! $ drop ! $ heard ! _ (λ same. drop ! $ split ! $
    move ! (1 ∷ []) $
    fsplit ! $ fields_out A ! r.ptr r.alloc (v ∷ []) (λ h' e' fits'. fields_in A ! r.ptr r.alloc h' $ fjoin ! $
    let typed : T (has_ty (layout Box) v) × WT v = subst (λ (w : Val). T (has_ty (layout Box) w) × WT w) (sym (ap only e'))
    (laid_fits A r.ptr h' fits') in
    rewrite ! 0 (λ (us : List Val). ‵ (Box.own_val r us)) (sym e') refl $
    -- [the box; the tokens]
    lands_last ! refl typed $ exec ! 𝓣.C 𝓣.Λ (env fn.locals l) (after 3 fn.body) (at_ret (env fn.locals l) Post) $
    sets ! (of_opd ! (get ! refl)) refl typed $ returns ! (look_at ! 0 refl) $ free_all ! refl $
    suffices ! _ (ends_at 𝓛 ended stayed c y v r ((tt, (tt, tt)), tt) (tt, tt)) $ says ! same $
    nothing ! $ nothing ! $ fjoin ! $ join ! $ move ! (1 ∷ 0 ∷ []) $ join ! $ done !))))))))
