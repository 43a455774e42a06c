-- `of` calls `into_raw_with_allocator`, and the fields own its result.
use mathlib.Core.Path.{◌≡◌, refl, ap}
use mathlib.Core.List.{[], ◌∷◌, ◌++◌}
use mir.Syntax.{a_type, dcons, dnil}
use mir.MapTy.{inst_fn}
use base.Logic.{id⊢}
use base.Fml.{ftrue, fsep, flft}
use contract.BorrowLft.{◌⊑◌}
use contract.Monad.{fact}
use contract.Running.{tables}
use prog.Wp.{WpFn}
use types.Kit.{Item, ‵, raw, prop, ◌⊛◌, some, later, ◌$◌, ◌∵◌, !, qed, move, drop, use1, join, split, split3, pick, rewrite, fsplit, fjoin, regoal, suffices, await, done}
use types.Part.{whole, sub, agg}
use types.Run.{stop, fld, no_more, and_then, of_opd, returns, enter}
use types.ByLocal.{alloc_all, pass_all, free_all, look_at, get, get_in, sets, lands_as}
use denote.Exit.{no}
use denote.Param.{bounded, param}
use denote.RawPtr.{Ptr, RawPtr}
use denote.Signature.{Slot, plain}
use denote.Steps.{heard, nothing, only}
use denote.Struct.Tuple.{Tuple}
use denote.Triple.Call.{calls_at}
use denote.Triple.Clauses.{Lasts, lasts}
use denote.Triple.Spec.{triple_of}
use denote.Triple.Table.{framed}
use denote.Triple.Walked.{says, Stays, stay_dropped, walk_of, ends_at}
use Rattle.std.specs.Box.Ownership.{box_owns}
use Rattle.std.specs.contracts.boxed.Box as boxed
use Rattle.std.specs.contracts.boxed.Box.into_raw_with_allocator as opens
use Rattle.std.proofs.boxed.Box.into_raw_with_allocator.Met.{met}
use Rattle.std.proofs.alloc.Calls.{Al, Goes-blank}
use Rattle.std.proofs.raw_atomic.Walks.{proved_at}
use Rattle.sgt_c.proofs.Pointed.{laid, ptr_fits, laid_fits, fields_out, fields_in}
use Rattle.sgt_c.specs.contracts.slot.unboxed.Unboxed as unboxed
use Rattle.sgt_c.specs.contracts.slot.unboxed.Unboxed.of as F
use Rattle.sgt_c.specs.contracts.slot.unboxed.Unboxed.of.Key.{name}
use Rattle.sgt_c.proofs.slot.unboxed.Unboxed.of.Statement.{statement}
use Rattle.sgt_c.proofs.slot.unboxed.Unboxed.of.Code as code

pub of_spec : {M : Type 1} → statement M
of_spec 𝓤 𝓛 𝓜 𝓡 wired X Z LX LZ g d dd dx allocator md mx =
    let A : Al = record { row = Z; laws = LZ; g = g; d = d; drops = dd } in
    let inst = bounded (a_type ∷ a_type ∷ []) (X, (Z, tt)) (dcons d (dcons dd (dcons dx dnil))) in let fn = inst_fn inst code.function in
    let ended = F.ended X Z g d dd dx in let c = F.clauses X Z g d dd dx 𝓛 𝓜.mem 𝓡.returns in let 𝓣 = tables 𝓤 𝓛.H 𝓜 𝓡 𝓡.env in
    let Box = boxed.the_row (param 0 X) (param 1 Z) g in let from : Slot 2 = plain (λ _. Box) in
    let stayed : Stays ended.signature.params ended.kept = (stay_dropped from no, tt) in
    let Opens = triple_of 𝓛 (opens.signature X Z g d dd dx) (opens.spec X Z g d dd dx 𝓛 𝓜.mem 𝓡.returns) in
    proved_at 𝓛 ended stayed c 𝓜 𝓡 (Goes-blank 𝓛 2 from no (λ κs x f. tt), tt) (name inst) fn
    (code.unfolded 𝓤 𝓛.H 𝓜 𝓡 wired (X, (Z, tt)) d dd dx) (λ y are.
    let κs = y.0.0 in let qs = y.0.1 in let b = y.0.3.0 in let vs = y.0.4.0 in let Post = (walk_of 𝓛 ended stayed c).post y in
    let lent : Item 𝓤 = ‵ (flft κs.0 qs.0) ⊛ ‵ (flft κs.1.0 qs.1.0) ⊛ ‵ ftrue in
    let alive : Item 𝓤 = raw (fact 𝓤 (κs.0 ⊑ X.lives)) ⊛ raw (fact 𝓤 (κs.1.0 ⊑ Z.lives)) ⊛ ‵ ftrue in
    qed 𝓛 ((lent ⊛ ‵ (fsep (Box.own_val b vs) ftrue)) ∷ alive ∷ []) ∵ split ! $ move ! (1 ∷ []) $ fsplit ! $ fsplit ! $
    -- [the box's fields; what it owns; true; the tokens; the bounds]
    fields_out A ! b.ptr b.alloc vs (λ h e fits. fields_in A ! b.ptr b.alloc h $ fjoin ! $ fjoin ! $ move ! (1 ∷ 0 ∷ []) $ join ! $ join ! $
    let z : Opens.Ghost = ((κs, qs, tt, (b, tt), (laid b.ptr h ∷ [], tt)), tt) in use1 𝓛 (raw (Opens.pre z)) (id⊢ 𝓤 _) $
    regoal ! (λ us. prop (WpFn 𝓤 𝓛.H 𝓣.C 𝓣.Λ fn us Post)) (λ i. e i ++ []) refl $
    enter ! 𝓣.C 𝓣.Λ fn (laid b.ptr h ∷ []) Post $ alloc_all ! (λ l. pass_all ! refl (laid_fits A b.ptr h fits, tt) $
    sets ! (of_opd ! (get ! refl)) refl (laid_fits A b.ptr h fits) $
    calls_at ! (framed 𝓤 𝓛.H 𝓜 𝓣) Opens (met 𝓤 𝓛 𝓜 𝓡 (code.calls-std_alloc::boxed::Box::into_raw_with_allocator 𝓡.env wired) X Z LX LZ g d
    dd dx allocator md mx) z
    (and_then ! (get ! refl) (no_more !)) (λ v.
    use1 𝓛 (later (some (λ (r : Ptr × Z.Denot). (lent ⊛ ‵ ((Tuple (RawPtr ∷ param 1 Z ∷ [])).own_val r (v ∷ []))) ⊛
    some (λ (ws : Lasts (opens.ended X Z g d dd dx) κs z.0.3). ‵ (lasts (opens.ended X Z g d dd dx) κs z.0.3 ws) ⊛
    (raw (fact 𝓤 (r.1 ≡ b.alloc)) ⊛ ‵ (box_owns (g.dealloc_token b.alloc) (param 0 X) r.0 b.value)))))) (id⊢ 𝓤 _) $
    await ! tt $ pick ! (λ r. split ! $ move ! (1 ∷ []) $ pick ! (λ ws. split3 ! $ drop ! $ heard ! _ (λ same.
    let made : (unboxed.the_row (param 0 X) (param 1 Z) g).Denot = record { at = r.0; alloc = b.alloc; value = b.value } in
    -- [what the box owned; the tokens with the pair]
    move ! (1 ∷ []) $ split ! $ move ! (1 ∷ []) $ fields_out A ! r.0 r.1 (v ∷ []) (λ h' e' fits'.
    rewrite ! 0 (λ (a : Z.Denot). ‵ (Z.own_val a (h' ∷ []))) same refl $ fields_in A ! r.0 b.alloc h' $ move ! (0 ∷ 2 ∷ []) $ fjoin ! $
    lands_as ! (ap only e') refl (laid_fits A r.0 h' fits') $
    sets ! (of_opd ! (get_in ! (fld ! refl (stop !)) (sub ! 0 refl (whole !)))) refl (ptr_fits r.0) $
    sets ! (of_opd ! (get_in ! (fld ! refl (stop !)) (sub ! 1 refl (whole !)))) refl fits' $
    sets ! (of_opd ! (get ! refl)) refl fits' $
    sets ! (agg ! (and_then ! (get ! refl) (and_then ! (get ! refl) (no_more !)))) refl (laid_fits A r.0 h' fits') $
    returns ! (look_at ! 0 refl) $ free_all ! refl $
    suffices ! _ (ends_at 𝓛 ended stayed c y (laid r.0 h') made ((tt, (tt, tt)), tt) (tt, tt)) $ says ! refl $
    nothing ! $ nothing ! $ fjoin ! $ join ! $ move ! (1 ∷ 0 ∷ []) $ join ! $ done !))))))))
