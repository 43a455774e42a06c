-- `cast` moves the fields, and what the box owned goes with them.
use mathlib.Core.Path.{refl}
use mathlib.Core.List.{[], ◌∷◌, ◌++◌}
use base.Logic.{emp}
use base.Fml.{ftrue, fsep}
use prog.Wp.{WpFn}
use contract.Running.{tables}
use types.Kit.{‵, raw, prop, ◌⊛◌, ◌$◌, ◌∵◌, !, qed, move, drop, join, split, fsplit, fjoin, regoal, suffices, done}
use types.Part.{whole, sub, agg}
use types.Run.{stop, fld, no_more, and_then, of_opd, returns, enter}
use types.ByLocal.{alloc_all, pass_all, free_all, look_at, get, get_in, sets}
use denote.Exit.{yes}
use denote.Signature.{Slot, plain}
use denote.Steps.{nothing}
use denote.Triple.Walked.{says, Stays, stay_dropped, walk_of, ends_at, Goes-dropped}
use Rattle.std.specs.Prelude.{Some}
use Rattle.std.proofs.raw_atomic.Walks.{proved_at}
use Rattle.sgt_c.proofs.OfGlobal.{heap}
use Rattle.sgt_c.proofs.Pointed.{laid, ptr_fits, laid_fits, fields_out, fields_in}
use Rattle.sgt_c.specs.contracts.held.Held.{the_row}
use Rattle.sgt_c.specs.contracts.slot.Slot as slot
use Rattle.sgt_c.specs.contracts.slot.unboxed.Unboxed as unboxed
use Rattle.sgt_c.specs.contracts.slot.Slot.cast.{ended, clauses}
use Rattle.sgt_c.specs.contracts.slot.Slot.cast.Key.{name}
use Rattle.sgt_c.proofs.slot.Slot.cast.Statement.{statement}
use Rattle.sgt_c.proofs.slot.Slot.cast.Code as code

abbrev from : Slot 0
from = plain (λ _. unboxed.the_row the_row heap.row heap.g)

abbrev stayed : Stays ended.signature.params ended.kept
stayed = (stay_dropped from yes, tt)

pub cast_spec : {M : Type 1} → statement M
cast_spec 𝓤 𝓛 𝓜 𝓡 wired =
    let c = clauses 𝓛 𝓜.mem 𝓡.returns in let 𝓣 = tables 𝓤 𝓛.H 𝓜 𝓡 𝓡.env in
    proved_at 𝓛 ended stayed c 𝓜 𝓡 (Goes-dropped 𝓛 0 from yes (λ κs x f. refl), tt) name code.function (code.unfolded 𝓤 𝓛.H 𝓜 𝓡 wired)
    (λ y are.
    let u = y.0.3.0 in let vs = y.0.4.0 in let Post = (walk_of 𝓛 ended stayed c).post y in
    let made : slot.the_row.Denot = record { at = u.at; alloc = u.alloc; held = Some u.value } in
    qed 𝓛 ((‵ ftrue ⊛ ‵ (fsep ((unboxed.the_row the_row heap.row heap.g).own_val u vs) ftrue)) ∷ raw (emp 𝓤) ∷ []) ∵ split ! $ drop ! $
    fsplit ! $ fsplit ! $ move ! (2 ∷ 3 ∷ []) $ drop ! $ drop ! $
    -- [the fields; what the box owned]
    fields_out heap ! u.at u.alloc vs (λ h e fits.
    fields_in heap ! u.at u.alloc h $ fjoin ! $
    regoal ! (λ us. prop (WpFn 𝓤 𝓛.H 𝓣.C 𝓣.Λ code.function us Post)) (λ i. e i ++ []) refl $
    enter ! 𝓣.C 𝓣.Λ code.function (laid u.at h ∷ []) Post $ alloc_all ! (λ l. pass_all ! refl (laid_fits heap u.at h fits, tt) $
    sets ! (of_opd ! (get_in ! (fld ! refl (stop !)) (sub ! 0 refl (whole !)))) refl (ptr_fits u.at) $
    sets ! (of_opd ! (get_in ! (fld ! refl (stop !)) (sub ! 1 refl (whole !)))) refl fits $
    sets ! (of_opd ! (get ! refl)) refl (ptr_fits u.at) $
    sets ! (agg ! (and_then ! (get ! refl) (and_then ! (get ! refl) (no_more !)))) refl (laid_fits heap u.at h fits) $
    returns ! (look_at ! 0 refl) $ free_all ! refl $
    suffices ! _ (ends_at 𝓛 ended stayed c y (laid u.at h) made (tt, tt) (tt, tt)) $ says ! refl $
    nothing ! $ nothing ! $ fjoin ! $ join ! $ nothing ! $ join ! $ done !)))
