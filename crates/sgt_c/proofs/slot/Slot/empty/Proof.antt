-- `empty` owns nothing but its handle.
use mathlib.Core.Path.{refl}
use mathlib.Core.List.{[], ◌∷◌, ◌++◌}
use base.Logic.{emp}
use base.Fml.{ftrue, fsep}
use prog.Wp.{WpFn}
use contract.Running.{tables}
use types.Kit.{‵, raw, prop, ◌⊛◌, ◌$◌, ◌∵◌, !, qed, move, drop, join, split, fsplit, fjoin, regoal, suffices, done}
use types.Part.{agg}
use types.Run.{lit, no_more, and_then, returns, enter}
use types.ByLocal.{alloc_all, pass_all, free_all, look_at, get, sets}
use denote.Exit.{yes}
use denote.RawPtr.{null_ptr}
use denote.Signature.{Slot, plain}
use denote.Steps.{nothing}
use denote.Triple.Walked.{says, Stays, stay_dropped, walk_of, ends_at, Goes-dropped}
use Rattle.std.specs.Prelude.{None}
use Rattle.std.proofs.alloc.Calls.{handle_tells}
use Rattle.std.proofs.raw_atomic.Walks.{proved_at}
use Rattle.sgt_c.proofs.OfGlobal.{heap}
use Rattle.sgt_c.proofs.Pointed.{laid, laid_fits, fields_in}
use Rattle.sgt_c.specs.contracts.slot.Slot as slot
use Rattle.sgt_c.specs.contracts.slot.Slot.empty.{ended, clauses}
use Rattle.sgt_c.specs.contracts.slot.Slot.empty.Key.{name}
use Rattle.sgt_c.proofs.slot.Slot.empty.Statement.{statement}
use Rattle.sgt_c.proofs.slot.Slot.empty.Code as code

abbrev from : Slot 0
from = plain (λ _. heap.row)

abbrev stayed : Stays ended.signature.params ended.kept
stayed = (stay_dropped from yes, tt)

pub empty_spec : {M : Type 1} → statement M
empty_spec 𝓤 𝓛 𝓜 𝓡 wired =
    let c = clauses 𝓛 𝓜.mem 𝓡.returns in let 𝓣 = tables 𝓤 𝓛.H 𝓜 𝓡 𝓡.env in
    proved_at 𝓛 ended stayed c 𝓜 𝓡 (Goes-dropped 𝓛 0 from yes (λ κs x f. refl), tt) name code.function (code.unfolded 𝓤 𝓛.H 𝓜 𝓡 wired)
    (λ y are.
    let alloc = y.0.3.0 in let vs = y.0.4.0 in let Post = (walk_of 𝓛 ended stayed c).post y in
    let made : slot.the_row.Denot = record { at = null_ptr; alloc = alloc; held = None } in
    qed 𝓛 ((‵ ftrue ⊛ ‵ (fsep (heap.row.own_val alloc vs) ftrue)) ∷ raw (emp 𝓤) ∷ []) ∵ split ! $ drop ! $ fsplit ! $ move ! (1 ∷ 2 ∷ []) $
    drop ! $ drop ! $
    handle_tells heap ! alloc vs (λ h e fits.
    fields_in heap ! null_ptr alloc h $ nothing ! $ move ! (1 ∷ 0 ∷ []) $ fjoin ! $
    regoal ! (λ us. prop (WpFn 𝓤 𝓛.H 𝓣.C 𝓣.Λ code.function us Post)) (λ i. e i ++ []) refl $
    enter ! 𝓣.C 𝓣.Λ code.function (h ∷ []) Post $ alloc_all ! (λ l. pass_all ! refl (fits, tt) $
    sets ! (agg ! (and_then ! (lit ! tt) (and_then ! (get ! refl) (no_more !)))) refl (laid_fits heap null_ptr h fits) $
    returns ! (look_at ! 0 refl) $ free_all ! refl $
    suffices ! _ (ends_at 𝓛 ended stayed c y (laid null_ptr h) made (tt, tt) (tt, tt)) $ says ! refl $
    nothing ! $ nothing ! $ fjoin ! $ join ! $ nothing ! $ join ! $ done !)))
