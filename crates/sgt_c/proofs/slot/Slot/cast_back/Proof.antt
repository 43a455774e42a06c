-- `cast_back` moves the fields back, out of a slot that is not empty.
use mathlib.Core.Path.{refl}
use mathlib.Core.List.{List, [], ◌∷◌, ◌++◌}
use seplogic.Ra.Ura.{Ura}
use mir.Val.{Val}
use base.Logic.{SProp, ent}
use base.Fml.{ftrue, fsep}
use prog.Memory.{Memory}
use prog.Routine.{Routine}
use prog.Wp.{WpFn, Tables}
use contract.Monad.{Fun, fact}
use contract.Running.{tables, tables_of}
use types.Kit.{‵, raw, prop, ◌⊛◌, ◌$◌, ◌∵◌, !, qed, move, drop, join, split, fsplit, fjoin, regoal, suffices, done}
use types.Part.{whole, sub, agg}
use types.Run.{stop, fld, no_more, and_then, of_opd, returns, enter}
use types.ByLocal.{alloc_all, pass_all, free_all, look_at, get, get_in, sets}
use denote.Exit.{yes}
use denote.Signature.{Slot, plain}
use denote.RattleType.{owns}
use denote.RawPtr.{Ptr}
use denote.Steps.{heard, nothing}
use denote.Triple.Walked.{says, Stays, stay_dropped, walk_of, ends_at, Goes-dropped}
use denote.Triple.Statement.{Contract}
use types.Logic.{Logic}
use Rattle.std.specs.Global.{Global}
use Rattle.std.specs.Prelude.{Option, Some, None, IsSome}
use Rattle.std.proofs.lemmas.Bool.{false≢true}
use Rattle.std.proofs.raw_atomic.Walks.{proved_at}
use Rattle.sgt_c.proofs.OfGlobal.{heap}
use Rattle.sgt_c.proofs.Pointed.{laid, ptr_fits, laid_fits, fields_out, fields_in}
use Rattle.sgt_c.specs.declared.held.Held.{Held}
use Rattle.sgt_c.specs.contracts.held.Held.{the_row}
use Rattle.sgt_c.specs.contracts.slot.Slot as slot
use Rattle.sgt_c.specs.contracts.slot.unboxed.Unboxed as unboxed
use Rattle.sgt_c.specs.contracts.slot.Slot.cast_back.{ended, clauses}
use Rattle.sgt_c.specs.contracts.slot.Slot.cast_back.Key.{name}
use Rattle.sgt_c.proofs.slot.Slot.cast_back.Statement.{statement}
use Rattle.sgt_c.proofs.slot.Slot.cast_back.Code as code

abbrev from : Slot 0
from = plain (λ _. slot.the_row)

abbrev stayed : Stays ended.signature.params ended.kept
stayed = (stay_dropped from yes, tt)

module _ {M : Type 1} {𝓤 : Ura M} (𝓛 : Logic 𝓤) (at_mem : Memory → SProp 𝓤) (run : Routine → Fun 𝓤) (𝓣 : Tables 𝓤 𝓛.H) where
  abbrev W : Contract 𝓤
  W = walk_of 𝓛 ended stayed (clauses 𝓛 at_mem run)

  abbrev taken : Ptr → Global → Option Held → List Val → W.Ghost
  taken at alloc held vs = ((tt, tt, tt, (record { at = at; alloc = alloc; held = held }, tt), (vs, tt)), tt)

  walk : (at : Ptr) (alloc : Global) (held : Option Held) (vs : List Val)
      → let y = taken at alloc held vs in ent 𝓤 (W.pre y) (WpFn 𝓤 𝓛.H 𝓣.C 𝓣.Λ code.function (vs ++ []) (W.post y))
  walk at alloc None vs =
      qed 𝓛 ((‵ ftrue ⊛ ‵ (owns (slot.the_row ∷ []) (record { at = at; alloc = alloc; held = None }, tt) (vs, tt))) ∷ raw
      (fact 𝓤 (IsSome {T = Held} None)) ∷ []) ∵
      move ! (1 ∷ []) $ heard ! _ (λ some. absurd (false≢true some))
  walk at alloc (Some x) vs =
      let y = taken at alloc (Some x) vs in let s : slot.the_row.Denot = record { at = at; alloc = alloc; held = Some x } in
      let made : (unboxed.the_row the_row heap.row heap.g).Denot = record { at = at; alloc = alloc; value = x } in
      qed 𝓛 ((‵ ftrue ⊛ ‵ (fsep (slot.the_row.own_val s vs) ftrue)) ∷ raw (fact 𝓤 (IsSome (Some x))) ∷ []) ∵ split ! $ drop ! $ fsplit ! $
      fsplit ! $ move ! (2 ∷ 3 ∷ []) $ drop ! $ drop ! $
      -- [the fields; what the box owned]
      fields_out heap ! at alloc vs (λ h e fits.
      fields_in heap ! at alloc h $ fjoin ! $
      regoal ! (λ us. prop (WpFn 𝓤 𝓛.H 𝓣.C 𝓣.Λ code.function us (W.post y))) (λ i. e i ++ []) refl $
      enter ! 𝓣.C 𝓣.Λ code.function (laid at h ∷ []) (W.post y) $ alloc_all ! (λ l. pass_all ! refl (laid_fits heap at h fits, tt) $
      sets ! (of_opd ! (get_in ! (fld ! refl (stop !)) (sub ! 0 refl (whole !)))) refl (ptr_fits at) $
      sets ! (of_opd ! (get_in ! (fld ! refl (stop !)) (sub ! 1 refl (whole !)))) refl fits $
      sets ! (of_opd ! (get ! refl)) refl (ptr_fits at) $
      sets ! (agg ! (and_then ! (get ! refl) (and_then ! (get ! refl) (no_more !)))) refl (laid_fits heap at h fits) $
      returns ! (look_at ! 0 refl) $ free_all ! refl $
      suffices ! _ (ends_at 𝓛 ended stayed (clauses 𝓛 at_mem run) y (laid at h) made (tt, tt) (tt, tt)) $ says ! refl $
      nothing ! $ nothing ! $ fjoin ! $ join ! $ nothing ! $ join ! $ done !))

pub cast_back_spec : {M : Type 1} → statement M
unfolding tables_of
cast_back_spec 𝓤 𝓛 𝓜 𝓡 wired =
    let 𝓣 = tables_of 𝓤 𝓛.H 𝓜 (tables 𝓤 𝓛.H 𝓜 𝓡 𝓡.env) in
    proved_at 𝓛 ended stayed (clauses 𝓛 𝓜.mem 𝓡.returns) 𝓜 𝓡 (Goes-dropped 𝓛 0 from yes (λ κs x f. refl), tt) name code.function
    (code.unfolded 𝓤 𝓛.H 𝓜 𝓡 wired)
    (λ y are. walk 𝓛 𝓜.mem 𝓡.returns 𝓣 y.0.3.0.at y.0.3.0.alloc y.0.3.0.held y.0.4.0)
