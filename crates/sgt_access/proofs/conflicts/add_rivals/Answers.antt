use Rattle.std.proofs.Common.{◌≡◌, ◌↔◌, ◌⊎◌, ◌<◌, ℕ, length, get_or, ap, sym, subst, refl, arith, inl, inr}
use Rattle.std.proofs.lemmas.Bool.{true≢false}
use Rattle.std.proofs.lemmas.List.{take_all}
use Rattle.sgt_model.specs.AccessList.{ListedAccess, is_listed}
use Rattle.sgt_model.specs.Paths.{Member}
use Rattle.sgt_access.proofs.RisingLists.{capacity_among}
use Rattle.sgt_access.proofs.Rivals.{AddRivals, rival_added, no_rival_added, rival_listed, listed_at}
use Rattle.sgt_access.proofs.conflicts.add_rivals.Goals as goal
use Rattle.sgt_access.proofs.conflicts.add_rivals.Goals.{then-is_rival_of, else-is_rival_of}

pub add_rising-requires-clause-capacity : goal.add_rising-requires-clause-capacity
add_rising-requires-clause-capacity c =
    let list = c.args.accesses.now in
    let rivals = c.loop-access.rivals.items in
    let short : c.loop-access.access-index < length list = c.loop-access-test.true in
    let is : c.access-item.result ≡ get_or list c.loop-access.access-index c.access-item.result = c.access-item.is in
    let fit = c.requires.few in
    subst (λ t. ¬ Member t rivals → length rivals < 32) (sym (ap (λ (a : ListedAccess). a.by) c.access.view_is))
    (λ out. let fewer : length rivals < length fit.0 = capacity_among fit.0 rivals _ c.loop-access.invariant.rising
    (λ u m. elim ((c.loop-access.invariant.exact u).0 m) [
      | inl f ↦ fit.2 u f
      | inr r ↦ fit.3 u (rival_listed list c.loop-access.access-index u c.args.key c.args.kind r.1)
    ])
    (fit.3 _ (listed_at list c.loop-access.access-index c.access-item.result short is)) out in
    let most = fit.1 in
    omega (arith, fewer, most))

pub loop-access-preserved : goal.loop-access-preserved
loop-access-preserved c =
    let list = c.args.accesses.now in
    let at = c.loop-access.access-index in
    let old = c.loop-access.rivals.items in
    let first = c.args.rivals.now.items in
    let short : at < length list = c.loop-access-test.true in
    let is : c.access-item.result ≡ get_or list at c.access-item.result = c.access-item.is in
    elim c.if-is_rival_of.branch [
      | then-is_rival_of w ↦
          let members : (u : ℕ) → Member u c.if-is_rival_of.rivals.items ↔ ((u ≡ c.access-item.result.by) ⊎ Member u old) =
          rw (w.rivals-is, ← ap (λ (a : ListedAccess). a.by) c.access.view_is) w.add_rising.ensures.members in
          record {
            exact = rival_added _ _ _ list at _ short is first old _ (w.if-is_rival_of.ensures.0 refl) members
                c.loop-access.invariant.exact;
            rising = rw w.rivals-is w.add_rising.ensures.rising;
          }
      | else-is_rival_of w ↦ rw w.rivals-is record {
        exact =
            no_rival_added _ _ _ list at _ short is first old (λ rival. absurd (true≢false (sym (w.if-is_rival_of.ensures.1 rival))))
            c.loop-access.invariant.exact;
        rising = c.loop-access.invariant.rising;
      }
    ]

pub returns-clause-exact : goal.returns-clause-exact
returns-clause-exact c =
    let whole = take_all c.loop-access.access-index c.args.accesses.now c.loop-access-test.false in
    subst (λ list. AddRivals c.args.t c.args.key c.args.kind list c.args.rivals.now.items c.loop-access.rivals.items) whole c.loop-access.invariant.exact
