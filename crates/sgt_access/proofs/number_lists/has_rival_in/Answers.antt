use Rattle.std.proofs.Common.{rules, refl, ◌≡◌, ◌≢◌, ◌||◌, ℕ, true, take, sym, ap, ◌∙◌, inl, inr}
use Rattle.std.proofs.lemmas.Bool.{true≢false, or_cases}
use Rattle.std.proofs.lemmas.List.Folds.{list_any-append}
use Rattle.sgt_model.specs.AccessList.{is_conflicting, lists_conflicting}
use Rattle.sgt_access.specs.NumberLists.{contents, joined}
use Rattle.sgt_access.proofs.NumberLists.{joined_more, joined_there}
use Rattle.sgt_access.proofs.number_lists.has_rival_in.Goals as goal

pub returns-then-has_rival_among : goal.returns-then-has_rival_among
returns-then-has_rival_among c =
    let (u, other, conflict) = c.has_rival_among.ensures.exact.0 c.if-has_rival_among.true in record {
      exact = (
        (λ is. (
          u,
          other,
          joined_there (is_conflicting u c.args.key c.args.kind) c.args.lists.now c.loop-list.list-index c.list-item.result c.loop-list-test.true
              c.list-item.is (ap (λ xs. lists_conflicting xs u c.args.key c.args.kind) (sym c.as_slice.ensures.value) ∙ conflict),
        )),
        (λ some. refl),
      );
    }

pub loop-list-preserved : goal.loop-list-preserved
loop-list-preserved c u = (
  λ m. absurd m,
  λ h. let earlier = joined (contents (take c.loop-list.list-index c.args.lists.now)) in
      let now = c.list-item.result.items in
      let first = lists_conflicting earlier u c.args.key c.args.kind in
      let second = lists_conflicting now u c.args.key c.args.kind in
      let either : (first || second) ≡ true =
      sym (ap (λ xs. lists_conflicting xs u c.args.key c.args.kind)
      (joined_more c.args.lists.now c.loop-list.list-index c.list-item.result c.loop-list-test.true c.list-item.is)
      ∙ list_any-append (is_conflicting u c.args.key c.args.kind) earlier now) ∙ h.1 in
      elim (or_cases first second either) [
        | inl before ↦ (c.loop-list.invariant u).1 (h.0, before)
        | inr here ↦ absurd (true≢false (sym (c.has_rival_among.ensures.exact.1
            (u, h.0, ap (λ xs. lists_conflicting xs u c.args.key c.args.kind) c.as_slice.ensures.value ∙ here)) ∙ c.if-has_rival_among.false))
      ],
)
