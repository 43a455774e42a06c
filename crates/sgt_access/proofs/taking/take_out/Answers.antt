use Rattle.std.proofs.Common.{rules, ◌≡◌, ◌-◌, ◌<◌, ◌+◌, ℕ, true, false, nat_eq, List, ◌++◌, length, get_or, vec_len, arith, sym, subst, ap, ◌∙◌, ⊎_elim}
use Rattle.std.specs.List.{AllWithin}
use Rattle.std.proofs.lemmas.Bool.{cases_eq, eqb-true}
use Rattle.std.proofs.lemmas.List.{get_or_default}
use Rattle.sgt_model.specs.AccessList.{ListedAccess}
use Rattle.sgt_access.specs.Masks.{IsOneLess}
use Rattle.sgt_access.proofs.Counts.{one_taken, one_less_beside, others_taken, none_listed, same_read}
use Rattle.sgt_access.proofs.taking.take_out.Goals as goal

pub loop-index-preserved-then-eq : goal.loop-index-preserved-then-eq
loop-index-preserved-then-eq c =
    record {
      within = let within = c.loop-index.invariant.within in omega (arith, within, long);
      none = none;
      others = λ p. others_taken old new x c.args.t (eqb-true x.by c.args.t test) test less p ∙ c.loop-index.invariant.others p;
      leaving = λ rest start. c.remove.ensures c.args.t (old ++ rest) (new ++ rest) (eqb-true x.by c.args.t test)
          (c.loop-index.invariant.leaving rest start) (one_less_beside x old new rest less);
    }
  where
    x : ListedAccess
    x = c.swap_remove-access.result

    old : List ListedAccess
    old = c.loop-index.accesses.items

    new : List ListedAccess
    new = c.swap_remove-access.new.self.items

    at : ℕ
    at = c.loop-index.index - 1

    some : 0 < c.loop-index.index
    some = c.loop-index-test.true

    short : at < length old
    short = let within = c.loop-index.invariant.within in omega (arith, within, some)

    same : c.index.result.now ≡ x
    same = same_read old at c.index.result.now x short c.index.ensures c.swap_remove-access.ensures.value

    test : nat_eq x.by c.args.t ≡ true
    test = ap (λ (a : ListedAccess). nat_eq a.by c.args.t) (sym same) ∙ ap (λ (a : ListedAccess). nat_eq a.by c.args.t) (sym c.behind-accesses.view_is)
        ∙ sym c.eq.ensures ∙ c.if-eq.true

    less : IsOneLess x old new
    less = subst (IsOneLess x old) (sym c.swap_remove-access.ensures.items)
        (one_taken old at x short c.swap_remove-access.ensures.value)

    long : length new + 1 ≡ length old
    long = search rules

    sized : vec_len c.loop-index.accesses ≡ length old
    sized = search rules

    none : AllWithin (λ (a : ListedAccess). nat_eq a.by c.args.t ≡ false) new at (length new)
    none k d low high = ⊎_elim
        (λ e. subst (λ (a : ListedAccess). nat_eq a.by c.args.t ≡ false)
        (sym (ap (λ n. get_or new n d) e ∙ c.swap_remove-access.ensures.by_index.0 d (omega (arith, high, long, e, sized))))
        (c.loop-index.invariant.none (vec_len c.loop-index.accesses - 1) d (omega (arith, high, long, e, some, sized)) (omega (arith, short, sized))))
        (λ ne. subst (λ (a : ListedAccess). nat_eq a.by c.args.t ≡ false)
        (sym (c.swap_remove-access.ensures.by_index.1 k d ne (omega (arith, high, long, sized))))
        (c.loop-index.invariant.none k d (omega (arith, low, ne, some)) (omega (arith, high, long))))
        (cases_eq k at)

pub loop-index-preserved : goal.loop-index-preserved
loop-index-preserved c =
    record {
      within = let within = c.loop-index.invariant.within in omega (arith, within);
      none = λ k d low high. ⊎_elim
          (λ e. subst (λ n. nat_eq (get_or old n d).by c.args.t ≡ false) (sym e)
          (ap (λ (a : ListedAccess). nat_eq a.by c.args.t) (get_or_default old at d c.index.result.now short ∙ sym c.index.ensures)
          ∙ ap (λ (a : ListedAccess). nat_eq a.by c.args.t) (sym c.behind-accesses.view_is) ∙ sym c.eq.ensures ∙ c.if-eq.false))
          (λ ne. c.loop-index.invariant.none k d (omega (arith, low, ne, some)) high)
          (cases_eq k at);
      others = c.loop-index.invariant.others;
      leaving = c.loop-index.invariant.leaving;
    }
  where
    old : List ListedAccess
    old = c.loop-index.accesses.items

    at : ℕ
    at = c.loop-index.index - 1

    some : 0 < c.loop-index.index
    some = c.loop-index-test.true

    short : at < length old
    short = let within = c.loop-index.invariant.within in omega (arith, within, some)

pub returns-clause-none : goal.returns-clause-none
returns-clause-none c =
    let done = c.loop-index-test.false in
    none_listed c.args.t c.loop-index.accesses.items (λ k d low high. c.loop-index.invariant.none k d (omega (arith, done)) high)
