use Rattle.std.proofs.Common.{rules, ◌≡◌, ◌≢◌, ◌≤◌, ◌<◌, ◌+◌, ◌%◌, ◌&&◌, not, nat_eq, count_by, ℕ, Bool, false, List, length, get_or, set, ap, sym, subst, ◌∙◌, ◌++◌, [], arith}
use Rattle.sgt_model.specs.AccessList.{ListedAccess, is_listed}
use Rattle.sgt_access.specs.Masks.{IsLeaving}
use Rattle.sgt_access.specs.NumberLists.{contents, joined, AreByNumber}
use Rattle.sgt_access.proofs.NumberLists.{contents_set, contents_read, contents_long, joined_short, taken_others, taken_none, taken_by_number, taken_leaving}
use Rattle.sgt_access.proofs.number_lists.NumberLists.take_out.Goals as goal

pub returns-else-index-len-clause-none : goal.returns-else-index-len-clause-none
returns-else-index-len-clause-none c =
    let high : length c.self.inside.lists.items ≤ c.list_of-index.result = search rules in
    let is : c.list_of-index.result ≡ c.args.t % 32 = search rules in
    let long : length (contents c.self.inside.lists.items) ≡ length c.self.inside.lists.items = contents_long c.self.inside.lists.items in
    subst (λ list. is_listed list c.args.t ≡ false) c.self.view_is
    (joined_short 0 (contents c.self.inside.lists.items) c.args.t c.self.invariant (omega (arith, high, is, long)))

pub returns-then-index-len-clause-others : goal.returns-then-index-len-clause-others
returns-then-index-len-clause-others c p =
    let rows = c.self.inside.lists.items in
    let at = c.list_of-index.result in
    let within : at < length rows = search rules in
    let is : at ≡ c.args.t % 32 = search rules in
    let short : at < length (contents rows) = subst (λ n. at < n) (sym (contents_long rows)) within in
    let read : get_or (contents rows) at [] ≡ c.index_mut.result.now.items =
    contents_read rows at c.index_mut.result.now within c.index_mut.ensures.value in
    ap (λ lists. count_by (λ (a : ListedAccess). p a && not (nat_eq a.by c.args.t)) (joined lists)) (contents_set rows at c.take_out.new.accesses)
    ∙ taken_others (contents rows) at c.args.t c.take_out.new.accesses.items short c.self.invariant is
    (subst (λ old. (q : ListedAccess → Bool) → count_by (λ a. q a && not (nat_eq a.by c.args.t)) c.take_out.new.accesses.items
    ≡ count_by (λ a. q a && not (nat_eq a.by c.args.t)) old) (sym read) c.take_out.ensures.others) c.take_out.ensures.none p
    ∙ ap (count_by (λ (a : ListedAccess). p a && not (nat_eq a.by c.args.t))) c.self.view_is

pub returns-then-index-len-clause-none : goal.returns-then-index-len-clause-none
returns-then-index-len-clause-none c =
    let rows = c.self.inside.lists.items in
    let at = c.list_of-index.result in
    let within : at < length rows = search rules in
    let is : at ≡ c.args.t % 32 = search rules in
    let short : at < length (contents rows) = subst (λ n. at < n) (sym (contents_long rows)) within in
    let read : get_or (contents rows) at [] ≡ c.index_mut.result.now.items =
    contents_read rows at c.index_mut.result.now within c.index_mut.ensures.value in
    ap (λ lists. is_listed (joined lists) c.args.t) (contents_set rows at c.take_out.new.accesses)
    ∙ taken_none (contents rows) at c.args.t c.take_out.new.accesses.items short c.self.invariant is
    (subst (λ old. (q : ListedAccess → Bool) → count_by (λ a. q a && not (nat_eq a.by c.args.t)) c.take_out.new.accesses.items
    ≡ count_by (λ a. q a && not (nat_eq a.by c.args.t)) old) (sym read) c.take_out.ensures.others) c.take_out.ensures.none

pub returns-then-index-len-clause-leaving : goal.returns-then-index-len-clause-leaving
returns-then-index-len-clause-leaving c rest leaving =
    let rows = c.self.inside.lists.items in
    let at = c.list_of-index.result in
    let within : at < length rows = search rules in
    let is : at ≡ c.args.t % 32 = search rules in
    let short : at < length (contents rows) = subst (λ n. at < n) (sym (contents_long rows)) within in
    let read : get_or (contents rows) at [] ≡ c.index_mut.result.now.items =
    contents_read rows at c.index_mut.result.now within c.index_mut.ensures.value in
    subst (λ lists. IsLeaving c.take_out.new.masks c.args.t c.args.places (joined lists ++ rest)) (sym (contents_set rows at c.take_out.new.accesses))
    (taken_leaving (contents rows) at c.args.t c.take_out.new.accesses.items short c.self.invariant is
    (subst (λ old. (q : ListedAccess → Bool) → count_by (λ a. q a && not (nat_eq a.by c.args.t)) c.take_out.new.accesses.items
    ≡ count_by (λ a. q a && not (nat_eq a.by c.args.t)) old) (sym read) c.take_out.ensures.others) c.take_out.ensures.none
    c.args.masks.now c.take_out.new.masks c.args.places
    (subst (λ old. (rest : List ListedAccess) → IsLeaving c.args.masks.now c.args.t c.args.places (old ++ rest)
    → IsLeaving c.take_out.new.masks c.args.t c.args.places (c.take_out.new.accesses.items ++ rest)) (sym read) c.take_out.ensures.leaving)
    rest (subst (λ list. IsLeaving c.args.masks.now c.args.t c.args.places (list ++ rest)) (sym c.self.view_is) leaving))

pub invariant_of-self : goal.invariant_of-self
invariant_of-self c =
    let rows = c.self.inside.lists.items in
    let at = c.list_of-index.result in
    let within : at < length rows = search rules in
    let is : at ≡ c.args.t % 32 = search rules in
    let short : at < length (contents rows) = subst (λ n. at < n) (sym (contents_long rows)) within in
    let read : get_or (contents rows) at [] ≡ c.index_mut.result.now.items =
    contents_read rows at c.index_mut.result.now within c.index_mut.ensures.value in
    subst (AreByNumber 0) (sym (contents_set rows at c.take_out.new.accesses))
    (taken_by_number (contents rows) at c.args.t c.take_out.new.accesses.items short c.self.invariant is
    (subst (λ old. (q : ListedAccess → Bool) → count_by (λ a. q a && not (nat_eq a.by c.args.t)) c.take_out.new.accesses.items
    ≡ count_by (λ a. q a && not (nat_eq a.by c.args.t)) old) (sym read) c.take_out.ensures.others) c.take_out.ensures.none)
