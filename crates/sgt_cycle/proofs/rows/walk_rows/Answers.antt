use Rattle.std.proofs.Common.{◌≡◌, ◌<◌, ◌≤◌, ◌+◌, ◌∙◌, ℕ, List, true, [], ◌∷◌, ◌++◌, length, ap, sym, subst, refl, arith, length-append, slice_index, true≢false, IfSome, Option, Some, None}
use Rattle.std.specs.Prelude.{◌&&◌, not}
use Rattle.std.proofs.lemmas.Bool.{and_parts, and_from, both_ways, false_from_ne_true}
use Rattle.sgt_cycle.specs.Indices.{is_set, is_bit, indices}
use Rattle.sgt_cycle.specs.Path.{IsPath}
use Rattle.sgt_cycle.proofs.Bits.{none_above}
use Rattle.sgt_cycle.proofs.RowPaths.{Searching, search_starts, search_fits, search_here, search_push, search_capacity, search_pop, search_ends, search_none, no_row}
use Rattle.sgt_cycle.proofs.rows.walk_rows.Goals as goal
use Rattle.sgt_cycle.proofs.rows.walk_rows.Goals.{In-Some-least}

-- the answer of a copy, where it is given
found : (result : Option (List ℕ)) (items : List ℕ) (good : List ℕ → Type 0) → IfSome result (λ list. list ≡ items) → good items
    → IfSome result good
found None items good is h = tt
found (Some list) items good is h = subst good (sym is) h

no_items : (xs : List ℕ) → (0 < length xs → ⊥) → xs ≡ []
no_items [] none = refl
no_items (x ∷ xs) none = absurd (none (omega arith))

pub loop-here-init : goal.loop-here-init
loop-here-init c = rw (c.push.ensures.items, c.new-path.ensures)
    (search_starts c.args.rows.now c.args.source c.args.targets c.complement-fresh.result c.requires.index
    (λ i low. c.complement-fresh.ensures i low ∙ ap not (c.only.ensures i))
    (λ i high. none_above c.args.targets i c.ranges.targets.fits high)
    (λ i j high. no_row c.args.rows.now i j (omega (arith, c.told-rows)) high))

pub has-requires : goal.has-requires
has-requires c =
    (search_here c.args.rows.now c.args.source c.args.targets c.loop-here.fresh c.pop.new.self.items c.in-Some.here
    (rw c.in-Some.ensures.items at c.loop-here.invariant))

pub push-requires-then-has : goal.push-requires-then-has
push-requires-then-has c =
    let fits : length c.loop-here.path.items ≤ 32 =
    search_fits c.args.rows.now c.args.source c.args.targets c.loop-here.fresh c.loop-here.path.items c.loop-here.invariant in
    let more : length c.loop-here.path.items ≡ length c.pop.new.self.items + 1 = ap length c.in-Some.ensures.items
    ∙ length-append c.pop.new.self.items (c.in-Some.here ∷ []) in
    (omega arith, omega arith)

pub returns-then-has-clause-some : goal.returns-then-has-clause-some
returns-then-has-clause-some c =
    let path : List ℕ = c.pop.new.self.items in
    let here : ℕ = c.in-Some.here in
    let s : Searching c.args.rows.now c.args.source c.args.targets c.loop-here.fresh (path ++ here ∷ []) =
    rw c.in-Some.ensures.items at c.loop-here.invariant in
    let target : is_set c.args.targets here ≡ true = sym (c.if-has.ensures) in
    found c.from_slice.result (path ++ here ∷ []) (IsPath (is_bit c.args.rows.now) c.args.source (indices c.args.targets))
    (rw (c.as_slice.ensures.value, c.push-then-has.ensures.items) at c.from_slice.ensures.items)
    (search_ends c.args.rows.now c.args.source c.args.targets c.loop-here.fresh path here s target)

pub bounds-rows-from : goal.bounds-rows-from
bounds-rows-from c =
    let low : c.in-Some.here < 32 = search_here c.args.rows.now c.args.source c.args.targets c.loop-here.fresh c.pop.new.self.items
    c.in-Some.here (rw c.in-Some.ensures.items at c.loop-here.invariant) in
    omega (arith, c.from.ensures)

pub push-requires-in-Some-least : goal.push-requires-in-Some-least
push-requires-in-Some-least c =
    let fits : length c.loop-here.path.items ≤ 32 =
    search_fits c.args.rows.now c.args.source c.args.targets c.loop-here.fresh c.loop-here.path.items c.loop-here.invariant in
    let more : length c.loop-here.path.items ≡ length c.pop.new.self.items + 1 = ap length c.in-Some.ensures.items
    ∙ length-append c.pop.new.self.items (c.in-Some.here ∷ []) in
    (omega arith, omega arith)

-- what holds of the path down to the last
searching : (c : In-Some-least) → Searching c.args.rows.now c.args.source c.args.targets c.loop-here.fresh
    (c.pop.new.self.items ++ c.in-Some.here ∷ [])
searching c = rw c.in-Some.ensures.items at c.loop-here.invariant

-- the next one is reached from the last in one step, and has not been met
next_is : (c : In-Some-least) → (is_set (slice_index c.args.rows.now c.from.result) c.in-Some-least.next ≡ true)
    × (is_set c.loop-here.fresh c.in-Some-least.next ≡ true)
next_is c = and_parts _ _ (sym (c.common.ensures c.in-Some-least.next) ∙ c.in-Some-least.ensures.some.1)

pub push-requires-in-Some-least-2 : goal.push-requires-in-Some-least-2
push-requires-in-Some-least-2 c =
    let path : List ℕ = c.pop.new.self.items in
    let here : ℕ = c.in-Some.here in
    let next : ℕ = c.in-Some-least.next in
    let at = (goal.at.push-requires-in-Some-least-2 c).In-Some-least in
    let fits : length ((path ++ here ∷ []) ++ next ∷ []) ≤ 32 =
    search_capacity c.args.rows.now c.args.source c.args.targets c.loop-here.fresh path here (searching at) next
    c.in-Some-least.ensures.some.0 (next_is at).1 in
    let long : length c.push-in-Some-least.new.self.items ≡ length (path ++ here ∷ []) = ap length c.push-in-Some-least.ensures.items in
    (omega arith, omega (arith, length-append (path ++ here ∷ []) (next ∷ [])))

pub loop-here-preserved-in-Some-least : goal.loop-here-preserved-in-Some-least
loop-here-preserved-in-Some-least c =
    let next : ℕ = c.in-Some-least.next in
    let at = (goal.at.loop-here-preserved-in-Some-least c).In-Some-least in
    let step : is_bit c.args.rows.now c.in-Some.here next ≡ true =
    subst (λ i. is_bit c.args.rows.now i next ≡ true) c.from.ensures (next_is at).0 in
    rw (c.push-in-Some-least-2.ensures.items, c.push-in-Some-least.ensures.items)
    (search_push c.args.rows.now c.args.source c.args.targets c.loop-here.fresh c.pop.new.self.items c.in-Some.here (searching at) next
    c.minus-fresh.result c.in-Some-least.ensures.some.0 step (next_is at).1
    (λ i. c.minus-fresh.ensures.indices i ∙ ap (λ x. is_set c.loop-here.fresh i && not x) (c.only-in-Some-least.ensures i)))

pub loop-here-preserved : goal.loop-here-preserved
loop-here-preserved c =
    let path : List ℕ = c.pop.new.self.items in
    let here : ℕ = c.in-Some.here in
    let s : Searching c.args.rows.now c.args.source c.args.targets c.loop-here.fresh (path ++ here ∷ []) =
    rw c.in-Some.ensures.items at c.loop-here.invariant in
    search_pop c.args.rows.now c.args.source c.args.targets c.loop-here.fresh path here s (sym c.if-has.ensures)
    (λ b link. false_from_ne_true (is_set c.loop-here.fresh b) (λ new. both_ways _ (c.in_default-least.ensures.none refl b)
    (c.common.ensures b ∙ and_from _ _ (subst (λ i. is_bit c.args.rows.now i b ≡ true) (sym c.from.ensures) link) new)))

pub returns-clause-none : goal.returns-clause-none
returns-clause-none c none =
    let empty : c.loop-here.path.items ≡ [] =
    no_items c.loop-here.path.items (λ some. true≢false (sym (c.in_default.ensures.variant.1 some))) in
    search_none c.args.rows.now c.args.source c.args.targets c.loop-here.fresh
    (subst (λ path. Searching c.args.rows.now c.args.source c.args.targets c.loop-here.fresh path) empty c.loop-here.invariant)
