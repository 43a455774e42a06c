use Rattle.std.proofs.Common.{rules, ◌≡◌, ◌≢◌, [], ◌++◌, Some, None, sym, subst}
use Rattle.sgt_access.specs.Masks.{Covers, StandsFor, IsLeaving, Holds}
use Rattle.sgt_model.specs.AccessList.{forgotten, is_listed}
use Rattle.sgt_access.proofs.Counts.{stands_back}
use Rattle.sgt_access.proofs.Held.{both_forgotten, forgotten_none, held_cleared, held_idle, held_kept, left_of, none_of_both}
use Rattle.sgt_access.proofs.Reordered.{leaving_same}
use Rattle.sgt_access.proofs.known.remove_all.Goals as goal

pub returns-then-eq : goal.returns-then-eq
returns-then-eq c list held =
    let is : c.args.known.now.only ≡ Some c.in-Some.only = search rules in
    let same : c.in-Some.only ≡ c.args.t = search rules in
    rw (c.clear.ensures.items, is, same) (held_cleared c.args.t list c.args.known.now.masks c.args.accesses.now.items c.args.lists.now
    (rw (sym same, sym is) held))

pub returns-else-eq : goal.returns-else-eq
returns-else-eq c list held =
    let is : c.args.known.now.only ≡ Some c.in-Some.only = search rules in
    let apart : c.in-Some.only ≢ c.args.t = search rules in
    subst (λ o. Holds (forgotten c.args.t list) o c.args.known.now.masks c.args.accesses.now.items c.args.lists.now) (sym is)
    (held_kept c.in-Some.only c.args.t list c.args.known.now.masks c.args.accesses.now.items c.args.lists.now apart
    (subst (λ o. Holds list o c.args.known.now.masks c.args.accesses.now.items c.args.lists.now) is held))

pub returns-then-is_idle : goal.returns-then-is_idle
returns-then-is_idle c list held =
    let is : c.args.known.now.only ≡ None = search rules in
    let held' = subst (λ o. Holds list o c.args.known.now.masks c.args.accesses.now.items c.args.lists.now) is held in
    let stands = both_forgotten list c.args.accesses.now.items c.args.lists.now c.take_out-2.new.accesses.items c.take_out.new.self c.args.t
    held.stands c.take_out-2.ensures.others c.take_out.ensures.others c.take_out-2.ensures.none c.take_out.ensures.none in
    let covers = c.free.ensures c.args.t (forgotten c.args.t list)
    (left_of c.args.known.now.masks c.take_out.new.masks c.take_out-2.new.masks c.args.t c.places_of-places.result list c.args.accesses.now.items
    c.args.lists.now c.take_out-2.new.accesses.items c.take_out.new.self held.stands stands
    (c.places_of-places.ensures list held'.knows) c.take_out.ensures.leaving c.take_out-2.ensures.leaving)
    (forgotten_none list (c.take_out-2.new.accesses.items ++ c.take_out.new.self) c.args.t stands
    (none_of_both c.take_out-2.new.accesses.items c.take_out.new.self c.args.t c.take_out-2.ensures.none c.take_out.ensures.none)) in
    held_idle c.args.t (forgotten c.args.t list) c.free.new.self c.take_out-2.new.accesses.items c.take_out.new.self stands
    (c.is_idle.ensures c.if-is_idle.true (forgotten c.args.t list) covers) covers

pub returns-else-is_idle : goal.returns-else-is_idle
returns-else-is_idle c list held =
    let is : c.args.known.now.only ≡ None = search rules in
    let held' = subst (λ o. Holds list o c.args.known.now.masks c.args.accesses.now.items c.args.lists.now) is held in
    let stands = both_forgotten list c.args.accesses.now.items c.args.lists.now c.take_out-2.new.accesses.items c.take_out.new.self c.args.t
    held.stands c.take_out-2.ensures.others c.take_out.ensures.others c.take_out-2.ensures.none c.take_out.ensures.none in
    let covers = c.free.ensures c.args.t (forgotten c.args.t list)
    (left_of c.args.known.now.masks c.take_out.new.masks c.take_out-2.new.masks c.args.t c.places_of-places.result list c.args.accesses.now.items
    c.args.lists.now c.take_out-2.new.accesses.items c.take_out.new.self held.stands stands
    (c.places_of-places.ensures list held'.knows) c.take_out.ensures.leaving c.take_out-2.ensures.leaving)
    (forgotten_none list (c.take_out-2.new.accesses.items ++ c.take_out.new.self) c.args.t stands
    (none_of_both c.take_out-2.new.accesses.items c.take_out.new.self c.args.t c.take_out-2.ensures.none c.take_out.ensures.none)) in
    subst (λ o. Holds (forgotten c.args.t list) o c.free.new.self c.take_out-2.new.accesses.items c.take_out.new.self) (sym is)
    (record { stands = stands; knows = covers; alone = λ some. absurd (cc) })
