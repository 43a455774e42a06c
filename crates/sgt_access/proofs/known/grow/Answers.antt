use Rattle.std.proofs.Common.{◌≡◌, sym, subst, ◌∙◌}
use Rattle.sgt_access.specs.Masks.{Holds}
use Rattle.sgt_access.proofs.known.grow.Goals as goal

pub returns-in_err-prepare-clause-known : goal.returns-in_err-prepare-clause-known
returns-in_err-prepare-clause-known c list held =
    rw (sym c.as_slice.ensures.value) (c.prepare.ensures list (rw c.as_slice.ensures.value held))

pub returns-in_err-grow-clause-known : goal.returns-in_err-grow-clause-known
returns-in_err-grow-clause-known c list held =
    rw c.grow.ensures (rw (sym c.as_slice.ensures.value) (c.prepare.ensures list (rw c.as_slice.ensures.value held)))

pub returns-in_err-reserve-clause-known : goal.returns-in_err-reserve-clause-known
returns-in_err-reserve-clause-known c list held =
    rw (c.grow.ensures, c.reserve.ensures.items) (rw (sym c.as_slice.ensures.value) (c.prepare.ensures list (rw c.as_slice.ensures.value held)))

pub returns-clause-known : goal.returns-clause-known
returns-clause-known c list held =
    rw (c.grow.ensures, c.reserve.ensures.items) (rw (sym c.as_slice.ensures.value) (c.prepare.ensures list (rw c.as_slice.ensures.value held)))
