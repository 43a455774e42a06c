use Rattle.std.proofs.Common.{◌≡◌, ℕ, Option, Some, None, refl, arith}
use Rattle.std.proofs.lemmas.Option.{slice_get_within}
use Rattle.sgt_classes.specs.Tables.{entry_of}
use Rattle.sgt_classes.proofs.serial.Waits.first_left.Goals as goal

pub returns-clause-none : goal.returns-clause-none
returns-clause-none c none t = go (entry_of c.args.self.now.left t) refl
  where
    go : (o : Option ℕ) → entry_of c.args.self.now.left t ≡ o → entry_of c.args.self.now.left t ≡ None
    go None is = is
    go (Some p) is =
        let does = c.requires t p is in
        c.loop-place.invariant p _ (omega (arith, slice_get_within c.args.history.now p _ does, c.loop-place-test.false)) does
