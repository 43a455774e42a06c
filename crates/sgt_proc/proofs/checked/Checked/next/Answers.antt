use Rattle.std.proofs.Common.{arith, subst, None}
use Rattle.sgt_model.specs.Traces.{Ends, Raises}
use Rattle.sgt_proc.specs.declared.next.Next.TheVariants.{Look}
use Rattle.sgt_proc.specs.Nexts.{seen}
use Rattle.sgt_proc.specs.Flaws.{IsFlawless}
use Rattle.sgt_proc.proofs.Fews.{few_made}
use Rattle.sgt_proc.proofs.Passed.{HasPassed, look_passed, store_passed, next_following, next_stays_on, look_stays}
use Rattle.sgt_proc.proofs.checked.Checked.next.Goals as goal
use Rattle.sgt_proc.proofs.checked.Checked.next.Goals.{in-Look+else-used-read, in-Put}

pub returns-then-used-read-clause-next : goal.returns-then-used-read-clause-next
returns-then-used-read-clause-next c =
    look_stays c.args.self.now c.args.args.now c.args.read.now c.loop.used c.loop.counter c.loop.cursor c.loop.invariant c.in-Look.key
    c.args.made c.in-Look.ensures.next (omega (arith, c.if-used-read.true)) (omega (arith, c.loop-test.true))

pub returns-then-used-read-clause-few : goal.returns-then-used-read-clause-few
returns-then-used-read-clause-few c = few_made c.args.self.now c.args.args.now c.args.read.now c.args.made (Look c.in-Look.key)
    (subst IsFlawless c.self.view_is c.self.invariant) (returns-then-used-read-clause-next c)

pub returns-in-Ends-clause-next : goal.returns-in-Ends-clause-next
returns-in-Ends-clause-next c =
    next_stays_on c.args.self.now c.args.args.now c.args.read.now c.loop.used c.loop.counter c.loop.cursor c.loop.invariant
    (Ends c.in-Ends.answers) c.args.made c.in-Ends.ensures.next tt (omega (arith, c.loop-test.true))

pub returns-in-Asks-clause-next : goal.returns-in-Asks-clause-next
returns-in-Asks-clause-next c =
    next_stays_on c.args.self.now c.args.args.now c.args.read.now c.loop.used c.loop.counter c.loop.cursor c.loop.invariant
    (Raises c.in-Asks.code) c.args.made c.in-Asks.ensures.next tt (omega (arith, c.loop-test.true))

pub loop-preserved : goal.loop-preserved
loop-preserved c = elim c.match-next.branch [
  | in-Look+else-used-read w ↦ rw (w.used-is, w.cursor-is, w.looked.ensures) (look_passed c.args.self.now c.args.args.now c.args.read.now
      c.loop.used c.loop.counter c.loop.cursor c.loop.invariant w.in-Look.key None w.in-Look.ensures.next
      (omega (arith, w.if-used-read.false, c.loop.invariant.few)))
  | in-Put w ↦ rw (w.used-is, w.cursor-is, w.stored.ensures) (store_passed c.args.self.now c.args.args.now c.args.read.now
      c.loop.used c.loop.counter c.loop.cursor c.loop.invariant w.in-Put.field-0 w.in-Put.field-1 w.in-Put.ensures.next)
]

pub returns-clause-next : goal.returns-clause-next
returns-clause-next c =
    next_following c.args.self.now c.args.args.now c.args.read.now c.loop.used c.args.made c.loop.cursor
    (subst (λ i. HasPassed c.args.self.now c.args.args.now c.args.read.now c.loop.used i c.loop.cursor)
    (omega (arith, c.loop-test.false, c.loop.auto.counter-end)) c.loop.invariant)
    (seen c.next-2.result) c.next-2.ensures.next

pub returns-clause-few : goal.returns-clause-few
returns-clause-few c = few_made c.args.self.now c.args.args.now c.args.read.now c.args.made c.next-2.result
    (subst IsFlawless c.self.view_is c.self.invariant) (returns-clause-next c)
