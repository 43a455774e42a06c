-- Commit order keeps real time.
use Rattle.std.specs.Prelude.{◌≢◌, ℕ, List}
use Rattle.std.proofs.Common.{inl, inr, arith}
use Rattle.sgt_model.specs.declared.entry.Entry.{Entry}
use Rattle.sgt_model.specs.Contents.{Key}
use Rattle.sgt_model.specs.CommitOrder.{CommitsBefore}
use Rattle.sgt_model.specs.Configurations.{Configuration}
use Rattle.sgt_model.specs.Legality.{Legal}
use Rattle.sgt_model.specs.Laws.{CommitsAlwaysInOrder, CommitsAlwaysInLine}
use Rattle.sgt_classes.specs.declared.operation.Action.TheVariants as action
use Rattle.sgt_classes.specs.Serializability.{Commits}
use Rattle.sgt_classes.specs.Equivalence.{IsWhollyBefore, serial_history}
use Rattle.sgt_classes.proofs.SerialRuns.{order_before}
use Rattle.sgt_classes.proofs.EdgeDecisions.{serial_order_enough}
use Rattle.sgt_textbook.specs.Textbook.{textbook, commit_order}
use Rattle.sgt_textbook.proofs.Histories.{commit_committed, commits_in_turn}
use Rattle.sgt_textbook.proofs.SerialOrder.{listed_in_turn, commit_order_serial}
use Rattle.sgt_textbook.specs.Laws.{CommitOrdersKeepRealTime, AreStrictlySerializable}

-- who did all before another did anything commits first
commits_first : CommitsAlwaysInLine → (number : Key → ℕ) (s : Configuration) (past : List Entry) → Legal s past → (t u : ℕ) → t ≢ u
    → (first : Commits (textbook number past) t) → (second : Commits (textbook number past) u)
    → IsWhollyBefore (textbook number past) t u → CommitsBefore past t u
commits_first in_line number s past h t u apart (i, ti) (j, uj) wholly =
    elim ((in_line s past h).total t u apart (commit_committed number s past h i t ti) (commit_committed number s past h j u uj)) [
      | inl b ↦ b
      | inr b ↦ let (k, less, uk) = commits_in_turn in_line number s past h u t i b ti in
          let more = wholly i k action.Commit action.Commit ti uk in absurd (omega arith)
    ]

pub orders_keep_real_time : CommitsAlwaysInOrder → CommitsAlwaysInLine → CommitOrdersKeepRealTime
orders_keep_real_time in_order in_line number injective s past h =
    let serial = commit_order_serial in_order in_line number injective s past h in record {
      run = (serial_order_enough _ _ serial).1;
      real_time = λ t u apart ct cu wholly.
          let m = (serial.are_committed t).0 ct in
          let n = (serial.are_committed u).0 cu in
          order_before (textbook number past) (commit_order past) m.0 n.0 t u serial.once
          (listed_in_turn in_line number s past h m.0 n.0 t u (commits_first in_line number s past h t u apart ct cu wholly) m.1
          n.1) m.1 n.1;
    }

pub are_strictly_serializable : CommitsAlwaysInOrder → CommitsAlwaysInLine → AreStrictlySerializable
are_strictly_serializable in_order in_line number injective s past h =
    (serial_history (textbook number past) (commit_order past), orders_keep_real_time in_order in_line number injective s past h)
