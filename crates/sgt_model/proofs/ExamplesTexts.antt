-- A worked example over a text of the procedure language: its trace, its run at once, and a history of two transactions of it.
use Rattle.std.specs.Prelude.{◌≡◌, pos, List, [], ◌∷◌, Some, None, refl}
use Rattle.std.proofs.Common.{inl, inr}
use Rattle.sgt_model.specs.declared.event.Event.TheVariants.{Start, Step, Commit}
use Rattle.sgt_model.specs.declared.reply.Reply.TheVariants as reply
use Rattle.sgt_model.specs.declared.entry.Entry.{Entry}
use Rattle.sgt_model.specs.declared.limits.Asks.TheVariants.{AtStep}
use Rattle.sgt_model.specs.Contents.{put_in}
use Rattle.sgt_model.specs.Syntax as text
use Rattle.sgt_model.specs.Syntax.{ProcedureText, num, arg, reg, sum, diff, at_most}
use Rattle.sgt_model.specs.Runs.{Done, Asked, serial}
use Rattle.sgt_model.specs.Traces.{look, put, ended, trace}
use Rattle.sgt_model.specs.Meaning.{run_with}
use Rattle.sgt_model.specs.Executions.{execution}
use Rattle.sgt_model.specs.Values.{settled}
use Rattle.sgt_model.specs.Configurations.{Configuration, configuration}
use Rattle.sgt_model.specs.Legality.{Legal}
use Rattle.sgt_model.proofs.Computed.{◌▸◌, made_by, commits_by, waits_by}
use Rattle.sgt_model.proofs.ExampleConfigurations.{opening, entry}

-- draw the amount, the second argument, from the checking of a customer, the first: if it is at most what is there, and
-- else nothing; answer what was drawn. The write and the answer come after the If
abbrev pub draw : ProcedureText
draw = record {
  args = 2;
  body =
      text.look 0 2 (arg 0) 5
      (text.choose (at_most (arg 1) (reg 0)) (text.save 1 (diff (reg 0) (arg 1)) text.empty) (text.save 1 (reg 0) text.empty)
      (text.put 2 (arg 0) (reg 1)
      (text.answer (diff (reg 0) (reg 1))
      text.empty)));
}

-- all that is there may be drawn
draws_all-trace : trace (run_with draw (pos 101 ∷ pos 1000 ∷ [])) (Some (pos 1000) ∷ [])
    ≡ record { accesses = look (2, pos 101) ∷ put (2, pos 101) (Some (pos 0)) ∷ []; ending = ended (pos 1000 ∷ []) }
draws_all-trace = refl

draws_all-serial : serial (run_with draw (pos 101 ∷ pos 1000 ∷ [])) opening ≡ Done (pos 1000 ∷ []) (put_in opening (2, pos 101) (pos 0))
draws_all-serial = refl

draws_all-execution : execution draw (pos 101 ∷ pos 1000 ∷ []) opening ≡ Done (pos 1000 ∷ []) (put_in opening (2, pos 101) (pos 0))
draws_all-execution = refl

-- if the amount is more than is there, nothing is drawn
draws_nothing-trace : trace (run_with draw (pos 101 ∷ pos 1001 ∷ [])) (Some (pos 1000) ∷ [])
    ≡ record { accesses = look (2, pos 101) ∷ put (2, pos 101) (Some (pos 1000)) ∷ []; ending = ended (pos 0 ∷ []) }
draws_nothing-trace = refl

draws_nothing-serial : serial (run_with draw (pos 101 ∷ pos 1001 ∷ [])) opening ≡ Done (pos 0 ∷ []) (put_in opening (2, pos 101) (pos 1000))
draws_nothing-serial = refl

draws_nothing-execution : execution draw (pos 101 ∷ pos 1001 ∷ []) opening ≡ Done (pos 0 ∷ []) (put_in opening (2, pos 101) (pos 1000))
draws_nothing-execution = refl

-- if there is no checking, nothing after the read is done
draws_nowhere-execution : execution draw (pos 103 ∷ pos 1 ∷ []) opening ≡ Asked 5
draws_nowhere-execution = refl

-- count: write and answer one more than what a record holds, or one more than the argument if the record does not exist
abbrev pub count : ProcedureText
count = record {
  args = 1;
  body =
      text.find 0 3 (num (pos 7)) (arg 0)
      (text.put 3 (num (pos 7)) (sum (reg 0) (num (pos 1)))
      (text.answer (sum (reg 0) (num (pos 1)))
      text.empty));
}

-- if there is none, a read is made and no code is raised
counts_none-trace : trace (run_with count (pos 40 ∷ [])) (None ∷ [])
    ≡ record { accesses = look (3, pos 7) ∷ put (3, pos 7) (Some (pos 41)) ∷ []; ending = ended (pos 41 ∷ []) }
counts_none-trace = refl

counts_none-execution : execution count (pos 40 ∷ []) opening ≡ Done (pos 41 ∷ []) (put_in opening (3, pos 7) (pos 41))
counts_none-execution = refl

-- if there is one, it counts, and the argument does not
counts_on-execution : execution count (pos 40 ∷ []) (put_in opening (3, pos 7) (pos 8))
    ≡ Done (pos 9 ∷ []) (put_in (put_in opening (3, pos 7) (pos 8)) (3, pos 7) (pos 9))
counts_on-execution = refl

-- a write is read by the procedure itself, before any other transaction sees it
abbrev pub put_and_look : ProcedureText
put_and_look = record {
  args = 0;
  body = text.put 3 (num (pos 7)) (num (pos 4)) (text.look 0 3 (num (pos 7)) 6 (text.answer (reg 0) text.empty));
}

put_and_look-serial : serial (run_with put_and_look []) opening ≡ Done (pos 4 ∷ []) (put_in opening (3, pos 7) (pos 4))
put_and_look-serial = refl

put_and_look-execution : execution put_and_look [] opening ≡ Done (pos 4 ∷ []) (put_in opening (3, pos 7) (pos 4))
put_and_look-execution = refl

-- the configuration of this one procedure
abbrev pub drawing : Configuration
drawing = configuration opening (draw ∷ []) (record { live = 8; begins = 100; asks = AtStep })

-- two draw from one checking: the second reads what the first has left, and waits for it
abbrev pub two_draw : List Entry
two_draw =
    entry (Commit 1) (reply.Committed (pos 0 ∷ []))
    ∷ entry (Commit 0) (reply.Committed (pos 1000 ∷ []))
    ∷ entry (Step 0) (reply.Ended)
    ∷ entry (Commit 1) (reply.Waits 0)
    ∷ entry (Step 1) (reply.Wrote (2, pos 101) (Some (pos 0)))
    ∷ entry (Step 1) (reply.Looked (2, pos 101) (Some (pos 0)))
    ∷ entry (Step 0) (reply.Wrote (2, pos 101) (Some (pos 0)))
    ∷ entry (Step 0) (reply.Looked (2, pos 101) (Some (pos 1000)))
    ∷ entry (Start 0 (pos 101 ∷ pos 1 ∷ [])) (reply.Started 1)
    ∷ entry (Start 0 (pos 101 ∷ pos 1000 ∷ [])) (reply.Started 0)
    ∷ []

two_draw-legal : Legal drawing two_draw
two_draw-legal =
    tt ▸ refl ▸ refl ▸ inr (made_by (0 ∷ []) refl) ▸ inr (made_by (0 ∷ []) refl) ▸ inr (made_by (1 ∷ []) refl)
    ▸ inr (made_by (1 ∷ []) refl) ▸ inl (waits_by refl) ▸ refl ▸ inr (commits_by refl) ▸ inr (commits_by refl)

two_draw-checking : settled drawing.opening two_draw (2, pos 101) ≡ Some (pos 0)
two_draw-checking = refl
