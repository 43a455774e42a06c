-- Worked examples of codes that are reported at commit. A refusal aborts its readers in cascade and undoes its writes, waits
-- for those that were read from, and is reported in its turn.
use Rattle.std.specs.Prelude.{◌≡◌, pos, List, [], ◌∷◌, Some, None, refl}
use Rattle.std.proofs.Common.{inl, inr}
use Rattle.sgt_model.specs.declared.event.Event.TheVariants.{Start, Step, Commit, Quit}
use Rattle.sgt_model.specs.declared.reply.Reply.TheVariants as reply
use Rattle.sgt_model.specs.declared.reply.Cause.TheVariants as cause
use Rattle.sgt_model.specs.declared.reply.Fate.TheVariants as fate
use Rattle.sgt_model.specs.declared.entry.Entry.{Entry}
use Rattle.sgt_model.specs.declared.limits.Asks.TheVariants.{AtCommit}
use Rattle.sgt_model.specs.Syntax as text
use Rattle.sgt_model.specs.Syntax.{ProcedureText, num, arg, reg, diff, less}
use Rattle.sgt_model.specs.Values.{settled}
use Rattle.sgt_model.specs.Configurations.{Configuration, configuration}
use Rattle.sgt_model.specs.Legality.{Legal}
use Rattle.sgt_model.specs.Replay.{GaveAnswers, RaisedCode, folded, reported}
use Rattle.sgt_model.proofs.Computed.{◌▸◌, made_by, aborts_by, commits_by, waits_by, refuses_by}
use Rattle.sgt_model.proofs.ExampleConfigurations.{opening, entry, read_and_answer}

-- write, and raise a code
abbrev pub put_and_raise : ProcedureText
put_and_raise = record { args = 0; body = text.put 3 (num (pos 7)) (num (pos 4)) (text.ask 9 text.empty) }

-- spend an amount from one checking; raise a code if it has less
abbrev pub spend : ProcedureText
spend = record {
  args = 1;
  body =
      text.look 0 2 (num (pos 101)) 5
      (text.choose (less (reg 0) (arg 0)) (text.ask 3 text.empty) (text.put 2 (num (pos 101)) (diff (reg 0) (arg 0)) text.empty)
      text.empty);
}

-- these, and one that answers what is stored, with codes reported at commit
abbrev pub refusing : Configuration
refusing = configuration opening (put_and_raise ∷ read_and_answer ∷ spend ∷ []) (record { live = 8; begins = 100; asks = AtCommit })

-- a refused transaction aborts its reader in cascade
abbrev pub refusal_takes_reader : List Entry
refusal_takes_reader =
    entry (Commit 0) (reply.Over (fate.Aborted (cause.Asked 9)))
    ∷ entry (Step 1) (reply.Over (fate.Fell 0))
    ∷ entry (Commit 0) (reply.Refused 9 (1 ∷ []))
    ∷ entry (Step 0) (reply.Ended)
    ∷ entry (Step 1) (reply.Looked (3, pos 7) (Some (pos 4)))
    ∷ entry (Step 0) (reply.Wrote (3, pos 7) (Some (pos 4)))
    ∷ entry (Start 1 []) (reply.Started 1)
    ∷ entry (Start 0 []) (reply.Started 0)
    ∷ []

refusal_takes_reader-legal : Legal refusing refusal_takes_reader
refusal_takes_reader-legal =
    tt ▸ refl ▸ refl ▸ inr (made_by (0 ∷ []) refl) ▸ inr (made_by (1 ∷ []) refl) ▸ refl
    ▸ inr (refuses_by (1 ∷ []) ((1 ∷ []) ∷ []) (0 ∷ 1 ∷ []) refl refl refl refl) ▸ refl ▸ refl

-- what it wrote is undone, and alone it raises the same code
refusal_takes_reader-settled : settled refusing.opening refusal_takes_reader (3, pos 7) ≡ None
refusal_takes_reader-settled = refl

refusal_takes_reader-results : (folded refusing refusal_takes_reader).results ≡ RaisedCode 9 ∷ []
refusal_takes_reader-results = refl

-- 0 is live and has spent. 1 has found too little to spend
abbrev pub spent_by_another : List Entry
spent_by_another =
    entry (Step 1) (reply.Looked (2, pos 101) (Some (pos 400)))
    ∷ entry (Start 2 (pos 500 ∷ [])) (reply.Started 1)
    ∷ entry (Step 0) (reply.Wrote (2, pos 101) (Some (pos 400)))
    ∷ entry (Step 0) (reply.Looked (2, pos 101) (Some (pos 1000)))
    ∷ entry (Start 2 (pos 600 ∷ [])) (reply.Started 0)
    ∷ []

-- a transaction that read what is undone is not refused: it is aborted in cascade, and the same call may commit later
abbrev pub falls_and_tries_again : List Entry
falls_and_tries_again =
    entry (Commit 2) (reply.Committed [])
    ∷ entry (Step 2) (reply.Wrote (2, pos 101) (Some (pos 500)))
    ∷ entry (Step 2) (reply.Looked (2, pos 101) (Some (pos 1000)))
    ∷ entry (Start 2 (pos 500 ∷ [])) (reply.Started 2)
    ∷ entry (Quit 0) (reply.Aborted cause.Quit (1 ∷ []))
    ∷ entry (Commit 1) (reply.Waits 0)
    ∷ entry (Step 1) (reply.Ended)
    ∷ spent_by_another

falls_and_tries_again-legal : Legal refusing falls_and_tries_again
falls_and_tries_again-legal =
    tt ▸ refl ▸ inr (made_by (0 ∷ []) refl) ▸ inr (made_by (0 ∷ []) refl) ▸ refl ▸ inr (made_by (1 ∷ []) refl) ▸ refl
    ▸ inl (waits_by refl) ▸ aborts_by (1 ∷ []) ((1 ∷ []) ∷ []) (0 ∷ 1 ∷ []) refl refl refl ▸ refl
    ▸ inr (made_by (2 ∷ []) refl) ▸ inr (made_by (2 ∷ []) refl) ▸ inr (commits_by refl)

falls_and_tries_again-results : (folded refusing falls_and_tries_again).results ≡ GaveAnswers [] ∷ []
falls_and_tries_again-results = refl

-- a transaction that read what was committed then is refused in its turn; in the order of the replies it raises just that code
abbrev pub refused_in_turn : List Entry
refused_in_turn =
    entry (Commit 1) (reply.Refused 3 [])
    ∷ entry (Commit 0) (reply.Committed [])
    ∷ entry (Commit 1) (reply.Waits 0)
    ∷ entry (Step 1) (reply.Ended)
    ∷ spent_by_another

refused_in_turn-legal : Legal refusing refused_in_turn
refused_in_turn-legal =
    tt ▸ refl ▸ inr (made_by (0 ∷ []) refl) ▸ inr (made_by (0 ∷ []) refl) ▸ refl ▸ inr (made_by (1 ∷ []) refl) ▸ refl
    ▸ inl (waits_by refl) ▸ inr (commits_by refl) ▸ inr (refuses_by [] [] (1 ∷ []) refl refl refl refl)

refused_in_turn-reported : reported refused_in_turn ≡ RaisedCode 3 ∷ GaveAnswers [] ∷ []
refused_in_turn-reported = refl

refused_in_turn-results : (folded refusing refused_in_turn).results ≡ RaisedCode 3 ∷ GaveAnswers [] ∷ []
refused_in_turn-results = refl

refused_in_turn-folded : (folded refusing refused_in_turn).last (2, pos 101) ≡ Some (pos 400)
refused_in_turn-folded = refl
