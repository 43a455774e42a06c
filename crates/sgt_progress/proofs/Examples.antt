-- Worked histories: the definitions by computing.
use Rattle.std.specs.Prelude.{◌≡◌, ◌+◌, pos, List, [], ◌∷◌, length, map, Some, None}
use Rattle.std.proofs.Common.{refl, inl, inr}
use Rattle.sgt_model.specs.declared.event.Event.TheVariants.{Start, Step, Access, Commit, Quit}
use Rattle.sgt_model.specs.declared.event.Request.TheVariants.{Read, Write}
use Rattle.sgt_model.specs.declared.reply.Reply.TheVariants as reply
use Rattle.sgt_model.specs.declared.reply.Cause.TheVariants as cause
use Rattle.sgt_model.specs.declared.entry.Entry.{Entry}
use Rattle.sgt_model.specs.declared.kind.Kind.TheVariants.{Store}
use Rattle.sgt_model.specs.Fates.{live_ones}
use Rattle.sgt_model.specs.Replay.{reported_calls}
use Rattle.sgt_model.specs.Legality.{Legal, LegalReply}
use Rattle.sgt_model.proofs.Computed.{◌▸◌, made_by, aborts_by, refused_by, commits_by}
use Rattle.sgt_model.proofs.ExamplesCallers.{small_bank_begin, both_read, write_skew}
use Rattle.sgt_model.proofs.ExampleConfigurations.{small_bank, entry, small_bank_look_twice}
use Rattle.sgt_model.proofs.ExamplesReads.{dirty_reader, dirty_read, dirty_read_waits, looked_before}
use Rattle.sgt_progress.specs.Moves.{next_event}
use Rattle.sgt_progress.specs.Drains.{accesses_left, events_left, moves, requests_made}
use Rattle.sgt_progress.specs.GivenCalls.{given_of, given_calls}
use Rattle.sgt_progress.specs.Needed.{AccessAt}
use Rattle.sgt_progress.specs.RealTime.{reported_ones, EndsBeforeStart}

-- 1 has an access left and its end, 0 its end
one_left : accesses_left (small_bank 8 100) dirty_reader 1 ≡ 1
one_left = refl

three_events : events_left (small_bank 8 100) dirty_reader ≡ 3
three_events = refl

two_events : events_left (small_bank 8 100) dirty_read ≡ 2
two_events = refl

no_events : events_left (small_bank 8 100) dirty_read_waits ≡ 0
no_events = refl

step_next : next_event (small_bank 8 100) dirty_reader 1 ≡ Step 1
step_next = refl

commit_next : next_event (small_bank 8 100) dirty_read 1 ≡ Commit 1
commit_next = refl

-- six accesses and two commits; the wait does not count
eight_moves : moves dirty_read_waits ≡ 8
eight_moves = refl

-- the end of 0 was reported before that of 1, though both had been started; before 2 both ended
reported_in_turn : reported_ones dirty_read_waits ≡ 1 ∷ 0 ∷ []
reported_in_turn = refl

then_another : EndsBeforeStart (entry (Start 0 (pos 1 ∷ [])) (reply.Started 2) ∷ dirty_read_waits) 0 2
then_another = inl (refl, inr (inl refl))

-- a drain in as many events as the bound says
abbrev pub drained : List Entry
drained =
    entry (Commit 1) (reply.Committed (pos 1600 ∷ []))
    ∷ entry (Commit 0) (reply.Committed (pos 1100 ∷ []))
    ∷ entry (Step 1) (reply.Looked (2, pos 101) (Some (pos 1100)))
    ∷ dirty_reader

drained-legal : Legal (small_bank 8 100) drained
drained-legal =
    tt ▸ refl ▸ inr (made_by (0 ∷ []) refl) ▸ inr (made_by (0 ∷ []) refl) ▸ inr (made_by (0 ∷ []) refl) ▸ refl
    ▸ inr (made_by (1 ∷ []) refl) ▸ inr (made_by (1 ∷ []) refl) ▸ inr (made_by (1 ∷ []) refl)
    ▸ inr (commits_by refl) ▸ inr (commits_by refl)

none_live : live_ones drained ≡ []
none_live = refl

in_three : length drained ≡ events_left (small_bank 8 100) dirty_reader + length dirty_reader
in_three = refl

-- 0's second read is rejected. Had 1 been aborted in its place, that read would have been made: so fewest aborts is no law
rejected : LegalReply small_bank_look_twice looked_before (Step 0) (reply.Aborted (cause.Cycle (0 ∷ 1 ∷ [])) [])
rejected = inl (refused_by (1 ∷ []) [] [] (0 ∷ []) refl refl refl refl)

abbrev pub other_aborted : List Entry
other_aborted =
    entry (Step 0) (reply.Looked (2, pos 101) (Some (pos 1000)))
    ∷ entry (Quit 1) (reply.Aborted cause.Quit [])
    ∷ looked_before

other_aborted-legal : Legal small_bank_look_twice other_aborted
other_aborted-legal =
    tt ▸ refl ▸ inr (made_by (0 ∷ []) refl) ▸ refl ▸ inr (made_by (1 ∷ []) refl) ▸ inr (made_by (1 ∷ []) refl)
    ▸ inr (made_by (1 ∷ []) refl) ▸ aborts_by [] [] (1 ∷ []) refl refl refl ▸ inr (made_by (0 ∷ []) refl)

-- ---- accesses on which callers decide

-- 0 and 1 began with the empty procedure, and have read what they wanted: only their commits are left, whatever they still want
two_commits : events_left small_bank_begin both_read ≡ 2
two_commits = refl

then_commits : next_event small_bank_begin both_read 0 ≡ Commit 0
then_commits = refl

-- these accesses move their transactions, and they are counted apart, for a caller may go on
four_moves : moves both_read ≡ 4
four_moves = refl

four_requests : requests_made both_read ≡ 4
four_requests = refl

-- 1's write would close a cycle once 0 has written: it is rejected, as a procedure's would be
abbrev pub one_wrote : List Entry
one_wrote = entry (Access 0 (Write (2, pos 101) (Some (pos 800)))) (reply.Wrote (2, pos 101) (Some (pos 800))) ∷ both_read

rejected_write : AccessAt small_bank_begin one_wrote (Access 1 (Write (2, pos 102) (Some (pos 0)))) 1 (2, pos 102) Store
    (reply.Aborted (cause.Cycle (1 ∷ 0 ∷ [])) []) (entry (Access 1 (Write (2, pos 102) (Some (pos 0))))
    (reply.Wrote (2, pos 102) (Some (pos 0))))
rejected_write = record {
  is_live = refl;
  asks = (refl, record { answers = []; end = refl; fit = refl }, (refl, refl));
  legal = inl (refused_by (0 ∷ []) [] [] (1 ∷ []) refl refl refl refl);
  makes = (refl, refl, refl);
}

-- the one committed call is requested again of a new engine: its reads return the same values. An access that is
-- requested too early is turned away, and is none
abbrev pub skew_again : List Entry
skew_again =
    entry (Commit 0) (reply.Committed [])
    ∷ entry (Access 0 (Read (3, pos 9))) (reply.Looked (3, pos 9) None)
    ∷ entry (Access 0 (Write (2, pos 101) (Some (pos 800)))) (reply.Wrote (2, pos 101) (Some (pos 800)))
    ∷ entry (Access 0 (Read (2, pos 102))) (reply.Looked (2, pos 102) (Some (pos 200)))
    ∷ entry (Access 0 (Read (2, pos 101))) (reply.Looked (2, pos 101) (Some (pos 1000)))
    ∷ entry (Start 65535 []) (reply.Started 0)
    ∷ entry (Access 0 (Read (2, pos 101))) reply.Unknown
    ∷ []

skew_again-legal : Legal small_bank_begin skew_again
skew_again-legal =
    tt ▸ refl ▸ refl ▸ inr (made_by (0 ∷ []) refl) ▸ inr (made_by (0 ∷ []) refl) ▸ inr (made_by (0 ∷ []) refl)
    ▸ inr (made_by (0 ∷ []) refl) ▸ inr (commits_by refl)

skew_given : given_calls skew_again ≡ map given_of (reported_calls write_skew)
skew_given = refl

skew_reported : reported_calls skew_again ≡ reported_calls write_skew
skew_reported = refl

skew_none_live : live_ones skew_again ≡ []
skew_none_live = refl

-- a stored procedure, and then its caller: a read is requested in its midst, and again at its end
abbrev pub balance_and_more : List Entry
balance_and_more =
    entry (Access 0 (Read (3, pos 9))) (reply.Looked (3, pos 9) None)
    ∷ entry (Step 0) (reply.Looked (2, pos 101) (Some (pos 1000)))
    ∷ entry (Access 0 (Read (3, pos 9))) reply.NotEnded
    ∷ entry (Step 0) (reply.Looked (1, pos 101) (Some (pos 500)))
    ∷ entry (Step 0) (reply.Looked (0, pos 1) (Some (pos 101)))
    ∷ entry (Start 0 (pos 1 ∷ [])) (reply.Started 0)
    ∷ []

balance_and_more-legal : Legal (small_bank 8 100) balance_and_more
balance_and_more-legal =
    tt ▸ refl ▸ inr (made_by (0 ∷ []) refl) ▸ inr (made_by (0 ∷ []) refl) ▸ refl ▸ inr (made_by (0 ∷ []) refl)
    ▸ inr (made_by (0 ∷ []) refl)

one_request : given_calls balance_and_more ≡ record { procedure = 0; args = pos 1 ∷ []; requests = Read (3, pos 9) ∷ [] } ∷ []
one_request = refl

-- four accesses, one of them its caller's; its commit is left
four_of_five : moves balance_and_more ≡ 4
four_of_five = refl

one_of_four : requests_made balance_and_more ≡ 1
one_of_four = refl

its_commit : events_left (small_bank 8 100) balance_and_more ≡ 1
its_commit = refl
