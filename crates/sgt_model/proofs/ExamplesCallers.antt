-- Worked examples of accesses on which callers decide: write skew, a removal, what the replay makes of them, and wrong replies.
use Rattle.std.specs.Prelude.{◌≡◌, ℤ, ◌-ℤ◌, pos, Bool, false, List, [], ◌∷◌, map, Option, Some, None, refl}
use Rattle.sgt_model.specs.Accesses as accesses
use Rattle.sgt_model.specs.Callers.{Caller, Decides, Turn, Turns, callers_in_turn}
use Rattle.std.proofs.Common.{inl, inr, ap}
use Rattle.std.proofs.lemmas.Bool.{true≢false}
use Rattle.std.specs.Ordering.{int_eq}
use Rattle.sgt_model.specs.declared.event.Event.TheVariants.{Start, Access, Commit, Quit}
use Rattle.sgt_model.specs.declared.event.Request.TheVariants.{Read, Write}
use Rattle.sgt_model.specs.declared.reply.Reply.{Reply}
use Rattle.sgt_model.specs.declared.reply.Reply.TheVariants as reply
use Rattle.sgt_model.specs.declared.reply.Cause.TheVariants as cause
use Rattle.sgt_model.specs.declared.entry.Entry.{Entry}
use Rattle.sgt_model.specs.Runs.{Asked, reported, wrote}
use Rattle.sgt_model.specs.Configurations.{Configuration}
use Rattle.sgt_model.specs.Values.{settled}
use Rattle.sgt_model.specs.Legality.{Legal, LegalReply}
use Rattle.sgt_model.specs.Progress.{Call, outcome_in}
use Rattle.sgt_model.specs.Replay.{GaveAnswers, reported_calls, folded}
use Rattle.sgt_model.proofs.Computed.{◌▸◌, made_by, refused_by, aborts_by, commits_by, waits_by}
use Rattle.sgt_model.proofs.ExampleConfigurations.{small_bank_with, opening, entry}

abbrev pub small_bank_begin : Configuration
small_bank_begin = small_bank_with opening []

-- 0 and 1 read two records; each is about to write one of them
abbrev pub both_read : List Entry
both_read =
    entry (Access 1 (Read (2, pos 102))) (reply.Looked (2, pos 102) (Some (pos 200)))
    ∷ entry (Access 1 (Read (2, pos 101))) (reply.Looked (2, pos 101) (Some (pos 1000)))
    ∷ entry (Access 0 (Read (2, pos 102))) (reply.Looked (2, pos 102) (Some (pos 200)))
    ∷ entry (Access 0 (Read (2, pos 101))) (reply.Looked (2, pos 101) (Some (pos 1000)))
    ∷ entry (Start 65535 []) (reply.Started 1)
    ∷ entry (Start 65535 []) (reply.Started 0)
    ∷ []

-- the second write would close a cycle; a record that does not exist is read as none
abbrev pub write_skew : List Entry
write_skew =
    entry (Commit 0) (reply.Committed [])
    ∷ entry (Access 0 (Read (3, pos 9))) (reply.Looked (3, pos 9) None)
    ∷ entry (Access 1 (Write (2, pos 102) (Some (pos 0)))) (reply.Aborted (cause.Cycle (1 ∷ 0 ∷ [])) [])
    ∷ entry (Access 0 (Write (2, pos 101) (Some (pos 800)))) (reply.Wrote (2, pos 101) (Some (pos 800)))
    ∷ both_read

both_read-legal : Legal small_bank_begin both_read
both_read-legal =
    tt ▸ refl ▸ refl ▸ inr (made_by (0 ∷ []) refl) ▸ inr (made_by (0 ∷ []) refl) ▸ inr (made_by (1 ∷ []) refl)
    ▸ inr (made_by (1 ∷ []) refl)

write_skew-legal : Legal small_bank_begin write_skew
write_skew-legal =
    both_read-legal ▸ inr (made_by (0 ∷ []) refl) ▸ inl (refused_by (0 ∷ []) [] [] (1 ∷ []) refl refl refl refl)
    ▸ inr (made_by (0 ∷ []) refl) ▸ inr (commits_by refl)

-- the call that is run again, with its caller's accesses
abbrev pub the_call : Call
the_call = record {
  procedure = 65535;
  args = [];
  caller_accesses = reported (3, pos 9) None ∷ wrote (2, pos 101) (Some (pos 800)) ∷ reported (2, pos 102) (Some (pos 200))
      ∷ reported (2, pos 101) (Some (pos 1000)) ∷ [];
}

write_skew-calls : reported_calls write_skew ≡ the_call ∷ []
write_skew-calls = refl

write_skew-results : (folded small_bank_begin write_skew).results ≡ GaveAnswers [] ∷ []
write_skew-results = refl

write_skew-last : (folded small_bank_begin write_skew).last (2, pos 101) ≡ Some (pos 800)
write_skew-last = refl

write_skew-settled : settled opening write_skew (2, pos 101) ≡ Some (pos 800)
write_skew-settled = refl

-- a read that had returned anything else would not be replayed
wrongly_reported : outcome_in small_bank_begin.rules (record {
  procedure = 65535;
  args = [];
  caller_accesses = reported (2, pos 101)
      (Some (pos 999)) ∷ [];
}) opening
    ≡ Asked 0
wrongly_reported = refl

-- 0 removes a record, and finds it absent itself; so does 1, before 0 commits
abbrev pub own_removal : List Entry
own_removal =
    entry (Access 1 (Read (2, pos 101))) (reply.Looked (2, pos 101) None)
    ∷ entry (Access 0 (Read (2, pos 101))) (reply.Looked (2, pos 101) None)
    ∷ entry (Access 0 (Write (2, pos 101) None)) (reply.Wrote (2, pos 101) None)
    ∷ entry (Start 65535 []) (reply.Started 1)
    ∷ entry (Start 65535 []) (reply.Started 0)
    ∷ []

own_removal-legal : Legal small_bank_begin own_removal
own_removal-legal = tt ▸ refl ▸ refl ▸ inr (made_by (0 ∷ []) refl) ▸ inr (made_by (0 ∷ []) refl) ▸ inr (made_by (1 ∷ []) refl)

-- so 1 waits for 0
abbrev pub removal_commits : List Entry
removal_commits =
    entry (Commit 1) (reply.Committed [])
    ∷ entry (Commit 0) (reply.Committed [])
    ∷ entry (Commit 1) (reply.Waits 0)
    ∷ own_removal

removal_commits-legal : Legal small_bank_begin removal_commits
removal_commits-legal = own_removal-legal ▸ inl (waits_by refl) ▸ inr (commits_by refl) ▸ inr (commits_by refl)

removal_commits-calls : reported_calls removal_commits
    ≡ record { procedure = 65535; args = []; caller_accesses = reported (2, pos 101) None ∷ [] }
    ∷ record { procedure = 65535; args = []; caller_accesses = reported (2, pos 101) None ∷ wrote (2, pos 101) None ∷ [] }
    ∷ []
removal_commits-calls = refl

removal_commits-results : (folded small_bank_begin removal_commits).results ≡ GaveAnswers [] ∷ GaveAnswers [] ∷ []
removal_commits-results = refl

removal_commits-last : (folded small_bank_begin removal_commits).last (2, pos 101) ≡ None
removal_commits-last = refl

removal_commits-settled : settled opening removal_commits (2, pos 101) ≡ None
removal_commits-settled = refl

-- if 0 is aborted, 1 is aborted in cascade, and the record is there
abbrev pub removal_undone : List Entry
removal_undone = entry (Quit 0) (reply.Aborted cause.Quit (1 ∷ [])) ∷ own_removal

removal_undone-legal : Legal small_bank_begin removal_undone
removal_undone-legal = own_removal-legal ▸ aborts_by (1 ∷ []) ((1 ∷ []) ∷ []) (0 ∷ 1 ∷ []) refl refl refl

removal_undone-settled : settled opening removal_undone (2, pos 101) ≡ Some (pos 1000)
removal_undone-settled = refl

-- wrong replies: a value that is not there, or that was removed; an access in the middle of a procedure; a write of what is no
-- value

abbrev reports : Reply → ℤ → Bool
reports (reply.Looked k (Some v)) w = int_eq v w
reports _ w = false

not_that_value : LegalReply small_bank_begin both_read (Access 0 (Read (2, pos 101))) (reply.Looked (2, pos 101) (Some (pos 999))) → ⊥
not_that_value (inl h) = cc h.aborts.is
not_that_value (inr h) = true≢false (ap (λ r. reports r (pos 999)) h.is)

not_removed_value : LegalReply small_bank_begin own_removal (Access 0 (Read (2, pos 101))) (reply.Looked (2, pos 101) (Some (pos 1000))) → ⊥
not_removed_value (inl h) = cc h.aborts.is
not_removed_value (inr h) = true≢false (ap (λ r. reports r (pos 1000)) h.is)

not_in_the_middle : LegalReply small_bank_begin (entry (Start 0 (pos 1 ∷ [])) (reply.Started 0) ∷ [])
    (Access 0 (Read (2, pos 101))) (reply.Looked (2, pos 101) (Some (pos 1000))) → ⊥
not_in_the_middle h = cc h

not_a_value : LegalReply small_bank_begin both_read (Access 0 (Write (2, pos 101) (Some (pos 1000000000000000))))
    (reply.Wrote (2, pos 101) (Some (pos 1000000000000000))) → ⊥
not_a_value h = cc h

-- 0's caller is a function: it reads two records, takes 200 from the first, and requests a third

abbrev less_200 : Option ℤ → ℤ
less_200 (Some v) = v -ℤ pos 200
less_200 None = pos 0

abbrev taker : Caller
taker [] = Some (Read (2, pos 101))
taker (a ∷ []) = Some (Read (2, pos 102))
taker (b ∷ a ∷ []) = Some (Write (2, pos 101) (Some (less_200 a.value)))
taker (w ∷ b ∷ a ∷ []) = Some (Read (3, pos 9))
taker (c ∷ w ∷ b ∷ a ∷ l) = None

write_skew-decides : Decides taker 0 write_skew
write_skew-decides =
    tt ▸ tt ▸ tt ▸ (λ z. refl) ▸ (λ z. refl) ▸ (λ z. absurd (cc z)) ▸ (λ z. absurd (cc z)) ▸ (λ z. refl) ▸ tt ▸ (λ z. refl) ▸ (λ z. refl)

-- it runs alone

abbrev taker_alone : Turns
taker_alone = callers_in_turn small_bank_begin (λ t. taker) 10 write_skew

taker_alone-reads : map (λ (r : Turn). map (λ (a : accesses.Access). a.value) r.acts) taker_alone.turns
    ≡ (None ∷ Some (pos 800) ∷ Some (pos 200) ∷ Some (pos 1000) ∷ []) ∷ []
taker_alone-reads = refl

taker_alone-last : taker_alone.last (2, pos 101) ≡ Some (pos 800)
taker_alone-last = refl

-- a function that requests more is not the caller of a transaction that committed
abbrev never_done : Caller
never_done l = Some (Read (2, pos 101))

not_never_done : Decides never_done 0 write_skew → ⊥
not_never_done h = cc (h.1 refl)
