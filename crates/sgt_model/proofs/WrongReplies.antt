-- Replies of wrong engines (mutants), at the worked examples: none of them is legal.
use Rattle.std.specs.Prelude.{◌≡◌, ℕ, ◌<◌, ◌≤◌, ℤ, pos, Bool, true, false, ◌&&◌, ◌⊎◌, List, [], ◌∷◌, Option, Some, None, refl}
use Rattle.std.proofs.Common.{inl, inr, arith, sym, ap, subst}
use Rattle.std.specs.Ordering.{int_eq}
use Rattle.std.proofs.lemmas.Bool.{and_parts, both_ways, true≢false}
use Rattle.sgt_model.specs.declared.event.Event.TheVariants.{Start, Step, Commit, Quit}
use Rattle.sgt_model.specs.declared.reply.Reply.{Reply}
use Rattle.sgt_model.specs.declared.reply.Reply.TheVariants as reply
use Rattle.sgt_model.specs.declared.reply.Cause.{Cause}
use Rattle.sgt_model.specs.declared.reply.Cause.TheVariants as cause
use Rattle.sgt_model.specs.declared.entry.Entry.{Entry}
use Rattle.sgt_model.specs.declared.kind.Kind.{Kind}
use Rattle.sgt_model.specs.declared.kind.Kind.TheVariants.{Look, Store}
use Rattle.sgt_model.specs.Contents.{Key}
use Rattle.sgt_model.specs.Paths.{Member, PathOf, last_of, Rising}
use Rattle.sgt_model.specs.Fates.{live}
use Rattle.sgt_model.specs.Pairs.{Pair, has_conflicting}
use Rattle.sgt_model.specs.Legality.{CycleAbortReply, Makes, MustWait, MayCommit, LegalReply}
use Rattle.sgt_model.proofs.Computed.{pair, pair-so, so-pair, free_test, free-so, closes-so, each-so, all-so}
use Rattle.sgt_model.proofs.ExampleConfigurations.{small_bank, entry, small_bank_put, small_bank_copy, small_bank_twice, small_bank_look_twice, small_bank_put_over, small_bank_read}
use Rattle.sgt_model.proofs.ExamplesReads.{dirty_reader, looked_before, stored_over}
use Rattle.sgt_model.proofs.ExamplesWrites.{early_writer, at_its_end, three_writers, overwritten, two_live_writers}
use Rattle.sgt_model.proofs.ExamplesCascades.{two_levels, ring}
use Rattle.sgt_model.proofs.ExamplesDeepCascades.{three_levels}
use Rattle.sgt_model.proofs.ExamplesStarts.{half_done}
use Rattle.sgt_model.proofs.ExamplesRefusals.{refusing, spent_by_another}

-- an access that closes no cycle is not rejected
not_refused : {past : List Entry} {t : ℕ} {k : Key} {kind : Kind} {why : Cause} {fell : List ℕ} (given : Reply) (set : List ℕ)
    → free_test past t k kind set ≡ true → (given ≡ reply.Aborted why fell → ⊥) → CycleAbortReply past t k kind
    (reply.Aborted why fell) ⊎ Makes past t k kind given (reply.Aborted why fell) → ⊥
not_refused {past} {t} {k} {kind} given set free apart (inl h) = free-so past t k kind set free h.rest h.closes
not_refused {past} {t} {k} {kind} given set free apart (inr h) = apart (sym h.is)

-- a transaction with an edge from a live one does not commit
not_committed : {past : List Entry} {t : ℕ} {answers committed_runs : List ℤ} (u : ℕ) → (live past u && pair past u t) ≡ true
    → MustWait past t (reply.Committed committed_runs) ⊎ MayCommit past t answers (reply.Committed committed_runs) → ⊥
not_committed u h (inl w) = cc w.is
not_committed {past} {t} u h (inr c) = let p = and_parts _ _ h in c.none_live u (record { is_live = p.0; pair = pair-so past u t p.1 })

-- `aborts-on-conflict`: the read of what is not committed closes no cycle
aborts_on_conflict : LegalReply (small_bank 8 100) dirty_reader (Step 1) (reply.Aborted (cause.Cycle (1 ∷ 0 ∷ [])) []) → ⊥
aborts_on_conflict h = not_refused (reply.Looked (2, pos 101) (Some (pos 1100))) (1 ∷ []) refl (λ e. cc e) h

-- `reads-committed`: the read returns the newest value
abbrev reports : Reply → ℤ → Bool
reports (reply.Looked k (Some v)) w = int_eq v w
reports _ w = false

reads_committed : LegalReply (small_bank 8 100) dirty_reader (Step 1) (reply.Looked (2, pos 101) (Some (pos 1000))) → ⊥
reads_committed (inl h) = cc h.aborts.is
reads_committed (inr h) = true≢false (ap (λ r. reports r (pos 1000)) h.is)

-- `commits-at-once`: an earlier reader is still live
commits_at_once : LegalReply (small_bank 8 100) early_writer (Commit 1) (reply.Committed (pos 1050 ∷ [])) → ⊥
commits_at_once h = not_committed 0 refl h

-- `last-writer-only`: the first of three writers is still live, when the second is aborted
last_writer_only : LegalReply small_bank_put three_writers (Commit 2) (reply.Committed []) → ⊥
last_writer_only h = not_committed 0 refl h

-- and it is the first that must be waited for
waits_for_another : LegalReply small_bank_put three_writers (Commit 2) (reply.Waits 1) → ⊥
waits_for_another (inl h) = let b : h.predecessor ≡ 1 = cc h.is in cc (subst (λ u. live three_writers u ≡ true) b h.least.pair.is_live)
waits_for_another (inr h) = cc h.is

-- `before-image`: after the first of two writers is aborted, a read returns what the second wrote
abbrev undone_beneath : List Entry
undone_beneath =
    entry (Start 6 []) (reply.Started 2)
    ∷ entry (Quit 0) (reply.Aborted cause.Quit [])
    ∷ overwritten

before_image : LegalReply small_bank_read undone_beneath (Step 2) (reply.Looked (3, pos 7) None) → ⊥
before_image (inl h) = cc h.aborts.is
before_image (inr h) = cc h.is

-- `overwriters-fall`: a transaction that only wrote over the value is not aborted in cascade
overwriters_fall : LegalReply small_bank_put overwritten (Quit 0) (reply.Aborted cause.Quit (1 ∷ [])) → ⊥
overwriters_fall h =
    let named : h.fell ≡ 1 ∷ [] = cc h.is in
    let fallen = h.falls.each 1 (subst (λ l. Member 1 l) (sym named) (inl refl)) in
    all-so overwritten 0 [] (0 ∷ []) refl 1 fallen.0 fallen.1 fallen.2

-- `direct-readers-only`: a transaction that read from a reader is aborted in cascade too
one_of_two : Member 2 (1 ∷ []) → ⊥
one_of_two (inl e) = omega arith
one_of_two (inr m) = m

direct_readers_only : LegalReply (small_bank 8 100) two_levels (Quit 0) (reply.Aborted cause.Quit (1 ∷ [])) → ⊥
direct_readers_only h =
    let named : h.fell ≡ 1 ∷ [] = cc h.is in
    let fallen = each-so two_levels 0 (1 ∷ 2 ∷ []) ((1 ∷ []) ∷ (1 ∷ 2 ∷ []) ∷ []) refl 2 (inr (inl refl)) in
    one_of_two (subst (λ l. Member 2 l) named (h.falls.all 2 fallen.0 fallen.1 fallen.2))

-- `cached-read`: the second read would close a cycle, whatever it returned
cached_read : (v : Option ℤ) → LegalReply small_bank_look_twice looked_before (Step 0) (reply.Looked (2, pos 101) v) → ⊥
cached_read v (inl h) = cc h.aborts.is
cached_read v (inr h) = h.free (1 ∷ []) (closes-so looked_before 0 (2, pos 101) Look (1 ∷ []) refl)

-- `keeps-committed-places`: a committed transaction does not count as live
abbrev one_committed : List Entry
one_committed =
    entry (Commit 0) (reply.Committed (pos 1500 ∷ []))
    ∷ at_its_end

keeps_committed_places : LegalReply (small_bank 1 2) one_committed (Start 0 (pos 2 ∷ [])) reply.Full → ⊥
keeps_committed_places h = cc h

-- a start past the limit
starts_too_many : LegalReply (small_bank 1 1) one_committed (Start 0 (pos 2 ∷ [])) (reply.Started 1) → ⊥
starts_too_many h = cc h

-- a transaction that read its own write has read from none, whatever value it wrote over
own_readers_fall : LegalReply small_bank_put_over stored_over (Quit 0) (reply.Aborted cause.Quit (1 ∷ [])) → ⊥
own_readers_fall h =
    let named : h.fell ≡ 1 ∷ [] = cc h.is in
    let fallen = h.falls.each 1 (subst (λ l. Member 1 l) (sym named) (inl refl)) in
    all-so stored_over 0 [] (0 ∷ []) refl 1 fallen.0 fallen.1 fallen.2

-- those aborted in cascade are listed rising
falls_out_of_order : LegalReply (small_bank 8 100) two_levels (Quit 0) (reply.Aborted cause.Quit (2 ∷ 1 ∷ [])) → ⊥
falls_out_of_order h =
    let named : h.fell ≡ 2 ∷ 1 ∷ [] = cc h.is in
    let rises : Rising (2 ∷ 1 ∷ []) = subst (λ l. Rising l) named h.falls.rising in
    let less : 2 < 1 = rises.0 in
    omega arith

-- of two live predecessors the least is named
waits_for_the_greater : LegalReply small_bank_put two_live_writers (Commit 2) (reply.Waits 1) → ⊥
waits_for_the_greater (inl h) =
    let named : h.predecessor ≡ 1 = cc h.is in
    let least : h.predecessor ≤ 0 = h.least.least 0 (record { is_live = refl; pair = pair-so two_live_writers 0 2 refl }) in
    omega arith
waits_for_the_greater (inr h) = cc h.is

-- a transaction that is not at its end does not wait, though another wrote before it
waits_before_its_end : LegalReply small_bank_twice half_done (Commit 1) (reply.Waits 0) → ⊥
waits_before_its_end h = cc h

-- the answers are those of the procedure
abbrev answers_with : Reply → ℤ → Bool
answers_with (reply.Committed (v ∷ [])) w = int_eq v w
answers_with _ w = false

wrong_answers : LegalReply (small_bank 8 100) at_its_end (Commit 0) (reply.Committed (pos 1000 ∷ [])) → ⊥
wrong_answers (inl h) = cc h.is
wrong_answers (inr h) = true≢false (ap (λ r. answers_with r (pos 1000)) h.is)

no_answers : LegalReply (small_bank 8 100) at_its_end (Commit 0) (reply.Committed []) → ⊥
no_answers (inl h) = cc h.is
no_answers (inr h) = cc h.is

-- a cycle follows edges, and begins with the transaction that is rejected. Here it is 2, 1, 0
leaves_one_out : LegalReply small_bank_copy ring (Step 2) (reply.Aborted (cause.Cycle (2 ∷ 0 ∷ [])) []) → ⊥
leaves_one_out (inl h) =
    let named : h.rest ≡ 0 ∷ [] = cc h.aborts.is in
    let goes : PathOf (Pair ring) 2 (0 ∷ []) = subst (λ l. PathOf (Pair ring) 2 l) named h.closes.pairs in
    both_ways (pair ring 2 0) refl (so-pair ring 2 0 goes.0)
leaves_one_out (inr h) = cc h.is

ends_too_early : LegalReply small_bank_copy ring (Step 2) (reply.Aborted (cause.Cycle (2 ∷ 1 ∷ [])) []) → ⊥
ends_too_early (inl h) =
    let named : h.rest ≡ 1 ∷ [] = cc h.aborts.is in
    cc (subst (λ l. has_conflicting ring (last_of 2 l) (2, pos 101) Store ≡ true) named h.closes.conflict)
ends_too_early (inr h) = cc h.is

begins_with_another : LegalReply small_bank_copy ring (Step 2) (reply.Aborted (cause.Cycle (1 ∷ 0 ∷ [])) []) → ⊥
begins_with_another (inl h) = cc h.aborts.is
begins_with_another (inr h) = cc h.is

-- all of three levels of readers are aborted in cascade, and no other

-- the readers' readers, and theirs
three_levels_falls : (u : ℕ) → Member u (1 ∷ 2 ∷ 3 ∷ []) → (fell : List ℕ) → LegalReply small_bank_copy three_levels (Quit 0)
    (reply.Aborted cause.Quit fell) → Member u fell
three_levels_falls u m fell h =
    let named : h.fell ≡ fell = cc h.is in
    let fallen = each-so three_levels 0 (1 ∷ 2 ∷ 3 ∷ []) ((1 ∷ []) ∷ (1 ∷ 2 ∷ []) ∷ (1 ∷ 2 ∷ 3 ∷ []) ∷ []) refl u m in
    subst (λ l. Member u l) named (h.falls.all u fallen.0 fallen.1 fallen.2)

three_levels_direct_readers_only : LegalReply small_bank_copy three_levels (Quit 0) (reply.Aborted cause.Quit (1 ∷ [])) → ⊥
three_levels_direct_readers_only h = one_of_two (three_levels_falls 2 (inr (inl refl)) (1 ∷ []) h)

third_of_two : Member 3 (1 ∷ 2 ∷ []) → ⊥
third_of_two (inl e) = omega arith
third_of_two (inr (inl e)) = omega arith
third_of_two (inr (inr m)) = m

three_levels_leaves_the_last_out : LegalReply small_bank_copy three_levels (Quit 0) (reply.Aborted cause.Quit (1 ∷ 2 ∷ [])) → ⊥
three_levels_leaves_the_last_out h = third_of_two (three_levels_falls 3 (inr (inr (inl refl))) (1 ∷ 2 ∷ []) h)

second_of_two : Member 2 (1 ∷ 3 ∷ []) → ⊥
second_of_two (inl e) = omega arith
second_of_two (inr (inl e)) = omega arith
second_of_two (inr (inr m)) = m

three_levels_leaves_one_out : LegalReply small_bank_copy three_levels (Quit 0) (reply.Aborted cause.Quit (1 ∷ 3 ∷ [])) → ⊥
three_levels_leaves_one_out h = second_of_two (three_levels_falls 2 (inr (inl refl)) (1 ∷ 3 ∷ []) h)

fourth_of_three : Member 4 (1 ∷ 2 ∷ 3 ∷ []) → ⊥
fourth_of_three (inl e) = omega arith
fourth_of_three (inr (inl e)) = omega arith
fourth_of_three (inr (inr (inl e))) = omega arith
fourth_of_three (inr (inr (inr m))) = m

three_levels_overwriters_fall : LegalReply small_bank_copy three_levels (Quit 0) (reply.Aborted cause.Quit (1 ∷ 2 ∷ 3 ∷ 4 ∷ [])) → ⊥
three_levels_overwriters_fall h =
    let named : h.fell ≡ 1 ∷ 2 ∷ 3 ∷ 4 ∷ [] = cc h.is in
    let fallen = h.falls.each 4 (subst (λ l. Member 4 l) (sym named) (inr (inr (inr (inl refl))))) in
    fourth_of_three (all-so three_levels 0 (1 ∷ 2 ∷ 3 ∷ []) (0 ∷ 1 ∷ 2 ∷ 3 ∷ []) refl 4 fallen.0 fallen.1 fallen.2)

three_levels_out_of_order : LegalReply small_bank_copy three_levels (Quit 0) (reply.Aborted cause.Quit (1 ∷ 3 ∷ 2 ∷ [])) → ⊥
three_levels_out_of_order h =
    let named : h.fell ≡ 1 ∷ 3 ∷ 2 ∷ [] = cc h.is in
    let rises : Rising (1 ∷ 3 ∷ 2 ∷ []) = subst (λ l. Rising l) named h.falls.rising in
    let less : 3 < 2 = rises.1.0 in
    omega arith

-- a refusal is reported in its turn, and undoes what was written

-- a live transaction has spent, and another has found too little to spend
refuses_before_its_turn : LegalReply refusing spent_by_another (Commit 1) (reply.Refused 3 []) → ⊥
refuses_before_its_turn (inl h) = cc h.is
refuses_before_its_turn (inr h) =
    h.none_live 0 (record { is_live = refl; pair = pair-so spent_by_another 0 1 refl })

refuses_at_the_step : LegalReply refusing spent_by_another (Step 1) (reply.Aborted (cause.Asked 3) []) → ⊥
refuses_at_the_step h = cc h

commits_though_it_raises : LegalReply refusing spent_by_another (Commit 0) (reply.Refused 3 (1 ∷ [])) → ⊥
commits_though_it_raises (inl h) = cc h.is
commits_though_it_raises (inr h) = cc h.is

-- `leaves-refused-writes`: what a refused transaction wrote is read by none
abbrev refused_writer : List Entry
refused_writer =
    entry (Start 1 []) (reply.Started 1)
    ∷ entry (Commit 0) (reply.Refused 9 [])
    ∷ entry (Step 0) (reply.Wrote (3, pos 7) (Some (pos 4)))
    ∷ entry (Start 0 []) (reply.Started 0)
    ∷ []

leaves_refused_writes : LegalReply refusing refused_writer (Step 1) (reply.Looked (3, pos 7) (Some (pos 4))) → ⊥
leaves_refused_writes (inl h) = cc h.aborts.is
leaves_refused_writes (inr h) = cc h.is
