-- The state after a start is the state after the longer history.
use Rattle.std.proofs.Common.{◌≡◌, ◌≢◌, ℕ, ◌+◌, ◌<◌, ◌≤◌, ℤ, Bool, true, false, cond, ◌&&◌, ◌||◌, ◌⊎◌, List, [], ◌∷◌, ◌++◌, Some, None, is_none, nat_eq, nat_lt, refl, sym, ap, ap₂, inl, inr, ◌∙◌, arith}
use Rattle.std.proofs.lemmas.Bool.{eq-eqb, ne_eqb, cases_eq, cases_lt, lt-ltb, le-ltb}
use Rattle.std.proofs.lemmas.List.{append-nil}
use Rattle.std.proofs.lemmas.List.Elements.{filter-append}
use Rattle.std.specs.Option.{unwrap_or}
use Rattle.sgt_model.specs.declared.event.Event.TheVariants.{Start}
use Rattle.sgt_model.specs.declared.reply.Reply.TheVariants as reply
use Rattle.sgt_model.specs.declared.entry.Entry.{Entry}
use Rattle.sgt_model.specs.Accesses.{acts}
use Rattle.sgt_model.specs.Fates.{started_ones, fate_of, live, live_ones, start_count}
use Rattle.sgt_model.specs.ReadFrom.{ReadFrom}
use Rattle.sgt_model.specs.Pairs.{Precedes}
use Rattle.sgt_model.specs.Configurations.{Configuration}
use Rattle.sgt_model.specs.Progress.{Call, call_of}
use Rattle.sgt_model.specs.Legality.{Legal}
use Rattle.sgt_model.specs.AccessList.{access_list}
use Rattle.sgt_model.specs.LiveLeft.{left_of_call, left_of}
use Rattle.sgt_model.specs.State.{State}
use Rattle.sgt_model.specs.StateAfter.{IsStateAfter, LivePair, LiveRead}
use Rattle.sgt_model.specs.Changes.{Starts}
use Rattle.sgt_model.proofs.Facts.{live-started, precedes-started, unstarted-no_fate}
use Rattle.sgt_model.proofs.Sources.{read-precedes}
use Rattle.sgt_model.proofs.Plays.{acts_unstarted}
use Rattle.sgt_model.proofs.Capacity.{begun_below}
use Rattle.sgt_model.proofs.Counted.{filter_listed, AgreeOn, chain-agree, legal-agree, access_list-agree}
use Rattle.sgt_model.proofs.LiveLeft.{left_by}

-- the entry of a start
abbrev pub start_entry : ℕ → List ℤ → ℕ → Entry
start_entry p args n = record { event = Start p args; reply = reply.Started n }

lower : (a b d x : Bool) → a ≡ true → b ≡ true → d ≡ false → (a && x) ≡ ((b && x) || d)
lower a b d true p q r = rw (p, q) refl
lower a b d false p q r = rw (p, q, r) refl

same : (a b d x : Bool) → a ≡ true → b ≡ false → d ≡ true → x ≡ true → (a && x) ≡ ((b && x) || d)
same a b d x p q r z = rw (p, q, r, z) refl

above : (a b d x : Bool) → a ≡ false → b ≡ false → d ≡ false → (a && x) ≡ ((b && x) || d)
above a b d x p q r = rw (p, q, r) refl

module _ (s : Configuration) (past : List Entry) (h : Legal s past) (p : ℕ) (args : List ℤ) where
  live_is : (u : ℕ) → live (start_entry p args (start_count past) ∷ past) u ≡ (live past u || nat_eq u (start_count past))
  live_is u = go (cases_lt u (start_count past)) (cases_eq u (start_count past))
    where
      n : ℕ
      n = start_count past

      go : (u < start_count past) ⊎ (start_count past ≤ u) → (u ≡ start_count past) ⊎ (u ≢ start_count past)
          → live (start_entry p args (start_count past) ∷ past) u ≡ (live past u || nat_eq u (start_count past))
      go (inl lt) z = lower (nat_lt u (start_count past + 1)) (nat_lt u (start_count past)) (nat_eq u (start_count past))
          (is_none (fate_of past u)) (lt-ltb u (start_count past + 1) (omega arith)) (lt-ltb u (start_count past) lt)
          (ne_eqb u (start_count past) (λ e. absurd (omega (arith, e))))
      go (inr le) (inl e) = same (nat_lt u (start_count past + 1)) (nat_lt u (start_count past)) (nat_eq u (start_count past))
          (is_none (fate_of past u)) (lt-ltb u (start_count past + 1) (omega arith)) (le-ltb u (start_count past) le)
          (eq-eqb u (start_count past) e) (ap is_none (unstarted-no_fate s past h u le))
      go (inr le) (inr n) = above (nat_lt u (start_count past + 1)) (nat_lt u (start_count past)) (nat_eq u (start_count past))
          (is_none (fate_of past u)) (le-ltb u (start_count past + 1) (omega arith)) (le-ltb u (start_count past) le)
          (ne_eqb u (start_count past) n)

  started_same : (u : ℕ) → u < start_count past → live (start_entry p args (start_count past) ∷ past) u ≡ live past u
  started_same u lt = live_is u ∙ (ap (λ b. live past u || b) (ne_eqb u (start_count past) (λ e. absurd (omega (arith, e))))
      ∙ or_false (live past u))
    where
      or_false : (b : Bool) → (b || false) ≡ b
      or_false true = refl
      or_false false = refl

  agree : AgreeOn (live past) (live (start_entry p args (start_count past) ∷ past)) past
  agree = legal-agree s past h _ _ (λ u lt. sym (started_same u lt))

  lives_on : (u : ℕ) → live past u ≡ true → live (start_entry p args (start_count past) ∷ past) u ≡ true
  lives_on u l = started_same u (live-started past u l) ∙ l

  was_live : (u : ℕ) → u < start_count past → live (start_entry p args (start_count past) ∷ past) u ≡ true → live past u ≡ true
  was_live u lt l = sym (started_same u lt) ∙ l

  pub after_start : (before after : State) → IsStateAfter s past before
      → Starts (left_of_call s.rules (record { procedure = p; args = args; caller_accesses = [] })) before after
      → IsStateAfter s (start_entry p args (start_count past) ∷ past) after
  after_start before after i x = record {
    lives = x.live ∙ (ap₂ (λ l n. l ++ n ∷ []) i.lives i.start_count ∙ live_ones_after);
    nodes = λ u. x.nodes u ∙ (ap₂ (λ b n. b || nat_eq u n) (i.nodes u) i.start_count ∙ sym (live_is u));
    pairs = λ u v. (
      (λ q. pairs_to u v ((i.pairs u v).0 (sym (x.pairs u v) ∙ q))),
      (λ q. x.pairs u v ∙ (i.pairs u v).1 (pairs_from u v q q.pair.precedes)),
    );
    accesses = x.accesses ∙ (i.accesses ∙ (access_list-agree (live past) (live (start_entry p args (start_count past) ∷ past)) past agree
        ∙ sym (append-nil (access_list (live (start_entry p args (start_count past) ∷ past)) past))));
    chain = λ k. x.chain k ∙ (i.chain k ∙ chain-agree (live past) (live (start_entry p args (start_count past) ∷ past)) k past agree);
    settled = λ k. x.settled k ∙ i.settled k;
    read_from = λ u v. (
      (λ q. read_to u v ((i.read_from u v).0 ((x.read_from u v).0 q))),
      (λ q. (x.read_from u v).1 ((i.read_from u v).1 (read_back u v q q.read))),
    );
    fates = λ u. x.fates u ∙ i.fates u;
    start_count = x.start_count ∙ ap (λ n. n + 1) i.start_count;
    left = λ u l. still_left u l (cases_lt u (start_count past));
  }
    where
      or_true : (b : Bool) → (b || true) ≡ true
      or_true true = refl
      or_true false = refl

      live_ones_after : live_ones past ++ start_count past ∷ [] ≡ live_ones (start_entry p args (start_count past) ∷ past)
      live_ones_after = sym (filter-append (live (start_entry p args (start_count past) ∷ past)) (started_ones past) (start_count past ∷ [])
          ∙ ap₂ (λ l b. l ++ cond b (start_count past ∷ []) []) (filter_listed (live (start_entry p args (start_count past) ∷ past))
          (live past) (started_ones past) (λ u m. started_same u (begun_below past u m))) (live_is (start_count past)
          ∙ (ap (λ b. live past (start_count past) || b) (eq-eqb (start_count past) (start_count past) refl)
          ∙ or_true (live past (start_count past)))))

      pairs_to : (u v : ℕ) → LivePair past u v → LivePair (start_entry p args (start_count past) ∷ past) u v
      pairs_to u v q = record {
        first_live = lives_on u q.first_live;
        second_live = lives_on v q.second_live;
        pair = record {
          apart = q.pair.apart;
          first_stands = q.pair.first_stands;
          second_stands = q.pair.second_stands;
          precedes = inr q.pair.precedes;
        };
      }

      pairs_from : (u v : ℕ) → LivePair (start_entry p args (start_count past) ∷ past) u v
          → Precedes (start_entry p args (start_count past) ∷ past) u v → LivePair past u v
      pairs_from u v q (inl now) = absurd now
      pairs_from u v q (inr old) = let w = precedes-started s past h u v old in
          record {
            first_live = was_live u w.0 q.first_live;
            second_live = was_live v w.1 q.second_live;
            pair = record {
              apart = q.pair.apart;
              first_stands = q.pair.first_stands;
              second_stands = q.pair.second_stands;
              precedes = old;
            };
          }

      read_to : (u v : ℕ) → LiveRead past v u → LiveRead (start_entry p args (start_count past) ∷ past) v u
      read_to u v q = record { reader_live = lives_on v q.reader_live; source_live = lives_on u q.source_live; read = inr q.read }

      read_back : (u v : ℕ) → LiveRead (start_entry p args (start_count past) ∷ past) v u
          → ReadFrom (start_entry p args (start_count past) ∷ past) v u → LiveRead past v u
      read_back u v q (inl now) = absurd now.1
      read_back u v q (inr old) = let w = precedes-started s past h u v (read-precedes past v u old) in
          record { reader_live = was_live v w.1 q.reader_live; source_live = was_live u w.0 q.source_live; read = old }

      other_call : (b : Bool) (c d : Call) → b ≡ false → unwrap_or (cond b (Some c) None) d ≡ d
      other_call true c d z = absurd (cc)
      other_call false c d z = refl

      own_call : (b : Bool) (c d : Call) → b ≡ true → unwrap_or (cond b (Some c) None) d ≡ c
      own_call true c d z = refl
      own_call false c d z = absurd (cc)

      still_left : (u : ℕ) → live (start_entry p args (start_count past) ∷ past) u ≡ true → (u < start_count past) ⊎ (start_count past ≤ u)
          → after.left u ≡ left_of s.rules (start_entry p args (start_count past) ∷ past) u
      still_left u l (inl lt) =
          let call : call_of (start_entry p args (start_count past) ∷ past) u ≡ call_of past u =
          other_call (nat_eq (start_count past) u) (record { procedure = p; args = args; caller_accesses = [] }) (call_of past u)
          (ne_eqb (start_count past) u (λ e. absurd (omega (arith, e)))) in
          x.left u (λ e. absurd (omega (arith, e, i.start_count))) ∙ (i.left u (was_live u lt l) ∙ ap (λ c. left_by s c (acts past u))
          (sym call))
      still_left u l (inr le) =
          let is : u ≡ start_count past = at_end (live-started (start_entry p args (start_count past) ∷ past) u l) le in
          let call : call_of (start_entry p args (start_count past) ∷ past) u
          ≡ record { procedure = p; args = args; caller_accesses = [] } =
          own_call (nat_eq (start_count past) u) (record { procedure = p; args = args; caller_accesses = [] }) (call_of past u)
          (eq-eqb (start_count past) u (sym is)) in
          let unused = acts_unstarted s past u h le in
          ap after.left (is ∙ sym i.start_count) ∙ (x.own_left
          ∙ (ap (left_by s (record { procedure = p; args = args; caller_accesses = [] })) (sym unused)
          ∙ ap (λ c. left_by s c (acts past u)) (sym call)))
        where
          at_end : u < start_count past + 1 → start_count past ≤ u → u ≡ start_count past
          at_end lt le = omega arith
