-- Each committed or refused transaction of one of the five did the bank's arithmetic.
use Rattle.std.proofs.Common.{◌≡◌, refl, sym, ◌∙◌, ap, subst, ℕ, zero, suc, ◌<◌, T, ℤ, pos, negsuc, Bool, true, false, cond, List, [], ◌∷◌, ◌++◌, length, Option, Some, None, arith}
use Rattle.std.specs.Prelude.{slice_get, int_le, IfSome}
use Rattle.std.specs.Option.{option_map, option_or}
use Rattle.std.proofs.lemmas.Bool.{and_parts}
use Rattle.sgt_model.specs.declared.limits.Limits.{Limits}
use Rattle.sgt_model.specs.declared.entry.Entry.{Entry}
use Rattle.sgt_model.specs.declared.event.Event.{Event}
use Rattle.sgt_model.specs.declared.reply.Reply.{Reply}
use Rattle.sgt_model.specs.declared.reply.Reply.TheVariants as reply
use Rattle.sgt_model.specs.Numbers.{IsValue, is_value}
use Rattle.sgt_model.specs.Contents.{Key, key_eq, Contents, put_in}
use Rattle.sgt_model.specs.Syntax.{ProcedureText}
use Rattle.sgt_model.specs.Runs.{Outcome, Done, Asked, serial, contents_after, with_accesses}
use Rattle.sgt_model.specs.Meaning.{run_with}
use Rattle.sgt_model.specs.Configurations.{Configuration, run_if, procedure_at}
use Rattle.sgt_model.specs.Fates.{subject}
use Rattle.sgt_model.specs.Progress.{Call, call_of, caller_accesses, with_caller_accesses, run_of, outcome_in}
use Rattle.sgt_model.specs.Admissions.{IsAdmitted, AreAdmitted}
use Rattle.sgt_model.specs.Replay.{RunResult, GaveAnswers, RaisedCode, result_of, run_in_turn, reported_call_in, reported_calls, reported_in, reported}
use Rattle.sgt_model.specs.StoredValues.{HoldValues, ReplaysHoldValues}
use Rattle.sgt_model.specs.Accesses.{acts}
use Rattle.sgt_model.specs.Legality.{LegalReply, Legal}
use Rattle.sgt_model.specs.Laws.{ReplayIsSerial, CommittedAreAdmitted}
use Rattle.sgt_model.proofs.Effects.{Effect, idle, begins, accesses, commits, undoes, refuses, effect}
use Rattle.sgt_model.proofs.Plays.{only_own, plays}
use Rattle.sgt_smallbank.specs.declared.account.Account.{Account}
use Rattle.sgt_smallbank.specs.declared.errors.OpeningFault.{OpeningFault}
use Rattle.sgt_smallbank.specs.Texts.{balance, deposit_checking, transact_saving, amalgamate, write_check, procedures}
use Rattle.sgt_smallbank.specs.Arithmetic.{bank}
use Rattle.sgt_smallbank.specs.Accounts.{name_key, saving_key, checking_key, with_account, with_accounts, is_in_range, fault_after, first_fault}
use Rattle.sgt_smallbank.specs.Replays.{CommitIsBank, CommitsAreBank, bank_configuration, ReplayIsBank, OpeningsHoldValues}
use Rattle.sgt_smallbank.proofs.Banks.{serial_is_bank}

-- ---- one transaction that was committed or refused

-- the bank's procedures come first
pub record IsOneOf (others : List ProcedureText) (n : ℕ) : Type 0 where
  pub program : ProcedureText
  pub of_bank : slice_get procedures n ≡ Some program
  pub of_all : procedure_at (procedures ++ others) n ≡ Some program

one_of_five : (others : List ProcedureText) (n : ℕ) → n < 5 → IsOneOf others n
one_of_five others zero below = record { program = balance; of_bank = refl; of_all = refl }
one_of_five others (suc zero) below = record { program = deposit_checking; of_bank = refl; of_all = refl }
one_of_five others (suc (suc zero)) below = record { program = transact_saving; of_bank = refl; of_all = refl }
one_of_five others (suc (suc (suc zero))) below = record { program = amalgamate; of_bank = refl; of_all = refl }
one_of_five others (suc (suc (suc (suc zero)))) below = record { program = write_check; of_bank = refl; of_all = refl }
one_of_five others (suc (suc (suc (suc (suc n))))) below = absurd (omega arith)

-- the call of t, with the accesses that its caller has made
abbrev whole : List Entry → ℕ → Call
whole past t = with_caller_accesses (caller_accesses past t) (call_of past t)

-- an outcome with this result
done_with : (o : Outcome) (m : Contents) (answers : List ℤ) → result_of o ≡ GaveAnswers answers → o ≡ Done answers (contents_after o m)
done_with (Done given last) m answers e = ap (λ l. Done l last) cc
done_with (Asked code) m answers e = absurd (cc)

-- an outcome with this code
raised_with : (o : Outcome) (code : ℕ) → result_of o ≡ RaisedCode code → o ≡ Asked code
raised_with (Done given last) code e = absurd (cc)
raised_with (Asked n) code e = cc

same_count : (a b : ℕ) → Some a ≡ Some b → a ≡ b
same_count a b e = cc

first_same : (r q : RunResult) (rs qs : List RunResult) → r ∷ rs ≡ q ∷ qs → r ≡ q
first_same r q rs qs e = cc

-- the caller of a transaction that is refused has made no access
refused_alone : (s : Configuration) (past : List Entry) → Legal s past → (event : Event) (code : ℕ) (fell : List ℕ)
    → LegalReply s past event (reply.Refused code fell) → caller_accesses past (subject event) ≡ []
refused_alone s past legal event code fell h = by_effect (effect s past event (reply.Refused code fell) h)
  where
    by_effect : Effect s past event (reply.Refused code fell) → caller_accesses past (subject event) ≡ []
    by_effect (idle i) = absurd i.ends_none
    by_effect (begins b) = absurd (cc b.reply_is)
    by_effect (accesses x) = absurd x.ends_none
    by_effect (commits c) = absurd (cc c.reply_is)
    by_effect (undoes x) = absurd (cc x.reply_is)
    by_effect (refuses x) =
        let t : ℕ = x.undoing.t in
        ap (λ v. caller_accesses past (subject v)) x.event_is
        ∙ (only_own (run_of s.rules (call_of past t)) (caller_accesses past t) (acts past t) (plays s past t legal)
        (λ answers e. cc (sym x.next ∙ e))).2

module _ (replay_is_serial : ReplayIsSerial) (admitted : CommittedAreAdmitted) (hold_values : ReplaysHoldValues)
    (opening : Contents) (others : List ProcedureText) (limits : Limits) (hold : HoldValues opening) where
  abbrev the_configuration : Configuration
  the_configuration = bank_configuration opening others limits

  does : (c : Call) (before : List Call) → IsAdmitted the_configuration c → c.procedure < 5
      → serial (run_of the_configuration.rules c) (run_in_turn the_configuration before).last
      ≡ bank c.procedure c.args (run_in_turn the_configuration before).last
  does c before fits below =
      let m : Contents = (run_in_turn the_configuration before).last in
      let one = one_of_five others c.procedure below in
      let count : length c.args ≡ one.program.args =
      sym (same_count one.program.args (length c.args) (sym (ap (λ o. option_map (λ (p : ProcedureText). p.args) o) one.of_all)
      ∙ fits.known)) in
      let runs : serial (run_of the_configuration.rules c) m ≡ serial (run_with one.program c.args) m =
      ap (λ o. serial (run_if o c.args) m) one.of_all in
      let banks : serial (run_with one.program c.args) m ≡ bank c.procedure c.args m =
      serial_is_bank c.procedure one.program c.args m one.of_bank count fits.values
      (hold_values opening (procedures ++ others) limits before hold) in
      runs ∙ banks

  agrees : (c : Call) (before : List Call) (answers : List ℤ) → IsAdmitted the_configuration c
      → result_of (outcome_in the_configuration.rules c (run_in_turn the_configuration before).last) ≡ GaveAnswers answers
      → c.procedure < 5 → with_accesses c.caller_accesses (bank c.procedure c.args (run_in_turn the_configuration before).last)
      ≡ Done answers
      (run_in_turn the_configuration (c ∷ before)).last
  agrees c before answers fits gives below =
      let m : Contents = (run_in_turn the_configuration before).last in
      ap (with_accesses c.caller_accesses) (sym (does c before fits below))
      ∙ done_with (outcome_in the_configuration.rules c m) m answers gives

  asks : (c : Call) (before : List Call) (code : ℕ) → IsAdmitted the_configuration c → c.caller_accesses ≡ []
      → result_of (outcome_in the_configuration.rules c (run_in_turn the_configuration before).last) ≡ RaisedCode code
      → c.procedure < 5 → (bank c.procedure c.args (run_in_turn the_configuration before).last ≡ Asked code)
      × ((run_in_turn the_configuration (c ∷ before)).last ≡ (run_in_turn the_configuration before).last)
  asks c before code fits none gives below =
      let m : Contents = (run_in_turn the_configuration before).last in
      let requested : outcome_in the_configuration.rules c m ≡ Asked code = raised_with (outcome_in the_configuration.rules c m)
      code gives in
      let own : outcome_in the_configuration.rules c m ≡ serial (run_of the_configuration.rules c) m =
      ap (λ xs. with_accesses xs (serial (run_of the_configuration.rules c) m)) none in
      (sym (does c before fits below) ∙ (sym own ∙ requested), ap (λ o. contents_after o m) requested)

  at_entry : (past : List Entry) (event : Event) (r : Reply) → Legal the_configuration past → LegalReply the_configuration past event r
      → AreAdmitted the_configuration
      (reported_call_in past event r ++ reported_calls past)
      → (run_in_turn the_configuration (reported_call_in past event r ++ reported_calls past)).results ≡ reported_in r ++ reported past
      → CommitIsBank the_configuration past event r
  at_entry past event (reply.Committed answers) legal h fit reported = λ below. agrees (whole past (subject event))
      (reported_calls past) answers fit.1 (first_same _ _ _ _ reported) below
  at_entry past event (reply.Refused code fell) legal h fit reported = λ below. asks (whole past (subject event))
      (reported_calls past) code fit.1 (refused_alone the_configuration past legal event code fell h) (first_same _ _ _ _ reported) below
  at_entry past event (reply.Started t) legal h fit reported = tt
  at_entry past event reply.NoProcedure legal h fit reported = tt
  at_entry past event reply.BadArgs legal h fit reported = tt
  at_entry past event reply.Spent legal h fit reported = tt
  at_entry past event reply.Full legal h fit reported = tt
  at_entry past event reply.Unknown legal h fit reported = tt
  at_entry past event (reply.Over ended) legal h fit reported = tt
  at_entry past event (reply.Looked k v) legal h fit reported = tt
  at_entry past event (reply.Wrote k v) legal h fit reported = tt
  at_entry past event reply.Ended legal h fit reported = tt
  at_entry past event reply.NotEnded legal h fit reported = tt
  at_entry past event (reply.Waits t) legal h fit reported = tt
  at_entry past event (reply.Aborted why fell) legal h fit reported = tt

  commits_are_bank : (past : List Entry) → Legal the_configuration past → CommitsAreBank the_configuration past
  commits_are_bank [] legal = tt
  commits_are_bank (e ∷ past) legal = (
    commits_are_bank past legal.0,
    at_entry past e.event e.reply legal.0 legal.1 (admitted the_configuration (e ∷ past) legal)
        (replay_is_serial the_configuration (e ∷ past) legal).answers,
  )

pub replay_is_bank : ReplayIsSerial → CommittedAreAdmitted → ReplaysHoldValues → ReplayIsBank
replay_is_bank serially admitted hold_values opening others limits past hold legal =
    commits_are_bank serially admitted hold_values opening others limits hold past legal

-- ---- the initial database of accounts

is_value-fact : (v : ℤ) → is_value v ≡ true → IsValue v
is_value-fact v e =
    let parts = and_parts (int_le (negsuc 999999999999998) v) (int_le v (pos 999999999999999)) e in
    (record { le = subst T (sym parts.0) tt }, record { le = subst T (sym parts.1) tt })

value_put : (test : Bool) (v : ℤ) (before : Option ℤ) → IsValue v → IfSome before IsValue → IfSome (cond test (Some v) before) IsValue
value_put true v before fits stood = fits
value_put false v before fits stood = stood

no_range_fault : (fits : Bool) (other : Option OpeningFault) → cond fits other (Some OpeningFault.Range) ≡ None → fits ≡ true
no_range_fault true other e = refl
no_range_fault false other e = absurd (cc)

none_twice : (first second : Option OpeningFault) → option_or first second ≡ None → (first ≡ None) × (second ≡ None)
none_twice None second e = (refl, e)
none_twice (Some f) second e = absurd (cc)

hold_put : (m : Contents) (k : Key) (v : ℤ) → IsValue v → HoldValues m → HoldValues (put_in m k v)
hold_put m k v fits hold other = value_put (key_eq k other) v (m other) fits (hold other)

hold_account : (m : Contents) (a : Account) → is_in_range a ≡ true → HoldValues m → HoldValues (with_account m a)
hold_account m a fits hold =
    let after_name = (and_parts (is_value a.name) _ fits).1 in
    let customer = and_parts (is_value a.customer) _ after_name in
    let balances = and_parts (is_value a.saving) (is_value a.checking) customer.1 in
    hold_put _ (checking_key a) a.checking (is_value-fact a.checking balances.1) (
    hold_put _ (saving_key a) a.saving (is_value-fact a.saving balances.0) (
    hold_put m (name_key a) a.customer (is_value-fact a.customer customer.0) hold))

hold_accounts : (earlier accounts : List Account) (m : Contents) → first_fault earlier accounts ≡ None → HoldValues m
    → HoldValues (with_accounts m accounts)
hold_accounts earlier [] m none hold = hold
hold_accounts earlier (a ∷ accounts) m none hold =
    let parts = none_twice (fault_after earlier a) (first_fault (earlier ++ a ∷ []) accounts) none in
    hold_accounts (earlier ++ a ∷ []) accounts (with_account m a) parts.1 (hold_account m a (no_range_fault (is_in_range a) _ parts.0) hold)

pub openings_hold_values : OpeningsHoldValues
openings_hold_values accounts none = hold_accounts [] accounts (λ key. None) none (λ key. tt)
