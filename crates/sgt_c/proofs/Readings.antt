-- A reply that was written to a struct is read back.
use Rattle.std.proofs.Common.{◌≡◌, ℕ, ℤ, ◌≤◌, Bool, true, false, T, ◌&&◌, [], ◌∷◌, take, nat_le}
use Rattle.std.proofs.Common.{Option, Some, None, refl, ap, ap₂, ◌∙◌}
use Rattle.std.specs.Option.{option_map, option_and_then}
use Rattle.std.specs.List.{slice_get}
use Rattle.std.proofs.lemmas.Bool.{cond-true, le-leb}
use Rattle.sgt_model.specs.Numbers.{IsValue, is_value}
use Rattle.sgt_model.specs.declared.reply.Reply.{Reply}
use Rattle.sgt_model.specs.declared.reply.Reply.TheVariants as reply
use Rattle.sgt_model.specs.declared.reply.Cause.{Cause}
use Rattle.sgt_model.specs.declared.reply.Cause.TheVariants as cause
use Rattle.sgt_model.specs.declared.reply.Fate.{Fate}
use Rattle.sgt_model.specs.declared.reply.Fate.TheVariants as fate
use Rattle.sgt_c.specs.declared.reply_struct.SgtReply.{SgtReply}
use Rattle.sgt_c.specs.ReplyStructs.{HoldsCause, HoldsFate, HoldsFound}
use Rattle.sgt_c.specs.ReplyReadings.{IsCause, IsFate, IsKey, HoldsValidReply, joined, code_in, key_in, found_in}
use Rattle.sgt_c.specs.ReplyReadings.{cause_in, causes_in, fate_by, fate_in, replies_in, reply_in}

of_test : (b : Bool) → T b → b ≡ true
of_test true t = refl
of_test false t = absurd t

both_true : (a b : Bool) → a ≡ true → b ≡ true → (a && b) ≡ true
both_true a b p q = rw (p, q) refl

value_test : (v : ℤ) → IsValue v → is_value v ≡ true
value_test v value = both_true _ _ (of_test _ value.0.le) (of_test _ value.1.le)

module _ (s : SgtReply) where
  code_reads : (code : ℕ) → s.code ≡ code → code ≤ 65535 → code_in s ≡ Some code
  code_reads code is fits = cond-true (nat_le s.code 65535) (Some s.code) None (ap (λ n. nat_le n 65535) is ∙ le-leb code 65535 fits)
      ∙ ap Some is

  key_reads : (table : ℕ) (number : ℤ) → s.table ≡ table → s.number ≡ number → IsKey (table, number) → key_in s ≡ Some (table, number)
  key_reads table number t n key =
      cond-true (nat_le s.table 7 && is_value s.number) (Some (s.table, s.number)) None
      (both_true (nat_le s.table 7) (is_value s.number) (ap (λ n. nat_le n 7) t ∙ le-leb table 7 key.0)
      (ap is_value n ∙ value_test number key.1))
      ∙ ap₂ (λ t n. Some (t, n)) t n

  found_reads : (value : Option ℤ) → HoldsFound s value → found_in s ≡ Some value
  found_reads None reported = ap (slice_get (None ∷ Some s.value ∷ [])) reported
  found_reads (Some value) reported = ap (slice_get (None ∷ Some s.value ∷ [])) reported.0 ∙ ap (λ v. Some (Some v)) reported.1

  cause_at : (n : ℕ) → s.cause ≡ n → cause_in s ≡ joined (slice_get (causes_in s) n)
  cause_at n is = ap (λ n. joined (slice_get (causes_in s) n)) is

  cause_reads : (why : Cause) → HoldsCause s why → IsCause why → cause_in s ≡ Some why
  cause_reads (cause.Cycle walk) reported fits = cause_at 1 reported.0 ∙ ap (λ w. Some (cause.Cycle w)) reported.1
  cause_reads (cause.Asked code) reported fits = cause_at 2 reported.0 ∙ ap (option_map cause.Asked) (code_reads code reported.1 fits)
  cause_reads cause.Quit reported fits = cause_at 3 reported

  fate_at : (n : ℕ) → s.cause ≡ n → fate_in s ≡ fate_by n s
  fate_at n is = ap (λ n. fate_by n s) is

  fate_reads : (how : Fate) → HoldsFate s how → IsFate how → fate_in s ≡ Some how
  fate_reads fate.Committed reported fits = fate_at 0 reported
  fate_reads (fate.Aborted (cause.Cycle walk)) reported fits = fate_at 1 reported.0
      ∙ ap (option_map fate.Aborted) (cause_reads (cause.Cycle walk) reported fits)
  fate_reads (fate.Aborted (cause.Asked code)) reported fits = fate_at 2 reported.0
      ∙ ap (option_map fate.Aborted) (cause_reads (cause.Asked code) reported fits)
  fate_reads (fate.Aborted cause.Quit) reported fits = fate_at 3 reported ∙ ap (option_map fate.Aborted) (cause_reads cause.Quit reported fits)
  fate_reads (fate.Fell first) reported fits = fate_at 4 reported.0 ∙ ap (λ t. Some (fate.Fell t)) reported.1

  reply_at : (n : ℕ) → s.kind ≡ n → reply_in s ≡ joined (slice_get (replies_in s) n)
  reply_at n is = ap (λ n. joined (slice_get (replies_in s) n)) is

  pub reply_reads : (r : Reply) → HoldsValidReply s r → reply_in s ≡ Some r
  reply_reads (reply.Started t) reported = reply_at 1 reported.0.0 ∙ ap (λ t. Some (reply.Started t)) reported.0.1
  reply_reads reply.NoProcedure reported = reply_at 2 reported.0
  reply_reads reply.BadArgs reported = reply_at 3 reported.0
  reply_reads reply.Spent reported = reply_at 4 reported.0
  reply_reads reply.Full reported = reply_at 5 reported.0
  reply_reads reply.Unknown reported = reply_at 6 reported.0
  reply_reads (reply.Over how) reported = reply_at 7 reported.0.0 ∙ ap (option_map reply.Over) (fate_reads how reported.0.1 reported.1)
  reply_reads (reply.Looked (table, number) value) ((kind, of_table, of_number, found), key) =
      reply_at 8 kind
      ∙ ap (option_and_then (λ key. option_map (reply.Looked key) (found_in s))) (key_reads table number of_table of_number key)
      ∙ ap (option_map (reply.Looked (table, number))) (found_reads value found)
  reply_reads (reply.Wrote (table, number) value) ((kind, of_table, of_number, found), key) =
      reply_at 9 kind
      ∙ ap (option_and_then (λ key. option_map (reply.Wrote key) (found_in s))) (key_reads table number of_table of_number key)
      ∙ ap (option_map (reply.Wrote (table, number))) (found_reads value found)
  reply_reads reply.Ended reported = reply_at 10 reported.0
  reply_reads reply.NotEnded reported = reply_at 11 reported.0
  reply_reads (reply.Waits first) reported = reply_at 12 reported.0.0 ∙ ap (λ t. Some (reply.Waits t)) reported.0.1
  reply_reads (reply.Committed answers) reported = reply_at 13 reported.0.0 ∙ ap (λ a. Some (reply.Committed a)) reported.0.1
  reply_reads (reply.Aborted why fell) ((kind, cause, fallen), fits) =
      reply_at 14 kind
      ∙ ap (option_map (λ why. reply.Aborted why (take s.fallen s.fell))) (cause_reads why cause fits)
      ∙ ap (λ f. Some (reply.Aborted why f)) fallen
  reply_reads (reply.Refused code fell) ((kind, of_code, fallen), fits) =
      reply_at 15 kind
      ∙ ap (option_map (λ code. reply.Refused code (take s.fallen s.fell))) (code_reads code of_code fits)
      ∙ ap (λ f. Some (reply.Refused code f)) fallen
