-- The words of a commit with one answer, and the line of a job that ends so.
use Rattle.std.proofs.Common.{◌≡◌, ℕ, ℤ, List, [], ◌∷◌, ◌++◌, length, ap, sym, ◌∙◌, append_assoc, append-nil, arith}
use Rattle.std.specs.Prelude.{true, codes, slice_index_or, Result, Ok, Err, OnOk}
use Rattle.std.specs.Fmt.{signed_decimal}
use Rattle.std.proofs.lemmas.Bool.{false≢true}
use Rattle.sgt_model.specs.declared.reply.Reply.{Reply}
use Rattle.sgt_model.specs.declared.reply.Reply.TheVariants as reply
use Rattle.sgt_model.specs.Questions.{is_commit}
use Rattle.sgt_model.specs.ShortReplies.{answers_in}
use Rattle.sgt_bank.specs.OutcomeText.{commit_words}

pub lone : (r : Reply) (answers : List ℤ) (answer : ℤ) → is_commit r ≡ true → answers ≡ answers_in r → length answers ≡ 1
    → answer ≡ slice_index_or answers 0 answer → commit_words r ≡ codes "committed " ++ signed_decimal answer
lone (reply.Committed []) answers answer commits are one is = absurd (let none = ap length are in omega (arith, none, one))
lone (reply.Committed (a ∷ [])) answers answer commits are one is =
    let same : a ≡ answer = sym (is ∙ ap (λ l. slice_index_or l 0 answer) are) in
    ap (λ l. codes "committed " ++ l) (append-nil (signed_decimal a)) ∙ ap (λ n. codes "committed " ++ signed_decimal n) same
lone (reply.Committed (a ∷ (b ∷ more))) answers answer commits are one is = absurd (let two = ap length are in omega (arith, two, one))
lone _ answers answer commits are one is = absurd (false≢true commits)

-- a line that was written at once
pub whole_line : {T E : Type 0} (result : Result T E) (old number answer new words : List ℕ)
    → OnOk result (new ≡ (((old ++ number) ++ codes " committed ") ++ answer) ++ codes "\n")
    → words ≡ codes "committed " ++ answer → OnOk result (new ≡ old ++ (((number ++ codes " ") ++ words) ++ codes "\n"))
whole_line (Err error) old number answer new words written is = tt
whole_line (Ok value) old number answer new words written is =
    written
    ∙ ap (λ l. l ++ codes "\n") (append_assoc (old ++ number) (codes " committed ") answer
    ∙ append_assoc old number (codes " committed " ++ answer)
    ∙ ap (λ l. old ++ l) (sym (append_assoc number (codes " ") (codes "committed " ++ answer))))
    ∙ append_assoc old ((number ++ codes " ") ++ (codes "committed " ++ answer)) (codes "\n")
    ∙ ap (λ l. old ++ (((number ++ codes " ") ++ l) ++ codes "\n")) (sym is)
