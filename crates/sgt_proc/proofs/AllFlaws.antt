-- All flaws, and those of single numbers.
use Rattle.std.proofs.Common.{◌≡◌, sym, ap, ◌∙◌, subst, inl, inr, ◌⊎◌, List, [], ◌∷◌, Bool, IsTrue, ◌↔◌}
use Rattle.sgt_model.specs.Syntax.{ProcedureText}
use Rattle.sgt_proc.specs.declared.flaw.Flaw.{Flaw}
use Rattle.sgt_proc.specs.declared.flaw.Flaw.TheVariants.{HighRegister, UnsetRegister, NoArgument, HighTable, TooLong, TooDeep, ManyAnswers, BadCode, ManyArguments, BadLiteral}
use Rattle.sgt_proc.specs.Flaws.{in_block, HasFlaw}
use Rattle.sgt_proc.specs.NumberFlaws.{is_bad}

-- in the order of their numbers
abbrev pub all_flaws : List Flaw
all_flaws =
    HighRegister ∷ UnsetRegister ∷ NoArgument ∷ HighTable ∷ TooLong ∷ TooDeep ∷ ManyAnswers ∷ BadCode ∷ ManyArguments ∷ BadLiteral ∷ []

same_truth : (a b : Bool) → a ≡ b → IsTrue a ↔ IsTrue b
same_truth a b e = (subst IsTrue e, subst IsTrue (sym e))

-- a flaw of single numbers is in the text if some number in it is bad
pub number_flaw : (f : Flaw) (p : ProcedureText) (found : Bool)
    → (f ≡ HighRegister) ⊎ ((f ≡ NoArgument) ⊎ ((f ≡ HighTable) ⊎ ((f ≡ BadCode) ⊎ (f ≡ BadLiteral))))
    → found ≡ in_block (is_bad f p.args) p.body → IsTrue found ↔ HasFlaw f p
number_flaw f p found (inl h) e = rw h (same_truth found _ (e ∙ ap (λ x. in_block (is_bad x p.args) p.body) h))
number_flaw f p found (inr (inl h)) e = rw h (same_truth found _ (e ∙ ap (λ x. in_block (is_bad x p.args) p.body) h))
number_flaw f p found (inr (inr (inl h))) e = rw h (same_truth found _ (e ∙ ap (λ x. in_block (is_bad x p.args) p.body) h))
number_flaw f p found (inr (inr (inr (inl h)))) e = rw h (same_truth found _ (e ∙ ap (λ x. in_block (is_bad x p.args) p.body) h))
number_flaw f p found (inr (inr (inr (inr h)))) e = rw h (same_truth found _ (e ∙ ap (λ x. in_block (is_bad x p.args) p.body) h))
