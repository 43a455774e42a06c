-- How the logic stores the rest of a procedure and the view of a cursor. No contract says more of them.
use Rattle.std.specs.Prelude.{◌≡◌, ◌⊎◌, ℕ, ℤ, List, Option}
use Rattle.std.proofs.Common.{refl, inl, inr}
use Rattle.std.specs.Coded.{Coded, code_by, coded×, coded⊎, coded_ℕ, coded_ℤ, coded_list, coded_option}
use Rattle.sgt_model.specs.Codes.{coded_procedure, coded_block}
use Rattle.sgt_model.specs.Syntax.{Block, ProcedureText}
use Rattle.sgt_model.specs.Left.{Rest, Left, ToRun, ToRaise}

-- the parts of a rest, in order
abbrev pub coded_rest : Coded Rest
coded_rest = code_by (Block × (List ℤ × (List (Option ℤ) × List ℤ))) (coded× coded_block (coded× (coded_list coded_ℤ) (coded× (coded_list (coded_option coded_ℤ)) (coded_list coded_ℤ)))) (λ r. (r.statements, (r.args, (r.registers, r.answers)))) (λ q. record { statements = q.0; args = q.1.0; registers = q.1.1.0; answers = q.1.1.1 }) (λ _. refl)

-- what is left, as one of two
abbrev pub either_left : Left → Rest ⊎ ℕ
either_left (ToRun r) = inl r
either_left (ToRaise code) = inr code

-- and back
abbrev pub left_either : Rest ⊎ ℕ → Left
left_either (inl r) = ToRun r
left_either (inr code) = ToRaise code

pub left_back : (l : Left) → left_either (either_left l) ≡ l
left_back (ToRun r) = refl
left_back (ToRaise code) = refl

-- what is left
abbrev pub coded_left : Coded Left
coded_left = code_by (Rest ⊎ ℕ) (coded⊎ coded_rest coded_ℕ) either_left left_either left_back

-- a program and what is left of it
abbrev pub coded_cursor : Coded (ProcedureText × Left)
coded_cursor = coded× coded_procedure coded_left
