-- Worked examples of the remainder of a procedure.
use Rattle.std.specs.Prelude.{◌≡◌, pos, [], ◌∷◌, Some, None, replicate, refl}
use Rattle.sgt_model.specs.Syntax as text
use Rattle.sgt_model.specs.Syntax.{ProcedureText, num, arg, reg, sum, diff, at_most}
use Rattle.sgt_model.specs.Traces.{Puts, Ends}
use Rattle.sgt_model.specs.Left.{ToRun, ToRaise, left, left_at_start, next_left}
use Rattle.sgt_model.proofs.ExamplesTexts.{draw, count}

-- answer what record 7 holds if the argument is at most 5, and write it to record 8 in every case: the If has statements
-- after its read, and more come after the If
abbrev pub read_and_store : ProcedureText
read_and_store = record {
  args = 1;
  body =
      text.choose (at_most (arg 0) (num (pos 5))) (text.look 0 3 (num (pos 7)) 6 (text.answer (reg 0) text.empty)) text.empty
      (text.put 3 (num (pos 8)) (arg 0)
      (text.answer (arg 0)
      text.empty));
}

-- after the read of the branch: the rest of the branch, and then what comes after the If
in_branch-left : left read_and_store (pos 5 ∷ []) (Some (pos 70) ∷ []) 1 ≡ ToRun (record {
  statements = text.answer (reg 0) (text.put 3 (num (pos 8)) (arg 0) (text.answer (arg 0) text.empty));
  args = pos 5 ∷ [];
  registers = Some (pos 70) ∷ replicate 15 None;
  answers = [];
})
in_branch-left = refl

in_branch-next : next_left (left read_and_store (pos 5 ∷ []) (Some (pos 70) ∷ []) 1) ≡ Puts (3, pos 8) (Some (pos 5))
in_branch-next = refl

-- the answer that came before the write is given
in_branch-stored : left read_and_store (pos 5 ∷ []) (Some (pos 70) ∷ []) 2 ≡ ToRun (record {
  statements = text.answer (arg 0) text.empty;
  args = pos 5 ∷ [];
  registers = Some (pos 70) ∷ replicate 15 None;
  answers = pos 70 ∷ [];
})
in_branch-stored = refl

in_branch-ends : next_left (left read_and_store (pos 5 ∷ []) (Some (pos 70) ∷ []) 2) ≡ Ends (pos 70 ∷ pos 5 ∷ [])
in_branch-ends = refl

-- the read of the branch found no record
in_branch-absent : left read_and_store (pos 5 ∷ []) (None ∷ []) 1 ≡ ToRaise 6
in_branch-absent = refl

-- the other branch is empty: the write is the first access
past_branch-next : next_left (left_at_start read_and_store (pos 6 ∷ [])) ≡ Puts (3, pos 8) (Some (pos 6))
past_branch-next = refl

-- after a Find the procedure continues, whether there was a record or not
finds-left : left count (pos 40 ∷ []) (Some (pos 8) ∷ []) 1 ≡ ToRun (record {
  statements = text.put 3 (num (pos 7)) (sum (reg 0) (num (pos 1))) (text.answer (sum (reg 0) (num (pos 1))) text.empty);
  args = pos 40 ∷ [];
  registers = Some (pos 8) ∷ replicate 15 None;
  answers = [];
})
finds-left = refl

finds_none-next : next_left (left count (pos 40 ∷ []) (None ∷ []) 1) ≡ Puts (3, pos 7) (Some (pos 41))
finds_none-next = refl

-- an If that comes after the read is not entered yet
draws-left : left draw (pos 101 ∷ pos 1000 ∷ []) (Some (pos 1000) ∷ []) 1 ≡ ToRun (record {
  statements =
      text.choose (at_most (arg 1) (reg 0)) (text.save 1 (diff (reg 0) (arg 1)) text.empty) (text.save 1 (reg 0) text.empty)
      (text.put 2 (arg 0) (reg 1)
      (text.answer (diff (reg 0) (reg 1))
      text.empty));
  args = pos 101 ∷ pos 1000 ∷ [];
  registers = Some (pos 1000) ∷ replicate 15 None;
  answers = [];
})
draws-left = refl

draws-next : next_left (left draw (pos 101 ∷ pos 1000 ∷ []) (Some (pos 1000) ∷ []) 1) ≡ Puts (2, pos 101) (Some (pos 0))
draws-next = refl
