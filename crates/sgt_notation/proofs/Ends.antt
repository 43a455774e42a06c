-- Who has ended, with one operation more.
use Rattle.std.proofs.Common.{◌≡◌, ◌≢◌, ◌≤◌, ◌+◌, ◌⊎◌, ◌++◌, ℕ, true, List, [], ◌∷◌, length, Option, Some, IsSome, refl, ap, sym, ◌∙◌, subst, inl, inr, arith, length-append}
use Rattle.std.specs.Prelude.{slice_get}
use Rattle.std.proofs.lemmas.Bool.{cases_eq}
use Rattle.std.proofs.lemmas.Option.{slice_get_within}
use Rattle.sgt_classes.specs.declared.operation.Operation.{Operation}
use Rattle.sgt_classes.specs.declared.operation.Action.{Action}
use Rattle.sgt_classes.specs.declared.operation.Action.TheVariants.{Read, Write, Commit, Abort}
use Rattle.sgt_classes.specs.Histories.{Does, EndedBefore}
use Rattle.sgt_notation.specs.Numbering.{KnowsEnds, is_end}
use Rattle.sgt_notation.proofs.Gets.{get_before, get_inside, get_seam, got_append}

-- an end
abbrev pub IsEnd : Action → Type 0
IsEnd a = is_end a ≡ true

end_is : (a : Action) → IsEnd a → (a ≡ Commit) ⊎ (a ≡ Abort)
end_is (Read x) end = absurd (cc)
end_is (Write x) end = absurd (cc)
end_is Commit end = inl refl
end_is Abort end = inr refl

longer : (ops : List Operation) (op : Operation) → length (ops ++ op ∷ []) ≡ length ops + 1
longer ops op = length-append ops (op ∷ [])

pub ended_inside : (ops more : List Operation) (t j : ℕ) → j ≤ length ops → EndedBefore (ops ++ more) t j → EndedBefore ops t j
ended_inside ops more t j within (i, less, ends) = (
  i,
  less,
  elim ends [
    | inl commits ↦ inl (get_inside ops more i _ (omega (arith, less, within)) commits)
    | inr aborts ↦ inr (get_inside ops more i _ (omega (arith, less, within)) aborts)
  ],
)

ended_kept : (ops : List Operation) (op : Operation) (t : ℕ) → EndedBefore ops t (length ops)
    → EndedBefore (ops ++ op ∷ []) t (length (ops ++ op ∷ []))
ended_kept ops op t (i, less, ends) = (
  i,
  omega (arith, less, longer ops op),
  elim ends [
    | inl commits ↦ inl (get_before ops (op ∷ []) i _ commits)
    | inr aborts ↦ inr (get_before ops (op ∷ []) i _ aborts)
  ],
)

done_before : (ops : List Operation) (op : Operation) (t i : ℕ) (a : Action) → IsEnd a → Does (ops ++ op ∷ []) i t a
    → Does ops i t a ⊎ ((op.transaction ≡ t) × IsEnd op.action)
done_before ops op t i a end does = elim (got_append ops op _ i does) [
  | inl before ↦ inl before
  | inr last ↦ inr (ap Operation.transaction last.1, subst IsEnd (sym (ap Operation.action last.1)) end)
]

ended_by : (ops : List Operation) (op : Operation) (t : ℕ) → EndedBefore (ops ++ op ∷ []) t (length (ops ++ op ∷ []))
    → EndedBefore ops t (length ops) ⊎ ((op.transaction ≡ t) × IsEnd op.action)
ended_by ops op t (i, less, ends) = elim ends [
  | inl commits ↦ elim (done_before ops op t i Commit refl commits) [
    | inl before ↦ inl (i, slice_get_within ops i _ before, inl before)
    | inr now ↦ inr now
  ]
  | inr aborts ↦ elim (done_before ops op t i Abort refl aborts) [
    | inl before ↦ inl (i, slice_get_within ops i _ before, inr before)
    | inr now ↦ inr now
  ]
]

-- an end
pub one_end : (ops : List Operation) (op : Operation) (ends new : ℕ → Option ℕ) (place : ℕ) → IsEnd op.action → KnowsEnds ops ends
    → new op.transaction ≡ Some place → ((t : ℕ) → t ≢ op.transaction → new t ≡ ends t) → KnowsEnds (ops ++ op ∷ []) new
one_end ops op ends new place end known here others t = elim (cases_eq t op.transaction) [
  | inl same ↦ (
    λ some. subst (λ u. EndedBefore (ops ++ op ∷ []) u (length (ops ++ op ∷ []))) (sym same) now,
    λ ended. subst (λ u. IsSome (new u)) (sym same) (subst IsSome (sym here) refl),
  )
  | inr other ↦ (
    λ some. ended_kept ops op t ((known t).0 (subst IsSome (others t other) some)),
    λ ended. elim (ended_by ops op t ended) [
      | inl before ↦ subst IsSome (sym (others t other)) ((known t).1 before)
      | inr now ↦ absurd (other (sym now.0))
    ],
  )
]
  where
    last : slice_get (ops ++ op ∷ []) (length ops) ≡ Some op
    last = get_seam ops op []

    now : EndedBefore (ops ++ op ∷ []) op.transaction (length (ops ++ op ∷ []))
    now = (
      length ops,
      omega (arith, longer ops op),
      elim (end_is op.action end) [
        | inl commit ↦ inl (last ∙ ap (λ a. Some (record { transaction = op.transaction; action = a })) commit)
        | inr abort ↦ inr (last ∙ ap (λ a. Some (record { transaction = op.transaction; action = a })) abort)
      ],
    )
