-- The lines with one read more.
use Rattle.std.proofs.Common.{◌≡◌, ◌≤◌, ◌+◌, ◌++◌, ℕ, zero, suc, List, [], ◌∷◌, Option, Some, None, length, refl, sym, ap, ◌∙◌, subst, inl, inr, arith}
use Rattle.std.specs.Prelude.{slice_get}
use Rattle.std.proofs.lemmas.Bool.{cases_eq}
use Rattle.std.proofs.lemmas.Grind.{common_steps}
use Rattle.sgt_appends.specs.declared.lines.Line.{Line}
use Rattle.sgt_appends.specs.declared.transaction.Status.TheVariants.{Committed}
use Rattle.sgt_appends.specs.declared.transaction.Operation.TheVariants.{Read}
use Rattle.sgt_appends.specs.declared.transaction.Transaction.{Transaction}
use Rattle.sgt_appends.specs.Runs.{operations_of, Ended}
use Rattle.sgt_appends.specs.Indexes.{IsEarlier}
use Rattle.sgt_appends.specs.Reads.{IsReadAt}
use Rattle.sgt_appends.specs.Lines.{KeyLines, version_of, IsWithLine, IsOffered, IsVersion, IsCovered, AreLines, AreAllLines}
use Rattle.sgt_appends.proofs.Filed.{earlier_cases}
use Rattle.sgt_appends.proofs.Passed.{same_read_at, stands_within, ended_within}

same_line : (x : Option Line) (a b : Line) → x ≡ Some a → x ≡ Some b → a ≡ b
same_line x a b one other = by (sym one ∙ other)
  where
    by : Some a ≡ Some b → a ≡ b
    by e = cc

-- a version that was covered still is
covered_still : (old new : KeyLines) (keys keys' : List ℕ) (k : ℕ) (values : List ℕ) (l : ℕ) (others : List ℕ)
    → IsOffered old new keys keys' k values → IsCovered old l others → IsCovered new l others
covered_still old new keys keys' k values l others (inl kept) it = (it.0, kept.same l ∙ it.1, it.2)
covered_still old new keys keys' k values l others (inr put) it = elim (cases_eq l k) [
  | inl same ↦ (
    put.line,
    subst (λ m. new m ≡ Some put.line) (sym same) put.here,
    over (put.longer it.0 (subst (λ m. old m ≡ Some it.0) same it.1)) it.2,
  )
  | inr differ ↦ (it.0, put.others l differ ∙ it.1, it.2)
]
  where
    over : {n : ℕ} → n ≤ length values → length others ≤ n → length others ≤ length put.line.values.items
    over one two = omega (arith, one, two, ap length put.are)

offered_covered : (old new : KeyLines) (keys keys' : List ℕ) (k : ℕ) (values : List ℕ) → IsOffered old new keys keys' k values
    → IsCovered new k values
offered_covered old new keys keys' k values (inl kept) = (kept.line, kept.same k ∙ kept.there, kept.no_longer)
offered_covered old new keys keys' k values (inr put) = (put.line, put.here, omega (arith, ap length put.are))

offered_versions : (h : List Transaction) (old new : KeyLines) (keys keys' : List ℕ) (k : ℕ) (values : List ℕ)
    → IsOffered old new keys keys' k values → ((l : ℕ) (line : Line) → old l ≡ Some line → IsVersion h l line.values.items)
    → IsVersion h k values → (l : ℕ) (line : Line) → new l ≡ Some line → IsVersion h l line.values.items
offered_versions h old new keys keys' k values (inl kept) before here l line is = before l line (sym (kept.same l) ∙ is)
offered_versions h old new keys keys' k values (inr put) before here l line is = elim (cases_eq l k) [
  | inl same ↦
      let one : line ≡ put.line = same_line (new k) line put.line (subst (λ m. new m ≡ Some line) same is) put.here in
      subst (λ m. IsVersion h m line.values.items) (sym same)
      (subst (λ xs. IsVersion h k xs) (sym (ap (λ (o : Line). o.values.items) one ∙ put.are)) here)
  | inr differ ↦ before l line (sym (put.others l differ) ∙ is)
]

offered_numbered : (old new : KeyLines) (keys keys' : List ℕ) (k : ℕ) (values : List ℕ)
    → IsOffered old new keys keys' k values → ((l : ℕ) (line : Line) → old l ≡ Some line → slice_get keys line.number ≡ Some l)
    → (l : ℕ) (line : Line) → new l ≡ Some line → slice_get keys' line.number ≡ Some l
offered_numbered old new keys keys' k values (inl kept) before l line is =
    subst (λ ks. slice_get ks line.number ≡ Some l) (sym kept.keys_same) (before l line (sym (kept.same l) ∙ is))
offered_numbered old new keys keys' k values (inr put) before l line is = elim (cases_eq l k) [
  | inl same ↦
      let one : line ≡ put.line = same_line (new k) line put.line (subst (λ m. new m ≡ Some line) same is) put.here in
      subst (λ m. slice_get keys' line.number ≡ Some m) (sym same)
      (subst (λ (o : Line). slice_get keys' o.number ≡ Some k) (sym one) (put.numbered (λ o there. before k o there)))
  | inr differ ↦ put.keys_stay line.number l (before l line (sym (put.others l differ) ∙ is))
]

-- one read more
pub lines_one : (h : List Transaction) (i j k : ℕ) (seen : List ℕ) (old new : KeyLines) (keys keys' : List ℕ) → AreLines h i j old keys
    → Ended h i Committed → IsReadAt h i j k seen → IsOffered old new keys keys' k (version_of h i j k seen) → AreLines h i (j + 1) new keys'
lines_one h i j k seen old new keys keys' lines committed reads offered = record {
  versions = offered_versions h old new keys keys' k (version_of h i j k seen) offered lines.versions
      (record { reader = i; position = j; seen = seen; committed = committed; reads = reads; is = refl });
  numbered = offered_numbered old new keys keys' k (version_of h i j k seen) offered lines.numbered;
  longest = λ t p l vs earlier ended read. elim (earlier_cases t p i j earlier) [
    | inl before ↦ covered_still old new keys keys' k (version_of h i j k seen) l (version_of h t p l vs) offered
        (lines.longest t p l vs before ended read)
    | inr same ↦ this t p l vs same.0 same.1 read
  ];
}
  where
    this : (t p l : ℕ) (vs : List ℕ) → t ≡ i → p ≡ j → IsReadAt h t p l vs → IsCovered new l (version_of h t p l vs)
    this t p l vs is at read =
        let moved : IsReadAt h i j l vs = subst (λ u. IsReadAt h u j l vs) is (subst (λ q. IsReadAt h t q l vs) at read) in
        let one = same_read_at h i j l k vs seen moved reads in
        subst (λ u. IsCovered new l (version_of h u p l vs)) (sym is)
        (subst (λ q. IsCovered new l (version_of h i q l vs)) (sym at)
        (subst (λ m. IsCovered new m (version_of h i j m vs)) (sym one.0)
        (subst (λ xs. IsCovered new k (version_of h i j k xs)) (sym one.1)
        (offered_covered old new keys keys' k (version_of h i j k seen) offered))))

-- no read there
pub lines_none : (h : List Transaction) (i j : ℕ) (lines : KeyLines) (keys : List ℕ) → AreLines h i j lines keys
    → ((k : ℕ) (seen : List ℕ) → Ended h i Committed → ¬ IsReadAt h i j k seen) → AreLines h i (j + 1) lines keys
lines_none h i j lines keys are none = record {
  versions = are.versions;
  numbered = are.numbered;
  longest = λ t p l vs earlier ended read. elim (earlier_cases t p i j earlier) [
    | inl before ↦ are.longest t p l vs before ended read
    | inr same ↦ absurd (none l vs (subst (λ u. Ended h u Committed) same.0 ended)
        (subst (λ u. IsReadAt h u j l vs) same.0 (subst (λ q. IsReadAt h t q l vs) same.1 read)))
  ];
}

-- all positions of a transaction
pub lines_next : (h : List Transaction) (i j : ℕ) (lines : KeyLines) (keys : List ℕ) → AreLines h i j lines keys
    → length (operations_of h i) ≤ j → AreLines h (i + 1) 0 lines keys
lines_next h i j lines keys are whole = record {
  versions = are.versions;
  numbered = are.numbered;
  longest = λ t p l vs earlier ended read. are.longest t p l vs (within t p l vs read earlier) ended read;
}
  where
    within : (t p l : ℕ) (vs : List ℕ) → IsReadAt h t p l vs → IsEarlier t p (i + 1) 0 → IsEarlier t p i j
    within t p l vs read (inl less) = elim (cases_eq t i) [
      | inl same ↦ inr (
        same,
        omega (
          arith,
          whole,
          stands_within (operations_of h i) p (Read l read.0) (subst (λ u. slice_get (operations_of h u) p ≡ Some (Read l read.0)) same read.1),
        ),
      )
      | inr differ ↦ inl (omega (arith, less, differ))
    ]
    within t p l vs read (inr same) = absurd (omega (arith, same.1))

-- all transactions
pub lines_whole : (h : List Transaction) (i : ℕ) (lines : KeyLines) (keys : List ℕ) → AreLines h i 0 lines keys → length h ≤ i
    → AreAllLines h lines keys
lines_whole h i lines keys are whole = record {
  versions = are.versions;
  numbered = are.numbered;
  longest = λ t p l vs ended read.
      are.longest t p l vs (inl (omega (arith, whole, ended_within h t ended.0 ended.1))) ended read;
}

-- a key's first line
pub offered_new : (old new : KeyLines) (keys keys' : List ℕ) (k : ℕ) (values : List ℕ) → old k ≡ None → keys' ≡ keys ++ k ∷ []
    → IsWithLine old new k (length keys) values → IsOffered old new keys keys' k values
offered_new old new keys keys' k values none longer with = inr (record {
  line = with.line;
  here = with.here;
  are = with.values_are;
  others = with.others;
  numbered = λ before. subst (λ n. slice_get keys' n ≡ Some k) (sym with.number_is)
      (subst (λ ks. slice_get ks (length keys) ≡ Some k) (sym longer) (last keys));
  keys_stay = λ i x is. subst (λ ks. slice_get ks i ≡ Some x) (sym longer) (stays keys i x is);
  longer = λ o is. absurd (never o (sym none ∙ is));
})
  where
    last : (ks : List ℕ) → slice_get (ks ++ k ∷ []) (length ks) ≡ Some k
    last [] = refl
    last (x ∷ ks) = last ks

    stays : (ks : List ℕ) (i x : ℕ) → slice_get ks i ≡ Some x → slice_get (ks ++ k ∷ []) i ≡ Some x
    stays [] i x is = absurd (grind (arith, common_steps, is))
    stays (y ∷ ks) zero x is = is
    stays (y ∷ ks) (suc i) x is = stays ks i x is

    never : (o : Line) → ¬ (None ≡ Some o)
    never o e = cc

-- a longer line
pub offered_longer : (old new : KeyLines) (keys keys' : List ℕ) (k : ℕ) (values : List ℕ) (o : Line) → old k ≡ Some o
    → length o.values.items ≤ length values → keys' ≡ keys → IsWithLine old new k o.number values → IsOffered old new keys keys' k values
offered_longer old new keys keys' k values o there long same with = inr (record {
  line = with.line;
  here = with.here;
  are = with.values_are;
  others = with.others;
  numbered = λ before. subst (λ n. slice_get keys' n ≡ Some k) (sym with.number_is)
      (subst (λ ks. slice_get ks o.number ≡ Some k) (sym same) (before o there));
  keys_stay = λ i x is. subst (λ ks. slice_get ks i ≡ Some x) (sym same) is;
  longer = λ p is. subst (λ (l : Line). length l.values.items ≤ length values) (same_line (old k) o p there is) long;
})

-- a line that is no shorter
pub offered_none : (old new : KeyLines) (keys : List ℕ) (k : ℕ) (values : List ℕ) (o : Line) → old k ≡ Some o
    → length values ≤ length o.values.items → ((l : ℕ) → new l ≡ old l) → IsOffered old new keys keys k values
offered_none old new keys k values o there short same =
    inl (record { line = o; there = there; no_longer = short; same = same; keys_same = refl })

-- one read more, of the transaction and the position that it names
pub lines_here : (h : List Transaction) (i j t p k : ℕ) (seen : List ℕ) (old new : KeyLines) (keys keys' : List ℕ) → t ≡ i → p ≡ j
    → AreLines h i j old keys → Ended h t Committed → IsReadAt h t p k seen → IsOffered old new keys keys' k (version_of h t p k seen)
    → AreLines h i (j + 1) new keys'
lines_here h i j t p k seen old new keys keys' is at lines committed reads offered =
    lines_one h i j k seen old new keys keys' lines (subst (λ u. Ended h u Committed) is committed)
    (subst (λ q. IsReadAt h i q k seen) at (subst (λ u. IsReadAt h u p k seen) is reads))
    (subst (λ q. IsOffered old new keys keys' k (version_of h i q k seen)) at
    (subst (λ u. IsOffered old new keys keys' k (version_of h u p k seen)) is offered))
