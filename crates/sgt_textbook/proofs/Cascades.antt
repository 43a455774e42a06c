-- In a recoverable history, a transaction that has read from an aborted one does not commit.
use Rattle.std.specs.Prelude.{◌≡◌, ◌≢◌, ℕ, ◌<◌, List, [], ◌∷◌, ◌++◌, length, Some, slice_get}
use Rattle.std.proofs.Common.{sym, ap, ◌∙◌, subst, inl, inr, arith}
use Rattle.std.proofs.lemmas.Bool.{cases_lt, cases_eq}
use Rattle.std.proofs.lemmas.Option.{slice_get_within}
use Rattle.sgt_model.specs.declared.entry.Entry.{Entry}
use Rattle.sgt_model.specs.Contents.{Key}
use Rattle.sgt_model.specs.Paths.{PathOf, last_of}
use Rattle.sgt_model.specs.Configurations.{Configuration}
use Rattle.sgt_model.specs.Legality.{Legal}
use Rattle.sgt_model.proofs.Facts.{some_is}
use Rattle.sgt_classes.specs.declared.operation.Operation.{Operation}
use Rattle.sgt_classes.specs.declared.operation.Action.{Action}
use Rattle.sgt_classes.specs.declared.operation.Action.TheVariants as action
use Rattle.sgt_classes.specs.Histories.{Does, IsWellFormed}
use Rattle.sgt_classes.specs.Classes.{ReadsFrom, IsRecoverable}
use Rattle.sgt_model.specs.Falls.{Feeds}
use Rattle.sgt_model.proofs.Sources.{read-apart}
use Rattle.sgt_textbook.proofs.ReadingFrom.{reads_agree}
use Rattle.sgt_classes.specs.Serializability.{Commits}
use Rattle.sgt_textbook.specs.Textbook.{IsNumbering, textbook}
use Rattle.sgt_textbook.proofs.Places.{in_first, still}
use Rattle.sgt_textbook.proofs.Entries.{does}
use Rattle.sgt_textbook.specs.NeededAborts.{CascadesAreNeeded}

-- what was done before a position stays done, and nothing is added before it
before_more : (h more : List Operation) (j : ℕ) → j < length h → (i t : ℕ) (a : Action) → i < j → Does (h ++ more) i t a → Does h i t a
before_more h more j within i t a less at = still h more i _ (omega arith) at

-- who has read from another still has
reads_more : (h more : List Operation) (i j x w r : ℕ) → ReadsFrom h i j x w r → ReadsFrom (h ++ more) i j x w r
reads_more h more i j x w r f =
    let within : j < length h = slice_get_within h j _ f.read in record {
      earlier = f.earlier;
      written = in_first h more i _ f.written;
      read = in_first h more j _ f.read;
      standing = λ ended. f.standing (ended.0, ended.1, before_more h more j within ended.0 w action.Abort ended.1 ended.2);
      last = λ k t after before at. let ended = f.last k t after before (before_more h more j within k t (action.Write x) before at) in
          (ended.0, ended.1, in_first h more ended.0 _ ended.2);
    }

-- in a recoverable history the source of one that commits commits
source_commits : (h : List Operation) → IsWellFormed h → IsRecoverable h → (i j x w r : ℕ) → w ≢ r → ReadsFrom h i j x w r → Commits h r
    → ¬ ¬ Commits h w
source_commits h well recoverable i j x w r apart f (c, at) none = elim (cases_lt j c) [
  | inl less ↦ recoverable j c (record {
    item = x;
    write = i;
    writer = w;
    reader = r;
    differ = apart;
    earlier = less;
    reads = f;
    commits = at;
    uncommitted = λ before. none (before.0, before.2);
  })
  | inr more ↦ elim (cases_eq c j) [
    | inl same ↦ let both : Some (does r action.Commit) ≡ Some (does r (action.Read x)) = sym at ∙ ap (λ n. slice_get h n) same ∙ f.read in
        let action_is : action.Commit ≡ action.Read x = ap (λ (o : Operation). o.action) (some_is _ _ both) in cc action_is
    | inr other ↦ well j r (action.Read x) f.read (c, omega arith, inl at)
  ]
]

module _ (number : Key → ℕ) (injective : IsNumbering number) (s : Configuration) (past : List Entry) (legal : Legal s past)
    (more : List Operation)
    (well : IsWellFormed (textbook number past ++ more)) (recoverable : IsRecoverable (textbook number past ++ more)) where
  -- along reads from t to one that commits, all commit
  source_along : (t : ℕ) (path : List ℕ) → PathOf (Feeds past) t path → Commits (textbook number past ++ more) (last_of t path)
      → ¬ ¬ Commits (textbook number past ++ more) t
  source_along t [] p commits none = none commits
  source_along t (u ∷ path) p commits none = source_along u path p.1 commits (λ cu.
      let apart : t ≢ u = λ q. read-apart past u t p.0 (sym q) in
      let f = (reads_agree number injective s past legal t u apart).1 p.0 in
      source_commits _ well recoverable f.0 f.1 f.2 t u apart
      (reads_more (textbook number past) more f.0 f.1 f.2 t u f.3) cu none)

pub cascades_are_needed : CascadesAreNeeded
cascades_are_needed number injective s past legal t fell falls more well aborts u m commits recoverable =
    let (path, p, e) = (falls.each u m).2 in
    source_along number injective s past legal more well recoverable t path p
    (subst (Commits (textbook number past ++ more)) (sym e) commits)
    (λ ct. elim (cases_lt ct.0 aborts.0) [
      | inl less ↦ well aborts.0 t action.Abort aborts.1 (ct.0, less, inl ct.1)
      | inr ge ↦ elim (cases_eq ct.0 aborts.0) [
        | inl same ↦ let both : Some (does t action.Commit) ≡ Some (does t action.Abort) = sym ct.1
            ∙ ap (λ n. slice_get (textbook number past ++ more) n) same
            ∙ aborts.1 in
            let action_is : action.Commit ≡ action.Abort = ap (λ (o : Operation). o.action) (some_is _ _ both) in cc action_is
        | inr other ↦ well ct.0 t action.Commit ct.1 (aborts.0, omega arith, inr aborts.1)
      ]
    ])
