-- The index of a history that gets one more entry.
use Rattle.std.proofs.Common.{◌≡◌, ℕ, zero, suc, ◌+◌, ◌<◌, ◌≤◌, ◌⊎◌, List, [], ◌∷◌, ◌++◌, Option, Some, None, Result, OnOk, length, get_or, refl, sym, ap, subst, inl, inr, ◌∙◌, arith, slice_get}
use Rattle.std.specs.Option.{option_and_then}
use Rattle.std.proofs.lemmas.Bool.{cases_eq, cases_lt}
use Rattle.std.proofs.lemmas.List.{get_or_append_left, get_or_push, get_or_past, get_or_default, length_push}
use Rattle.std.proofs.lemmas.Option.{slice_get_past}
use Rattle.std.proofs.lemmas.Result.{on_ok_weaker}
use Rattle.sgt_model.specs.declared.event.Event.{Event}
use Rattle.sgt_model.specs.declared.event.Event.TheVariants.{Start, Step, Commit, Quit}
use Rattle.sgt_model.specs.declared.event.Event.TheVariants as event
use Rattle.sgt_model.specs.declared.reply.Reply.{Reply}
use Rattle.sgt_model.specs.declared.reply.Reply.TheVariants as reply
use Rattle.sgt_model.specs.declared.reply.Fate.{Fate}
use Rattle.sgt_model.specs.declared.entry.Entry.{Entry}
use Rattle.sgt_model.specs.declared.kind.Kind.{Kind}
use Rattle.sgt_model.specs.Contents.{Key}
use Rattle.sgt_model.specs.Accesses.{Access, access_at, access_in, access_of}
use Rattle.sgt_model.specs.Fates.{ending_in}
use Rattle.sgt_model.specs.Questions.{named_by}
use Rattle.sgt_model.specs.ReadFrom.{IsBy}
use Rattle.sgt_model.specs.ShortReplies.{fell_in}
use Rattle.sgt_model.specs.Paths.{Member}
use Rattle.sgt_explain.specs.Places.{placed_access}
use Rattle.sgt_explain.specs.Indexes.{HasPart, part_at, part_in, IsUntouched, IsIndex}
use Rattle.sgt_explain.proofs.Endings.{by_abort, ends_no_other}

-- one entry

access_named : (event : Event) (k : Key) (kind : Kind) (v : Option _) (t : ℕ) → IsBy (access_at event k kind v) t → named_by event ≡ Some t
access_named (Step u) k kind v t by = ap Some by
access_named (event.Access u d) k kind v t by = ap Some by
access_named (Start p args) k kind v t by = absurd by
access_named (Commit u) k kind v t by = absurd by
access_named (Quit u) k kind v t by = absurd by

-- an access is by the transaction that its event names
by_named : (event : Event) (r : Reply) (t : ℕ) → IsBy (access_in event r) t → named_by event ≡ Some t
by_named event (reply.Looked k v) t by = access_named event k _ v t by
by_named event (reply.Wrote k v) t by = access_named event k _ v t by
by_named event _ t by = absurd by

by_part : (event : Event) (r : Reply) (t : ℕ) → IsBy (access_in event r) t → part_at event r ≡ Some t
by_part event (reply.Looked k v) t by = by_named event (reply.Looked k v) t by
by_part event (reply.Wrote k v) t by = by_named event (reply.Wrote k v) t by
by_part event _ t by = absurd by

pub by_is_part : (e : Entry) (a : Access) → Some a ≡ access_of e → part_in e ≡ Some a.by
by_is_part e a is = by_part e.event e.reply a.by (subst (λ o. IsBy o a.by) is refl)

-- the one by which an access is
pub by_is : (e : Entry) (a : Access) (t : ℕ) → Some a ≡ access_of e → IsBy (access_of e) t → a.by ≡ t
by_is e a t is by = subst (λ o. IsBy o t) (sym is) by

pub by_none : (e : Entry) (t : ℕ) → None ≡ access_of e → IsBy (access_of e) t → ⊥
by_none e t is by = subst (λ o. IsBy o t) (sym is) by

no_fate : (o : Option Fate) → None ≡ by_abort o → o ≡ None
no_fate None h = refl
no_fate (Some f) h = absurd (cc)

ends_no_part : (event : Event) (r : Reply) (t : ℕ) → (part_at event r ≡ Some t → ⊥) → (Member t (fell_in r) → ⊥)
    → None ≡ by_abort (ending_in event r t)
ends_no_part event (reply.Committed answers) t other out = ends_no_other event (reply.Committed answers) t other out
ends_no_part event (reply.Aborted why fell) t other out = ends_no_other event (reply.Aborted why fell) t other out
ends_no_part event (reply.Refused code fell) t other out = ends_no_other event (reply.Refused code fell) t other out
ends_no_part event _ t other out = refl

-- an entry without a part in a transaction is neither an access nor an end of it
without_part : (e : Entry) (t : ℕ) → (HasPart e t → ⊥) → (IsBy (access_of e) t → ⊥) × (ending_in e.event e.reply t ≡ None)
without_part e t other = (
  λ by. other (inl (by_part e.event e.reply t by)),
  no_fate _ (ends_no_part e.event e.reply t (λ part. other (inl part)) (λ fell. other (inr fell))),
)

pub is_by_cases : (o : Option Access) (t : ℕ) → IsBy o t ⊎ (IsBy o t → ⊥)
is_by_cases None t = inr (λ by. by)
is_by_cases (Some a) t = cases_eq a.by t

-- whoever has a part in an entry is covered, if it is both as the one of its event and as one that it aborts in cascade
pub parts_covered : {T E : Type 0} (r : Result T E) (e : Entry) (few many : ℕ) → few ≤ many
    → ((u : ℕ) → part_in e ≡ Some u → u < few) → OnOk r ((u : ℕ) → Member u (fell_in e.reply) → u < many)
    → OnOk r ((u : ℕ) → HasPart e u → u < many)
parts_covered r e few many more named = on_ok_weaker r (λ fell u is. elim is [
  | inl one ↦ let below = named u one in omega (arith, below, more)
  | inr other ↦ fell u other
])

-- positions

slice_old : {X : Type 0} (xs : List X) (x : X) (i : ℕ) → i < length xs → slice_get (xs ++ x ∷ []) i ≡ slice_get xs i
slice_old [] x i within = absurd (omega (arith, within))
slice_old (y ∷ xs) x zero within = refl
slice_old (y ∷ xs) x (suc i) within = slice_old xs x i (omega (arith, within))

slice_new : {X : Type 0} (xs : List X) (x : X) → slice_get (xs ++ x ∷ []) (length xs) ≡ Some x
slice_new [] x = refl
slice_new (y ∷ xs) x = slice_new xs x

-- where a position of the longer history is
abbrev Where : List Entry → Entry → ℕ → Type 0
Where entries e place = (place < length entries) × (slice_get (entries ++ e ∷ []) place ≡ slice_get entries place)
    ⊎ ((place ≡ length entries) × (slice_get (entries ++ e ∷ []) place ≡ Some e)
    ⊎ (length entries < place) × (slice_get (entries ++ e ∷ []) place ≡ None))

where_is : (entries : List Entry) (e : Entry) (place : ℕ) → Where entries e place
where_is entries e place = elim (cases_lt place (length entries)) [
  | inl old ↦ inl (old, slice_old entries e place old)
  | inr past ↦ elim (cases_eq place (length entries)) [
    | inl same ↦ inr (inl (same, ap (slice_get (entries ++ e ∷ [])) same ∙ slice_new entries e))
    | inr other ↦ inr (inr (
      omega (arith, past, other),
      slice_get_past (entries ++ e ∷ []) place (let long = length_push entries e in omega (arith, long, past, other)),
    ))
  ]
]

-- an access of t in the longer history is one of the shorter, or that of the entry
by_where : (entries : List Entry) (e : Entry) (place t : ℕ) → IsBy (placed_access (entries ++ e ∷ []) place) t
    → ((place < length entries) × IsBy (placed_access entries place) t) ⊎ ((place ≡ length entries) × IsBy (access_of e) t)
by_where entries e place t by = elim (where_is entries e place) [
  | inl old ↦ inl (old.0, subst (λ o. IsBy (option_and_then access_of o) t) old.1 by)
  | inr later ↦ elim later [
    | inl here ↦ inr (here.0, subst (λ o. IsBy (option_and_then access_of o) t) here.1 by)
    | inr past ↦ absurd (subst (λ o. IsBy (option_and_then access_of o) t) past.1 by)
  ]
]

-- the index

pub index_of_none : IsIndex [] [] [] []
index_of_none = record {
  first_within = λ t. omega arith;
  first = λ t place below. absurd (omega (arith, below));
  end_within = λ t. omega arith;
  end = λ t place from by. by;
  linked = refl;
  link_within = λ place. omega arith;
  link = λ t place n by from below other. other;
}

-- the lists may get longer if they say the same of each transaction
pub index_same : (entries : List Entry) (firsts ends links firsts' ends' : List ℕ) (count : ℕ) → count ≡ length entries
    → IsIndex entries firsts ends links
    → ((u : ℕ) → get_or firsts' u count ≡ get_or firsts u count) → ((u : ℕ) → get_or ends' u 0 ≡ get_or ends u 0)
    → IsIndex entries firsts' ends' links
index_same entries firsts ends links firsts' ends' count is index same_first same_end =
    let same : (u : ℕ) → get_or firsts' u (length entries) ≡ get_or firsts u (length entries) =
    subst (λ n. (u : ℕ) → get_or firsts' u n ≡ get_or firsts u n) is same_first in
    record {
      first_within = λ t. let s = same t in let h = index.first_within t in omega (arith, s, h);
      first = λ t place below. index.first t place (let s = same t in omega (arith, s, below));
      end_within = λ t. let s = same_end t in let h = index.end_within t in omega (arith, s, h);
      end = λ t place from. index.end t place (let s = same_end t in omega (arith, s, from));
      linked = index.linked;
      link_within = index.link_within;
      link = index.link;
    }

-- one entry more, whose transactions have their place in the lists
module _ (entries : List Entry) (e : Entry) (firsts ends ends' links : List ℕ) (link : ℕ) (index : IsIndex entries firsts ends links)
    (named : (u : ℕ) → HasPart e u → u < length firsts) (link_within : link ≤ length entries)
    (link_is : (t : ℕ) → IsBy (access_of e) t → link ≡ get_or ends t 0)
    (at : (t : ℕ) → IsBy (access_of e) t → get_or ends' t 0 ≡ length entries + 1)
    (others : (t : ℕ) → (IsBy (access_of e) t → ⊥) → get_or ends' t 0 ≡ get_or ends t 0) where
  abbrev pub more : List Entry
  more = entries ++ e ∷ []

  long : length more ≡ length entries + 1
  long = length_push entries e

  untouched_old : (t place : ℕ) → place < length entries → IsUntouched entries t place → IsUntouched more t place
  untouched_old t place old none =
      let same = sym (slice_old entries e place old) in (
        subst (λ o. IsBy (option_and_then access_of o) t → ⊥) same none.0,
        subst (λ o. option_and_then (λ (x : Entry). ending_in x.event x.reply t) o ≡ None) same none.1,
      )

  untouched_new : (t place : ℕ) → place ≡ length entries → (HasPart e t → ⊥) → IsUntouched more t place
  untouched_new t place here other =
      let is = sym (ap (slice_get more) here ∙ slice_new entries e) in
      let none = without_part e t other in (
        subst (λ o. IsBy (option_and_then access_of o) t → ⊥) is none.0,
        subst (λ o. option_and_then (λ (x : Entry). ending_in x.event x.reply t) o ≡ None) is none.1,
      )

  first_more : (t place : ℕ) → place < get_or firsts t (length more) → IsUntouched more t place
  first_more t place below = elim (cases_lt t (length firsts)) [
    | inl there ↦
        let same = get_or_default firsts t (length more) (length entries) there in
        let within = index.first_within t in
        untouched_old t place (omega (arith, same, within, below)) (index.first t place (omega (arith, same, below)))
    | inr missing ↦
        let now = get_or_past firsts t (length more) missing in
        let then = get_or_past firsts t (length entries) missing in
        elim (cases_lt place (length entries)) [
          | inl old ↦ untouched_old t place old (index.first t place (omega (arith, then, old)))
          | inr past ↦ untouched_new t place (omega (arith, now, long, past, below))
              (λ is. let h = named t is in omega (arith, h, missing))
        ]
  ]

  first_more_within : (t : ℕ) → get_or firsts t (length more) ≤ length more
  first_more_within t = elim (cases_lt t (length firsts)) [
    | inl there ↦
        let same = get_or_default firsts t (length more) (length entries) there in
        let within = index.first_within t in
        omega (arith, same, within, long)
    | inr missing ↦ let now = get_or_past firsts t (length more) missing in omega (arith, now)
  ]

  end_more_within : (t : ℕ) → get_or ends' t 0 ≤ length more
  end_more_within t = elim (is_by_cases (access_of e) t) [
    | inl by ↦ let is = at t by in omega (arith, is, long)
    | inr other ↦ let is = others t other in let within = index.end_within t in omega (arith, is, within, long)
  ]

  end_more : (t place : ℕ) → get_or ends' t 0 ≤ place → IsBy (placed_access more place) t → ⊥
  end_more t place from by = elim (is_by_cases (access_of e) t) [
    | inl its ↦ let is = at t its in elim (by_where entries e place t by) [
      | inl old ↦ let below = old.0 in omega (arith, is, from, below)
      | inr here ↦ let same = here.0 in omega (arith, is, from, same)
    ]
    | inr other ↦ let is = others t other in elim (by_where entries e place t by) [
      | inl old ↦ index.end t place (omega (arith, is, from)) old.1
      | inr here ↦ other here.1
    ]
  ]

  link_more_within : (place : ℕ) → get_or (links ++ link ∷ []) place 0 ≤ place
  link_more_within place = let linked = index.linked in elim (cases_lt place (length links)) [
    | inl old ↦
        let same = get_or_append_left links (link ∷ []) 0 place old in
        let within = index.link_within place in omega (arith, same, within)
    | inr past ↦ elim (cases_eq place (length links)) [
      | inl here ↦ let is = get_or_push links link 0 place (sym here) in omega (arith, is, link_within, here, linked)
      | inr other ↦
          let none = get_or_past (links ++ link ∷ []) place 0
          (let more = length_push links link in omega (arith, more, past, other)) in omega (arith, none)
    ]
  ]

  link_more : (t place n : ℕ) → IsBy (placed_access more place) t → get_or (links ++ link ∷ []) place 0 ≤ n → n < place
      → IsBy (placed_access more n) t → ⊥
  link_more t place n by from below other = let linked = index.linked in elim (by_where entries e n t other) [
    | inr last ↦ elim (by_where entries e place t by) [
      | inl old ↦ let one = last.0 in let two = old.0 in omega (arith, one, two, below)
      | inr here ↦ let one = last.0 in let two = here.0 in omega (arith, one, two, below)
    ]
    | inl before ↦ elim (by_where entries e place t by) [
      | inl old ↦
          let within = old.0 in
          let same = get_or_append_left links (link ∷ []) 0 place (omega (arith, within, linked)) in
          index.link t place n old.1 (omega (arith, same, from)) below before.1
      | inr here ↦
          let where' = here.0 in
          let is = get_or_push links link 0 place (omega (arith, where', linked)) in
          let its = link_is t here.1 in
          index.end t n (omega (arith, is, its, from)) before.1
    ]
  ]

  pub index_more : IsIndex more firsts ends' (links ++ link ∷ [])
  index_more = record {
    first_within = first_more_within;
    first = first_more;
    end_within = end_more_within;
    end = end_more;
    linked = let linked = index.linked in let one = length_push links link in omega (arith, linked, one, long);
    link_within = link_more_within;
    link = link_more;
  }
