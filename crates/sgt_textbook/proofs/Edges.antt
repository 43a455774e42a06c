-- The edges of the textbook's serialization graph are the conflicts of committed transactions.
use Rattle.std.proofs.Common.{◌≡◌, ◌<◌, ℕ, true, List, [], ◌∷◌, Some, ap, ap₂, inl, inr, ◌∙◌, arith}
use Rattle.std.proofs.lemmas.Bool.{or_cases}
use Rattle.std.proofs.lemmas.Option.{slice_get_within}
use Rattle.sgt_model.specs.declared.entry.Entry.{Entry}
use Rattle.sgt_model.specs.declared.kind.Kind.{Kind}
use Rattle.sgt_model.specs.declared.kind.Kind.TheVariants.{Look, Store}
use Rattle.sgt_model.specs.Contents.{Key}
use Rattle.sgt_model.specs.Accesses.{access_of}
use Rattle.sgt_model.specs.Fates.{committed}
use Rattle.sgt_model.specs.Pairs.{one_stores, conflicts, has_conflicting, Precedes, Pair}
use Rattle.sgt_model.proofs.Facts.{committed-stands, Conflicting, conflicts-access, follows-access}
use Rattle.sgt_model.proofs.Stores.{key_eq-true}
use Rattle.sgt_classes.specs.Histories.{Does}
use Rattle.sgt_classes.specs.Serializability.{Conflict, IsEdge}
use Rattle.sgt_textbook.specs.Textbook.{operations_of, textbook}
use Rattle.sgt_textbook.specs.Laws.{EdgesArePairs}
use Rattle.sgt_textbook.proofs.Places.{in_first, in_second}
use Rattle.sgt_textbook.proofs.Entries.{does, action_on, reports}
use Rattle.sgt_textbook.proofs.Histories.{commit_committed, committed_commits, conflict_precedes}

-- an operation of t on an item that conflicts with one of that kind
record Earlier (number : Key → ℕ) (past : List Entry) (t : ℕ) (k : Key) (kind : Kind) : Type 0 where
  place : ℕ
  was : Kind
  does_so : Does (textbook number past) place t (action_on was (number k))
  one : one_stores was kind ≡ true

-- who has a conflicting access has an operation on its key
earlier : (number : Key → ℕ) (past : List Entry) (t : ℕ) (k : Key) (kind : Kind) → has_conflicting past t k kind ≡ true
    → Earlier number past t k kind
earlier number [] t k kind h = absurd (cc)
earlier number (e ∷ past) t k kind h = elim (or_cases (conflicts (access_of e) t k kind) (has_conflicting past t k kind) h) [
  | inl now ↦ here (conflicts-access (access_of e) t k kind now)
  | inr before ↦ let o = earlier number past t k kind before in
      let at = in_first (textbook number past) (operations_of number e) o.place _ o.does_so in
      record { place = o.place; was = o.was; does_so = at; one = o.one }
]
  where
    here : Conflicting (access_of e) t k kind → Earlier number (e ∷ past) t k kind
    here c = let there = (reports number e.event e.reply).access_there c.access c.is in
        let p = in_second (textbook number past) (operations_of number e) 0 _ there in
        record {
          place = p.0;
          was = c.access.kind;
          does_so = p.2 ∙ ap₂ (λ (u : ℕ) (j : Key). Some (does u (action_on c.access.kind (number j)))) c.by
              (key_eq-true c.access.key k c.same_key);
          one = c.one_stores;
        }

-- two operations that conflict, the one of t before the one of u
pub record InTurn (number : Key → ℕ) (past : List Entry) (t u : ℕ) : Type 0 where
  pub first : ℕ
  pub second : ℕ
  pub item : ℕ
  pub was : Kind
  pub kind : Kind
  pub order : first < second
  pub does_first : Does (textbook number past) first t (action_on was item)
  pub does_second : Does (textbook number past) second u (action_on kind item)
  pub one : one_stores was kind ≡ true

pub in_turn : (number : Key → ℕ) (past : List Entry) (t u : ℕ) → Precedes past t u → InTurn number past t u
in_turn number [] t u p = absurd p
in_turn number (e ∷ past) t u (inr before) = let o = in_turn number past t u before in record {
  first = o.first;
  second = o.second;
  item = o.item;
  was = o.was;
  kind = o.kind;
  order = o.order;
  does_first = in_first (textbook number past) (operations_of number e) o.first _ o.does_first;
  does_second = in_first (textbook number past) (operations_of number e) o.second _ o.does_second;
  one = o.one;
}
in_turn number (e ∷ past) t u (inl now) = let f = follows-access past (access_of e) t u now in
    let o = earlier number past t f.access.key f.access.kind f.access_list in
    let within = slice_get_within (textbook number past) o.place _ o.does_so in
    let p = in_second (textbook number past) (operations_of number e) 0 _ ((reports number e.event e.reply).access_there f.access f.is) in
    record {
      first = o.place;
      second = p.0;
      item = number f.access.key;
      was = o.was;
      kind = f.access.kind;
      order = omega (arith, within, p.1);
      does_first = in_first (textbook number past) (operations_of number e) o.place _ o.does_so;
      does_second = p.2 ∙ ap (λ (v : ℕ). Some (does v (action_on f.access.kind (number f.access.key)))) f.by;
      one = o.one;
    }

-- by the kinds of both
pub conflict : (number : Key → ℕ) (past : List Entry) (i j t u x : ℕ) (was kind : Kind) → one_stores was kind ≡ true
    → Does (textbook number past) i t (action_on was x) → Does (textbook number past) j u (action_on kind x)
    → Conflict (textbook number past) i t j u
conflict number past i j t u x Look Look one first second = absurd (cc)
conflict number past i j t u x Look Store one first second = (x, inl first, inr second, inr second)
conflict number past i j t u x Store Look one first second = (x, inr first, inl second, inl first)
conflict number past i j t u x Store Store one first second = (x, inr first, inr second, inl first)

edge_from : (number : Key → ℕ) (past : List Entry) (t u : ℕ) → (committed past t ≡ true) × (committed past u ≡ true) × Pair past t u
    → IsEdge (textbook number past) t u
edge_from number past t u h = let o = in_turn number past t u h.2.precedes in record {
  differ = h.2.apart;
  commits_first = committed_commits number past t h.0;
  commits_second = committed_commits number past u h.1;
  place = o.first;
  later = o.second;
  order = o.order;
  conflict = conflict number past o.first o.second t u o.item o.was o.kind o.one o.does_first o.does_second;
}

pub edges_are_pairs : EdgesArePairs
edges_are_pairs number injective s past h t u = (
  λ edge. let ct = commit_committed number s past h edge.commits_first.0 t edge.commits_first.1 in
      let cu = commit_committed number s past h edge.commits_second.0 u edge.commits_second.1 in (
        ct,
        cu,
        record {
          apart = edge.differ;
          first_stands = committed-stands past t ct;
          second_stands = committed-stands past u cu;
          precedes = conflict_precedes number injective past edge.place edge.later t u edge.order edge.conflict;
        },
      ),
  λ pair. edge_from number past t u pair,
)
