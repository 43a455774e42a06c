-- What is spelled stays spelled with more keys, and with one tree more.
use Rattle.std.proofs.Common.{◌≡◌, ◌<◌, ◌∙◌, ℕ, Bool, List, [], ◌∷◌, ◌++◌, length, get_or, Option, Some, None, refl, sym, ap, subst, inl, inr, take, ◌+◌, append_assoc, append-nil}
use Rattle.std.specs.Prelude.{◌⊎◌, map}
use Rattle.serde_json.specs.Data.{Data}
use Rattle.serde_json.specs.View.{view}
use Rattle.serde_json.specs.declared.value.Value.{Value}
use Rattle.std.proofs.lemmas.List.{map_more}
use Rattle.sgt_notation.proofs.Gets.{get_before}
use Rattle.sgt_appends.specs.declared.transaction.Operation.{Operation}
use Rattle.sgt_appends.specs.declared.transaction.Operation.TheVariants.{Append, Read}
use Rattle.sgt_clients.specs.declared.access.Access.{Access}
use Rattle.sgt_clients.specs.declared.entry.Entry.{Entry}
use Rattle.sgt_clients.specs.Entries.{Names, SpellsAs, SpellsOperation, access_of, counted, SpellAll, commits, ListsAccesses, ListsNone, SpellsEntryOrOther}

pub names_more : (names more : List (List ℕ)) (tree : Data) (k : ℕ) → Names names tree k → Names (names ++ more) tree k
names_more names more tree k it = (it.0, it.1, get_before names more k it.0 it.2)

as_more : (keys more : List (List ℕ)) (word : List ℕ) (key what : Data) (o : Operation) → SpellsAs keys word key what o
    → SpellsAs (keys ++ more) word key what o
as_more keys more word key what (Append k value) it = (it.0, names_more keys more key k it.1, it.2)
as_more keys more word key what (Read k values) it = (it.0, names_more keys more key k it.1, it.2)

pub operation_more : (keys more : List (List ℕ)) (tree : Data) (o : Operation) → SpellsOperation keys tree o
    → SpellsOperation (keys ++ more) tree o
operation_more keys more tree o it = (it.0, it.1, it.2, it.3, as_more keys more it.0 it.1 it.2 o it.4)

pub all_more : (committed : Bool) (keys more : List (List ℕ)) (trees : List Data) (accesses : List Access) (os : List Operation)
    → SpellAll committed keys trees accesses os → SpellAll committed (keys ++ more) trees accesses os
all_more committed keys more [] accesses os it = it
all_more committed keys more (tree ∷ trees) accesses os it =
    (it.0, it.1, it.2, operation_more keys more tree it.0 it.3, it.4, it.5, all_more committed keys more trees it.1 it.2 it.6)

-- one tree more
pub all_one : (committed : Bool) (keys : List (List ℕ)) (trees : List Data) (tree : Data) (accesses : List Access) (os : List Operation)
    (o : Operation) → SpellAll committed keys trees accesses os → SpellsOperation keys tree o
    → SpellAll committed keys (trees ++ tree ∷ []) (accesses ++ access_of o ∷ []) (os ++ counted committed o)
all_one committed keys [] tree accesses os o it one = (
  o,
  [],
  [],
  one,
  ap (λ l. l ++ access_of o ∷ []) it.0,
  ap (λ l. l ++ counted committed o) it.1 ∙ sym (append-nil (counted committed o)),
  (refl, refl),
)
all_one committed keys (first ∷ trees) tree accesses os o it one = (
  it.0,
  it.1 ++ access_of o ∷ [],
  it.2 ++ counted committed o,
  it.3,
  ap (λ l. l ++ access_of o ∷ []) it.4,
  ap (λ l. l ++ counted committed o) it.5 ∙ append_assoc (counted committed it.0) it.2 (counted committed o),
  all_one committed keys trees tree it.1 it.2 o it.6 one,
)

-- one value of a list more
pub spelled_one : (committed : Bool) (old more new : List (List ℕ)) (items : List Value) (i : ℕ) (v : Value)
    (accesses longer_accesses : List Access) (os grown : List Operation) (o : Operation) → i < length items → v ≡ get_or items i v
    → new ≡ old ++ more → SpellAll committed old (map view (take i items)) accesses os → SpellsOperation new (view v) o
    → longer_accesses ≡ accesses ++ access_of o ∷ [] → grown ≡ os ++ counted committed o
    → SpellAll committed new (map view (take (i + 1) items)) longer_accesses grown
spelled_one committed old more new items i v accesses longer_accesses os grown o less is longer before one accesses_are grown_is =
    let kept : SpellAll committed new (map view (take i items)) accesses os =
    subst (λ k. SpellAll committed k (map view (take i items)) accesses os) (sym longer)
    (all_more committed old more (map view (take i items)) accesses os before) in
    let trees : map view (take (i + 1) items) ≡ map view (take i items) ++ view v ∷ [] =
    map_more view items i v less ∙ ap (λ x. map view (take i items) ++ view x ∷ []) (sym is) in
    subst (λ them. SpellAll committed new (map view (take (i + 1) items)) them grown) (sym accesses_are)
    (subst (λ l. SpellAll committed new (map view (take (i + 1) items)) (accesses ++ access_of o ∷ []) l) (sym grown_is)
    (subst (λ ts. SpellAll committed new ts (accesses ++ access_of o ∷ []) (os ++ counted committed o)) (sym trees)
    (all_one committed new (map view (take i items)) (view v) accesses os o kept one)))

lists_more : (keys more : List (List ℕ)) (tree : Data) (e : Entry) → ListsAccesses keys tree e ⊎ ListsNone tree e
    → ListsAccesses (keys ++ more) tree e ⊎ ListsNone tree e
lists_more keys more tree e it = elim it [
  | inl w ↦ inl (
    w.0,
    (
      w.1.0,
      w.1.1,
      w.1.2,
      w.1.3,
      all_more (commits e.kind) keys more w.1.1 e.accesses.items e.operations.items w.1.4,
    ),
  )
  | inr w ↦ inr w
]

pub entry_more : (keys more processes others : List (List ℕ)) (tree : Data) (e : Option Entry) → SpellsEntryOrOther keys processes tree e
    → SpellsEntryOrOther (keys ++ more) (processes ++ others) tree e
entry_more keys more processes others tree None it = it
entry_more keys more processes others tree (Some e) it = record {
  process = (it.process.0, it.process.1, names_more processes others it.process.0 e.process it.process.2);
  kind = it.kind;
  function = it.function;
  accesses = lists_more keys more tree e it.accesses;
}
