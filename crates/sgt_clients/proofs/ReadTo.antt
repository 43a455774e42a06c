-- What has been read of an input, object by object.
use Rattle.std.proofs.Common.{◌≡◌, ◌≤◌, ◌+◌, ◌-◌, ◌∙◌, ℕ, Bool, true, false, List, [], ◌∷◌, ◌++◌, length, take, drop, Option, refl, sym, ap, subst, arith, append_assoc, append-nil}
use Rattle.std.specs.Prelude.{◌==◌, ◌&&◌, map}
use Rattle.std.proofs.lemmas.List.{length-append}
use Rattle.sgt_notation.specs.Numbering.{KnowsItems, texts_of}
use Rattle.sgt_notation.specs.declared.items.Items.{Items}
use Rattle.sgt_clients.specs.declared.clients.Clients.{Clients}
use Rattle.sgt_clients.specs.declared.clients.ClientsReader.{ClientsReader}
use Rattle.sgt_clients.specs.declared.entry.Entry.{Entry}
use Rattle.sgt_clients.specs.Histories.{Past, nothing, with_entry, with_entries, IsInTurn, AreInTurn}
use Rattle.sgt_clients.specs.Inputs.{Spells, SpellEach, AreApart, are_by_line, AreClients}
use Rattle.sgt_clients.specs.Objects.{AreBetween, line_after_all, IsObject, Object, HasObjects}
use Rattle.sgt_clients.specs.Reading.{Stores, Takes}
use Rattle.sgt_clients.proofs.Cuts.{after_gap, after_object, at_end}
use Rattle.sgt_clients.proofs.Spelled.{entry_more}

spells_more : (keys more processes others : List (List ℕ)) (bytes : List ℕ) (e : Option Entry) → Spells keys processes bytes e
    → Spells (keys ++ more) (processes ++ others) bytes e
spells_more keys more processes others bytes e it = (it.0, it.1, entry_more keys more processes others it.0 e it.2)

each_more : (keys more processes others : List (List ℕ)) (os : List Object) (es : List (Option Entry)) → SpellEach keys processes os es
    → SpellEach (keys ++ more) (processes ++ others) os es
each_more keys more processes others [] [] it = tt
each_more keys more processes others [] (e ∷ es) it = absurd it
each_more keys more processes others (o ∷ os) [] it = absurd it
each_more keys more processes others (o ∷ os) (e ∷ es) it =
    (spells_more keys more processes others o.bytes e it.0, each_more keys more processes others os es it.1)

each_one : (keys processes : List (List ℕ)) (os : List Object) (es : List (Option Entry)) (o : Object) (e : Option Entry)
    → SpellEach keys processes os es → Spells keys processes o.bytes e → SpellEach keys processes (os ++ o ∷ []) (es ++ e ∷ [])
each_one keys processes [] [] o e it one = (one, tt)
each_one keys processes [] (f ∷ fs) o e it one = absurd it
each_one keys processes (p ∷ ps) [] o e it one = absurd it
each_one keys processes (p ∷ ps) (f ∷ fs) o e it one = (it.0, each_one keys processes ps fs o e it.1 one)

entries_one : (p : Past) (es : List (Option Entry)) (e : Option Entry) → with_entries p (es ++ e ∷ []) ≡ with_entry (with_entries p es) e
entries_one p [] e = refl
entries_one p (f ∷ fs) e = entries_one (with_entry p f) fs e

in_turn_one : (p : Past) (es : List (Option Entry)) (e : Option Entry) → AreInTurn p es → IsInTurn (with_entries p es) e
    → AreInTurn p (es ++ e ∷ [])
in_turn_one p [] e all one = (one, tt)
in_turn_one p (f ∷ fs) e all one = (all.0, in_turn_one (with_entry p f) fs e all.1 one)

and_assoc : (a b c : Bool) → (a && (b && c)) ≡ ((a && b) && c)
and_assoc true b c = refl
and_assoc false b c = refl

by_line_one : (n m : ℕ) (os : List Object) (o : Object) → m ≡ n + length os
    → are_by_line n (os ++ o ∷ []) ≡ (are_by_line n os && o.line == m + 1)
by_line_one n m [] o is = and_true (o.line == n + 1) ∙ ap (λ k. o.line == k + 1) (omega (arith, is))
  where
    and_true : (a : Bool) → (a && true) ≡ a
    and_true true = refl
    and_true false = refl
by_line_one n m (p ∷ ps) o is =
    ap (λ b. p.line == n + 1 && b) (by_line_one (n + 1) m ps o (omega (arith, is)))
    ∙ and_assoc (p.line == n + 1) (are_by_line (n + 1) ps) (o.line == m + 1)

-- the reader stores what stands before this position, which is on this line
pub record ReadTo (text : List ℕ) (at line : ℕ) (r : ClientsReader) : Type 0 where
  pub objects : List Object
  pub entries : List (Option Entry)
  pub cut : (os : List Object) → HasObjects line (drop at text) os → HasObjects 1 text (objects ++ os)
  pub spelled : SpellEach (texts_of r.keys) (texts_of r.processes) objects entries
  pub in_turn : AreInTurn nothing entries
  pub stored : Stores r (with_entries nothing entries)
  pub count : r.entries ≡ length objects
  pub by_line : r.by_line ≡ are_by_line 0 objects

-- nothing has been read
pub read_none : (text : List ℕ) (at line : ℕ) (r : ClientsReader) → AreBetween (take (at - 0) (drop 0 text))
    → line ≡ line_after_all 1 (take (at - 0) (drop 0 text)) → texts_of r.keys ≡ [] → Stores r nothing → r.by_line ≡ true
    → ReadTo text at line r
read_none text at line r gap is none stores by_line = record {
  objects = [];
  entries = [];
  cut = λ os has. after_gap text 0 at 1 line os (omega arith) gap is has;
  spelled = tt;
  in_turn = tt;
  stored = stores;
  count = stores.entries;
  by_line = by_line;
}

-- one object more, and the gap after it
pub read_one : (text : List ℕ) (a b c line after next : ℕ) (old new : ClientsReader) → ReadTo text a line old → a ≤ b → b ≤ c
    → IsObject (take (b - a) (drop a text)) (drop b text) → after ≡ line_after_all line (take (b - a) (drop a text))
    → Takes old new line (take (b - a) (drop a text))
    → AreBetween (take (c - b) (drop b text)) → next ≡ line_after_all after (take (c - b) (drop b text)) → ReadTo text c next new
read_one text a b c line after next old new was from on object is takes gap then =
    let o : Object = record { line = line; bytes = take (b - a) (drop a text) } in
    record {
      objects = was.objects ++ o ∷ [];
      entries = was.entries ++ takes.entry ∷ [];
      cut = λ os has. subst (λ all. HasObjects 1 text all) (sym (append_assoc was.objects (o ∷ []) os))
          (was.cut (o ∷ os) (after_object text a b line after os from object is (after_gap text b c after next os on gap then has)));
      spelled = each_one (texts_of new.keys) (texts_of new.processes) was.objects was.entries o takes.entry
          (subst (λ keys. SpellEach keys (texts_of new.processes) was.objects was.entries) (sym takes.keys)
          (subst (λ names. SpellEach (texts_of old.keys ++ takes.more) names was.objects was.entries) (sym takes.processes)
          (each_more (texts_of old.keys) takes.more (texts_of old.processes) takes.others was.objects was.entries was.spelled)))
          takes.spelled;
      in_turn = in_turn_one nothing was.entries takes.entry was.in_turn (takes.in_turn (with_entries nothing was.entries) was.stored);
      stored = subst (λ p. Stores new p) (sym (entries_one nothing was.entries takes.entry))
          (takes.stored (with_entries nothing was.entries) was.stored);
      count = takes.entries ∙ ap (λ n. n + 1) was.count ∙ sym (length-append was.objects (o ∷ []));
      by_line = takes.by_line ∙ ap (λ b. b && line == old.entries + 1) was.by_line
          ∙ sym (by_line_one 0 old.entries was.objects o (was.count ∙ sym (none_more (length was.objects))));
    }
  where
    none_more : (n : ℕ) → 0 + n ≡ n
    none_more n = omega arith

-- two numbers of a text are one
apart : (items : Items) → KnowsItems items → AreApart (texts_of items)
apart items knows k l text one other =
    let first = (knows text k).1 one in
    let second = (knows text l).1 other in
    grind (arith, first, second)

-- all has been read
pub read_all : (text : List ℕ) (at line : ℕ) (r : ClientsReader) (c : Clients) → ReadTo text at line r → length text ≤ at
    → KnowsItems r.keys → KnowsItems r.processes → c.transactions.items ≡ r.transactions.items → c.spans.items ≡ r.spans.items
    → c.events.items ≡ r.events.items → c.invoked ≡ r.invoked → c.skipped ≡ r.skipped → c.by_line ≡ r.by_line
    → map (λ text. text.items) c.keys.items ≡ texts_of r.keys → AreClients text c
read_all text at line r c it end knows knows_processes transactions spans events invoked skipped by_line keys = record {
  objects = it.objects;
  entries = it.entries;
  processes = texts_of r.processes;
  cut = subst (λ os. HasObjects 1 text os) (append-nil it.objects) (it.cut [] (at_end text at line end));
  spelled = subst (λ ks. SpellEach ks (texts_of r.processes) it.objects it.entries) (sym keys) it.spelled;
  apart = subst AreApart (sym keys) (apart r.keys knows);
  processes_apart = apart r.processes knows_processes;
  in_turn = it.in_turn;
  transactions = transactions ∙ it.stored.transactions;
  spans = spans ∙ it.stored.spans;
  events = events ∙ it.stored.events;
  invoked = invoked ∙ it.stored.invoked;
  skipped = skipped ∙ it.stored.skipped;
  by_line = by_line ∙ it.by_line;
}
