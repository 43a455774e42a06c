use Rattle.std.proofs.Common.{◌≡◌, ℕ, List, false, cond, length, ◌<◌, inr, refl, sym, subst, ap, ◌∙◌, ◌++◌, ◌∷◌, []}
use Rattle.sgt_model.specs.declared.kind.Kind.TheVariants as kind
use Rattle.sgt_model.specs.declared.reply.Reply.TheVariants as reply
use Rattle.sgt_model.specs.Contents.{key_eq}
use Rattle.sgt_model.specs.Chains.{write_last, writes_in}
use Rattle.sgt_model.specs.ChainOrder.{IsLastIn}
use Rattle.sgt_model.specs.CallEffects.{StepOn, MakesLook, MakesStore}
use Rattle.sgt_records.specs.Tops.{top_of, value_of_top}
use Rattle.sgt_sched.specs.Operations.{kind_of, next_of}
use Rattle.sgt_sched.specs.Scheduler.{state, asks_of}
use Rattle.sgt_sched.specs.SchedulerView.{IsKept, view, state_of}
use Rattle.sgt_sched.specs.Steps.{AreRivals, with_source}
use Rattle.sgt_sched.proofs.Accessed.{rivals_are_nodes}
use Rattle.sgt_sched.proofs.Looks.{kept_look, makes_look, store_last, store_capacity, kept_store, makes_store}
use Rattle.sgt_sched.proofs.Reserved.{kept_reserved}
use Rattle.sgt_sched.proofs.sched.Sched.make_access.Goals as goal

pub invariant_of-self : goal.invariant_of-self
invariant_of-self g c = record {
  kept = subst (λ reads. IsKept g.R.Records.chain g.R.Records.settled g.A.Accesses.list g.G.Graph.nodes g.G.Graph.pairs
      (view c.args.self.now.procedures c.args.self.now.limits c.reserve_access.new.records c.reserve_access.new.accesses
      c.args.self.now.graph c.args.self.now.live reads c.args.self.now.fates.fates)) (sym c.reserve_access.ensures.reads)
      (kept_reserved c.args.self.now.kept c.reserve_access.new.records c.reserve_access.new.accesses c.reserve_access.ensures.chain
      c.reserve_access.ensures.accesses);
}

pub follow-requires-clause-others : goal.follow-requires-clause-others
follow-requires-clause-others g c κs lives = rivals_are_nodes c.args.self.now.kept c.args.t c.requires.live c.args.key
    (kind_of c.args.operation) c.args.rivals.now c.requires.rivals

pub invariant_of-self-in-Look : goal.invariant_of-self-in-Look
invariant_of-self-in-Look g c =
    let is = c.kind-kind.ensures ∙ ap kind_of c.in-Look.is in
    let same = c.reserve_access.ensures.looking is in
    let top = c.top-top.ensures.top
    ∙ ap (λ r. top_of (g.R.Records.chain r c.args.key) (g.R.Records.settled r c.args.key)) same in
    record {
      kept = subst (λ r. IsKept g.R.Records.chain g.R.Records.settled g.A.Accesses.list g.G.Graph.nodes g.G.Graph.pairs
          (view c.args.self.now.procedures c.args.self.now.limits r c.note.new.self c.follow.new.graph c.look.new.self
          c.note_read.new.read_from.items c.args.self.now.fates.fates)) (sym same)
          (kept_look refl c.args.self.now.kept c.args.t c.requires.live c.args.key c.args.rivals.now c.requires.free
          (subst (λ o. AreRivals (state c.args.self.now) c.args.t c.args.key (kind_of o) c.args.rivals.now) c.in-Look.is
          c.requires.rivals)
          c.note.new.self c.follow.new.graph c.look.new.self c.note_read.new.read_from.items c.value-value.result
          (c.note.ensures.noted
          ∙ ap (λ l. l ++ record { by = c.args.t; key = c.args.key; kind = c.kind-kind.result } ∷ []) c.reserve_access.ensures.accesses
          ∙ ap (λ k. g.A.Accesses.list c.args.self.now.accesses ++ record { by = c.args.t; key = c.args.key; kind = k } ∷ []) is)
          c.follow.ensures.nodes
          c.follow.ensures.pairs
          (c.value-value.ensures ∙ ap value_of_top top) c.look.ensures
          (c.note_read.ensures ∙ ap (with_source c.top-top.result c.args.t) c.reserve_access.ensures.reads
          ∙ ap (λ found. with_source found c.args.t c.args.self.now.read_from.items) top));
    }

pub returns-in-Look : goal.returns-in-Look
returns-in-Look g c =
    let is = c.kind-kind.ensures ∙ ap kind_of c.in-Look.is in
    let same = c.reserve_access.ensures.looking is in
    let top = c.top-top.ensures.top
    ∙ ap (λ r. top_of (g.R.Records.chain r c.args.key) (g.R.Records.settled r c.args.key)) same in
    let after = λ (r : g.row.R.Denot). state_of g.R.Records.chain g.R.Records.settled g.A.Accesses.list g.G.Graph.nodes g.G.Graph.pairs
    (view c.args.self.now.procedures c.args.self.now.limits r c.note.new.self c.follow.new.graph c.look.new.self
    c.note_read.new.read_from.items c.args.self.now.fates.fates) in
    record {
      done = λ lists. subst (λ o. StepOn (asks_of c.args.self.now) c.args.t (next_of c.args.key o) (state c.args.self.now)
          (reply.Looked c.args.key c.value-value.result) (after c.reserve_access.new.records)) (sym c.in-Look.is)
          (inr (subst (λ r. MakesLook c.args.t c.args.key (state c.args.self.now) (reply.Looked c.args.key c.value-value.result) (after r))
          (sym same)
          (makes_look refl c.args.self.now.kept c.args.t c.requires.live c.args.key c.args.rivals.now c.requires.free
          (subst (λ o. AreRivals (state c.args.self.now) c.args.t c.args.key (kind_of o) c.args.rivals.now) c.in-Look.is
          c.requires.rivals)
          c.note.new.self c.follow.new.graph c.look.new.self c.note_read.new.read_from.items c.value-value.result
          (c.note.ensures.noted
          ∙ ap (λ l. l ++ record { by = c.args.t; key = c.args.key; kind = c.kind-kind.result } ∷ []) c.reserve_access.ensures.accesses
          ∙ ap (λ k. g.A.Accesses.list c.args.self.now.accesses ++ record { by = c.args.t; key = c.args.key; kind = k } ∷ []) is)
          c.follow.ensures.nodes
          c.follow.ensures.pairs
          (c.value-value.ensures ∙ ap value_of_top top) c.look.ensures
          (c.note_read.ensures ∙ ap (with_source c.top-top.result c.args.t) c.reserve_access.ensures.reads
          ∙ ap (λ found. with_source found c.args.t c.args.self.now.read_from.items) top))));
      refused = tt;
      kept = (refl, refl);
    }

pub write-requires-clause-last : goal.write-requires-clause-last
write-requires-clause-last g c = subst (λ l. IsLastIn c.args.t l) (sym (c.reserve_access.ensures.chain c.args.key))
    (store_last refl c.args.self.now.kept c.args.t c.requires.live c.args.key c.args.rivals.now c.requires.free
    (subst (λ o. AreRivals (state c.args.self.now) c.args.t c.args.key (kind_of o) c.args.rivals.now) c.in-Store.is c.requires.rivals))

pub write-requires-clause-capacity : goal.write-requires-clause-capacity
write-requires-clause-capacity g c = subst (λ l. writes_in c.args.t l ≡ false → length l < 32)
    (sym (c.reserve_access.ensures.chain c.args.key))
    (store_capacity refl c.args.self.now.kept c.args.t c.requires.live c.args.key c.args.rivals.now c.requires.free
    (subst (λ o. AreRivals (state c.args.self.now) c.args.t c.args.key (kind_of o) c.args.rivals.now) c.in-Store.is c.requires.rivals))

pub invariant_of-self-in-Store : goal.invariant_of-self-in-Store
invariant_of-self-in-Store g c =
    let is = c.kind-kind.ensures ∙ ap kind_of c.in-Store.is in
    record {
      kept = subst (λ reads. IsKept g.R.Records.chain g.R.Records.settled g.A.Accesses.list g.G.Graph.nodes g.G.Graph.pairs
          (view c.args.self.now.procedures c.args.self.now.limits c.write.new.self c.note.new.self c.follow.new.graph c.store.new.self
          reads c.args.self.now.fates.fates)) (sym c.reserve_access.ensures.reads)
          (kept_store refl c.args.self.now.kept c.args.t c.requires.live c.args.key c.args.rivals.now c.requires.free
          (subst (λ o. AreRivals (state c.args.self.now) c.args.t c.args.key (kind_of o) c.args.rivals.now) c.in-Store.is
          c.requires.rivals)
          c.in-Store.value c.write.new.self c.note.new.self c.follow.new.graph c.store.new.self
          (λ j. c.write.ensures.chain j
          ∙ ap (λ l. cond (key_eq c.args.key j) (write_last c.args.t c.in-Store.value l) l) (c.reserve_access.ensures.chain j))
          (λ j. c.write.ensures.settled j ∙ c.reserve_access.ensures.settled j)
          (c.note.ensures.noted
          ∙ ap (λ l. l ++ record { by = c.args.t; key = c.args.key; kind = c.kind-kind.result } ∷ []) c.reserve_access.ensures.accesses
          ∙ ap (λ k. g.A.Accesses.list c.args.self.now.accesses ++ record { by = c.args.t; key = c.args.key; kind = k } ∷ []) is)
          c.follow.ensures.nodes
          c.follow.ensures.pairs
          c.store.ensures);
    }

pub returns-in-Store : goal.returns-in-Store
returns-in-Store g c =
    let is = c.kind-kind.ensures ∙ ap kind_of c.in-Store.is in
    let after = λ (reads : List (ℕ × ℕ)). state_of g.R.Records.chain g.R.Records.settled g.A.Accesses.list g.G.Graph.nodes g.G.Graph.pairs
    (view c.args.self.now.procedures c.args.self.now.limits c.write.new.self c.note.new.self c.follow.new.graph c.store.new.self
    reads c.args.self.now.fates.fates) in
    record {
      done = λ lists. subst (λ o. StepOn (asks_of c.args.self.now) c.args.t (next_of c.args.key o) (state c.args.self.now)
          (reply.Wrote c.args.key c.in-Store.value) (after c.reserve_access.new.read_from.items)) (sym c.in-Store.is)
          (inr (subst (λ reads. MakesStore c.args.t c.args.key c.in-Store.value (state c.args.self.now)
          (reply.Wrote c.args.key c.in-Store.value) (after reads)) (sym c.reserve_access.ensures.reads)
          (makes_store refl c.args.self.now.kept c.args.t c.requires.live c.args.key c.args.rivals.now c.requires.free
          (subst (λ o. AreRivals (state c.args.self.now) c.args.t c.args.key (kind_of o) c.args.rivals.now) c.in-Store.is
          c.requires.rivals)
          c.in-Store.value c.write.new.self c.note.new.self c.follow.new.graph c.store.new.self
          (λ j. c.write.ensures.chain j
          ∙ ap (λ l. cond (key_eq c.args.key j) (write_last c.args.t c.in-Store.value l) l) (c.reserve_access.ensures.chain j))
          (λ j. c.write.ensures.settled j ∙ c.reserve_access.ensures.settled j)
          (c.note.ensures.noted
          ∙ ap (λ l. l ++ record { by = c.args.t; key = c.args.key; kind = c.kind-kind.result } ∷ []) c.reserve_access.ensures.accesses
          ∙ ap (λ k. g.A.Accesses.list c.args.self.now.accesses ++ record { by = c.args.t; key = c.args.key; kind = k } ∷ []) is)
          c.follow.ensures.nodes
          c.follow.ensures.pairs
          c.store.ensures)));
      refused = tt;
      kept = (refl, refl);
    }
