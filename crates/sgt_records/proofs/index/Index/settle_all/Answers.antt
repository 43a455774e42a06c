use Rattle.std.proofs.Common.{rules, ◌≡◌, ◌-◌, ◌<◌, ◌≤◌, ◌+◌, ℕ, true, false, inl, inr, cond, nat_eq, List, length, get_or, swap_remove, vec_len, arith, sym, ap, subst, ◌∙◌, ⊎_elim}
use Rattle.std.specs.List.{AllWithin}
use Rattle.std.specs.BTreeMap.{get}
use Rattle.std.proofs.lemmas.Bool.{cases_eq, cases_lt, eqb-true}
use Rattle.std.specs.Option.{unwrap_or}
use Rattle.sgt_model.specs.Chains.{chain_without, value_in}
use Rattle.sgt_model.specs.Databases.{key_cmp}
use Rattle.sgt_records.specs.declared.index.Index.{Index}
use Rattle.sgt_records.specs.declared.live_write.LiveWrite.{LiveWrite}
use Rattle.sgt_records.specs.LiveWrites.{is_live, IndicesAgree}
use Rattle.sgt_records.specs.Slots.{key_chain, committed_of}
use Rattle.sgt_records.specs.Tables.{record_in, index_in}
use Rattle.sgt_records.proofs.LiveWritesLeft.{agree_at}
use Rattle.sgt_records.proofs.LiveWritesTaken.{others_taken, report_taken, undo_taken, settle_taken, none_live, others_left}
use Rattle.sgt_records.proofs.index.Index.settle_all.Goals as goal

pub settle-requires : goal.settle-requires
settle-requires c = record {
  index = ap (λ m. get key_cmp m c.swap_remove-write.result.key) c.loop-at.invariant.indices
      ∙ agree_at (index_in c.args.self.now.table) c.loop-at.live.items (c.loop-at.at - 1) c.swap_remove-write.result
      (let within = c.loop-at.invariant.within in let some = c.loop-at-test.true in omega (arith, within, some))
      c.swap_remove-write.ensures.value c.loop-at.invariant.returned;
}

pub loop-at-preserved : goal.loop-at-preserved
loop-at-preserved c =
    record {
      within = omega (arith, within, long, some, c.end_of-at-in-loop-at.ensures.within);
      own = subst (λ l. AllWithin (λ (x : LiveWrite). nat_eq x.by c.args.t ≡ true) l (next - 1) next) same c.end_of-at-in-loop-at.ensures.own;
      none = λ k d low high. elim (cases_lt k at) [
        | inl below ↦ subst (λ l. AllWithin (λ (x : LiveWrite). nat_eq x.by c.args.t ≡ false) l next at) same
            c.end_of-at-in-loop-at.ensures.others k d low below
        | inr above ↦ none k d above high
      ];
      others = λ u k other. ap (is_live u k) is_left ∙ others_taken old at w short c.swap_remove-write.ensures.value c.args.t own u k other
          ∙ c.loop-at.invariant.others u k other;
      chain = λ k. ap (λ l. cond (is_live c.args.t k l) (chain_without c.args.t (key_chain (record_in after.table) after.chains k))
          (key_chain (record_in after.table) after.chains k)) is_left
          ∙ undo_taken old at w short c.swap_remove-write.ensures.value c.args.t own k _ _ (c.settle.ensures.chain k)
          ∙ c.loop-at.invariant.chain k;
      settled = λ k. ap (λ l. cond (is_live c.args.t k l)
          (unwrap_or (value_in c.args.t (key_chain (record_in after.table) after.chains k)) (committed_of (record_in after.table) k))
          (committed_of (record_in after.table) k)) is_left
          ∙ settle_taken old at w short c.swap_remove-write.ensures.value c.args.t own k _ _ _ _ (c.settle.ensures.chain k)
          (c.settle.ensures.settled k) ∙ c.loop-at.invariant.settled k;
      indices = c.settle.ensures.indices ∙ c.loop-at.invariant.indices;
      returned = subst (IndicesAgree (index_in c.args.self.now.table)) (sym is_left)
          (report_taken old at w short c.swap_remove-write.ensures.value (index_in c.args.self.now.table) c.loop-at.invariant.returned);
    }
  where
    w : LiveWrite
    w = c.swap_remove-write.result

    old : List LiveWrite
    old = c.loop-at.live.items

    new : List LiveWrite
    new = c.swap_remove-write.new.self.items

    after : Index
    after = c.settle.new.self

    at : ℕ
    at = c.loop-at.at - 1

    within : c.loop-at.at ≤ length old
    within = c.loop-at.invariant.within

    some : 0 < c.loop-at.at
    some = c.loop-at-test.true

    short : at < length old
    short = omega (arith, within, some)

    is_left : new ≡ swap_remove old at w
    is_left = c.swap_remove-write.ensures.items

    next : ℕ
    next = c.end_of-at-in-loop-at.result

    same : c.as_slice-in-loop-at.result.now ≡ new
    same = c.as_slice-in-loop-at.ensures.value

    own : w.by ≡ c.args.t
    own = eqb-true w.by c.args.t (ap (λ (x : LiveWrite). nat_eq x.by c.args.t) c.swap_remove-write.ensures.value
        ∙ c.loop-at.invariant.own at w (omega arith) (omega (arith, some)))

    long : length new + 1 ≡ length old
    long = search rules

    sized : vec_len c.loop-at.live ≡ length old
    sized = search rules

    none : AllWithin (λ (x : LiveWrite). nat_eq x.by c.args.t ≡ false) new at (length new)
    none k d low high = ⊎_elim
        (λ e. subst (λ (x : LiveWrite). nat_eq x.by c.args.t ≡ false)
        (sym (ap (λ n. get_or new n d) e ∙ c.swap_remove-write.ensures.by_index.0 d (omega (arith, high, long, e, sized))))
        (c.loop-at.invariant.none (vec_len c.loop-at.live - 1) d (omega (arith, high, long, e, some, sized)) (omega (arith, short, sized))))
        (λ ne. subst (λ (x : LiveWrite). nat_eq x.by c.args.t ≡ false)
        (sym (c.swap_remove-write.ensures.by_index.1 k d ne (omega (arith, high, long, sized))))
        (c.loop-at.invariant.none k d (omega (arith, low, ne, some)) (omega (arith, high, long))))
        (cases_eq k at)

pub returns-clause-chain : goal.returns-clause-chain
returns-clause-chain c k =
    let done = c.loop-at-test.false in
    let chain = key_chain (record_in c.loop-at.self.table) c.loop-at.self.chains k in
    sym (ap (λ b. cond b (chain_without c.args.t chain) chain) (none_live c.args.t k c.loop-at.live.items
    (λ i d low high. c.loop-at.invariant.none i d (omega (arith, done)) high))) ∙ c.loop-at.invariant.chain k

pub returns-clause-settled : goal.returns-clause-settled
returns-clause-settled c k =
    let done = c.loop-at-test.false in
    let chain = key_chain (record_in c.loop-at.self.table) c.loop-at.self.chains k in
    let committed = committed_of (record_in c.loop-at.self.table) k in
    sym (ap (λ b. cond b (unwrap_or (value_in c.args.t chain) committed) committed) (none_live c.args.t k c.loop-at.live.items
    (λ i d low high. c.loop-at.invariant.none i d (omega (arith, done)) high))) ∙ c.loop-at.invariant.settled k

pub returns-clause-left : goal.returns-clause-left
returns-clause-left c u k =
    let done = c.loop-at-test.false in
    others_left c.args.t u k c.args.live.now.items c.loop-at.live.items
    (none_live c.args.t k c.loop-at.live.items (λ i d low high. c.loop-at.invariant.none i d (omega (arith, done)) high))
    (c.loop-at.invariant.others u k)
