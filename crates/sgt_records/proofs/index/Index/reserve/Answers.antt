use Rattle.std.proofs.Common.{◌≡◌, ℕ, refl, ap}
use Rattle.slab.specs.Slab as slab
use Rattle.sgt_records.specs.Tables.{record_in}
use Rattle.sgt_records.proofs.RecordSlots.{index_alike, index_added}
use Rattle.sgt_records.proofs.index.Index.reserve.Goals as goal

pub invariant_of-self : goal.invariant_of-self
invariant_of-self c =
    let records = record_in c.args.self.now.table in
    let chains = c.args.self.now.chains in
    let same : (p : ℕ) → slab.get c.reserve.new.self p ≡ slab.get chains p = λ p. ap (λ s. slab.get s p) c.reserve.ensures.rest_kept in
    record { is_index = index_alike records records chains c.reserve.new.self (λ k. refl) same c.args.self.now.is_index }

pub invariant_of-self-in-Some-1 : goal.invariant_of-self-in-Some-1
invariant_of-self-in-Some-1 c =
    let records = record_in c.args.self.now.table in
    let chains = c.args.self.now.chains in
    let same : (p : ℕ) → slab.get c.reserve.new.self p ≡ slab.get chains p = λ p. ap (λ s. slab.get s p) c.reserve.ensures.rest_kept in
    record { is_index = index_alike records records chains c.reserve.new.self (λ k. refl) same c.args.self.now.is_index }

pub invariant_of-self-in-None : goal.invariant_of-self-in-None
invariant_of-self-in-None c =
    let records = record_in c.args.self.now.table in
    let chains = c.args.self.now.chains in
    let same : (p : ℕ) → slab.get c.reserve.new.self p ≡ slab.get chains p = λ p. ap (λ s. slab.get s p) c.reserve.ensures.rest_kept in
    record {
      is_index = index_added records (record_in c.find_or_add.new.self) chains c.reserve.new.self _ refl refl same
          c.find_or_add.ensures.records c.args.self.now.is_index;
    }
