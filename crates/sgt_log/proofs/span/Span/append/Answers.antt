use Rattle.std.proofs.Common.{◌≡◌, ℕ, ◌+◌, ◌<◌, ◌≤◌, arith, List, [], ◌∷◌, ◌++◌, length, get_or, take, drop, append_assoc, add-one, refl, sym, ap, ◌∙◌}
use Rattle.std.proofs.Math.Seq.{take-suc, drop-append_seam}
use Rattle.std.proofs.lemmas.List.{append-nil, length-append, take_all}
use Rattle.sgt_log.proofs.span.Span.append.Goals as goal

-- the list after one more item, and after all
module _ {X : Type 0} (old list items : List X) (i : ℕ) (so_far : list ≡ old ++ take i items) where
  one_more : (new : List X) (item : X) → i < length items → item ≡ get_or items i item → new ≡ list ++ item ∷ []
      → new ≡ old ++ take (i + 1) items
  one_more new item more is pushed = pushed ∙ ap (λ l. l ++ item ∷ []) so_far
      ∙ append_assoc old (take i items) (item ∷ []) ∙ ap (λ x. old ++ (take i items ++ x ∷ [])) is
      ∙ ap (λ l. old ++ l) (sym (rw add-one (take-suc items i item more)))

  all_added : length items ≤ i → list ≡ old ++ items
  all_added end = so_far ∙ ap (λ l. old ++ l) (take_all i items end)

  added_part : (from : ℕ) → from ≡ length old → length items ≤ i → take (length items) (drop from list) ≡ items
  added_part from at end = ap (λ n. take (length items) (drop n list)) at
      ∙ ap (λ l. take (length items) (drop (length old) l)) (all_added end)
      ∙ ap (take (length items)) (drop-append_seam old items) ∙ take_all (length items) items (omega arith)

pub loop-item-init : goal.loop-item-init
loop-item-init g c = record { items = sym (append-nil c.args.list.now.items); len = omega arith; capacity = refl }

pub loop-item-preserved : goal.loop-item-preserved
loop-item-preserved g c = record {
  items = one_more c.args.list.now.items c.loop-item.list.items c.args.items.now c.loop-item.item-index c.loop-item.invariant.items
      c.push_reserved.new.self.items c.item-item.result c.loop-item-test.true c.item-item.is c.push_reserved.ensures.items;
  len = omega (arith, c.push_reserved.ensures.len, c.loop-item.invariant.len);
  capacity = c.push_reserved.ensures.capacity ∙ c.loop-item.invariant.capacity;
}

pub returns : goal.returns
returns g c =
    let same = all_added c.args.list.now.items c.loop-item.list.items c.args.items.now c.loop-item.item-index
    c.loop-item.invariant.items c.loop-item-test.false in
    record {
      items = same;
      part = added_part c.args.list.now.items c.loop-item.list.items c.args.items.now c.loop-item.item-index c.loop-item.invariant.items
          c.len-from.result (c.len-from.ensures ∙ c.args.list.now.ok.0) c.loop-item-test.false;
      within = (
        omega (arith, c.len-from.ensures, c.args.list.now.ok.0, ap length same, length-append c.args.list.now.items c.args.items.now),
        c.requires.few,
      );
      count = refl;
      len = omega (arith, c.loop-item.invariant.len, c.loop-item-test.false, c.loop-item.auto.item-index-end);
      capacity = c.loop-item.invariant.capacity;
    }
