-- Links whose nodes are below a number, one after another.
use Rattle.std.proofs.Common.{◌≡◌, ◌<◌, ◌≤◌, ◌+◌, ℕ, List, ◌∷◌, length, drop, get_or, sym, subst, inl, inr, add-one, drop-cons}
use Rattle.std.proofs.lemmas.List.{drop_all}
use Rattle.sgt_appends.specs.declared.sorting.Link.{Link}
use Rattle.sgt_appends.specs.Graphs.{IsAmong, AreWithin}

pub within_one : (links : List Link) (i : ℕ) (d : Link) (nodes : ℕ) → i < length links → (get_or links i d).from < nodes
    → (get_or links i d).to < nodes → (AreWithin (drop i links) nodes → AreWithin links nodes) → AreWithin (drop (i + 1) links) nodes
    → AreWithin links nodes
within_one links i d nodes within from to before rest =
    before (subst (λ ls. AreWithin ls nodes) (sym parts) (λ l among. go l among))
  where
    parts : drop i links ≡ get_or links i d ∷ drop (i + 1) links
    parts = rw add-one (drop-cons links i d within)

    go : (l : Link) → IsAmong (get_or links i d ∷ drop (i + 1) links) l → (l.from < nodes) × (l.to < nodes)
    go l (inl same) = subst (λ (m : Link). (m.from < nodes) × (m.to < nodes)) same (from, to)
    go l (inr later) = rest l later

pub within_all : (links : List Link) (i nodes : ℕ) → length links ≤ i → (AreWithin (drop i links) nodes → AreWithin links nodes)
    → AreWithin links nodes
within_all links i nodes whole before = before (subst (λ ls. AreWithin ls nodes) (sym (drop_all i links whole)) (λ l none. absurd none))
