use Rattle.std.proofs.Common.{◌≡◌, ◌≤◌, ◌+◌, [], ℕ, length, take, drop}
use Rattle.sgt_edn.specs.Scans.{outside, size_from, size_of}
use Rattle.sgt_edn.proofs.place.edn_index.Given as goal

-- the sizes of all longer beginnings are those of what is written and of the rest
abbrev pub invariant-loop-index : goal.invariant-loop-index
invariant-loop-index l = record {
  sizes : (j : ℕ) → size_from outside [] (take (l.index + j) l.text) ≡ length l.json.items + size_from l.scan l.token.items (take j (drop l.index l.text));
  here : size_of l.text l.index ≡ length l.json.items;
  short : length l.json.items ≤ l.at;
}
