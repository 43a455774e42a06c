-- A procedure makes at most as many accesses as its longest path has.
use Rattle.std.proofs.Common.{ℕ, zero, suc, ℤ, ◌≤◌, ◌+◌, arith, Bool, true, false, cond, List, [], ◌∷◌, ◌++◌, Option, Some, None, slice_set, nat_lt, length}
use Rattle.std.specs.Prelude.{max}
use Rattle.sgt_model.specs.Numbers.{is_value}
use Rattle.sgt_model.specs.Syntax.{Block, ProcedureText}
use Rattle.sgt_model.specs.Syntax as text
use Rattle.sgt_model.specs.Ways.{Way, onto}
use Rattle.sgt_model.specs.Ways as way
use Rattle.sgt_model.specs.Runs.{Run, looks, puts, ends, raises}
use Rattle.sgt_model.specs.Meaning.{Got, is, over, missing, Truth, holds, too_far, unknown, Registers, value_of, truth_of, with_value, with_condition, is_key, if_found, found_or, run, fresh}
use Rattle.sgt_model.specs.Configurations.{run_if}
use Rattle.sgt_proc.specs.Flaws.{size}
use Rattle.sgt_proc.specs.LongestPaths.{accesses_in, most_accesses}

-- a run makes at most this many accesses, whatever its reads return
abbrev pub MakesAtMost : Run → ℕ → Type 0
MakesAtMost (ends answers) n = Unit {0}
MakesAtMost (raises code) n = Unit {0}
MakesAtMost (looks k go) zero = ⊥
MakesAtMost (looks k go) (suc n) = (v : Option ℤ) → MakesAtMost (go v) n
MakesAtMost (puts k v rest) zero = ⊥
MakesAtMost (puts k v rest) (suc n) = MakesAtMost rest n

pub within_more : (r : Run) (n m : ℕ) → n ≤ m → MakesAtMost r n → MakesAtMost r m
within_more (ends answers) n m h w = tt
within_more (raises code) n m h w = tt
within_more (looks k go) zero m h w = absurd w
within_more (looks k go) (suc n) zero h w = absurd (omega arith)
within_more (looks k go) (suc n) (suc m) h w = λ v. within_more (go v) n m (omega arith) (w v)
within_more (puts k v rest) zero m h w = absurd w
within_more (puts k v rest) (suc n) zero h w = absurd (omega arith)
within_more (puts k v rest) (suc n) (suc m) h w = within_more rest n m (omega arith) w

within_value : (n : ℕ) (g : Got) (go : ℤ → Run) → ((v : ℤ) → MakesAtMost (go v) n) → MakesAtMost (with_value g go) n
within_value n (is v) go h = h v
within_value n over go h = tt
within_value n missing go h = tt

within_cond : (n : ℕ) (b : Bool) (r : Run) → MakesAtMost r n → MakesAtMost (cond b r (raises 0)) n
within_cond n true r h = h
within_cond n false r h = tt

within_test : (n : ℕ) (t : Truth) (ys ns : Run) → MakesAtMost ys n → MakesAtMost ns n → MakesAtMost (with_condition t ys ns) n
within_test n (holds true) ys ns h i = h
within_test n (holds false) ys ns h i = i
within_test n too_far ys ns h i = tt
within_test n unknown ys ns h i = tt

within_found : (n : ℕ) (absent : ℕ) (found : Option ℤ) (go : ℤ → Run) → ((v : ℤ) → MakesAtMost (go v) n)
    → MakesAtMost (if_found absent found go) n
within_found n absent None go h = tt
within_found n absent (Some v) go h = h v

-- a path whose runs make at most this many accesses
abbrev WayMakesAtMost : Way → ℕ → Type 0
WayMakesAtMost w n = (args : List ℤ) (regs : Registers) (answers : List ℤ) → MakesAtMost (run args w regs answers) n

grown : (w : Way) (n m : ℕ) → n ≤ m → WayMakesAtMost w n → WayMakesAtMost w m
grown w n m h i args regs answers = within_more (run args w regs answers) n m h (i args regs answers)

within_onto : (b : Block) (rest : Way) (n : ℕ) → WayMakesAtMost rest n → WayMakesAtMost (onto b rest) (accesses_in b + n)
within_onto text.empty rest n h args regs answers = grown rest n (0 + n) (omega arith) h args regs answers
within_onto (text.look to table id absent b) rest n h args regs answers =
    within_more _ (suc (accesses_in b + n)) (1 + accesses_in b + n) (omega arith)
    (within_value (suc (accesses_in b + n)) (value_of id args regs) _
    (λ v. within_cond (suc (accesses_in b + n)) (is_key table v) _
    (λ found. within_found (accesses_in b + n) absent found _ (λ x. within_onto b rest n h args (slice_set regs to (Some x)) answers))))
within_onto (text.find to table id absent b) rest n h args regs answers =
    within_more _ (suc (accesses_in b + n)) (1 + accesses_in b + n) (omega arith)
    (within_value (suc (accesses_in b + n)) (value_of id args regs) _
    (λ v. within_value (suc (accesses_in b + n)) (value_of absent args regs) _
    (λ x. within_cond (suc (accesses_in b + n)) (is_key table v) _
    (λ found. within_onto b rest n h args (slice_set regs to (Some (found_or x found))) answers))))
within_onto (text.put table id value b) rest n h args regs answers =
    within_more _ (suc (accesses_in b + n)) (1 + accesses_in b + n) (omega arith)
    (within_value (suc (accesses_in b + n)) (value_of id args regs) _
    (λ v. within_value (suc (accesses_in b + n)) (value_of value args regs) _
    (λ x. within_cond (suc (accesses_in b + n)) (is_key table v) _
    (within_cond (suc (accesses_in b + n)) (is_value x) _ (within_onto b rest n h args regs answers)))))
within_onto (text.remove table id b) rest n h args regs answers =
    within_more _ (suc (accesses_in b + n)) (1 + accesses_in b + n) (omega arith)
    (within_value (suc (accesses_in b + n)) (value_of id args regs) _
    (λ v. within_cond (suc (accesses_in b + n)) (is_key table v) _ (within_onto b rest n h args regs answers)))
within_onto (text.save to value b) rest n h args regs answers =
    within_value (accesses_in b + n) (value_of value args regs) _ (λ x. within_onto b rest n h args (slice_set regs to (Some x)) answers)
within_onto (text.ask code b) rest n h args regs answers = tt
within_onto (text.choose test ys ns b) rest n h args regs answers =
    let following = within_onto b rest n h in
    let all : ℕ = max (accesses_in ys) (accesses_in ns) + accesses_in b + n in
    within_test all (truth_of test args regs) _ _
    (grown (onto ys (onto b rest)) (accesses_in ys + (accesses_in b + n)) all (omega arith)
    (within_onto ys (onto b rest) (accesses_in b + n) following) args regs answers)
    (grown (onto ns (onto b rest)) (accesses_in ns + (accesses_in b + n)) all (omega arith)
    (within_onto ns (onto b rest) (accesses_in b + n) following) args regs answers)
within_onto (text.answer value b) rest n h args regs answers =
    within_value (accesses_in b + n) (value_of value args regs) _
    (λ x. within_cond (accesses_in b + n) (nat_lt (length answers) 8) _ (within_onto b rest n h args regs (answers ++ x ∷ [])))

-- a procedure makes at most this many accesses
pub within_most : (p : Option ProcedureText) (args : List ℤ) → MakesAtMost (run_if p args) (most_accesses p)
within_most None args = tt
within_most (Some p) args = within_more _ (accesses_in p.body + 0) (accesses_in p.body) (omega arith)
    (within_onto p.body way.end 0 (λ args regs answers. tt) args fresh [])

-- a path has no more accesses than its procedure has statements
pub accesses_few : (b : Block) → accesses_in b ≤ size b
accesses_few text.empty = omega arith
accesses_few (text.look to table id absent b) = let h = accesses_few b in omega arith
accesses_few (text.find to table id absent b) = let h = accesses_few b in omega arith
accesses_few (text.put table id value b) = let h = accesses_few b in omega arith
accesses_few (text.remove table id b) = let h = accesses_few b in omega arith
accesses_few (text.save to value b) = let h = accesses_few b in omega arith
accesses_few (text.ask code b) = omega arith
accesses_few (text.choose test ys ns b) = let h = accesses_few b in let y = accesses_few ys in let n = accesses_few ns in omega arith
accesses_few (text.answer value b) = let h = accesses_few b in omega arith
