-- Ways whose numbers are all as they should be.
use Rattle.std.specs.Prelude.{◌≡◌, ℕ, ◌<◌, ◌≤◌, ℤ, Bool, true, false, not, ◌||◌, nat_le, nat_lt, nat_eq}
use Rattle.std.proofs.Common.{refl, arith}
use Rattle.std.proofs.lemmas.Bool.{or_parts}
use Rattle.std.proofs.lemmas.Bool.Decides.{nat_tests}
use Rattle.sgt_model.specs.Numbers.{IsValue, is_value}
use Rattle.sgt_model.specs.Syntax.{ExprText, CondText, Block}
use Rattle.sgt_model.specs.Syntax as text
use Rattle.sgt_model.specs.Ways.{Way, onto}
use Rattle.sgt_model.specs.Ways as way
use Rattle.sgt_proc.specs.declared.flaw.Flaw.{Flaw}
use Rattle.sgt_proc.specs.declared.flaw.Flaw.TheVariants.{HighRegister, NoArgument, HighTable, BadCode, ManyArguments, BadLiteral}
use Rattle.sgt_proc.specs.declared.numbers.Number.{Number}
use Rattle.sgt_proc.specs.declared.numbers.Number.TheVariants.{Register, Argument, Table, Code, Literal, Arguments}
use Rattle.sgt_proc.specs.Flaws.{in_expr, in_cond, in_block}
use Rattle.sgt_proc.specs.NumberFlaws.{is_bad}

-- it holds for some number along a path
abbrev pub in_way : (Number → Bool) → Way → Bool
in_way so way.end = false
in_way so (way.look to table id absent rest) =
    (so (Register to) || (so (Table table) || (in_expr so id || so (Code absent)))) || in_way so rest
in_way so (way.find to table id absent rest) =
    (so (Register to) || (so (Table table) || (in_expr so id || in_expr so absent))) || in_way so rest
in_way so (way.put table id value rest) = (so (Table table) || (in_expr so id || in_expr so value)) || in_way so rest
in_way so (way.remove table id rest) = (so (Table table) || in_expr so id) || in_way so rest
in_way so (way.save to value rest) = (so (Register to) || in_expr so value) || in_way so rest
in_way so (way.ask code) = so (Code code)
in_way so (way.fork test ys ns) = in_cond so test || (in_way so ys || in_way so ns)
in_way so (way.answer value rest) = in_expr so value || in_way so rest

or_none : (a b : Bool) → a ≡ false → b ≡ false → (a || b) ≡ false
or_none true b e f = e
or_none false b e f = f

-- the paths of a text have only numbers of the text
pub in_onto : (so : Number → Bool) (b : Block) (rest : Way) → in_block so b ≡ false → in_way so rest ≡ false
    → in_way so (onto b rest) ≡ false
in_onto so text.empty rest h r = r
in_onto so (text.look to table id absent b) rest h r = let p = or_parts _ (in_block so b) h in or_none _ _ p.0 (in_onto so b rest p.1 r)
in_onto so (text.find to table id absent b) rest h r = let p = or_parts _ (in_block so b) h in or_none _ _ p.0 (in_onto so b rest p.1 r)
in_onto so (text.put table id value b) rest h r = let p = or_parts _ (in_block so b) h in or_none _ _ p.0 (in_onto so b rest p.1 r)
in_onto so (text.remove table id b) rest h r = let p = or_parts _ (in_block so b) h in or_none _ _ p.0 (in_onto so b rest p.1 r)
in_onto so (text.save to value b) rest h r = let p = or_parts _ (in_block so b) h in or_none _ _ p.0 (in_onto so b rest p.1 r)
in_onto so (text.ask code b) rest h r = (or_parts (so (Code code)) (in_block so b) h).0
in_onto so (text.choose test ys ns b) rest h r =
    let p = or_parts (in_cond so test || (in_block so ys || in_block so ns)) (in_block so b) h in
    let q = or_parts (in_cond so test) (in_block so ys || in_block so ns) p.0 in
    let branches = or_parts (in_block so ys) (in_block so ns) q.1 in
    or_none _ _ q.0 (or_none _ _ (in_onto so ys (onto b rest) branches.0 (in_onto so b rest p.1 r))
    (in_onto so ns (onto b rest) branches.1 (in_onto so b rest p.1 r)))
in_onto so (text.answer value b) rest h r = let p = or_parts _ (in_block so b) h in or_none _ _ p.0 (in_onto so b rest p.1 r)

-- if it holds for no number, it holds for none in a text
term_nothing : (t : ExprText) → in_expr (λ n. false) t ≡ false
term_nothing (text.num n) = refl
term_nothing (text.arg n) = refl
term_nothing (text.reg n) = refl
term_nothing (text.sum a b) = or_none _ _ (term_nothing a) (term_nothing b)
term_nothing (text.diff a b) = or_none _ _ (term_nothing a) (term_nothing b)
term_nothing (text.product a b) = or_none _ _ (term_nothing a) (term_nothing b)
term_nothing (text.quotient a b) = or_none _ _ (term_nothing a) (term_nothing b)

test_nothing : (t : CondText) → in_cond (λ n. false) t ≡ false
test_nothing (text.less a b) = or_none _ _ (term_nothing a) (term_nothing b)
test_nothing (text.at_most a b) = or_none _ _ (term_nothing a) (term_nothing b)
test_nothing (text.equal a b) = or_none _ _ (term_nothing a) (term_nothing b)

pub in_nothing : (b : Block) → in_block (λ n. false) b ≡ false
in_nothing text.empty = refl
in_nothing (text.look to table id absent b) = or_none _ _ (or_none _ _ (term_nothing id) refl) (in_nothing b)
in_nothing (text.find to table id absent b) = or_none _ _ (or_none _ _ (term_nothing id) (term_nothing absent)) (in_nothing b)
in_nothing (text.put table id value b) = or_none _ _ (or_none _ _ (term_nothing id) (term_nothing value)) (in_nothing b)
in_nothing (text.remove table id b) = or_none _ _ (term_nothing id) (in_nothing b)
in_nothing (text.save to value b) = or_none _ _ (term_nothing value) (in_nothing b)
in_nothing (text.ask code b) = in_nothing b
in_nothing (text.choose test ys ns b) =
    or_none _ _ (or_none _ _ (test_nothing test) (or_none _ _ (in_nothing ys) (in_nothing ns))) (in_nothing b)
in_nothing (text.answer value b) = or_none _ _ (term_nothing value) (in_nothing b)

-- a number that has no flaw
abbrev pub IsAllowed : ℕ → Number → Type 0
IsAllowed args (Register n) = n < 16
IsAllowed args (Argument n) = n < args
IsAllowed args (Table n) = n ≤ 7
IsAllowed args (Code n) = (1 ≤ n) × (n ≤ 999)
IsAllowed args (Literal n) = IsValue n
IsAllowed args (Arguments n) = n ≤ 4

pub value_from : (v : ℤ) → is_value v ≡ true → IsValue v
value_from v e = grind arith

pub allowed_number : (args : ℕ) (n : Number) → ((f : Flaw) → is_bad f args n ≡ false) → IsAllowed args n
allowed_number args (Register n) h = let e : nat_lt 15 n ≡ false = h HighRegister in grind (arith, nat_tests, e)
allowed_number args (Argument n) h = let e : nat_le args n ≡ false = h NoArgument in grind (arith, nat_tests, e)
allowed_number args (Table n) h = let e : nat_lt 7 n ≡ false = h HighTable in grind (arith, nat_tests, e)
allowed_number args (Code n) h =
    let p = or_parts (nat_eq n 0) (nat_lt 999 n) (h BadCode) in
    (grind (arith, nat_tests, p.0), grind (arith, nat_tests, p.1))
allowed_number args (Arguments n) h = let e : nat_lt 4 n ≡ false = h ManyArguments in grind (arith, nat_tests, e)
allowed_number args (Literal n) h = let e : not (is_value n) ≡ false = h BadLiteral in value_from n (grind (arith, e))
