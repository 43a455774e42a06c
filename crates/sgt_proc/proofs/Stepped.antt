-- Steps from position to position.
use Rattle.std.proofs.Common.{◌≡◌, refl, sym, ap, ◌∙◌, subst, ◌+◌, ◌<◌, ◌≤◌, ℤ, Bool, true, false, cond, List, [], ◌∷◌, ◌++◌, length, length-append, get_or, Ok, arith}
use Rattle.std.specs.declared.vec.Vec.{Vec}
use Rattle.std.specs.declared.alloc.Global.{Global}
use Rattle.sgt_model.specs.declared.procedure.Statement.{Statement}
use Rattle.sgt_model.specs.declared.procedure.Statement.TheVariants.{If}
use Rattle.sgt_model.specs.declared.procedure.Cond.{Cond}
use Rattle.sgt_model.specs.Syntax.{CondText, Block, empty, choose}
use Rattle.sgt_model.specs.ProcedureTexts.{cond_text, in_front, block_of}
use Rattle.sgt_model.specs.Meaning.{Truth, holds, too_far, unknown, Registers, truth_of}
use Rattle.sgt_model.specs.Left.{followed_by, choice_or_code, reach}
use Rattle.sgt_model.proofs.Texts.{before_if}
use Rattle.sgt_proc.specs.declared.place.Turn.{Turn}
use Rattle.sgt_proc.specs.declared.place.Place.{Place}
use Rattle.sgt_proc.specs.declared.place.Stop.TheVariants as stop
use Rattle.sgt_proc.specs.Flaws.{size, depth}
use Rattle.sgt_proc.specs.Paths.{following, IsIf, branch, IsPath, inner, outer, to_come}
use Rattle.sgt_proc.specs.Places.{IsIn, reach_from, reached_at, Passes}
use Rattle.sgt_proc.proofs.Followed.{followed_size, reach_followed}
use Rattle.sgt_proc.proofs.PathTexts.{before_depth, following_depth, inner_depth, inner_size, list_size, inner_last, outer_last, path_more, path_less, following_at, following_end}

both_followed : (a a' b b' : Block) → a ≡ a' → b ≡ b' → followed_by a b ≡ followed_by a' b'
both_followed a a' b b' e f = ap (λ x. followed_by x b) e ∙ ap (followed_by a') f

-- into a branch

-- what an answer of the code says of a condition
pub test_is : (h : Truth) (b : Bool) → Ok b ≡ choice_or_code h → h ≡ holds b
test_is (holds v) b e = cc
test_is too_far b e = cc
test_is unknown b e = cc

to_come_branch : (path : List Turn) (t : Turn) (b : Block) (test : CondText) (ys ns rest : Block)
    → following t.at (inner path b) ≡ choose test ys ns rest
    → to_come (path ++ t ∷ []) 0 b ≡ followed_by (cond t.held ys ns) (to_come path (t.at + 1) b)
to_come_branch path t b test ys ns rest e = both_followed _ _ _ _ (inner_last path t b ∙ ap (branch t.held) e) (outer_last path t b)

reach_branch : (held : Bool) (test : CondText) (ys ns rest : Block) (args : List ℤ) (registers : Registers) (answers : List ℤ)
    → truth_of test args registers ≡ holds held → reach (followed_by (cond held ys ns) rest) args registers answers ≡ reach
    (choose test ys ns rest) args registers answers
reach_branch true test ys ns rest args registers answers e = rw e (reach_followed ys rest args registers answers)
reach_branch false test ys ns rest args registers answers e = rw e (reach_followed ns rest args registers answers)

branch_smaller : (held : Bool) (ys ns : Block) → size (cond held ys ns) ≤ size ys + size ns
branch_smaller true ys ns = omega arith
branch_smaller false ys ns = omega arith

pub if_step : (b : Block) (m m' : Place) (s : Statement) (c : Cond) (ys ns : Vec Statement Global) (held : Bool) → IsIn b m → s ≡ If c ys ns
    → following m.at (inner m.path.items b) ≡ in_front s (following (m.at + 1) (inner m.path.items b)) → m.at < 64
    → truth_of (cond_text c) m.args m.registers ≡ holds held → m'.args ≡ m.args → m'.registers ≡ m.registers → m'.answers ≡ m.answers
    → m'.path.items ≡ m.path.items ++ record { at = m.at; held = held } ∷ [] → m'.at ≡ 0 → Passes b m m'
if_step b m m' s c ys ns held inside is here few choice args registers answers path at = record {
  same = rw (args, registers, answers, at, path, come)
      (reach_branch held (cond_text c) (block_of ys.items) (block_of ns.items) R m.args m.registers m.answers choice
      ∙ sym (ap (λ x. reach (followed_by x (outer m.path.items b)) m.args m.registers m.answers) here_is));
  inside = record {
    path = rw path (path_more m.path.items t b inside.path few (subst IsIf (sym here_is) tt));
    few = rw at (omega arith);
  };
  nearer =
      rw (at, path, come) (omega (
        arith,
        followed_size (cond held (block_of ys.items) (block_of ns.items)) R,
        branch_smaller held
            (block_of ys.items) (block_of ns.items),
        length-append m.path.items (t ∷ []),
        whole_size,
      ));
} where
  t : Turn
  t = record { at = m.at; held = held }

  R : Block
  R = to_come m.path.items (m.at + 1) b

  here_is : following m.at (inner m.path.items b) ≡ choose (cond_text c) (block_of ys.items) (block_of ns.items)
      (following (m.at + 1) (inner m.path.items b))
  here_is = here ∙ (ap (λ x. in_front x (following (m.at + 1) (inner m.path.items b))) is ∙ before_if c ys ns _)

  come : to_come (m.path.items ++ t ∷ []) 0 b ≡ followed_by (cond held (block_of ys.items) (block_of ns.items)) R
  come = to_come_branch m.path.items t b (cond_text c) (block_of ys.items) (block_of ns.items) _ here_is

  whole_size : size (to_come m.path.items m.at b) ≡ 1 + (size (block_of ys.items) + size (block_of ns.items)) + size R
  whole_size = ap (λ x. size (followed_by x (outer m.path.items b))) here_is

-- past an If whose branch is empty

pub if_passed : (b : Block) (m m' : Place) (s : Statement) (c : Cond) (ys ns : Vec Statement Global) (held : Bool) → IsIn b m → s ≡ If c ys ns
    → following m.at (inner m.path.items b) ≡ in_front s (following (m.at + 1) (inner m.path.items b)) → m.at < 64
    → truth_of (cond_text c) m.args m.registers ≡ holds held → cond held (block_of ys.items) (block_of ns.items) ≡ empty → m'.args ≡ m.args
    → m'.registers ≡ m.registers → m'.answers ≡ m.answers → m'.path.items ≡ m.path.items → m'.at ≡ m.at + 1 → Passes b m m'
if_passed b m m' s c ys ns held inside is here few choice none args registers answers path at = record {
  same = rw (args, registers, answers, at, path)
      (ap (λ x. reach (followed_by x R) m.args m.registers m.answers) (sym none)
      ∙ reach_branch held (cond_text c) (block_of ys.items) (block_of ns.items) R m.args m.registers m.answers choice
      ∙ sym (ap (λ x. reach (followed_by x (outer m.path.items b)) m.args m.registers m.answers) here_is));
  inside = record { path = rw path inside.path; few = rw at (omega (arith, few)) };
  nearer = rw (at, path) (omega (arith, whole_size));
} where
  R : Block
  R = to_come m.path.items (m.at + 1) b

  here_is : following m.at (inner m.path.items b) ≡ choose (cond_text c) (block_of ys.items) (block_of ns.items)
      (following (m.at + 1) (inner m.path.items b))
  here_is = here ∙ (ap (λ x. in_front x (following (m.at + 1) (inner m.path.items b))) is ∙ before_if c ys ns _)

  whole_size : size (to_come m.path.items m.at b) ≡ 1 + (size (block_of ys.items) + size (block_of ns.items)) + size R
  whole_size = ap (λ x. size (followed_by x (outer m.path.items b))) here_is

-- out of a branch

module _ (list : List Statement) (b : Block) (m : Place) (is_list : block_of list ≡ inner m.path.items b) (ended : length list ≤ m.at) where
  none_here : following m.at (inner m.path.items b) ≡ empty
  none_here = ap (following m.at) (sym is_list) ∙ following_end list m.at ended

  pub out_step : (m' : Place) (t : Turn) → IsIn b m → m'.args ≡ m.args → m'.registers ≡ m.registers → m'.answers ≡ m.answers
      → m.path.items ≡ m'.path.items ++ t ∷ [] → m'.at ≡ t.at + 1 → Passes b m m'
  out_step m' t inside args registers answers path at = record {
    same = rw (args, registers, answers, at) (ap (λ x. reach x m.args m.registers m.answers) (sym come));
    inside = record { path = less.1; few = rw at (omega (arith, less.0)) };
    nearer = rw at (omega (arith, ap size come, ap length path, length-append m'.path.items (t ∷ [])));
  } where
    less : (t.at < 64) × IsPath m'.path.items b
    less = path_less m'.path.items t b (subst (λ p. IsPath p b) path inside.path)

    come : to_come m.path.items m.at b ≡ to_come m'.path.items (t.at + 1) b
    come = both_followed _ _ _ _ none_here (ap (λ p. outer p b) path ∙ outer_last m'.path.items t b)

  -- the end
  pub end_here : m.path.items ≡ [] → reached_at b m stop.End ≡ reach_from b m
  end_here path = sym (ap (λ x. reach x m.args m.registers m.answers) (both_followed _ _ _ _ none_here (ap (λ p. outer p b) path)))

-- at a statement

module _ (list : List Statement) (b : Block) (m : Place) (is_list : block_of list ≡ inner m.path.items b) (s : Statement)
    (within : m.at < length list) (is : s ≡ get_or list m.at s) where
  pub at_statement : following m.at (inner m.path.items b) ≡ in_front s (following (m.at + 1) (inner m.path.items b))
  at_statement = subst (λ x. following m.at x ≡ in_front s (following (m.at + 1) x)) is_list (following_at list m.at s within is)

  pub at_few : size b ≤ 64 → m.at < 64
  at_few small = omega (arith, inner_size m.path.items b, list_size list, ap size is_list)

  pub at_capacity : IsPath m.path.items b → depth b ≤ 16 → length m.path.items < 16
  at_capacity inside shallow =
      omega (
        arith,
        inner_depth m.path.items b inside,
        following_depth m.at (inner m.path.items b),
        ap depth at_statement,
        before_depth s
            (following (m.at + 1) (inner m.path.items b)),
      )

pub none_left : (path : List Turn) → (0 < length path → ⊥) → path ≡ []
none_left [] h = refl
none_left (t ∷ path) h = absurd (h (omega arith))
