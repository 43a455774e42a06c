-- What is read is spelled.
use Rattle.std.proofs.Common.{◌≡◌, refl, ap, subst, ℕ, ◌+◌, ◌⊎◌, inl, inr, List, [], ◌∷◌, Bool, true, false, Option, Some, None, Ok, Err}
use Rattle.std.specs.Prelude.{codes, cond, option_and_then}
use Rattle.std.proofs.lemmas.Slice.Eq.{bytes_eq-Decides}
use Rattle.serde_json.specs.Data.{Data, null, boolean, number, array, string, object, Items, no_items, item}
use Rattle.serde_json.specs.Find.{as_str}
use Rattle.sgt_model.specs.Syntax.{ExprText, num, arg, reg, sum, diff, product, quotient, CondText, less, at_most, equal, Block, empty, look, find, put, remove, save, ask, choose, answer, ProcedureText}
use Rattle.sgt_proc_json.specs.Trees.{whole, natural}
use Rattle.sgt_proc_json.specs.Spelling.{WordAnd, Byte, Short, SpellsTerm, SpellsTest, Listed, SpellsBlock, Spells}
use Rattle.sgt_proc_json.specs.Readings.{Reading, here, at, one, two, three, four, or_here, is_word, byte, short, expression, condition, statement, block, statements, reading, one_item, two_items, three_items, four_items}

-- a choice that is read is read from one of the two
chosen : {A : Type 0} (b : Bool) (first other : Reading A) (x : A) → cond b first other ≡ Ok x
    → ((b ≡ true) × (first ≡ Ok x)) ⊎ (other ≡ Ok x)
chosen true first other x is = inl (refl, is)
chosen false first other x is = inr is

-- the word of a row
the_word : (d : Data) (word : List ℕ) → is_word (as_str d) word ≡ true → d ≡ string word
the_word (string s) word is = ap string ((bytes_eq-Decides s word).0 is)
the_word _ word is = absurd (cc)

at_read : {A : Type 0} (i : ℕ) (r : Reading A) (a : A) → at i r ≡ Ok a → r ≡ Ok a
at_read i (Ok x) a is = is
at_read i (Err place) a is = absurd (cc)

here_read : {A : Type 0} (o : Option A) (a : A) → or_here o ≡ Ok a → o ≡ Some a
here_read None a is = absurd (cc)
here_read (Some x) a is = (cc)

one_read : {A B : Type 0} (make : A → B) (r : Reading A) (x : B) → one make r ≡ Ok x → (a : A) × (r ≡ Ok a) × (make a ≡ x)
one_read make (Ok a) x is = (a, refl, (cc))
one_read make (Err place) x is = absurd (cc)

two_read : {A B C : Type 0} (make : A → B → C) (r : Reading A) (s : Reading B) (x : C) → two make r s ≡ Ok x
    → (a : A) × (b : B) × (r ≡ Ok a) × (s ≡ Ok b) × (make a b ≡ x)
two_read make (Ok a) s x is = let o = one_read (make a) s x is in (a, o.0, refl, o.1, o.2)
two_read make (Err place) s x is = absurd (cc)

three_read : {A B C D : Type 0} (make : A → B → C → D) (r : Reading A) (s : Reading B) (t : Reading C) (x : D) → three make r s t ≡ Ok x
    → (a : A) × (b : B) × (c : C) × (r ≡ Ok a) × (s ≡ Ok b) × (t ≡ Ok c) × (make a b c ≡ x)
three_read make (Ok a) s t x is = let o = two_read (make a) s t x is in (a, o.0, o.1, refl, o.2, o.3, o.4)
three_read make (Err place) s t x is = absurd (cc)

four_read : {A B C D E : Type 0} (make : A → B → C → D → E) (r : Reading A) (s : Reading B) (t : Reading C) (u : Reading D) (x : E)
    → four make r s t u ≡ Ok x → (a : A) × (b : B) × (c : C) × (d : D) × (r ≡ Ok a) × (s ≡ Ok b) × (t ≡ Ok c) × (u ≡ Ok d)
    × (make a b c d ≡ x)
four_read make (Ok a) s t u x is = let o = three_read (make a) s t u x is in (a, o.0, o.1, o.2, refl, o.3, o.4, o.5, o.6)
four_read make (Err place) s t u x is = absurd (cc)

byte_read : (i n : ℕ) (d : Data) → at i (byte d) ≡ Ok n → Byte n d
byte_read i n d is = here_read (option_and_then (natural 8) (whole d)) n (at_read i (byte d) n is)

short_read : (i n : ℕ) (d : Data) → at i (short d) ≡ Ok n → Short n d
short_read i n d is = here_read (option_and_then (natural 16) (whole d)) n (at_read i (short d) n is)

-- a literal
num_read : (d : Data) (e : ExprText) → one num (or_here (whole d)) ≡ Ok e → SpellsTerm e d
num_read d e is =
    let o = one_read num (or_here (whole d)) e is in
    subst (λ t. SpellsTerm t d) o.2 (here_read (whole d) o.0 o.1)

-- an argument or a register
name_read : (w n : Data) (e : ExprText) → expression (array (item w (item n no_items))) ≡ Ok e
    → SpellsTerm e (array (item w (item n no_items)))
name_read w n e is =
    elim (chosen (is_word (as_str w) (codes "arg")) (one arg (at 1 (byte n)))
    (cond (is_word (as_str w) (codes "reg")) (one reg (at 1 (byte n))) here) e is) [
      | inl h ↦ (let o = one_read arg (at 1 (byte n)) e h.1 in
          subst (λ t. SpellsTerm t (array (item w (item n no_items)))) o.2
          (rw (the_word w (codes "arg") h.0) (refl, (byte_read 1 o.0 n o.1, tt))))
      | inr other ↦ elim (chosen (is_word (as_str w) (codes "reg")) (one reg (at 1 (byte n))) here e other) [
        | inl h ↦ (let o = one_read reg (at 1 (byte n)) e h.1 in
            subst (λ t. SpellsTerm t (array (item w (item n no_items)))) o.2
            (rw (the_word w (codes "reg") h.0) (refl, (byte_read 1 o.0 n o.1, tt))))
        | inr none ↦ absurd (cc)
      ]
    ]

-- two expressions
pair_read : (f : ExprText → ExprText → ExprText) (word : List ℕ) (w a b : Data) (e : ExprText)
    → ((x y : ExprText) → SpellsTerm (f x y) ≡ WordAnd word (SpellsTerm x ∷ SpellsTerm y ∷ [])) → w ≡ string word
    → ((t : ExprText) → expression a ≡ Ok t → SpellsTerm t a) → ((t : ExprText) → expression b ≡ Ok t → SpellsTerm t b)
    → two f (at 1 (expression a)) (at 2 (expression b)) ≡ Ok e → SpellsTerm e (array (item w (item a (item b no_items))))
pair_read f word w a b e spells says left right is =
    let o = two_read f (at 1 (expression a)) (at 2 (expression b)) e is in
    subst (λ t. SpellsTerm t (array (item w (item a (item b no_items))))) o.4
    (rw (spells o.0 o.1, says) (
      refl,
      (
        left o.0 (at_read 1 (expression a) o.0 o.2),
        (right o.1 (at_read 2 (expression b) o.1 o.3), tt),
      ),
    ))

-- an expression
term_read : (d : Data) (e : ExprText) → expression d ≡ Ok e → SpellsTerm e d
term_read null e is = num_read null e is
term_read (boolean b) e is = num_read (boolean b) e is
term_read (number n) e is = num_read (number n) e is
term_read (string s) e is = num_read (string s) e is
term_read (object ms) e is = num_read (object ms) e is
term_read (array (item w (item n no_items))) e is = name_read w n e is
term_read (array (item w (item a (item b no_items)))) e is =
    let left = term_read a in
    let right = term_read b in
    elim (chosen (is_word (as_str w) (codes "sum")) (two sum (at 1 (expression a)) (at 2 (expression b))) _ e is) [
      | inl h ↦ pair_read sum (codes "sum") w a b e (λ x y. refl) (the_word w (codes "sum") h.0) left right h.1
      | inr other ↦ elim (chosen (is_word (as_str w) (codes "diff")) (two diff (at 1 (expression a)) (at 2 (expression b))) _ e other) [
        | inl h ↦ pair_read diff (codes "diff") w a b e (λ x y. refl) (the_word w (codes "diff") h.0) left right h.1
        | inr third ↦ elim (chosen (is_word (as_str w) (codes "product")) (two product (at 1 (expression a)) (at 2 (expression b)))
            _ e third) [
              | inl h ↦ pair_read product (codes "product") w a b e (λ x y. refl) (the_word w (codes "product") h.0) left right h.1
              | inr fourth ↦ elim (chosen (is_word (as_str w) (codes "quotient"))
                  (two quotient (at 1 (expression a)) (at 2 (expression b))) here e fourth) [
                    | inl h ↦ pair_read quotient (codes "quotient") w a b e (λ x y. refl) (the_word w (codes "quotient") h.0) left right h.1
                    | inr none ↦ absurd (cc)
                  ]
            ]
      ]
    ]
term_read _ e is = absurd (cc)

-- two expressions that are compared
compared_read : (f : ExprText → ExprText → CondText) (word : List ℕ) (w a b : Data) (e : CondText)
    → ((x y : ExprText) → SpellsTest (f x y) ≡ WordAnd word (SpellsTerm x ∷ SpellsTerm y ∷ [])) → w ≡ string word
    → two f (at 1 (expression a)) (at 2 (expression b)) ≡ Ok e → SpellsTest e (array (item w (item a (item b no_items))))
compared_read f word w a b e spells says is =
    let o = two_read f (at 1 (expression a)) (at 2 (expression b)) e is in
    subst (λ t. SpellsTest t (array (item w (item a (item b no_items))))) o.4
    (rw (spells o.0 o.1, says) (
      refl,
      (
        term_read a o.0 (at_read 1 (expression a) o.0 o.2),
        (term_read b o.1 (at_read 2 (expression b) o.1 o.3), tt),
      ),
    ))

-- a condition
test_read : (d : Data) (e : CondText) → condition d ≡ Ok e → SpellsTest e d
test_read (array (item w (item a (item b no_items)))) e is =
    elim (chosen (is_word (as_str w) (codes "less")) (two less (at 1 (expression a)) (at 2 (expression b))) _ e is) [
      | inl h ↦ compared_read less (codes "less") w a b e (λ x y. refl) (the_word w (codes "less") h.0) h.1
      | inr other ↦ elim (chosen (is_word (as_str w) (codes "most")) (two at_most (at 1 (expression a)) (at 2 (expression b)))
          _ e other) [
            | inl h ↦ compared_read at_most (codes "most") w a b e (λ x y. refl) (the_word w (codes "most") h.0) h.1
            | inr third ↦ elim (chosen (is_word (as_str w) (codes "same")) (two equal (at 1 (expression a)) (at 2 (expression b)))
                here e third) [
                  | inl h ↦ compared_read equal (codes "same") w a b e (λ x y. refl) (the_word w (codes "same") h.0) h.1
                  | inr none ↦ absurd (cc)
                ]
          ]
    ]
test_read _ e is = absurd (cc)

-- what a statement's tree spells, in front of others
abbrev Front : (Block → Block) → Data → Type 0
Front f d = (b : Block) (items : Items) → SpellsBlock b items → SpellsBlock (f b) (item d items)

one_found : (w a : Data) (f : Block → Block) → one_item (as_str w) a ≡ Ok f → Front f (array (item w (item a no_items)))
one_found w a f is =
    elim (chosen (is_word (as_str w) (codes "ask")) _ _ f is) [
      | inl h ↦ (let o = one_read (λ code rest. ask code rest) (at 1 (short a)) f h.1 in
          subst (λ g. Front g (array (item w (item a no_items)))) o.2
          (λ b items others. rw (the_word w (codes "ask") h.0) ((refl, (short_read 1 o.0 a o.1, tt)), others)))
      | inr other ↦ elim (chosen (is_word (as_str w) (codes "answer")) _ here f other) [
        | inl h ↦ (let o = one_read (λ value rest. answer value rest) (at 1 (expression a)) f h.1 in
            subst (λ g. Front g (array (item w (item a no_items)))) o.2
            (λ b items others. rw (the_word w (codes "answer") h.0)
            ((refl, (term_read a o.0 (at_read 1 (expression a) o.0 o.1), tt)), others)))
        | inr none ↦ absurd (cc)
      ]
    ]

two_found : (w a b : Data) (f : Block → Block) → two_items (as_str w) a b ≡ Ok f → Front f (array (item w (item a (item b no_items))))
two_found w a b f is =
    elim (chosen (is_word (as_str w) (codes "let")) _ _ f is) [
      | inl h ↦ (let o = two_read (λ to value rest. save to value rest) (at 1 (byte a)) (at 2 (expression b)) f h.1 in
          subst (λ g. Front g (array (item w (item a (item b no_items))))) o.4
          (λ rest items others. rw (the_word w (codes "let") h.0)
          ((refl, (byte_read 1 o.0 a o.2, (term_read b o.1 (at_read 2 (expression b) o.1 o.3), tt))), others)))
      | inr other ↦ elim (chosen (is_word (as_str w) (codes "remove")) _ here f other) [
        | inl h ↦ (let o = two_read (λ table id rest. remove table id rest) (at 1 (byte a)) (at 2 (expression b)) f h.1 in
            subst (λ g. Front g (array (item w (item a (item b no_items))))) o.4
            (λ rest items others. rw (the_word w (codes "remove") h.0)
            ((refl, (byte_read 1 o.0 a o.2, (term_read b o.1 (at_read 2 (expression b) o.1 o.3), tt))), others)))
        | inr none ↦ absurd (cc)
      ]
    ]

three_found : (w a b c : Data) (f : Block → Block) → three_items (as_str w) a b c ≡ Ok f
    → Front f (array (item w (item a (item b (item c no_items)))))
three_found w a b c f is =
    elim (chosen (is_word (as_str w) (codes "put")) _ here f is) [
      | inl h ↦ (let o = three_read (λ table id value rest. put table id value rest) (at 1 (byte a)) (at 2 (expression b))
          (at 3 (expression c)) f h.1 in
          subst (λ g. Front g (array (item w (item a (item b (item c no_items)))))) o.6
          (λ rest items others. rw (the_word w (codes "put") h.0) (
            (
              refl,
              (
                byte_read 1 o.0 a o.3,
                (
                  term_read b o.1 (at_read 2 (expression b) o.1 o.4),
                  (term_read c o.2 (at_read 3 (expression c) o.2 o.5), tt),
                ),
              ),
            ),
            others,
          )))
      | inr none ↦ absurd (cc)
    ]

four_found : (w a b c d : Data) (f : Block → Block) → four_items (as_str w) a b c d ≡ Ok f
    → Front f (array (item w (item a (item b (item c (item d no_items))))))
four_found w a b c d f is =
    elim (chosen (is_word (as_str w) (codes "look")) _ _ f is) [
      | inl h ↦ (let o = four_read (λ to table id absent rest. look to table id absent rest) (at 1 (byte a)) (at 2 (byte b))
          (at 3 (expression c)) (at 4 (short d)) f h.1 in
          subst (λ g. Front g (array (item w (item a (item b (item c (item d no_items))))))) o.8
          (λ rest items others. rw (the_word w (codes "look") h.0) (
            (
              refl,
              (
                byte_read 1 o.0 a o.4,
                (
                  byte_read 2 o.1 b o.5,
                  (term_read c o.2 (at_read 3 (expression c) o.2 o.6), (short_read 4 o.3 d o.7, tt)),
                ),
              ),
            ),
            others,
          )))
      | inr other ↦ elim (chosen (is_word (as_str w) (codes "find")) _ here f other) [
        | inl h ↦ (let o = four_read (λ to table id absent rest. find to table id absent rest) (at 1 (byte a)) (at 2 (byte b))
            (at 3 (expression c)) (at 4 (expression d)) f h.1 in
            subst (λ g. Front g (array (item w (item a (item b (item c (item d no_items))))))) o.8
            (λ rest items others. rw (the_word w (codes "find") h.0) (
              (
                refl,
                (
                  byte_read 1 o.0 a o.4,
                  (
                    byte_read 2 o.1 b o.5,
                    (
                      term_read c o.2 (at_read 3 (expression c) o.2 o.6),
                      (term_read d o.3 (at_read 4 (expression d) o.3 o.7), tt),
                    ),
                  ),
                ),
              ),
              others,
            )))
        | inr none ↦ absurd (cc)
      ]
    ]

mutual
  statement_read : (d : Data) (f : Block → Block) → statement d ≡ Ok f → Front f d
  statement_read null f is = absurd (cc)
  statement_read (boolean b) f is = absurd (cc)
  statement_read (number n) f is = absurd (cc)
  statement_read (string s) f is = absurd (cc)
  statement_read (object ms) f is = absurd (cc)
  statement_read (array no_items) f is = absurd (cc)
  statement_read (array (item w no_items)) f is = absurd (cc)
  statement_read (array (item w (item a no_items))) f is = one_found w a f is
  statement_read (array (item w (item a (item b no_items)))) f is = two_found w a b f is
  statement_read (array (item w (item a (item b (item c no_items))))) f is =
      elim (chosen (is_word (as_str w) (codes "if")) _ (three_items (as_str w) a b c) f is) [
        | inl h ↦ (let o = three_read (λ test ys ns rest. choose test ys ns rest) (at 1 (condition a)) (at 2 (block b)) (at 3 (block c))
            f
            h.1 in
            let test = test_read a o.0 (at_read 1 (condition a) o.0 o.3) in
            let ys = block_read b o.1 (at_read 2 (block b) o.1 o.4) in
            let ns = block_read c o.2 (at_read 3 (block c) o.2 o.5) in
            subst (λ g. Front g (array (item w (item a (item b (item c no_items)))))) o.6
            (λ rest items others. rw (the_word w (codes "if") h.0) ((refl, (test, (ys, (ns, tt)))), others)))
        | inr other ↦ three_found w a b c f other
      ]
  statement_read (array (item w (item a (item b (item c (item d no_items)))))) f is = four_found w a b c d f is
  statement_read (array (item w (item a (item b (item c (item d (item e rest))))))) f is = absurd (cc)

  block_read : (d : Data) (b : Block) → block d ≡ Ok b → Listed (SpellsBlock b) d
  block_read null b is = absurd (cc)
  block_read (boolean x) b is = absurd (cc)
  block_read (number n) b is = absurd (cc)
  block_read (string s) b is = absurd (cc)
  block_read (object ms) b is = absurd (cc)
  block_read (array items) b is = statements_read 0 items b is

  statements_read : (n : ℕ) (items : Items) (b : Block) → statements n items ≡ Ok b → SpellsBlock b items
  statements_read n no_items b is = let e : empty ≡ b = (cc) in subst (λ x. SpellsBlock x no_items) e tt
  statements_read n (item d items) b is =
      let o = two_read (λ first rest. first rest) (at n (statement d)) (statements (n + 1) items) b is in
      subst (λ x. SpellsBlock x (item d items)) o.4 (statement_read d o.0 (at_read n (statement d) o.0 o.2) o.1 items
      (statements_read (n + 1) items o.1 o.3))

-- a procedure
pub spelled_read : (p : ProcedureText) (d : Data) → reading d ≡ Ok p → Spells p d
spelled_read p (array (item a (item b no_items))) is =
    let o = two_read (λ args body. record { args = args; body = body }) (at 0 (byte a)) (at 1 (block b)) p is in
    subst (λ x. Spells x (array (item a (item b no_items)))) o.4
    (byte_read 0 o.0 a o.2, (block_read b o.1 (at_read 1 (block b) o.1 o.3), tt))
spelled_read p _ is = absurd (cc)
