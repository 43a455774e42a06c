-- What the tokens of a line spell, if they are plain.
use Rattle.std.proofs.Common.{
  Bool,
  true,
  false,
  ◌≡◌,
  ◌≤◌,
  ◌<◌,
  ℕ,
  zero,
  suc,
  ℤ,
  List,
  [],
  ◌∷◌,
  ◌++◌,
  length,
  Some,
  None,
  Option,
  refl,
  ap,
  sym,
  ◌∙◌,
  arith,
  le-leb,
}
use Rattle.std.specs.Prelude.{cond, map, codes, IfSome, IsUtf8, Ok, Err, option_and_then, option_map}
use Rattle.std.specs.Str.{bytes_eq}
use Rattle.std.specs.Option.{ok_or, option_map_or}
use Rattle.json.specs.Token.{Token, begin_array, end_array, string, number}
use Rattle.json.specs.Json.{items, value}
use Rattle.json.specs.Json as json
use Rattle.json.specs.Lex.{tokens}
use Rattle.serde_json.specs.Data.{Num, Data, Items, no_items, item}
use Rattle.serde_json.specs.Data as tree
use Rattle.serde_json.specs.Find.{as_i64, as_str}
use Rattle.serde_json.specs.Read.{number_of, of_items, of_json, read}
use Rattle.sgt_model.specs.declared.event.Event.{Event}
use Rattle.sgt_proc_json.specs.Trees.{whole, natural}
use Rattle.sgt_format.specs.Trees.{tree_of, list, listed, each}
use Rattle.sgt_format.specs.EventLines as EventLines
use Rattle.sgt_format.specs.EventLines.{arguments, procedure, begin, of_transaction, of_procedure, event_from, event_in, event_of}
use Rattle.sgt_format.specs.JobLines.{job_call, job_in, job_of}
use Rattle.sgt_format.specs.LineTokens.{whole_number, whole_numbers, tree_at, event_at, job_at}
use Rattle.sgt_format.specs.ScriptLines as ScriptLines
use Rattle.sgt_format.specs.ScriptLines.{script_line_from, script_line_in, script_line_of}
use Rattle.sgt_model.specs.declared.call.Call.{Call}
use Rattle.sgt_format.specs.declared.script_line.ScriptLine.{ScriptLine}
use Rattle.sgt_format.specs.declared.errors.LineError.TheVariants.{NotJson, BadLine}
use Rattle.sgt_format.proofs.Views.{tree_of_read}
use Rattle.sgt_format.proofs.Numerals.{one_number_more}

-- a word and a number
pub transaction : (w s : List ℕ) (n : ℤ) → whole_number s ≡ Some n
    → event_at (begin_array ∷ string w ∷ number s ∷ end_array ∷ []) ≡ option_and_then (of_transaction w) (natural 32 n)
unfolding value items
transaction w s n is = by_number (number_of s) refl
  where
    by_number : (o : Option Num) → number_of s ≡ o
        → event_at (begin_array ∷ string w ∷ number s ∷ end_array ∷ []) ≡ option_and_then (of_transaction w) (natural 32 n)
    by_number None e = absurd (cc)
    by_number (Some m) e = let read : as_i64 m ≡ Some n = sym (ap (option_and_then as_i64) e) ∙ is in rw e (rw read refl)

abbrev texts_items : List (List ℕ) → json.Items
texts_items [] = json.no_items
texts_items (s ∷ texts) = json.item (json.number s) (texts_items texts)

items_are : (d n : ℕ) (texts : List (List ℕ)) (rest : List Token) → length texts < n
    → items (value (suc d)) n (map number texts ++ end_array ∷ rest) ≡ Some (texts_items texts, rest)
unfolding value items
items_are d zero texts rest h = absurd (omega arith)
items_are d (suc n) [] rest h = refl
items_are d (suc n) (s ∷ texts) rest h = rw (items_are d n texts rest (omega arith)) refl

record Listed (texts : List (List ℕ)) (numbers : List ℤ) : Type 0 where
  trees : Items
  are : of_items (texts_items texts) ≡ Some trees
  numbers_are : each whole (listed trees) ≡ Some numbers
  many : length (listed trees) ≡ length texts

listed_more : (s : List ℕ) (texts : List (List ℕ)) (numbers : List ℤ) → whole_numbers (s ∷ texts) ≡ Some numbers
    → ((rest : List ℤ) → whole_numbers texts ≡ Some rest → Listed texts rest) → Listed (s ∷ texts) numbers
listed_more s texts numbers is listed_rest = by_parts (number_of s) (whole_number s) (whole_numbers texts) refl refl refl
  where
    by_parts : (o : Option Num) (n : Option ℤ) (r : Option (List ℤ)) → number_of s ≡ o → whole_number s ≡ n → whole_numbers texts ≡ r
        → Listed (s ∷ texts) numbers
    by_parts o None r e f g = absurd (cc)
    by_parts o (Some n) None e f g = absurd (cc)
    by_parts None (Some n) (Some rest) e f g = absurd (cc)
    by_parts (Some m) (Some n) (Some rest) e f g =
        let more = listed_rest rest g in
        let read : as_i64 m ≡ Some n = sym (ap (option_and_then as_i64) e) ∙ f in
        let first = ap (option_and_then (λ n. option_map (λ rest. n ∷ rest) (whole_numbers texts))) f in
        let same : Some (n ∷ rest) ≡ Some numbers = sym (first ∙ ap (option_map (λ rest. n ∷ rest)) g) ∙ is in
        record {
          trees = item (tree.number m) more.trees;
          are = rw (e, more.are) refl;
          numbers_are = rw (read, more.numbers_are) same;
          many = ap suc more.many;
        }

numbers_listed : (texts : List (List ℕ)) (numbers : List ℤ) → whole_numbers texts ≡ Some numbers → Listed texts numbers
numbers_listed [] numbers is = record { trees = no_items; are = refl; numbers_are = is; many = refl }
numbers_listed (s ∷ texts) numbers is = listed_more s texts numbers is (numbers_listed texts)

long : (texts : List (List ℕ)) → length (map number texts ++ end_array ∷ end_array ∷ []) ≡ suc (suc (length texts))
long [] = refl
long (s ∷ texts) = ap suc (long texts)

capacity : (texts : List (List ℕ)) (rest : List Token) → length texts < length (map number texts ++ end_array ∷ rest)
capacity [] rest = omega arith
capacity (s ∷ texts) rest = omega (arith, capacity texts rest)

-- a list of numbers, deep enough
list_value : (d : ℕ) (texts : List (List ℕ)) (rest : List Token)
    → value (suc (suc d)) (begin_array ∷ (map number texts ++ end_array ∷ rest)) ≡ Some (json.array (texts_items texts), rest)
unfolding value
list_value d texts rest =
    ap (json.parse_map json.array) (items_are d (length (map number texts ++ end_array ∷ rest)) texts rest (capacity texts rest))

-- three items
three : (v : json.Parse json.Json) (k : ℕ) (w s : List ℕ) (rest : List Token) (j : json.Json)
    → v (string w ∷ number s ∷ begin_array ∷ rest) ≡ Some (json.string w, number s ∷ begin_array ∷ rest)
    → v (number s ∷ begin_array ∷ rest) ≡ Some (json.number s, begin_array ∷ rest)
    → v (begin_array ∷ rest) ≡ Some (j, end_array ∷ [])
    → items v (suc (suc (suc (suc k)))) (string w ∷ number s ∷ begin_array ∷ rest)
    ≡ Some (json.item (json.string w) (json.item (json.number s) (json.item j json.no_items)), [])
unfolding items
three v k w s rest j first second third = rw first (rw second (rw third refl))

-- the tokens of a word, a number and a list of numbers
abbrev call_tokens : List ℕ → List ℕ → List (List ℕ) → List Token
call_tokens w s texts = begin_array ∷ string w ∷ number s ∷ begin_array ∷ (map number texts ++ end_array ∷ end_array ∷ [])

call_value : (d : ℕ) (w s : List ℕ) (texts : List (List ℕ)) → value (suc (suc (suc d))) (call_tokens w s texts)
    ≡ Some (
      json.array (json.item (json.string w) (json.item (json.number s)
          (json.item (json.array (texts_items texts)) json.no_items))),
      [],
    )
unfolding value
call_value d w s texts =
    let rest = map number texts ++ end_array ∷ end_array ∷ [] in
    ap (json.parse_map json.array)
    (ap (λ n. items (value (suc (suc d))) (suc (suc (suc n))) (string w ∷ number s ∷ begin_array ∷ rest)) (long texts)
    ∙ three (value (suc (suc d))) (suc (length texts)) w s rest (json.array (texts_items texts)) refl refl
    (list_value d texts (end_array ∷ [])))

-- their tree
abbrev call_tree : List ℕ → Num → Items → Data
call_tree w m trees = tree.array (item (tree.string w) (item (tree.number m) (item (tree.array trees) no_items)))

tree_of_call : (w s : List ℕ) (m : Num) (texts : List (List ℕ)) (trees : Items) → number_of s ≡ Some m
    → of_items (texts_items texts) ≡ Some trees → tree_at (call_tokens w s texts) ≡ Some (call_tree w m trees)
tree_of_call w s m texts trees e are =
    ap (λ o. option_and_then of_json (option_and_then (λ p. json.if_last p.0 p.1) o)) (call_value 124 w s texts) ∙ rw (e, are) refl

-- what such a tree means, by its word, its number and its list
abbrev MeansCall : {A : Type 0} → (Data → Option A) → (List ℕ → ℕ → List ℤ → Option A) → Type 0
MeansCall meaning of_call = (w : List ℕ) (m : Num) (trees : Items) → meaning (call_tree w m trees)
    ≡ option_and_then (λ n. option_and_then (of_call w n) (arguments (tree.array trees))) (procedure (tree.number m))

called : {A : Type 0} (meaning : Data → Option A) (of_call : List ℕ → ℕ → List ℤ → Option A) → MeansCall meaning of_call
    → (w s : List ℕ) (n : ℤ) (texts : List (List ℕ)) (args : List ℤ) → whole_number s ≡ Some n → whole_numbers texts ≡ Some args
    → length texts ≤ 4
    → option_and_then meaning (tree_at (call_tokens w s texts)) ≡ option_and_then (λ p. of_call w p args) (natural 16 n)
called {A} meaning of_call means w s n texts args is are few = by_number (number_of s) refl
  where
    by_tree : (m : Num) → as_i64 m ≡ Some n → (all : Listed texts args)
        → meaning (call_tree w m all.trees) ≡ option_and_then (λ p. of_call w p args) (natural 16 n)
    by_tree m read all = means w m all.trees ∙ rw (read, all.many) (rw (le-leb _ _ few, all.numbers_are) refl)

    by_number : (o : Option Num) → number_of s ≡ o
        → option_and_then meaning (tree_at (call_tokens w s texts)) ≡ option_and_then (λ p. of_call w p args) (natural 16 n)
    by_number None e = absurd (cc)
    by_number (Some m) e =
        let all : Listed texts args = numbers_listed texts args are in
        ap (option_and_then meaning) (tree_of_call w s m texts all.trees e all.are)
        ∙ by_tree m (sym (ap (option_and_then as_i64) e) ∙ is) all

-- one more argument
pub one_more : (old before after : List Token) (texts : List (List ℕ)) (text : List ℕ) (numbers more : List ℤ) (n : ℤ)
    → old ≡ map number texts ++ before → before ≡ number text ∷ after → whole_numbers texts ≡ Some numbers
    → whole_number text ≡ Some n → more ≡ numbers ++ n ∷ []
    → (all : List (List ℕ)) × (old ≡ map number all ++ after) × (whole_numbers all ≡ Some more)
one_more old before after texts text numbers more n is first are one longer = (
  texts ++ text ∷ [],
  is ∙ rw first (sym (shifted texts)),
  one_number_more texts text numbers n are one ∙ ap Some (sym longer),
)
  where
    shifted : (texts : List (List ℕ)) → map number (texts ++ text ∷ []) ++ after ≡ map number texts ++ number text ∷ after
    shifted [] = refl
    shifted (s ∷ texts) = ap (λ ts. number s ∷ ts) (shifted texts)

-- a list of numbers that is the last item of a list, token after token
pub last_list : (old e f g : List Token) (texts : List (List ℕ)) → old ≡ begin_array ∷ e → e ≡ map number texts ++ end_array ∷ f
    → f ≡ end_array ∷ g → g ≡ [] → old ≡ begin_array ∷ (map number texts ++ end_array ∷ end_array ∷ [])
last_list old e f g texts one two three four = cc

-- a word and a transaction, token after token
pub spelled_transaction : (old d e : List Token) (w s : List ℕ) (n : ℤ) (t : ℕ) (found : Option Event)
    → old ≡ begin_array ∷ string w ∷ number s ∷ d → d ≡ end_array ∷ e → e ≡ []
    → whole_number s ≡ Some n → natural 32 n ≡ Some t → found ≡ of_transaction w t
    → IfSome found (λ event. event_at old ≡ Some event)
spelled_transaction old d e w s n t None one two three is small found = tt
spelled_transaction old d e w s n t (Some event) one two three is small found =
    let all : old ≡ begin_array ∷ string w ∷ number s ∷ end_array ∷ [] = cc in
    ap event_at all ∙ transaction w s n is ∙ ap (option_and_then (of_transaction w)) small ∙ sym found

-- a word, a procedure and arguments, token after token
spelled_call : {A : Type 0} (meaning : Data → Option A) (of_call : List ℕ → ℕ → List ℤ → Option A) → MeansCall meaning of_call
    → (old d : List Token) (w s : List ℕ) (n : ℤ) (p : ℕ) (texts : List (List ℕ)) (args : List ℤ) (found : Option A)
    → old ≡ begin_array ∷ string w ∷ number s ∷ d → d ≡ begin_array ∷ (map number texts ++ end_array ∷ end_array ∷ [])
    → whole_number s ≡ Some n → whole_numbers texts ≡ Some args → length texts ≤ 4 → natural 16 n ≡ Some p
    → found ≡ of_call w p args
    → IfSome found (λ requested. option_and_then meaning (tree_at old) ≡ Some requested)
spelled_call meaning of_call means old d w s n p texts args None one two is are few small found = tt
spelled_call meaning of_call means old d w s n p texts args (Some requested) one two is are few small found =
    let all : old ≡ call_tokens w s texts = cc in
    ap (λ ts. option_and_then meaning (tree_at ts)) all ∙ called meaning of_call means w s n texts args is are few
    ∙ ap (option_and_then (λ p. of_call w p args)) small ∙ sym found

-- an event's
pub spelled_start : (old d : List Token) (w s : List ℕ) (n : ℤ) (p : ℕ) (texts : List (List ℕ)) (args : List ℤ)
    (found : Option Event) → old ≡ begin_array ∷ string w ∷ number s ∷ d → d ≡ begin_array ∷ (map number texts ++ end_array ∷
    end_array ∷ [])
    → whole_number s ≡ Some n → whole_numbers texts ≡ Some args → length texts ≤ 4 → natural 16 n ≡ Some p
    → found ≡ of_procedure w p args → IfSome found (λ event. event_at old ≡ Some event)
spelled_start = spelled_call event_in of_procedure (λ w m trees. refl)

-- a job's
pub spelled_job : (old d : List Token) (w s : List ℕ) (n : ℤ) (p : ℕ) (texts : List (List ℕ)) (args : List ℤ)
    (found : Option Call) → old ≡ begin_array ∷ string w ∷ number s ∷ d → d ≡ begin_array ∷ (map number texts ++ end_array ∷
    end_array ∷ [])
    → whole_number s ≡ Some n → whole_numbers texts ≡ Some args → length texts ≤ 4 → natural 16 n ≡ Some p
    → found ≡ job_call w p args → IfSome found (λ call. job_at old ≡ Some call)
spelled_job = spelled_call job_in job_call (λ w m trees. refl)

-- a line means what its tokens mean
line_means : {A : Type 0} (meaning : Data → Option A) (line text : List ℕ) (ts : List Token) (found : Option A) → IsUtf8 line
    → text ≡ line → ts ≡ tokens text → IfSome found (λ requested. option_and_then meaning (tree_at ts) ≡ Some requested)
    → IfSome found (λ requested. option_map_or (λ tree. ok_or (meaning tree) BadLine) (tree_of line) (Err NotJson) ≡ Ok requested)
line_means meaning line text ts None utf8 same are is = tt
line_means {A} meaning line text ts (Some requested) utf8 same are is =
    by_tree (read line) refl (ap (λ ts. option_and_then meaning (tree_at ts)) (sym (ap tokens same) ∙ sym are) ∙ is)
  where
    by_tree : (o : Option Data) → read line ≡ o → option_and_then meaning (read line) ≡ Some requested
        → option_map_or (λ tree. ok_or (meaning tree) BadLine) (tree_of line) (Err NotJson) ≡ Ok requested
    by_tree None e is = absurd (cc)
    by_tree (Some tree) e is =
        let found : meaning tree ≡ Some requested = sym (ap (option_and_then meaning) e) ∙ is in
        ap (λ o. option_map_or (λ tree. ok_or (meaning tree) BadLine) o (Err NotJson)) (tree_of_read line tree utf8 e)
        ∙ ap (λ o. ok_or o BadLine) found

pub event_found : (line text : List ℕ) (ts : List Token) (found : Option Event) → IsUtf8 line → text ≡ line → ts ≡ tokens text
    → IfSome found (λ event. event_at ts ≡ Some event) → IfSome found (λ event. event_of line ≡ Ok event)
event_found = line_means event_in

pub job_found : (line text : List ℕ) (ts : List Token) (found : Option Call) → IsUtf8 line → text ≡ line → ts ≡ tokens text
    → IfSome found (λ call. job_at ts ≡ Some call) → IfSome found (λ call. job_of line ≡ Ok call)
job_found = line_means job_in

-- a word that is an event alone is that event whatever else it may be
by_test : (b : Bool) (other : Option ScriptLine) (event : Event) → cond b (Some begin) None ≡ Some event
    → cond b (Some (ScriptLine.Event begin)) other ≡ Some (ScriptLine.Event event)
by_test true other event is = ap (option_map ScriptLine.Event) is
by_test false other event is = absurd (cc)

-- a line that spells an event spells it as a script line
pub requested_event : (line : List ℕ) (event : Event) → event_of line ≡ Ok event → script_line_of line ≡ Ok (ScriptLine.Event event)
requested_event line event is = by_tree (tree_of line) refl
  where
    by_word : (w : Option (List ℕ)) → option_and_then EventLines.of_word w ≡ Some event
        → option_and_then ScriptLines.of_word w ≡ Some (ScriptLine.Event event)
    by_word None found = absurd (cc)
    by_word (Some w) found = by_test (bytes_eq w (codes "begin")) (cond (bytes_eq w (codes "cut")) (Some ScriptLine.Cut) None) event found

    by_items : (tree : Data) (trees : Option (List Data)) → list tree ≡ trees → event_in tree ≡ Some event
        → script_line_in tree ≡ Some (ScriptLine.Event event)
    by_items tree None e found = absurd (cc)
    by_items tree (Some []) e found = absurd (cc)
    by_items tree (Some (word ∷ [])) e found =
        ap (option_and_then script_line_from) e ∙ by_word (as_str word) (sym (ap (option_and_then event_from) e) ∙ found)
    by_items tree (Some (word ∷ t ∷ rest)) e found =
        ap (option_and_then script_line_from) e ∙ ap (option_map ScriptLine.Event) (sym (ap (option_and_then event_from) e) ∙ found)

    by_event : (tree : Data) (found : Option Event) → event_in tree ≡ found → ok_or found BadLine ≡ Ok event → event_in tree ≡ Some event
    by_event tree None e same = absurd (cc)
    by_event tree (Some other) e same = e ∙ cc

    by_tree : (tree : Option Data) → tree_of line ≡ tree → script_line_of line ≡ Ok (ScriptLine.Event event)
    by_tree None e = absurd (cc)
    by_tree (Some tree) e =
        let read = sym (ap (λ o. option_map_or (λ tree. ok_or (event_in tree) BadLine) o (Err NotJson)) e) ∙ is in
        ap (λ o. option_map_or (λ tree. ok_or (script_line_in tree) BadLine) o (Err NotJson)) e
        ∙ ap (λ o. ok_or o BadLine) (by_items tree (list tree) refl (by_event tree (event_in tree) refl read))
