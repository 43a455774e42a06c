-- A transcript spells the operations of the textbook's history.
use Rattle.std.proofs.Common.{◌≡◌, ℕ, List, [], ◌∷◌, ◌++◌, refl, ap, sym, ◌∙◌}
use Rattle.std.proofs.lemmas.Grind.{flat_map-append}
use Rattle.std.specs.Prelude.{codes}
use Rattle.std.specs.Fmt.{decimal}
use Rattle.sgt_model.specs.declared.event.Event.{Event}
use Rattle.sgt_model.specs.declared.reply.Reply.{Reply}
use Rattle.sgt_model.specs.declared.reply.Reply.TheVariants as reply
use Rattle.sgt_model.specs.Contents.{Key}
use Rattle.sgt_classes.specs.declared.operation.Operation.{Operation}
use Rattle.sgt_classes.specs.declared.operation.Action.TheVariants as action
use Rattle.sgt_notation.specs.Spellings.{bracketed, spelling, text_at}
use Rattle.sgt_textbook.specs.Textbook.{each_does, named, operations_in, operations_of, stepping, textbook}
use Rattle.sgt_format.specs.Decimals.{key_text}
use Rattle.sgt_notation.specs.Transcripts.{NamesKey, TranscriptsSpellTextbooks, access_lines, end_lines, operations_text, spelled_lines}

-- accesses, if the item has the key's text
reads : (items : List (List ℕ)) (x : ℕ) (k : Key) (ts : List ℕ) → text_at items x ≡ key_text k
    → access_lines (codes "r") k ts ≡ spelled_lines items (each_does (action.Read x) ts)
reads items x k [] is = refl
reads items x k (t ∷ ts) is =
    ap (λ (name : List ℕ). ((codes "r" ++ decimal t ++ bracketed name) ++ codes "\n") ++ access_lines (codes "r") k ts) (sym is)
    ∙ ap (λ l. ((codes "r" ++ decimal t ++ bracketed (text_at items x)) ++ codes "\n") ++ l) (reads items x k ts is)

writes : (items : List (List ℕ)) (x : ℕ) (k : Key) (ts : List ℕ) → text_at items x ≡ key_text k
    → access_lines (codes "w") k ts ≡ spelled_lines items (each_does (action.Write x) ts)
writes items x k [] is = refl
writes items x k (t ∷ ts) is =
    ap (λ (name : List ℕ). ((codes "w" ++ decimal t ++ bracketed name) ++ codes "\n") ++ access_lines (codes "w") k ts) (sym is)
    ∙ ap (λ l. ((codes "w" ++ decimal t ++ bracketed (text_at items x)) ++ codes "\n") ++ l) (writes items x k ts is)

-- ends
commits : (items : List (List ℕ)) (ts : List ℕ) → end_lines (codes "c") ts ≡ spelled_lines items (each_does action.Commit ts)
commits items [] = refl
commits items (t ∷ ts) = ap (λ l. ((codes "c" ++ decimal t) ++ codes "\n") ++ l) (commits items ts)

aborts : (items : List (List ℕ)) (ts : List ℕ) → end_lines (codes "a") ts ≡ spelled_lines items (each_does action.Abort ts)
aborts items [] = refl
aborts items (t ∷ ts) = ap (λ l. ((codes "a" ++ decimal t) ++ codes "\n") ++ l) (aborts items ts)

-- an entry
entry-spelled : (number : Key → ℕ) (items : List (List ℕ)) (event : Event) (r : Reply) → NamesKey number items r
    → operations_text event r ≡ spelled_lines items (operations_in number event r)
entry-spelled number items event (reply.Looked k v) is = reads items (number k) k (stepping event) is
entry-spelled number items event (reply.Wrote k v) is = writes items (number k) k (stepping event) is
entry-spelled number items event (reply.Committed answers) is = commits items (named event)
entry-spelled number items event (reply.Aborted why fell) is = aborts items (named event ++ fell)
entry-spelled number items event (reply.Refused code fell) is = aborts items (named event ++ fell)
entry-spelled number items event _ is = refl

pub spelled : TranscriptsSpellTextbooks
spelled number items [] names = refl
spelled number items (e ∷ past) names =
    ap (λ l. l ++ operations_text e.event e.reply) (spelled number items past names.0)
    ∙ ap (λ l. spelled_lines items (textbook number past) ++ l) (entry-spelled number items e.event e.reply names.1)
    ∙ sym (flat_map-append (λ (op : Operation). spelling items op ++ codes "\n") (textbook number past) (operations_of number e))
