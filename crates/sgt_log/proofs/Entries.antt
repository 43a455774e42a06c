-- More transactions and values keep the entries, and an entry is seen where it was added.
use Rattle.std.proofs.Common.{◌≡◌, ◌+◌, ℕ, ℤ, zero, suc, ◌<◌, ◌≤◌, arith, List}
use Rattle.std.proofs.Common.{[], ◌∷◌, ◌++◌, length, Some, None, refl, ap, sym, subst, ◌∙◌, take, drop, map}
use Rattle.std.specs.Prelude.{slice_get, slice_index_or}
use Rattle.std.proofs.lemmas.List.{length-map, take-append-le, drop-append-le}
use Rattle.std.proofs.lemmas.List.{length-drop, length-append, append_assoc, map-append}
use Rattle.sgt_model.specs.declared.entry.Entry.{Entry}
use Rattle.sgt_model.specs.declared.event.Event.{Event}
use Rattle.sgt_model.specs.declared.event.Event.TheVariants as model_event
use Rattle.sgt_model.specs.declared.event.Request.{Request}
use Rattle.sgt_model.specs.declared.event.Request.TheVariants as request
use Rattle.sgt_model.specs.declared.reply.Reply.{Reply}
use Rattle.sgt_model.specs.ShortReplies.{full_reply}
use Rattle.sgt_log.specs.declared.span.Span.{Span}
use Rattle.sgt_log.specs.declared.stored_reply.StoredReply.{StoredReply}
use Rattle.sgt_log.specs.declared.stored_event.StoredEvent.{StoredEvent}
use Rattle.sgt_log.specs.declared.stored_event.StoredEvent.TheVariants as event
use Rattle.sgt_log.specs.declared.access_kind.AccessKind.TheVariants as kind
use Rattle.sgt_log.specs.declared.stored_entry.StoredEntry.{StoredEntry}
use Rattle.sgt_log.specs.EntryParts.{bare_event, full_event, request_args, HasArgs}
use Rattle.sgt_log.specs.Spans.{no_items, part_of, IsWithin, HasMore}
use Rattle.sgt_log.specs.StoredEntries.{bare_of, args_at, event_of, short_of, answers_at, cycle_at, fell_at, reply_of, entry_of}
use Rattle.sgt_log.specs.StoredEntries.{HasKey, HasNoArgs, HasNoLists, IsReply, IsEvent, IsEntry, AreEntries}

part-kept : {X : Type 0} (xs more : List X) (p : Span) → IsWithin (length xs) p → part_of (xs ++ more) p ≡ part_of xs p
part-kept xs more p h =
    ap (take p.count) (drop-append-le p.from xs more (omega (arith, h.0)))
    ∙ take-append-le p.count (drop p.from xs) more (let long = length-drop p.from xs in omega (arith, h.0, long))

reply-kept : (ns ms : List ℕ) (vs ws : List ℤ) (r : StoredReply) → IsReply (length ns) (length vs) r
    → reply_of (ns ++ ms) (vs ++ ws) r ≡ reply_of ns vs r
reply-kept ns ms vs ws r h =
    ap (λ a. full_reply (short_of r) a (part_of (ns ++ ms) (cycle_at r)) (part_of (ns ++ ms) (fell_at r)))
    (part-kept vs ws (answers_at r) h.answers)
    ∙ ap (λ w. full_reply (short_of r) (part_of vs (answers_at r)) w (part_of (ns ++ ms) (fell_at r))) (part-kept ns ms (cycle_at r) h.cycle)
    ∙ ap (full_reply (short_of r) (part_of vs (answers_at r)) (part_of ns (cycle_at r))) (part-kept ns ms (fell_at r) h.fell)

event-kept : (vs ws : List ℤ) (e : StoredEvent) → IsEvent vs e → event_of (vs ++ ws) e ≡ event_of vs e
event-kept vs ws e h = ap (full_event (bare_of e)) (part-kept vs ws (args_at e) h.args)

-- more transactions and values keep the entries
entries-kept : (ns ms : List ℕ) (vs ws : List ℤ) (es : List StoredEntry) → AreEntries (length ns) vs es
    → map (entry_of (ns ++ ms) (vs ++ ws)) es ≡ map (entry_of ns vs) es
entries-kept ns ms vs ws [] h = refl
entries-kept ns ms vs ws (e ∷ es) h =
    ap (λ r. record { event = event_of (vs ++ ws) e.event; reply = r } ∷ map (entry_of (ns ++ ms) (vs ++ ws)) es)
    (reply-kept ns ms vs ws e.reply h.0.1)
    ∙ ap (λ v. record { event = v; reply = reply_of ns vs e.reply } ∷ map (entry_of (ns ++ ms) (vs ++ ws)) es)
    (event-kept vs ws e.event h.0.0)
    ∙ ap (λ l. entry_of ns vs e ∷ l) (entries-kept ns ms vs ws es h.1)

-- an entry that was read, and its parts
entry-read : (ns : List ℕ) (vs : List ℤ) (es : List StoredEntry) (place : ℕ) (e : StoredEntry) → place < length es
    → e ≡ slice_index_or es place e → slice_get (map (entry_of ns vs) es) place ≡ Some (entry_of ns vs e)
entry-read ns vs [] place e h is = absurd (omega (arith, h))
entry-read ns vs (x ∷ es) zero e h is = ap (λ y. Some (entry_of ns vs y)) (sym is)
entry-read ns vs (x ∷ es) (suc place) e h is = entry-read ns vs es place e (omega (arith, h)) is

within-read : (n : ℕ) (v : List ℤ) (es : List StoredEntry) (place : ℕ) (e : StoredEntry) → AreEntries n v es → place < length es
    → e ≡ slice_index_or es place e → IsEntry n v e
within-read n v [] place e all h is = absurd (omega (arith, h))
within-read n v (x ∷ es) zero e all h is = subst (IsEntry n v) (sym is) all.0
within-read n v (x ∷ es) (suc place) e all h is = within-read n v es place e all.1 (omega (arith, h)) is

-- an entry that is seen at a place, and its parts
pub seen_at : (ns : List ℕ) (vs : List ℤ) (es : List StoredEntry) (entries : List Entry) (place : ℕ) (e : StoredEntry)
    → map (entry_of ns vs) es ≡ entries → AreEntries (length ns) vs es → place < length entries → e ≡ slice_index_or es place e
    → (slice_get entries place ≡ Some (entry_of ns vs e)) × IsEntry (length ns) vs e
seen_at ns vs es entries place e seen all within is =
    let long = length-map es (entry_of ns vs) in
    let count = ap length seen in
    let here : place < length es = omega (arith, within, long, count) in (
      sym (ap (λ l. slice_get l place) seen) ∙ entry-read ns vs es place e here is,
      within-read (length ns) vs es place e all here is,
    )

part-more : (m n : ℕ) (p : Span) → m ≤ n → IsWithin m p → IsWithin n p
part-more m n p le h = (omega (arith, le, h.0), h.1)

reply-more : (m n v w : ℕ) (r : StoredReply) → m ≤ n → v ≤ w → IsReply m v r → IsReply n w r
reply-more m n v w r le lv h = record {
  answers = part-more v w (answers_at r) lv h.answers;
  few = h.few;
  cycle = part-more m n (cycle_at r) le h.cycle;
  fell = part-more m n (fell_at r) le h.fell;
  key = h.key;
}

more-length : {X : Type 0} (xs ys : List X) → HasMore xs ys → length xs ≤ length ys
more-length xs ys more = let long = ap length more.1 ∙ length-append xs more.0 in omega (arith, long)

event-more : (vs ws : List ℤ) (e : StoredEvent) → HasMore vs ws → IsEvent vs e → IsEvent ws e
event-more vs ws e more h = record {
  args = part-more (length vs) (length ws) (args_at e) (more-length vs ws more) h.args;
  few = h.few;
  own = subst (HasArgs (bare_of e)) (sym (rw more.1 (part-kept vs more.0 (args_at e) h.args))) h.own;
}

-- one entry more
entries-added : (m n : ℕ) (v w : List ℤ) (es : List StoredEntry) (e : StoredEntry) → m ≤ n → HasMore v w → AreEntries m v es → IsEntry n w e
    → AreEntries n w (es ++ e ∷ [])
entries-added m n v w [] e le lv all one = (one, tt)
entries-added m n v w (x ∷ es) e le lv all one =
    ((event-more v w x.event lv all.0.0, reply-more m n (length v) (length w) x.reply le (more-length v w lv) all.0.1), entries-added m n v w es e le lv all.1 one)

entries-same : (ns ms : List ℕ) (vs ws : List ℤ) (es : List StoredEntry) → HasMore ns ms → HasMore vs ws
    → AreEntries (length ns) vs es → map (entry_of ms ws) es ≡ map (entry_of ns vs) es
entries-same ns ms vs ws es names values h = rw (names.1, values.1) (entries-kept ns names.0 vs values.0 es h)

event-same : (vs ws : List ℤ) (e : StoredEvent) → HasMore vs ws → IsEvent vs e → event_of ws e ≡ event_of vs e
event-same vs ws e values h = rw values.1 (event-kept vs values.0 e h)

pub more-more : {X : Type 0} (xs ys zs : List X) → HasMore xs ys → HasMore ys zs → HasMore xs zs
more-more xs ys zs one two = (one.0 ++ two.0, two.1 ∙ ap (λ l. l ++ two.0) one.1 ∙ append_assoc xs one.0 two.0)

-- an entry whose reply was made after its event
pub joined : (ms : List ℕ) (us ws : List ℤ) (e : StoredEvent) (r : StoredReply) → HasMore us ws → IsEvent us e
    → IsReply (length ms) (length ws) r → IsEntry (length ms) ws (record { event = e; reply = r })
joined ms us ws e r more event reply = (event-more us ws e more event, reply)

pub joined_is : (ms : List ℕ) (us ws : List ℤ) (e : StoredEvent) (r : StoredReply) (v : Event) (q : Reply) → HasMore us ws
    → IsEvent us e → event_of us e ≡ v → reply_of ms ws r ≡ q
    → entry_of ms ws (record { event = e; reply = r }) ≡ record { event = v; reply = q }
joined_is ms us ws e r v q more within event reply =
    ap (λ x. record { event = x; reply = reply_of ms ws r }) (event-same us ws e more within ∙ event)
    ∙ ap (λ y. record { event = v; reply = y }) reply

-- what a push leaves
pub entries-pushed : (ns ms : List ℕ) (vs ws : List ℤ) (es fs : List StoredEntry) (e : StoredEntry) → HasMore ns ms → HasMore vs ws
    → AreEntries (length ns) vs es → IsEntry (length ms) ws e → fs ≡ es ++ e ∷ [] → AreEntries (length ms) ws fs
entries-pushed ns ms vs ws es fs e names values all one is =
    rw is (entries-added _ _ _ _ es e (more-length ns ms names) values all one)

pub entries-after : (ns ms : List ℕ) (vs ws : List ℤ) (es fs : List StoredEntry) (e : StoredEntry) → HasMore ns ms → HasMore vs ws
    → AreEntries (length ns) vs es → fs ≡ es ++ e ∷ []
    → map (entry_of ms ws) fs ≡ map (entry_of ns vs) es ++ entry_of ms ws e ∷ []
entries-after ns ms vs ws es fs e names values all is =
    ap (map (entry_of ms ws)) is
    ∙ map-append (entry_of ms ws) es (e ∷ [])
    ∙ ap (λ l. l ++ entry_of ms ws e ∷ []) (entries-same ns ms vs ws es names values all)

taken-suc : {X : Type 0} (xs : List X) (n : ℕ) (x : X) → slice_get xs n ≡ Some x → take (suc n) xs ≡ take n xs ++ x ∷ []
taken-suc [] n x is = absurd (cc)
taken-suc (y ∷ xs) zero x is = let same : y ≡ x = cc in ap (λ z. z ∷ []) same
taken-suc (y ∷ xs) (suc n) x is = ap (λ l. y ∷ l) (taken-suc xs n x is)

-- one more of a list that is read from its front
pub taken : {X : Type 0} (xs : List X) (n : ℕ) (x : X) → slice_get xs n ≡ Some x → take (n + 1) xs ≡ take n xs ++ x ∷ []
taken xs n x is = let one : n + 1 ≡ suc n = omega arith in rw one (taken-suc xs n x is)

-- an entry that has no lists is the same in every history, and names no part of its lists

part-none : {X : Type 0} (xs : List X) (p : Span) → p ≡ no_items → part_of xs p ≡ []
part-none xs p is = ap (part_of xs) is

within-none : (n : ℕ) (p : Span) → p ≡ no_items → IsWithin n p
within-none n p is = subst (IsWithin n) (sym is) (omega arith, omega arith)

pub plain-reply : (ns : List ℕ) (vs : List ℤ) (r : StoredReply) → HasNoLists r → reply_of ns vs r ≡ full_reply (short_of r) [] [] []
plain-reply ns vs r lists =
    ap (λ a. full_reply (short_of r) a (part_of ns (cycle_at r)) (part_of ns (fell_at r))) (part-none vs (answers_at r) lists.0)
    ∙ ap (λ w. full_reply (short_of r) [] w (part_of ns (fell_at r))) (part-none ns (cycle_at r) lists.1)
    ∙ ap (λ f. full_reply (short_of r) [] [] f) (part-none ns (fell_at r) lists.2)

pub plain-entry : (ns : List ℕ) (vs : List ℤ) (e : StoredEvent) (r : StoredReply) → HasNoArgs e → HasNoLists r
    → entry_of ns vs (record { event = e; reply = r })
    ≡ record { event = full_event (bare_of e) []; reply = full_reply (short_of r) [] [] [] }
plain-entry ns vs e r args lists =
    ap (λ a. record { event = full_event (bare_of e) a; reply = reply_of ns vs r }) (part-none vs (args_at e) args)
    ∙ ap (λ q. record { event = full_event (bare_of e) []; reply = q }) (plain-reply ns vs r lists)

-- the arguments of an event that has none in the list
own-none : (vs : List ℤ) (e : StoredEvent) → HasNoArgs e → HasArgs (bare_of e) (part_of vs (args_at e))
own-none vs (event.Start procedure count from) is = tt
own-none vs (event.Access kind.Read table t from) is = let none : 1 ≡ 0 = ap (λ p. p.count) is in absurd (omega (arith, none))
own-none vs (event.Access kind.Write table t from) is = let none : 2 ≡ 0 = ap (λ p. p.count) is in absurd (omega (arith, none))
own-none vs (event.Access kind.Remove table t from) is = let none : 1 ≡ 0 = ap (λ p. p.count) is in absurd (omega (arith, none))
own-none vs (event.Step t) is = tt
own-none vs (event.Commit t) is = tt
own-none vs (event.Quit t) is = tt

pub plain-reply-within : (n v : ℕ) (r : StoredReply) → HasNoLists r → HasKey r → IsReply n v r
plain-reply-within n v r lists key = record {
  answers = within-none v (answers_at r) lists.0;
  few = subst (λ p. p.count ≤ 8) (sym lists.0) (omega arith);
  cycle = within-none n (cycle_at r) lists.1;
  fell = within-none n (fell_at r) lists.2;
  key = key;
}

pub plain-within : (n : ℕ) (v : List ℤ) (e : StoredEvent) (r : StoredReply) → HasNoArgs e → HasNoLists r → HasKey r
    → IsEntry n v (record { event = e; reply = r })
plain-within n v e r args lists key = (
  record {
    args = within-none (length v) (args_at e) args;
    few = subst (λ p. p.count ≤ 4) (sym args) (omega arith);
    own = own-none v e args;
  },
  plain-reply-within n (length v) r lists key,
)

-- an access and its parts
pub request-whole : (t : ℕ) (d : Request) → full_event (bare_event (model_event.Access t d)) (request_args d) ≡ model_event.Access t d
request-whole t (request.Read k) = refl
request-whole t (request.Write k (Some v)) = refl
request-whole t (request.Write k None) = refl
