-- In a legal history each transaction aborted in cascade has read from the aborted one, or from another one aborted
-- in cascade.
use Rattle.std.proofs.Common.{◌≡◌, ◌≢◌, ℕ, zero, suc, ◌<◌, true, false, ◌⊎◌, List, [], ◌∷◌, Some, length, reverse, refl, sym, ap, subst, inl, inr, ◌∙◌, arith, slice_get}
use Rattle.std.specs.Option.{option_and_then}
use Rattle.std.proofs.lemmas.Bool.{cases_eq, both_ways}
use Rattle.sgt_model.specs.declared.event.Event.{Event}
use Rattle.sgt_model.specs.declared.event.Event.TheVariants.{Start, Step, Access, Commit, Quit}
use Rattle.sgt_model.specs.declared.reply.Reply.{Reply}
use Rattle.sgt_model.specs.declared.reply.Reply.TheVariants as reply
use Rattle.sgt_model.specs.declared.entry.Entry.{Entry}
use Rattle.sgt_model.specs.Paths.{PathOf, last_of, Member, Reaches}
use Rattle.sgt_model.specs.Fates.{subject, aborted, live}
use Rattle.sgt_model.specs.ReadFrom.{LooksFrom, ReadFrom}
use Rattle.sgt_model.specs.Falls.{Feeds, Falls}
use Rattle.sgt_model.specs.Questions.{named_by, is_ending}
use Rattle.sgt_model.specs.Configurations.{Configuration}
use Rattle.sgt_model.specs.Legality.{Legal}
use Rattle.sgt_model.specs.Aborts.{ReplyIsJustified}
use Rattle.sgt_model.proofs.Aborts.{aborts_have_cause}
use Rattle.sgt_model.proofs.Facts.{some_is, live-stands, live-not_committed, status, precedes-started}
use Rattle.sgt_model.proofs.Sources.{read-precedes, reaches-step, source_of_standing_stands, source_commits_before}
use Rattle.sgt_model.proofs.Questions.{endings_end_one}
use Rattle.sgt_model.specs.ShortReplies.{fell_in}
use Rattle.sgt_explain.specs.Firsts.{NoneBelow}
use Rattle.sgt_explain.specs.Places.{entries_before, listed_by, placed_falls}
use Rattle.sgt_explain.specs.Sources.{IsUndoneAt, ReadsUndoneAt}
use Rattle.sgt_explain.proofs.Prefixes.{LooksBack, found_at, entry_there, legal_there}

-- along a path of reads

stands_back : (s : Configuration) (past : List Entry) → Legal s past → (x : ℕ) (path : List ℕ) → PathOf (Feeds past) x path
    → aborted past (last_of x path) ≡ false → aborted past x ≡ false
stands_back s past legal x [] p h = h
stands_back s past legal x (y ∷ path) p h = source_of_standing_stands s past legal y x (stands_back s past legal y path p.1 h) p.0

-- x is t, or is aborted in cascade with it
abbrev Undone : (t : ℕ) (fell : List ℕ) (x : ℕ) → Type 0
Undone t fell x = (t ≡ x) ⊎ Member x fell

-- the transaction that u, at the end of a path of reads from t, has read from last
module _ (s : Configuration) (past : List Entry) (legal : Legal s past) (t : ℕ) (fell : List ℕ) (falls : Falls past t fell) where
  -- the one after a live one that is aborted is live and aborted too, if a path leads on from it to one that is not
  next_undone : (x y : ℕ) (path : List ℕ) → live past x ≡ true → Reaches (Feeds past) t x → Feeds past x y → PathOf (Feeds past) y path
      → aborted past (last_of y path) ≡ false → (live past y ≡ true) × Undone t fell y
  next_undone x y path alive reaches feeds p stands =
      elim (status past y (precedes-started s past legal x y (read-precedes past y x feeds)).1) [
        | inl still ↦ (
          still,
          elim (cases_eq y t) [
            | inl same ↦ inl (sym same)
            | inr other ↦ inr (falls.all y still other (reaches-step (Feeds past) t x y reaches feeds))
          ],
        )
        | inr over ↦ absurd (elim over [
          | inl done ↦ live-not_committed past x alive (source_commits_before s past legal y x done feeds).0
          | inr gone ↦ both_ways _ (stands_back s past legal y path p stands) gone
        ])
      ]

  last_source : (x : ℕ) (path : List ℕ) (u : ℕ) → live past x ≡ true → Undone t fell x → Reaches (Feeds past) t x
      → PathOf (Feeds past) x path → last_of x path ≡ u → (x ≡ u → ⊥) → aborted past u ≡ false
      → (v : ℕ) × Undone t fell v × ReadFrom past u v
  last_source x [] u alive undone reaches p ends apart stands = absurd (apart ends)
  last_source x (y ∷ path) u alive undone reaches p ends apart stands = elim (cases_eq y u) [
    | inl same ↦ (x, undone, subst (λ w. ReadFrom past w x) same p.0)
    | inr other ↦
        let next = next_undone x y path alive reaches p.0 p.1 (ap (aborted past) ends ∙ stands) in
        last_source y path u next.0 next.1 (reaches-step (Feeds past) t x y reaches p.0) p.1 ends other stands
  ]

-- at a position

falls_by : (s : Configuration) (past : List Entry) (event : Event) (r : Reply) → ReplyIsJustified s past event r → (n t : ℕ)
    → slice_get (fell_in r) n ≡ Some t → Falls past (subject event) (fell_in r) × (is_ending r ≡ true)
falls_by s past event (reply.Aborted why fell) h n t is = (h.1, refl)
falls_by s past event (reply.Refused code fell) h n t is = (h.1, refl)
falls_by s past event _ h n t is = absurd (cc)

named_subject : (event : Event) (t : ℕ) → named_by event ≡ Some t → subject event ≡ t
named_subject (Start p args) t h = absurd (cc)
named_subject (Step u) t h = some_is u t h
named_subject (Access u d) t h = some_is u t h
named_subject (Commit u) t h = some_is u t h
named_subject (Quit u) t h = some_is u t h

member_at : (l : List ℕ) (n t : ℕ) → slice_get l n ≡ Some t → Member t l
member_at [] n t h = absurd (cc)
member_at (x ∷ l) zero t h = inl (sym (some_is x t h))
member_at (x ∷ l) (suc n) t h = inr (member_at l n t h)

reads_back : (t u : ℕ) → LooksBack (λ past. ReadFrom past t u) (λ past o. (t ≢ u) × LooksFrom past o t u)
reads_back t u = record { nowhere = λ h. h; here_or_before = λ e past h. h; here = λ e past h. inl h; more = λ e past h. inr h }

-- each transaction aborted in cascade has read from one that is aborted there
pub source_there : (s : Configuration) (entries : List Entry) (place n u : ℕ) → place < length entries → Legal s (reverse entries)
    → slice_get (placed_falls entries place) n ≡ Some u → NoneBelow (ReadsUndoneAt entries place u) place → ⊥
source_there s entries place n u within legal at none =
    let (e, is) = entry_there entries place within in
    let legal_here = legal_there s entries place e is legal in
    let past = entries_before entries place in
    let falls_is : placed_falls entries place ≡ fell_in e.reply = ap (listed_by (λ (x : Entry). fell_in x.reply)) is in
    let at_here : slice_get (fell_in e.reply) n ≡ Some u = ap (λ l. slice_get l n) (sym falls_is) ∙ at in
    let by = falls_by s past e.event e.reply (aborts_have_cause s (e ∷ entries_before entries place) legal_here).1 n u at_here in
    let ended = endings_end_one s past e legal_here by.1 in
    let t : ℕ = ended.0 in
    let named : named_by e.event ≡ Some t = ended.1 in
    let alive : live past t ≡ true = ended.2 in
    let falls : Falls past t (fell_in e.reply) = subst (λ x. Falls past x (fell_in e.reply)) (named_subject e.event t named) by.0 in
    let each = falls.each u (member_at (fell_in e.reply) n u at_here) in
    let reaches : Reaches (Feeds past) t u = each.2 in
    let (v, undone, reads) = last_source s past legal_here.0 t (fell_in e.reply) falls t reaches.0 u alive (inl refl) ([], tt, refl)
    reaches.1 reaches.2 (λ same. each.1 (sym same)) (live-stands past u each.0) in
    let (m, below, look) = found_at (λ l. ReadFrom l u v) (λ l o. (u ≢ v) × LooksFrom l o u v) (reads_back u v) entries place
    (omega (arith, within)) reads in
    none m below (v, undone_at e is t named v falls_is undone, look)
  where
    undone_at : (e : Entry) → slice_get entries place ≡ Some e → (t : ℕ) → named_by e.event ≡ Some t → (v : ℕ)
        → placed_falls entries place ≡ fell_in e.reply → Undone t (fell_in e.reply) v → IsUndoneAt entries place v
    undone_at e is t named v falls_is (inl same) =
        inl (ap (option_and_then (λ (x : Entry). named_by x.event)) is ∙ named ∙ ap Some same)
    undone_at e is t named v falls_is (inr member) = inr (subst (Member v) (sym falls_is) member)
