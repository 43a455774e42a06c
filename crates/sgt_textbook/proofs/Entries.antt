-- The access of an entry's operations, and the transactions that they end.
use Rattle.std.proofs.Common.{◌≡◌, ℕ, ℤ, zero, suc, Bool, true, false, cond, ◌⊎◌, List, [], ◌∷◌, ◌++◌, Option, Some, None, nat_eq, refl, sym, ap, subst, inl, inr, ◌∙◌}
use Rattle.std.specs.Prelude.{slice_get}
use Rattle.std.specs.List.{list_any}
use Rattle.std.proofs.lemmas.Bool.{eq-eqb, eqb-true, or_left, or_right}
use Rattle.sgt_model.specs.declared.event.Event.{Event}
use Rattle.sgt_model.specs.declared.event.Event.TheVariants.{Start, Step, Commit, Quit}
use Rattle.sgt_model.specs.declared.event.Event.TheVariants as events
use Rattle.sgt_model.specs.declared.reply.Reply.{Reply}
use Rattle.sgt_model.specs.declared.reply.Reply.TheVariants as reply
use Rattle.sgt_model.specs.declared.reply.Cause.{Cause}
use Rattle.sgt_model.specs.declared.reply.Cause.TheVariants as cause
use Rattle.sgt_model.specs.declared.reply.Fate.{Fate}
use Rattle.sgt_model.specs.declared.reply.Fate.TheVariants as fate
use Rattle.sgt_model.specs.declared.kind.Kind.{Kind}
use Rattle.sgt_model.specs.declared.kind.Kind.TheVariants.{Look, Store}
use Rattle.sgt_model.specs.Contents.{Key}
use Rattle.sgt_model.specs.Paths.{Member}
use Rattle.sgt_model.specs.Accesses.{Access, access_at, access_in}
use Rattle.sgt_model.specs.Fates.{subject, concerns, undone_in, ending_in, has_aborted}
use Rattle.sgt_model.proofs.Facts.{some_is, member_from}
use Rattle.sgt_classes.specs.declared.operation.Operation.{Operation}
use Rattle.sgt_classes.specs.declared.operation.Action.{Action}
use Rattle.sgt_classes.specs.declared.operation.Action.TheVariants as action
use Rattle.sgt_textbook.specs.Textbook.{named, stepping, each_does, operations_in, committed_in}
use Rattle.sgt_textbook.proofs.Places.{split_at, in_first, in_second}

abbrev pub does : ℕ → Action → Operation
does t a = record { transaction = t; action = a }

-- what an access of that kind does with the item
abbrev pub action_on : Kind → ℕ → Action
action_on Look x = action.Read x
action_on Store x = action.Write x

-- an access, as an operation
abbrev pub access_as : (Key → ℕ) → Access → Operation
access_as number a = does a.by (action_on a.kind (number a.key))

-- the access is that of the event and its reply, and their first operation
pub record IsAccess (number : Key → ℕ) (event : Event) (r : Reply) (j t : ℕ) (kind : Kind) (x : ℕ) : Type 0 where
  pub access : Access
  pub is : access_in event r ≡ Some access
  pub by : access.by ≡ t
  pub kind_is : access.kind ≡ kind
  pub item : number access.key ≡ x
  pub first : j ≡ 0

-- an abort ends t
abbrev pub Undone : Event → Reply → ℕ → Type 0
Undone event r t = (f : Fate) × (ending_in event r t ≡ Some f) × (has_aborted (Some f) ≡ true)

-- what the action of an operation says
abbrev pub Reported : (Key → ℕ) → Event → Reply → ℕ → ℕ → Action → Type 0
Reported number event r j t (action.Read x) = IsAccess number event r j t Look x
Reported number event r j t (action.Write x) = IsAccess number event r j t Store x
Reported number event r j t action.Commit = ending_in event r t ≡ Some fate.Committed
Reported number event r j t action.Abort = Undone event r t

-- what holds of each entry and its operations
pub record Says (number : Key → ℕ) (event : Event) (r : Reply) : Type 0 where
  pub reported : (j t : ℕ) (a : Action) → slice_get (operations_in number event r) j ≡ Some (does t a) → Reported number event r j t a
  pub access_there : (a : Access) → access_in event r ≡ Some a
      → slice_get (operations_in number event r) 0 ≡ Some (access_as number a)
  pub abort_there : (t : ℕ) → Undone event r t
      → (j : ℕ) × (slice_get (operations_in number event r) j ≡ Some (does t action.Abort))
  pub commit_there : (t : ℕ) → ending_in event r t ≡ Some fate.Committed → slice_get (committed_in event r) 0 ≡ Some t
  pub commit_does : (j t : ℕ) → slice_get (committed_in event r) j ≡ Some t
      → (j ≡ 0) × (slice_get (operations_in number event r) j ≡ Some (does t action.Commit))

-- of one action

each_at : (a : Action) (l : List ℕ) (j t : ℕ) → slice_get l j ≡ Some t → slice_get (each_does a l) j ≡ Some (does t a)
each_at a [] j t at = absurd (cc)
each_at a (u ∷ l) zero t at = ap (λ v. Some (does v a)) (some_is u t at)
each_at a (u ∷ l) (suc j) t at = each_at a l j t at

pub each_is : (a : Action) (l : List ℕ) (j t : ℕ) (b : Action) → slice_get (each_does a l) j ≡ Some (does t b)
    → (a ≡ b) × (slice_get l j ≡ Some t)
each_is a [] j t b at = absurd (cc)
each_is a (u ∷ l) zero t b at = let same = some_is (does u a) (does t b) at in
    (ap (λ (o : Operation). o.action) same, ap (λ (o : Operation). Some o.transaction) same)
each_is a (u ∷ l) (suc j) t b at = each_is a l j t b at

pub alone : (u j t : ℕ) → slice_get (u ∷ []) j ≡ Some t → (j ≡ 0) × (u ≡ t)
alone u zero t at = (refl, some_is u t at)
alone u (suc j) t at = absurd (cc)

-- of the event

pub named_is : (event : Event) (j t : ℕ) → slice_get (named event) j ≡ Some t → (j ≡ 0) × (concerns event t ≡ true)
named_is (Start p args) j t at = absurd (cc)
named_is (Step u) j t at = let a = alone u j t at in (a.0, eq-eqb u t a.1)
named_is (events.Access u d) j t at = let a = alone u j t at in (a.0, eq-eqb u t a.1)
named_is (Commit u) j t at = let a = alone u j t at in (a.0, eq-eqb u t a.1)
named_is (Quit u) j t at = let a = alone u j t at in (a.0, eq-eqb u t a.1)

named_at : (event : Event) (t : ℕ) → concerns event t ≡ true → slice_get (named event) 0 ≡ Some t
named_at (Start p args) t h = absurd (cc)
named_at (Step u) t h = ap (λ v. Some v) (eqb-true u t h)
named_at (events.Access u d) t h = ap (λ v. Some v) (eqb-true u t h)
named_at (Commit u) t h = ap (λ v. Some v) (eqb-true u t h)
named_at (Quit u) t h = ap (λ v. Some v) (eqb-true u t h)

stepping_is : (event : Event) (k : Key) (kind : Kind) (v : Option ℤ) (j t : ℕ) → slice_get (stepping event) j ≡ Some t
    → (j ≡ 0) × (access_at event k kind v ≡ Some (record { by = t; key = k; kind = kind; value = v }))
stepping_is (Step u) k kind v j t at = let a = alone u j t at in
    (a.0, ap (λ w. Some (record { by = w; key = k; kind = kind; value = v })) a.1)
stepping_is (events.Access u d) k kind v j t at = let a = alone u j t at in
    (a.0, ap (λ w. Some (record { by = w; key = k; kind = kind; value = v })) a.1)
stepping_is _ k kind v j t at = absurd (cc)

stepping_at : (number : Key → ℕ) (event : Event) (k : Key) (kind : Kind) (v : Option ℤ) (a : Access) → access_at event k kind v ≡ Some a
    → slice_get (each_does (action_on kind (number k)) (stepping event)) 0 ≡ Some (access_as number a)
stepping_at number (Step u) k kind v a is = ap (λ b. Some (access_as number b)) (some_is _ a is)
stepping_at number (events.Access u d) k kind v a is = ap (λ b. Some (access_as number b)) (some_is _ a is)
stepping_at number _ k kind v a is = absurd (cc)

-- of those aborted in cascade

any_at : (l : List ℕ) (j t : ℕ) → slice_get l j ≡ Some t → list_any (λ u. nat_eq u t) l ≡ true
any_at [] j t at = absurd (cc)
any_at (u ∷ l) zero t at = or_left (nat_eq u t) _ (eq-eqb u t (some_is u t at))
any_at (u ∷ l) (suc j) t at = or_right (nat_eq u t) _ (any_at l j t at)

member_at : (l : List ℕ) (t : ℕ) → Member t l → (j : ℕ) × (slice_get l j ≡ Some t)
member_at [] t m = absurd m
member_at (u ∷ l) t (inl e) = (0, ap (λ v. Some v) (sym e))
member_at (u ∷ l) t (inr m) = let p = member_at l t m in (suc p.0, p.1)

undone_by : (b c : Bool) (x y : Fate) → has_aborted (Some x) ≡ true → has_aborted (Some y) ≡ true → (b ≡ true) ⊎ (c ≡ true)
    → (f : Fate) × (cond b (Some x) (cond c (Some y) None) ≡ Some f) × (has_aborted (Some f) ≡ true)
undone_by true c x y hx hy h = (x, refl, hx)
undone_by false true x y hx hy h = (y, refl, hy)
undone_by false false x y hx hy (inl h) = absurd (cc)
undone_by false false x y hx hy (inr h) = absurd (cc)

undone_from : (b c : Bool) (x y f : Fate) → cond b (Some x) (cond c (Some y) None) ≡ Some f → (b ≡ true) ⊎ (c ≡ true)
undone_from true c x y f h = inl refl
undone_from false true x y f h = inr refl
undone_from false false x y f h = absurd (cc)

undone_stands : (b c : Bool) (x y f : Fate) → has_aborted (Some x) ≡ true → has_aborted (Some y) ≡ true
    → cond b (Some x) (cond c (Some y) None) ≡ Some f → has_aborted (Some f) ≡ true
undone_stands true c x y f hx hy h = ap has_aborted (sym h) ∙ hx
undone_stands false true x y f hx hy h = ap has_aborted (sym h) ∙ hy
undone_stands false false x y f hx hy h = absurd (cc)

undone_reported : (event : Event) (why : Cause) (fell : List ℕ) (j t : ℕ) → slice_get (named event ++ fell) j ≡ Some t
    → (f : Fate) × (undone_in event why fell t ≡ Some f) × (has_aborted (Some f) ≡ true)
undone_reported event why fell j t at = undone_by _ _ _ _ refl refl (elim (split_at (named event) fell j t at) [
  | inl own ↦ inl (named_is event j t own.1).1
  | inr other ↦ inr (any_at fell other.0 t other.2)
])

undone_there : (event : Event) (fell : List ℕ) (t : ℕ) → (concerns event t ≡ true) ⊎ (list_any (λ u. nat_eq u t) fell ≡ true)
    → (j : ℕ) × (slice_get (named event ++ fell) j ≡ Some t)
undone_there event fell t (inl own) = (0, in_first (named event) fell 0 t (named_at event t own))
undone_there event fell t (inr other) = let m = member_at fell t (member_from t fell other) in
    let p = in_second (named event) fell m.0 t m.1 in (p.0, p.2)

-- of each reply

no_place : {A : Type 0} (l : List A) (j : ℕ) (x : A) → l ≡ [] → slice_get l j ≡ Some x → ⊥
no_place [] j x e at = cc
no_place (y ∷ l) j x e at = cc

idle : (number : Key → ℕ) (event : Event) (r : Reply) → operations_in number event r ≡ [] → access_in event r ≡ None
    → ((t : ℕ) → ending_in event r t ≡ None) → committed_in event r ≡ [] → Says number event r
idle number event r no_operations no_access ends_none no_commit = record {
  reported = λ j t a at. absurd (no_place _ j _ no_operations at);
  access_there = λ a is. absurd (cc (sym no_access ∙ is));
  abort_there = λ t undone. absurd (cc (sym (ends_none t) ∙ undone.1));
  commit_there = λ t now. absurd (cc (sym (ends_none t) ∙ now));
  commit_does = λ j t at. absurd (no_place _ j _ no_commit at);
}

looked : (number : Key → ℕ) (event : Event) (k : Key) (v : Option ℤ) → Says number event (reply.Looked k v)
looked number event k v = record {
  reported = λ j t a at. let e = each_is _ (stepping event) j t a at in let s = stepping_is event k Look v j t e.1 in
      subst (Reported number event (reply.Looked k v) j t) e.0
      (record { access = _; is = s.1; by = refl; kind_is = refl; item = refl; first = s.0 });
  access_there = λ a is. stepping_at number event k Look v a is;
  abort_there = λ t undone. absurd (cc undone.1);
  commit_there = λ t now. absurd (cc now);
  commit_does = λ j t at. absurd (cc at);
}

wrote : (number : Key → ℕ) (event : Event) (k : Key) (v : Option ℤ) → Says number event (reply.Wrote k v)
wrote number event k v = record {
  reported = λ j t a at. let e = each_is _ (stepping event) j t a at in let s = stepping_is event k Store v j t e.1 in
      subst (Reported number event (reply.Wrote k v) j t) e.0
      (record { access = _; is = s.1; by = refl; kind_is = refl; item = refl; first = s.0 });
  access_there = λ a is. stepping_at number event k Store v a is;
  abort_there = λ t undone. absurd (cc undone.1);
  commit_there = λ t now. absurd (cc now);
  commit_does = λ j t at. absurd (cc at);
}

commits_from : (b : Bool) → cond b (Some fate.Committed) None ≡ Some fate.Committed → b ≡ true
commits_from true h = refl
commits_from false h = absurd (cc)

ended_so : (b : Bool) (f : Fate) → cond b (Some fate.Committed) None ≡ Some f → has_aborted (Some f) ≡ true → ⊥
ended_so true f h a = cc (ap has_aborted h ∙ a)
ended_so false f h a = cc

commits : (number : Key → ℕ) (event : Event) (answers : List ℤ) → Says number event (reply.Committed answers)
commits number event answers = record {
  reported = λ j t a at. let e = each_is _ (named event) j t a at in
      subst (Reported number event (reply.Committed answers) j t) e.0
      (ap (λ b. cond b (Some fate.Committed) None) (named_is event j t e.1).1);
  access_there = λ a is. absurd (cc is);
  abort_there = λ t undone. absurd (ended_so (concerns event t) undone.0 undone.1 undone.2);
  commit_there = λ t now. named_at event t (commits_from (concerns event t) now);
  commit_does = λ j t at. ((named_is event j t at).0, each_at action.Commit (named event) j t at);
}

-- an abort; or a refusal, which is an abort for the code that was raised
record IsUndoing (event : Event) (r : Reply) (why : Cause) (fell : List ℕ) : Type 0 where
  ends : (t : ℕ) → ending_in event r t ≡ undone_in event why fell t
  no_access : access_in event r ≡ None
  no_commit : committed_in event r ≡ []

undoes : (number : Key → ℕ) (event : Event) (r : Reply) (why : Cause) (fell : List ℕ) → IsUndoing event r why fell
    → ((j t : ℕ) (a : Action) → slice_get (operations_in number event r) j ≡ Some (does t a)
    → (action.Abort ≡ a) × (slice_get (named event ++ fell) j ≡ Some t))
    → ((j t : ℕ) → slice_get (named event ++ fell) j ≡ Some t → slice_get (operations_in number event r) j ≡ Some (does t action.Abort))
    → Says number event r
undoes number event r why fell undoing is_abort abort_at = record {
  reported = λ j t a at. let e = is_abort j t a at in let u = undone_reported event why fell j t e.1 in
      subst (Reported number event r j t) e.0 (u.0, undoing.ends t ∙ u.1, u.2);
  access_there = λ a is. absurd (cc (sym undoing.no_access ∙ is));
  abort_there = λ t undone. let p = undone_there event fell t (undone_from _ _ _ _ undone.0 (sym (undoing.ends t) ∙ undone.1)) in
      (p.0, abort_at p.0 t p.1);
  commit_there = λ t now. absurd (no_commit t (sym (undoing.ends t) ∙ now));
  commit_does = λ j t at. absurd (no_place _ j t undoing.no_commit at);
}
  where
    no_commit : (t : ℕ) → undone_in event why fell t ≡ Some fate.Committed → ⊥
    no_commit t now = cc (undone_stands (concerns event t) (list_any (λ u. nat_eq u t) fell) (fate.Aborted why) (fate.Fell (subject event))
        fate.Committed refl refl now)

pub reports : (number : Key → ℕ) (event : Event) (r : Reply) → Says number event r
reports number event (reply.Looked k v) = looked number event k v
reports number event (reply.Wrote k v) = wrote number event k v
reports number event (reply.Committed answers) = commits number event answers
reports number event (reply.Aborted why fell) = undoes number event _ why fell
    (record { ends = λ _. refl; no_access = refl; no_commit = refl })
    (λ j t a at. each_is action.Abort (named event ++ fell) j t a at) (λ j t at. each_at action.Abort (named event ++ fell) j t at)
reports number event (reply.Refused code fell) = undoes number event _ (cause.Asked code) fell
    (record { ends = λ _. refl; no_access = refl; no_commit = refl })
    (λ j t a at. each_is action.Abort (named event ++ fell) j t a at) (λ j t at. each_at action.Abort (named event ++ fell) j t at)
reports number event _ = idle number event _ refl refl (λ _. refl) refl
