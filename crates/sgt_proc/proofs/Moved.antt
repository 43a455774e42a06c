-- What is left once a cursor has moved on.
use Rattle.std.proofs.Common.{◌≡◌, refl, ap, ◌∙◌, ℕ, ◌+◌, ℤ, List, [], Option, Some}
use Rattle.sgt_model.specs.Contents.{Key}
use Rattle.sgt_model.specs.Syntax.{Block, ProcedureText}
use Rattle.sgt_model.specs.Meaning.{fresh}
use Rattle.sgt_model.specs.Traces.{Ends}
use Rattle.sgt_model.specs.Left.{ToRun, left_at_start, reached, next_of_reached, left_with_found, left_with_write, after_look, after_store}
use Rattle.sgt_proc.specs.declared.place.Place.{Place}
use Rattle.sgt_proc.specs.declared.place.Stop.{Stop}
use Rattle.sgt_proc.specs.declared.place.Stop.TheVariants as stop
use Rattle.sgt_proc.specs.Places.{with_found_in, rest_from, reached_at, HasFound}
use Rattle.sgt_proc.specs.Cursors.{left_after}
use Rattle.sgt_proc.proofs.Followed.{followed_empty}

left_to_run : (b : Block) (m : Place) (s : Stop) → HasFound s → left_after b m s ≡ ToRun (rest_from b m m.at)
left_to_run b m (stop.Look key to absent) h = refl
left_to_run b m (stop.Find key to absent) h = refl
left_to_run b m (stop.Put key v) h = refl
left_to_run b m stop.End h = refl
left_to_run b m (stop.Asks code) h = refl
left_to_run b m (stop.Absent code) h = absurd h

-- at the end
pub given_at_end : (b : Block) (following now : Place) (s : Stop) (answers : List ℤ) → reached_at b now s ≡ reached (left_after b following s)
    → next_of_reached (reached (left_after b following s)) ≡ Ends answers → now.answers ≡ answers
given_at_end b following now s answers same e = given s (ap next_of_reached same ∙ e) where
  given : (s : Stop) → next_of_reached (reached_at b now s) ≡ Ends answers → now.answers ≡ answers
  given (stop.Look key to absent) e = cc
  given (stop.Find key to absent) e = cc
  given (stop.Put key v) e = cc
  given stop.End e = cc
  given (stop.Asks code) e = cc
  given (stop.Absent code) e = cc

-- at the start
pub begun : (p : ProcedureText) (args : List ℤ) (m : Place) (s : Stop) → HasFound s → m.args ≡ args → m.registers ≡ fresh → m.answers ≡ []
    → m.path.items ≡ [] → m.at ≡ 0 → left_after p.body m s ≡ left_at_start p args
begun p args m s found same registers answers path at =
    left_to_run p.body m s found ∙ rw (same, registers, answers, path, at)
    (ap (λ b. ToRun (record { statements = b; args = args; registers = fresh; answers = [] })) (followed_empty p.body))

module _ (b : Block) (following now : Place) where
  -- after a read that returned a value
  pub looked_on : (key : Key) (to absent : ℕ) (v : ℤ) (m : Place) (s : Stop)
      → reached_at b now (stop.Look key to absent) ≡ reached (left_after b following (stop.Look key to absent))
      → m ≡ with_found_in (record now { at = now.at + 1 }) to v → HasFound s
      → left_after b m s ≡ after_look (Some v) (left_after b following (stop.Look key to absent))
  looked_on key to absent v m s same is found =
      left_to_run b m s found
      ∙ (ap (λ (x : Place). ToRun (rest_from b x x.at)) is
      ∙ ap (λ o. left_with_found (Some v) o (left_after b following (stop.Look key to absent))) same)

  -- after a write
  pub stored_on : (key : Key) (v : Option ℤ) (m : Place) (s : Stop)
      → reached_at b now (stop.Put key v) ≡ reached (left_after b following (stop.Put key v)) → m ≡ record now { at = now.at + 1 }
      → HasFound s → left_after b m s ≡ after_store (left_after b following (stop.Put key v))
  stored_on key v m s same is found =
      left_to_run b m s found
      ∙ (ap (λ (x : Place). ToRun (rest_from b x x.at)) is
      ∙ ap (λ o. left_with_write o (left_after b following (stop.Put key v))) same)
