-- What a check on what clients saw writes for each output, and how it ends.
use Rattle.std.specs.Prelude.{◌≡◌, ◌≢◌, ◌<◌, ℕ, Bool, true, false, if◌then◌else◌, List, [], length, IfSome, ⊤}
use Rattle.sgt_check.specs.declared.fault.CheckFault.TheVariants as check_fault
use Rattle.sgt_edn.specs.Scans.{is_edn, json_of_edn}
use Rattle.sgt_clients.specs.declared.clients.Clients.{Clients}
use Rattle.sgt_clients.specs.declared.fault.ClientsFault.{ClientsFault}
use Rattle.sgt_clients.specs.declared.fault.ClientsFault.TheVariants as fault
use Rattle.sgt_clients.specs.declared.level.Answer.{Answer}
use Rattle.sgt_clients.specs.declared.level.Level.{Level}
use Rattle.sgt_clients.specs.declared.level.Question.{Question}
use Rattle.sgt_clients.specs.declared.level_findings.LevelFindings.{LevelFindings}
use Rattle.sgt_clients.specs.declared.run.ClientsOutput.{ClientsOutput}
use Rattle.sgt_clients.specs.declared.run.ClientsOutput.TheVariants as output
use Rattle.sgt_clients.specs.GraphText.{graph_text}
use Rattle.sgt_clients.specs.Inputs.{AreClients}
use Rattle.sgt_clients.specs.Reports.{json_text}
use Rattle.sgt_clients.specs.Levels.{is_strict, keeps_time, IsOfLevel, IsAnswer, answer_of, strongest_of, is_at_least, NoStronger, AreFound}
use Rattle.sgt_clients.specs.Reports.{report_text}

-- the text of the report, of the object of JSON and of the graph; nothing is claimed of the picture
abbrev pub IsOutput : ClientsOutput → Bool → Clients → LevelFindings → List ℕ → Type 0
IsOutput output.Report strict c f text = text ≡ report_text strict c f
IsOutput output.Json strict c f text = text ≡ json_text strict c f
IsOutput output.Graph strict c f text = text ≡ graph_text c f.finding
IsOutput output.Timeline strict c f text = ⊤

-- an input in JSON: the same one, or the text in JSON of one in EDN
abbrev pub as_json : List ℕ → List ℕ
as_json input = if is_edn input then json_of_edn input else input

-- What a check guarantees for each output, of an input in JSON. It writes the text of that output for what the clients
-- of the input saw: at least one transaction. Each level's answer is right, and the strongest level holds. If the output
-- does not say `at least` of it, no stronger one holds. The answer for the level of the question is returned. Real time is
-- kept only if there is an invocation.
pub record IsJudged (q : Question) (output : ClientsOutput) (input written : List ℕ) (answer : Answer) : Type 0 where
  pub clients : Clients
  pub findings : LevelFindings
  pub read : AreClients input clients
  pub timed : keeps_time q ≡ true → clients.invoked ≡ true
  pub some : clients.transactions.items ≢ []
  pub found : AreFound (keeps_time q) clients findings
  pub text : IsOutput output (keeps_time q) clients findings written
  pub answers : (level : Level) → (is_strict level ≡ true → keeps_time q ≡ true) → IsAnswer level clients (answer_of findings level)
  pub strongest : IfSome (strongest_of (keeps_time q) findings) (λ level. IsOfLevel level clients)
  pub none_stronger : is_at_least findings (strongest_of (keeps_time q) findings) ≡ false
      → NoStronger (keeps_time q) clients (strongest_of (keeps_time q) findings)
  pub answered : answer ≡ answer_of findings q.level
  pub verdict : IsAnswer q.level clients answer

-- the same of an input in JSON or in EDN
abbrev pub IsChecked : Question → ClientsOutput → List ℕ → List ℕ → Answer → Type 0
IsChecked q output input written answer = IsJudged q output (as_json input) written answer

-- an error of the input: it is too long
abbrev pub IsFaultOf : List ℕ → ClientsFault → Type 0
IsFaultOf input (fault.Check check_fault.TooLong) = 268435456 < length input
IsFaultOf input _ = ⊤
