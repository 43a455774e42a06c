use Rattle.sgt_engine.specs.EngineView.{configuration_of}
use Rattle.sgt_workers.proofs.runs.run_bank.Given as goal

abbrev pub ghosts-run_named-N-Ledger : goal.ghosts-run_named-N-Ledger
ghosts-run_named-N-Ledger g a = record { name = a.blank.name; parts = a.blank.parts }

abbrev pub ghosts-run_named-N-Named : goal.ghosts-run_named-N-Named
ghosts-run_named-N-Named g a = record { configuration = configuration_of a.engine.value; sessions = a.blank.parts }
