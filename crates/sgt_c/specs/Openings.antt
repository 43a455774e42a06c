-- What an opening makes.
use Rattle.std.specs.Prelude.{◌≡◌, ℕ, List, []}
use Rattle.sgt_model.specs.Contents.{Key}
use Rattle.sgt_model.specs.Databases.{contents_of}
use Rattle.sgt_engine.specs.EngineView.{EngineView, configuration_of}
use Rattle.sgt_format.specs.declared.errors.OpeningError.{OpeningError}
use Rattle.sgt_format.specs.declared.opening.Opening.{Opening}
use Rattle.sgt_format.specs.Openings.{Opens, Refuses}
use Rattle.sgt_assembly.specs.Openings.{opened_configuration}
use Rattle.sgt_c.specs.declared.fault_struct.SgtFault.{SgtFault}
use Rattle.sgt_c.specs.declared.row_struct.SgtRow.{SgtRow}
use Rattle.sgt_c.specs.FaultStructs.{HoldsFault}
use Rattle.sgt_c.specs.Rows.{with_rows}

-- the engine starts from the opening that the bytes spell, with an empty history
abbrev pub OpenedAs : List ℕ → EngineView → Type 0
OpenedAs bytes e = (o : Opening) × Opens 1 bytes o × (configuration_of e ≡ opened_configuration o) × (e.past ≡ [])

-- the opening, but its database is that of its accounts after these rows are written
abbrev pub WithRows : Opening → List SgtRow → Opening → Type 0
WithRows o rows o' = (o'.limits ≡ o.limits) × (o'.procedures ≡ o.procedures)
    × ((k : Key) → contents_of o'.database k ≡ with_rows (contents_of o.database) rows k)

-- the engine starts from the opening that the bytes spell and these rows, with an empty history
abbrev pub OpenedWith : List ℕ → List SgtRow → EngineView → Type 0
OpenedWith bytes rows e = (o o' : Opening) × Opens 1 bytes o × WithRows o rows o'
    × (configuration_of e ≡ opened_configuration o') × (e.past ≡ [])

-- the bytes spell no opening, for the reason that is returned
abbrev pub RefusedAs : List ℕ → SgtFault → Type 0
RefusedAs bytes reported = (e : OpeningError) × Refuses 1 bytes e × HoldsFault reported e
