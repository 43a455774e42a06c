-- What the outcomes of reading say of the table.
use Rattle.std.proofs.Common.{◌≡◌, ◌≢◌, refl, sym, ◌∙◌, Result, Ok, Err}
use Rattle.std.specs.Prelude.{IfOk, IfErr}
use Rattle.serde_json.specs.Data.{Data}
use Rattle.sgt_model.specs.declared.procedure.Procedure.{Procedure}
use Rattle.sgt_model.specs.ProcedureTexts.{procedure_text}
use Rattle.sgt_proc_json.specs.Spelling.{Spells, SpellsNone}
use Rattle.sgt_proc_json.specs.Readings.{reading}
use Rattle.sgt_proc_json.specs.Refusals.{Says}
use Rattle.sgt_proc_json.specs.declared.errors.ReadError.{ReadError}
use Rattle.sgt_proc_json.specs.declared.errors.ReadError.TheVariants.{Shape, NoMemory}
use Rattle.sgt_proc_json.proofs.SpelledIsRead.{read_spelled}
use Rattle.sgt_proc_json.proofs.ReadIsSpelled.{spelled_read}

-- a procedure that is read is spelled
pub read_is_spelled : (d : Data) (r : Result Procedure ReadError) → IfOk r (λ p. reading d ≡ Ok (procedure_text p))
    → IfOk r (λ p. Spells (procedure_text p) d)
read_is_spelled d (Ok p) is = spelled_read (procedure_text p) d is
read_is_spelled d (Err error) is = tt

-- a tree with a shape error spells none
none_spelled : (d : Data) (error : ReadError) → Says (reading d) error → error ≢ NoMemory → SpellsNone d
none_spelled d (Shape place) reported other p is = let both : Ok p ≡ Err place = sym (read_spelled p d is) ∙ reported place refl in absurd (cc)
none_spelled d NoMemory reported other p is = absurd (other refl)

pub refused_spells_none : (d : Data) (r : Result Procedure ReadError) → IfErr r (Says (reading d))
    → IfErr r (λ error. error ≢ NoMemory → SpellsNone d)
refused_spells_none d (Ok p) reported = tt
refused_spells_none d (Err error) reported = none_spelled d error reported
