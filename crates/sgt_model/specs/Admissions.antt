-- The conditions that an admitted start meets.
use Rattle.std.specs.Prelude.{◌≡◌, List, [], ◌∷◌, length, Some, All}
use Rattle.sgt_model.specs.Numbers.{IsValue}
use Rattle.sgt_model.specs.Configurations.{Configuration, takes}
use Rattle.sgt_model.specs.Progress.{Call}

-- the configuration has the call's procedure, which takes as many arguments as these, and each is a value
pub record IsAdmitted (s : Configuration) (c : Call) : Type 0 where
  pub known : takes s.rules c.procedure ≡ Some (length c.args)
  pub values : All IsValue c.args

-- each of these calls is admitted
abbrev pub AreAdmitted : Configuration → List Call → Type 0
AreAdmitted s [] = Unit {0}
AreAdmitted s (c ∷ before) = AreAdmitted s before × IsAdmitted s c
