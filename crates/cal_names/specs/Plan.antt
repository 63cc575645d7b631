-- What a builder of a concept has.
use Rattle.std.specs.Prelude.{ℕ, List}
use Rattle.cal_names.specs.ConceptSettings.{ConceptSettings, file_path_for}

-- the name, what the configuration holds, and what else a builder of this kind is told
pub record Plan (Options : Type 0) : Type 0 where
  pub name : List ℕ
  pub settings : ConceptSettings
  pub options : Options

-- the path to which a plan leads
abbrev pub path_of : {Options : Type 0} → Plan Options → List ℕ
path_of plan = file_path_for plan.settings plan.name
