-- What the default configuration of a connection holds.
use Rattle.std.specs.Prelude.{ℕ, List, codes}
use Rattle.cal_names.specs.declared.path_parts.PathParts.{PathParts}

-- the name of the type of a connection's entry
abbrev pub stored_type : List ℕ
stored_type = codes "SharedManagementData"

-- what stands around a name in its path
abbrev pub default_parts : PathParts
default_parts = record { prefix = codes "iox2_"; suffix = codes ".rx"; path_hint = codes "/tmp" }
