-- What the default configuration of a memory segment holds.
use Rattle.std.specs.Prelude.{codes}
use Rattle.cal_names.specs.declared.path_parts.PathParts.{PathParts}

-- what stands around a name in its path
abbrev pub default_parts : PathParts
default_parts = record { prefix = codes "iox2_"; suffix = codes ".shm"; path_hint = codes "/tmp" }
