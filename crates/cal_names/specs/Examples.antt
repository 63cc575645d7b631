-- The parts that default configurations hold, for the tests.
use Rattle.std.specs.Prelude.{codes}
use Rattle.cal_names.specs.declared.path_parts.PathParts.{PathParts}

-- of a storage
abbrev pub dyn_parts : PathParts
dyn_parts = record { prefix = codes "iox2_"; suffix = codes ".dyn"; path_hint = codes "/tmp" }

-- of a connection
abbrev pub receiver_parts : PathParts
receiver_parts = record { prefix = codes "iox2_"; suffix = codes ".rx"; path_hint = codes "/tmp" }
