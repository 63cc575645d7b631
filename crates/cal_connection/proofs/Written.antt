-- What holds of a registry in which an entry was written.
use Rattle.std.specs.Prelude.{◌≡◌}
use Rattle.cal_storage.specs.declared.handle.Handle.{Handle}
use Rattle.cal_storage.specs.Contents.{Contents}
use Rattle.cal_storage.specs.Holding.{KeepsHandles}
use Rattle.cal_connection.specs.Port.{PortEntry, with_port}
use Rattle.cal_connection.specs.RegistryLemmas.{KeepsHandles-with_port}

-- each open handle has what it had
pub keeps_handles : (old new : Contents PortEntry) (handle : Handle) (port : PortEntry) →
    new ≡ with_port old handle port → KeepsHandles old new
keeps_handles old new handle port is = KeepsHandles-with_port old new handle port is
