-- Both ends of a connection.
use Rattle.cal_storage.specs.declared.handle.Handle.{Handle}
use Rattle.cal_storage.specs.Contents.{Contents}
use Rattle.cal_storage.specs.Holding.{Holds}
use Rattle.cal_connection.specs.Port.{PortEntry}

-- the handles of a sender and a receiver are open
abbrev pub AreOpen : Contents PortEntry → Handle → Handle → Type 0
AreOpen contents sender receiver = Holds contents 1 sender × Holds contents 1 receiver
