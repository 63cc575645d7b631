use Rattle.cal_connection.specs.RegistryLemmas.{Has-with_port, port_at-with_port-same, port_at-with_port-other}
use Rattle.cal_connection.proofs.laws.a_written_entry_is_seen.Goals as goal

pub returns : goal.returns
returns c = record {
  same = λ contents handle port has. port_at-with_port-same contents handle port has;
  other = λ contents handle other port apart. port_at-with_port-other contents handle port other apart;
  kept = λ contents handle other port has. Has-with_port contents handle port other has;
}
