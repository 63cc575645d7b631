-- A pool's rules are those that new memory asks for.
use Rattle.std.proofs.Common.{refl}
use Rattle.cal_transport.proofs.NewMemory.{ArePools}
use Rattle.cal_transport.proofs.PoolRules.{pool_rules}

pub are_pools : ArePools pool_rules
are_pools = record {
  setup = λ layout count. refl;
  fits = λ size config. refl;
  made = λ alignment size config. refl;
  aligned = λ pool. refl;
  ready = λ pool. refl;
}
