use Rattle.std.proofs.Common.{ap}
use Rattle.cal_resizable.specs.Memory.{MemoryState}
use Rattle.cal_resizable.proofs.StayingTogetherLemmas.{numbers_grow}
use Rattle.cal_resizable.proofs.memory_laws.numbers_only_grow.Goals as goal

pub returns : goal.returns
returns g c = record {
  allocated = λ old new before after layout pointer allocates.
      numbers_grow g.A.ShmAllocator old new before after layout pointer allocates;
  returned = λ old new before after pointer takes. ap (λ (m : MemoryState). m.current) takes.memory;
}
