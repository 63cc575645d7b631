use Rattle.cal_resizable.proofs.AloneLemmas.{new-finished, new-later}
use Rattle.cal_resizable.proofs.together_laws.a_new_memory_stands_alone.Goals as goal

pub returns : goal.returns
returns g c = record {
  finished = λ plan new memory created. new-finished g.A.ShmAllocator plan new memory created;
  later = λ plan new memory rule created. new-later g.A.ShmAllocator plan new memory created rule;
}
