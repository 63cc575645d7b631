use Rattle.cal_resizable.proofs.OutLemmas.{AreOut-elsewhere}
use Rattle.cal_resizable.proofs.WritingLemmas.{AreOut-written}
use Rattle.cal_resizable.proofs.chunk_laws.a_chunk_stays_out_elsewhere.Goals as goal

pub returns : goal.returns
returns g c = record {
  written = λ contents slots id offset written chunks out.
      AreOut-written g.A.ShmAllocator contents slots id offset written chunks out;
  elsewhere = λ old new slots chunks same out.
      AreOut-elsewhere g.A.ShmAllocator.properties g.A.ShmAllocator.IsByteUsed g.A.ShmAllocator.IsAllocated old new
      slots
      chunks same out;
}
