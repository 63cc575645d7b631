use Rattle.cal_resizable.proofs.OutLemmas.{AddsSized-given, AreOut-grown, RemovesChunk-returned}
use Rattle.cal_resizable.proofs.chunk_laws.a_chunk_stays_out.Goals as goal

pub returns : goal.returns
returns g c = let R = g.A.ShmAllocator in record {
  given = λ old new before after number layout pointer gives.
      AddsSized-given R g.met.A.ShmAllocator.allocation old new before after number layout pointer gives;
  grown = λ old new before after made chunks grows.
      AreOut-grown R.properties R.IsByteUsed R.IsAllocated old new before after made grows chunks;
  returned = λ old new before after pointer gone.
      RemovesChunk-returned R.properties R.IsByteUsed R.IsAllocated R.Deallocates g.met.A.ShmAllocator.deallocation old
      new before after pointer gone;
}
