use Rattle.cal_resizable.proofs.WritingLemmas.{out_counted, out_allocated, out_within}
use Rattle.cal_resizable.proofs.chunk_laws.a_chunk_that_is_out_can_be_used.Goals as goal

pub returns : goal.returns
returns g c = record {
  within = λ contents slots chunks index chunk count at out fits.
      out_within g.A.ShmAllocator contents slots chunks index chunk at out count fits;
  counted = λ contents slots chunks index chunk at out.
      out_counted g.A.ShmAllocator contents slots chunks index chunk at out;
  allocated = λ contents slots chunks index chunk at out.
      out_allocated g.A.ShmAllocator contents slots chunks index chunk at out;
}
