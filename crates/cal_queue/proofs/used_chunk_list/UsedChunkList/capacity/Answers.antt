use Rattle.cal_queue.proofs.BitMarks.{shown-capacity}
use Rattle.cal_queue.proofs.used_chunk_list.UsedChunkList.capacity.Goals as goal

pub returns : goal.returns
returns c =
    record {
      capacity = shown-capacity c.self.inside.words.items
          _ _ (record { sound = c.self.invariant; is = c.self.view_is });
    }
