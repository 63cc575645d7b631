use Rattle.std.proofs.Common.{◌≡◌, List, Bool, ℕ, replicate, ap, ◌∙◌, rules}
use Rattle.cal_queue.specs.BitSet.{marks_of}
use Rattle.cal_queue.proofs.BitMarks.{zero-marks}
use Rattle.cal_queue.proofs.used_chunk_list.UsedChunkList.new.Goals as goal

pub returns : goal.returns
returns c =
    let zero : c.in_ok-vec.field-0.items ≡ replicate c.div_ceil.result 0 = search rules in record {
      empty =
          ap (λ (words : List ℕ). record { marks = marks_of words c.args.capacity }) zero
          ∙ ap (λ (marks : List Bool). record { marks = marks }) (zero-marks c.div_ceil.result c.args.capacity);
    }
