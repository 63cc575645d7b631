use Rattle.std.proofs.Common.{◌≤◌, ◌+◌, vec_len, take, arith, rules}
use Rattle.std.proofs.lemmas.List.{length-append, length-take}
use Rattle.cal_program.proofs.StreamLemmas.{Takes-then}
use Rattle.cal_program.proofs.read.read_blocks.Goals as goal

pub returns-in_default-extend_from_slice : goal.returns-in_default-extend_from_slice
returns-in_default-extend_from_slice g c =
    let piece = take c.in-Ok.count c.take_front.new.block in
    let within : vec_len c.loop-bytes.bytes + c.in-Ok.count ≤ 16777217 = search rules in
    record {
      bytes = _;
      taken = Takes-then _ _ _ _ piece c.loop-bytes.invariant.taken c.in-Ok.ensures.taken;
      within = omega (
        arith,
        length-append c.loop-bytes.bytes.items piece,
        length-take c.in-Ok.count c.take_front.new.block,
        within,
      );
    }
