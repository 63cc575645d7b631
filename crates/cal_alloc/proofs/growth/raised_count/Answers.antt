use Rattle.std.proofs.Common.{◌+◌, sym}
use Rattle.cal_alloc.proofs.Powers.{least_power_of_two-is}
use Rattle.cal_alloc.proofs.growth.raised_count.Goals as goal

pub returns-in-PowerOfTwo : goal.returns-in-PowerOfTwo
returns-in-PowerOfTwo c =
    let power = c.next_power_of_two.ensures in
    record {
      value = rw c.in-PowerOfTwo.is
          (sym (least_power_of_two-is (c.args.count + 1) c.next_power_of_two.result
          (power.power, power.lower_bound, power.upper_bound)));
    }
