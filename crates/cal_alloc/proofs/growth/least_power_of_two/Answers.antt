use Rattle.std.proofs.Common.{refl, arith}
use Rattle.cal_alloc.proofs.Powers.{least_power_of_two-is, least_power_of_two-far}
use Rattle.cal_alloc.proofs.growth.least_power_of_two.Goals as goal

pub returns-then-n-le-GREATEST_POWER_OF_TWO : goal.returns-then-n-le-GREATEST_POWER_OF_TWO
returns-then-n-le-GREATEST_POWER_OF_TWO c =
    let power = c.next_power_of_two.ensures in
    let same = least_power_of_two-is c.args.n c.next_power_of_two.result
    (power.power, power.lower_bound, power.upper_bound) in
    record { value = rw same (c.next_power_of_two.type_inv, refl) }

pub returns-else-n-le-GREATEST_POWER_OF_TWO : goal.returns-else-n-le-GREATEST_POWER_OF_TWO
returns-else-n-le-GREATEST_POWER_OF_TWO c =
    record { value = λ small. omega (arith, small, least_power_of_two-far c.args.n (omega arith)) }
