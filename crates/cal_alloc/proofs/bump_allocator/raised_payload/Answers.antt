use Rattle.std.proofs.Common.{◌≡◌, ◌+◌, ◌<◌, ◌^◌, None, arith, rules}
use Rattle.cal_alloc.proofs.Powers.{least_power_of_two-ge}
use Rattle.cal_alloc.proofs.bump_allocator.raised_payload.Goals as goal

pub returns-in_err-checked_add-in-PowerOfTwo : goal.returns-in_err-checked_add-in-PowerOfTwo
returns-in_err-checked_add-in-PowerOfTwo c =
    let none : c.from_residual.result ≡ None = search rules in
    let far : c.args.payload_size + c.args.size < 2 ^ 64 → ⊥ = search rules in
    record {
      value = rw (none, c.in-PowerOfTwo.is)
          (λ small. far (omega (arith, small, least_power_of_two-ge (c.args.payload_size + c.args.size))));
    }
