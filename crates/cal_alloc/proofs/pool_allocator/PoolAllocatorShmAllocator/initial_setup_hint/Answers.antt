use Rattle.std.proofs.Common.{◌≡◌, ◌*◌, ◌<◌, ◌^◌, arith, rules}
use Rattle.std.specs.Int.{next_multiple_of}
use Rattle.cal_alloc.proofs.Padding.{positive_power, next_multiple_of-twice}
use Rattle.cal_alloc.proofs.PoolServing.{setup_hint_fits}
use Rattle.cal_alloc.proofs.pool_allocator.PoolAllocatorShmAllocator.initial_setup_hint.Goals as goal

pub returns-clause-fits : goal.returns-clause-fits
returns-clause-fits c =
    let layout = c.args.max_chunk_layout in
    let size : c.in_ok-size.size ≡ next_multiple_of layout.size layout.alignment = search rules in
    let payload : c.in_ok-payload_size.payload_size ≡ c.in_ok-size.size * c.args.max_number_of_chunks = search rules in
    let bucket : c.unwrap-bucket_layout.result ≡
    record { size = c.in_ok-size.size; alignment = c.align-alignment.result } = search rules in
    let small : c.in_ok-size.size < 2 ^ 64 = search rules in
    let alignment = c.align-alignment.ensures.value in
    let not_zero = positive_power c.align-alignment.result c.align-alignment.ensures.power in
    let padded : next_multiple_of c.in_ok-size.size c.align-alignment.result ≡ c.in_ok-size.size =
    rw (size, ← alignment) (next_multiple_of-twice layout.size c.align-alignment.result not_zero) in
    rw bucket (setup_hint_fits c.in_ok-size.size c.align-alignment.result c.args.max_number_of_chunks
    c.in_ok-payload_size.payload_size c.align-alignment.ensures.power c.align-alignment.type_inv small padded
    payload (omega arith) (omega arith))
