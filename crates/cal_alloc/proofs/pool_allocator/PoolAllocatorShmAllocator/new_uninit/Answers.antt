use Rattle.std.proofs.Common.{◌≡◌, IsTrue, rules}
use Rattle.std.specs.Int.{is_power_of_two}
use Rattle.cal_alloc.specs.Growth.{bucket_size_of}
use Rattle.cal_alloc.proofs.PoolFacts.{kept_new}
use Rattle.cal_alloc.proofs.pool_allocator.PoolAllocatorShmAllocator.new_uninit.Goals as goal

pub invariant_of-result : goal.invariant_of-result
invariant_of-result c =
    let layout = c.args.config.now.bucket_layout in
    let size : c.unwrap-bucket_size.result ≡ bucket_size_of layout.size layout.alignment = search rules in
    let power : IsTrue (is_power_of_two layout.alignment) = search rules in
    kept_new c.args.max_supported_alignment_by_memory c.args.memory_size layout c.requires.fits power _ _ _ size
    c.align.ensures.value c.new.ensures.free
