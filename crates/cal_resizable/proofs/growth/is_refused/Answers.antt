use Rattle.std.proofs.Common.{arith}
use Rattle.cal_resizable.proofs.FullLemmas.{refused-full}
use Rattle.cal_resizable.proofs.growth.is_refused.Goals as goal

pub returns : goal.returns
returns c =
    refused-full c.args.pool.now c.args.layout c.number_of_used_buckets.result c.number_of_buckets.result
    c.max_alignment.ensures.sound
    (omega (arith, c.if-max_alignment-align.false, c.max_alignment.ensures.value, c.align.ensures.value))
    (omega (arith, c.if-bucket_size-size.false, c.bucket_size.ensures.value, c.size.ensures.value))
    c.number_of_used_buckets.ensures.value c.number_of_buckets.ensures.value
