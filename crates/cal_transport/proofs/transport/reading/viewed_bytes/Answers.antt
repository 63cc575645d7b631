use Rattle.std.proofs.Common.{◌+◌, ◌-◌, ◌≡◌, ◌∙◌, take, drop, ap, arith}
use Rattle.std.specs.List.{slice_range}
use Rattle.cal_alloc.specs.Pool.{Pool}
use Rattle.cal_alloc.specs.PointerOffset.{offset_of, segment_of}
use Rattle.cal_shm.specs.Calls.{IsInPayload}
use Rattle.cal_shm.specs.Segment.{Segment}
use Rattle.cal_transport.proofs.Viewed.{held_active, viewed, viewed_back}
use Rattle.cal_transport.proofs.transport.reading.viewed_bytes.Goals as goal

pub bytes-requires-clause-within : goal.bytes-requires-clause-within
bytes-requires-clause-within c =
    let reg = c.args.reg.now in
    let memory = c.args.memory.now in
    let view = c.args.view.now in
    let number = segment_of c.args.pointer in
    viewed reg memory view number
    (c.an_arrival_of_what_is_out_is_not_refused.ensures.same reg memory view number c.requires.together
    (held_active reg memory view number (λ (s : Segment Pool). IsInPayload s.payload (offset_of c.args.pointer)
    c.args.count) c.requires.within) c.requires.mapped)
    (λ (s : Segment Pool). IsInPayload s.payload (offset_of c.args.pointer) c.args.count) c.requires.within

pub returns : goal.returns
returns c =
    let reg = c.args.reg.now in
    let memory = c.args.memory.now in
    let view = c.args.view.now in
    let number = segment_of c.args.pointer in
    let start = offset_of c.args.pointer in
    record {
      bytes = λ found is.
          viewed_back reg memory view number
          (c.an_arrival_of_what_is_out_is_not_refused.ensures.same reg memory view number c.requires.together
          (held_active reg memory view number (λ (s : Segment Pool). IsInPayload s.payload start c.args.count)
          c.requires.within) c.requires.mapped)
          (λ (s : Segment Pool). c.bytes.result.now ≡ slice_range s.payload start (start + c.args.count))
          c.bytes.ensures.bytes c.requires.mapped found is
          ∙ ap (λ n. take n (drop start found.payload))
          (let e : start + c.args.count - start ≡ c.args.count = omega arith in e);
    }
