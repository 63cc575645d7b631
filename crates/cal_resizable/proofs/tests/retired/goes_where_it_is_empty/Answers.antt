-- The chunks that are out after each call, how often their segments are registered, and what the view shows.
use Rattle.std.proofs.Common.{◌≡◌, ◌+◌, ◌<◌, [], ◌∷◌, IsSomeAnd, length, refl, subst, sym, ◌∙◌, arith}
use Rattle.cal_alloc.specs.PointerOffset.{segment_of}
use Rattle.cal_resizable.specs.Chunks.{Chunk}
use Rattle.cal_resizable.proofs.StepLemmas.{fewer_counted}
use Rattle.cal_resizable.proofs.tests.retired.goes_where_it_is_empty.Goals as goal

pub send-requires-clause-view_room : goal.send-requires-clause-view_room
send-requires-clause-view_room g c = λ number. omega (arith, c.in_ok-view.ensures.none_registered number)

pub give_back-requires-clause-chunks : goal.give_back-requires-clause-chunks
give_back-requires-clause-chunks g c =
    let one = c.in_ok-first.ensures.out [] (omega (arith, c.in_ok-small.ensures.size))
    (c.in_ok-view.ensures.out [] c.in_ok-memory.ensures.none_out) in
    let first : Chunk =
    record { pointer = c.in_ok-first.first; layout = c.in_ok-small.small; size = one.0 } in
    c.a_chunk_that_is_out_can_be_used.ensures.counted c.send.new.reg c.send.new.memory.slots (first ∷ []) 0 first refl
    one.1

pub give_back-requires-clause-allocated : goal.give_back-requires-clause-allocated
give_back-requires-clause-allocated g c =
    let one = c.in_ok-first.ensures.out [] (omega (arith, c.in_ok-small.ensures.size))
    (c.in_ok-view.ensures.out [] c.in_ok-memory.ensures.none_out) in
    let first : Chunk =
    record { pointer = c.in_ok-first.first; layout = c.in_ok-small.small; size = one.0 } in
    c.a_chunk_that_is_out_can_be_used.ensures.allocated c.send.new.reg c.send.new.memory.slots (first ∷ []) 0 first refl
    one.1

pub loan-requires-clause-room : goal.loan-requires-clause-room
loan-requires-clause-room g c =
    let one = c.in_ok-first.ensures.out [] (omega (arith, c.in_ok-small.ensures.size))
    (c.in_ok-view.ensures.out [] c.in_ok-memory.ensures.none_out) in
    let first : Chunk =
    record { pointer = c.in_ok-first.first; layout = c.in_ok-small.small; size = one.0 } in
    let none = c.give_back.ensures.out 0 first (first ∷ []) refl refl one.1 in
    omega (arith, none.counted c.give_back.new.memory.current)

pub read-requires-clause-shown : goal.read-requires-clause-shown
read-requires-clause-shown g c =
    subst (λ bytes. IsSomeAnd bytes (λ shown. length shown ≡ 3))
    (sym (c.in_ok-second.ensures.shown c.in_ok-first.first 3 ∙ c.give_back.ensures.shown c.in_ok-first.first 3
    ∙ c.in_ok-first.ensures.shown)) refl

pub arrive-requires-clause-chunks : goal.arrive-requires-clause-chunks
arrive-requires-clause-chunks g c =
    let one = c.in_ok-first.ensures.out [] (omega (arith, c.in_ok-small.ensures.size))
    (c.in_ok-view.ensures.out [] c.in_ok-memory.ensures.none_out) in
    let first : Chunk =
    record { pointer = c.in_ok-first.first; layout = c.in_ok-small.small; size = one.0 } in
    let none = c.give_back.ensures.out 0 first (first ∷ []) refl refl one.1 in
    let two = c.in_ok-second.ensures.out [] (omega (arith, c.in_ok-large.ensures.size)) none in
    let second : Chunk =
    record { pointer = c.in_ok-second.second; layout = c.in_ok-large.large; size = two.0 } in
    c.a_chunk_that_is_out_can_be_used.ensures.counted c.loan.new.reg c.loan.new.memory.slots (second ∷ []) 0 second refl
    two.1

pub arrive-requires-clause-room : goal.arrive-requires-clause-room
arrive-requires-clause-room g c =
    let number = segment_of c.in_ok-second.second in
    omega (
      arith,
      c.in_ok-first.ensures.few number,
      c.in_ok-view.ensures.none_registered number,
      fewer_counted c.send.new.view.slots c.leave.new.view.slots (segment_of c.in_ok-first.first)
          c.leave.ensures.counted c.leave.ensures.elsewhere number,
    )

pub send-requires-clause-out : goal.send-requires-clause-out
send-requires-clause-out g c = ([], c.in_ok-view.ensures.out [] c.in_ok-memory.ensures.none_out)
