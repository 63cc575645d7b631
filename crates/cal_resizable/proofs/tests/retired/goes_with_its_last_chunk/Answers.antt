-- The chunks that are out after each call, how often their segments are registered, and what the view shows.
use Rattle.std.proofs.Common.{◌≡◌, ◌+◌, ◌<◌, [], ◌∷◌, IsSomeAnd, length, refl, subst, sym, ◌∙◌, arith}
use Rattle.cal_alloc.specs.PointerOffset.{segment_of}
use Rattle.cal_resizable.specs.Chunks.{Chunk}
use Rattle.cal_resizable.proofs.StepLemmas.{still_counted}
use Rattle.cal_resizable.proofs.tests.retired.goes_with_its_last_chunk.Goals as goal

pub send-requires-clause-view_room : goal.send-requires-clause-view_room
send-requires-clause-view_room g c = λ number. omega (arith, c.in_ok-view.ensures.none_registered number)

pub give_back-requires-clause-chunks : goal.give_back-requires-clause-chunks
give_back-requires-clause-chunks g c =
    let one = c.in_ok-first.ensures.out [] (omega (arith, c.in_ok-small.ensures.size))
    (c.in_ok-view.ensures.out [] c.in_ok-memory.ensures.none_out) in
    let first : Chunk =
    record { pointer = c.in_ok-first.first; layout = c.in_ok-small.small; size = one.0 } in
    let two = c.in_ok-second.ensures.out (first ∷ []) (omega (arith, c.in_ok-large.ensures.size)) one.1 in
    let second : Chunk =
    record { pointer = c.in_ok-second.second; layout = c.in_ok-large.large; size = two.0 } in
    c.a_chunk_that_is_out_can_be_used.ensures.counted c.loan.new.reg c.loan.new.memory.slots
    (second ∷ first ∷ []) 1 first refl two.1

pub give_back-requires-clause-allocated : goal.give_back-requires-clause-allocated
give_back-requires-clause-allocated g c =
    let one = c.in_ok-first.ensures.out [] (omega (arith, c.in_ok-small.ensures.size))
    (c.in_ok-view.ensures.out [] c.in_ok-memory.ensures.none_out) in
    let first : Chunk =
    record { pointer = c.in_ok-first.first; layout = c.in_ok-small.small; size = one.0 } in
    let two = c.in_ok-second.ensures.out (first ∷ []) (omega (arith, c.in_ok-large.ensures.size)) one.1 in
    let second : Chunk =
    record { pointer = c.in_ok-second.second; layout = c.in_ok-large.large; size = two.0 } in
    c.a_chunk_that_is_out_can_be_used.ensures.allocated c.loan.new.reg c.loan.new.memory.slots
    (second ∷ first ∷ []) 1 first refl two.1

pub read-requires-clause-shown : goal.read-requires-clause-shown
read-requires-clause-shown g c =
    subst (λ bytes. IsSomeAnd bytes (λ shown. length shown ≡ 3))
    (sym (c.give_back.ensures.shown c.in_ok-first.first 3 ∙ c.in_ok-second.ensures.shown c.in_ok-first.first 3
    ∙ c.in_ok-first.ensures.shown)) refl

pub arrive-requires-clause-chunks : goal.arrive-requires-clause-chunks
arrive-requires-clause-chunks g c =
    let one = c.in_ok-first.ensures.out [] (omega (arith, c.in_ok-small.ensures.size))
    (c.in_ok-view.ensures.out [] c.in_ok-memory.ensures.none_out) in
    let first : Chunk =
    record { pointer = c.in_ok-first.first; layout = c.in_ok-small.small; size = one.0 } in
    let two = c.in_ok-second.ensures.out (first ∷ []) (omega (arith, c.in_ok-large.ensures.size)) one.1 in
    let second : Chunk =
    record { pointer = c.in_ok-second.second; layout = c.in_ok-large.large; size = two.0 } in
    c.a_chunk_that_is_out_can_be_used.ensures.counted c.give_back.new.reg c.give_back.new.memory.slots (second ∷ []) 0
    second refl (c.give_back.ensures.out 1 first (second ∷ first ∷ []) refl refl two.1)

pub arrive-requires-clause-room : goal.arrive-requires-clause-room
arrive-requires-clause-room g c =
    let number = segment_of c.in_ok-second.second in
    omega (arith, c.in_ok-first.ensures.few number, c.in_ok-view.ensures.none_registered number)

pub leave-requires-clause-registered : goal.leave-requires-clause-registered
leave-requires-clause-registered g c =
    omega (
      arith,
      c.in_ok-first.ensures.registered,
      still_counted c.send.new.view.slots c.arrive.new.view.slots (segment_of c.in_ok-second.second)
          c.arrive.ensures.counted c.arrive.ensures.elsewhere (segment_of c.in_ok-first.first),
    )

pub send-requires-clause-out : goal.send-requires-clause-out
send-requires-clause-out g c = ([], c.in_ok-view.ensures.out [] c.in_ok-memory.ensures.none_out)
