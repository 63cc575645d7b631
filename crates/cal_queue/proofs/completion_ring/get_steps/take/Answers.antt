use Rattle.std.proofs.Common.{◌≡◌, ◌+◌, ◌<◌, ℕ, length, ap, ◌∙◌, arith}
use Rattle.cal_queue.specs.RingWords.{slot_of}
use Rattle.cal_queue.specs.CompletionSteps.{End}
use Rattle.cal_queue.proofs.CompletionAllowed.{reader_loads_slot-allowed, reader_stores_read-allowed}
use Rattle.cal_queue.proofs.RingWordsFit.{slot_within}
use Rattle.cal_queue.proofs.completion_ring.get_steps.take.Goals as goal

pub load-value-requires : goal.load-value-requires
load-value-requires c =
    let key : ℕ = c.args.table.now.shared.key in
    let within : slot_of key c.args.read < key + 2 = slot_within key c.args.read c.requires.some_room in
    let place = c.requires.place in
    let next = c.requires.next in (
      c.requires.seated,
      omega arith,
      reader_loads_slot-allowed key _ _ _ c.requires.gets c.args.slot (place ∙ ap (λ (p : ℕ). slot_of key p) next)
          (omega arith),
    )

pub store-requires : goal.store-requires
store-requires c =
    let same : length c.load-value.new.seat.me.0.reader.got ≡ length c.args.seat.now.me.0.reader.got = ap
    (λ (m : End). length m.0.reader.got) c.load-value.ensures.2 in
    let next = c.requires.next in (
      c.load-value.ensures.0 ∙ c.requires.seated,
      omega arith,
      reader_stores_read-allowed c.args.table.now.shared.key
          _ _ _ (ap (λ (m : End). m.0.reads) c.load-value.ensures.2 ∙ c.requires.gets) c.load-value.result _
          (ap (λ (m : End). m.0.reader.seen_value) c.load-value.ensures.2) (omega arith),
    )
