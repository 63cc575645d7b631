use Rattle.std.proofs.Common.{◌≡◌, ◌+◌, ◌<◌, ℕ, length, ap, ◌∙◌, arith}
use Rattle.cal_queue.specs.RingWords.{slot_of}
use Rattle.cal_queue.specs.CompletionSteps.{End}
use Rattle.cal_queue.proofs.CompletionAllowed.{writer_stores_slot-allowed, writer_stores_write-allowed}
use Rattle.cal_queue.proofs.RingWordsFit.{slot_within}
use Rattle.cal_queue.proofs.completion_ring.put_steps.append.Goals as goal

pub store-requires : goal.store-requires
store-requires c =
    let key : ℕ = c.args.table.now.shared.key in
    let within : slot_of key c.args.written < key + 2 = slot_within key c.args.written c.requires.some_room in
    let place = c.requires.place in
    let next = c.requires.next in (
      c.requires.seated,
      omega arith,
      writer_stores_slot-allowed key _ _ _ c.requires.puts c.args.value c.args.slot c.requires.idle
          (place ∙ ap (λ (p : ℕ). slot_of key p) next) (omega arith) (omega arith),
    )

pub store-requires-2 : goal.store-requires-2
store-requires-2 c =
    let same : length c.store.new.seat.me.0.writer.put ≡ length c.args.seat.now.me.0.writer.put = ap
    (λ (m : End). length m.0.writer.put) c.store.ensures.2 in
    let next = c.requires.next in (
      c.store.ensures.0 ∙ c.requires.seated,
      omega arith,
      writer_stores_write-allowed c.args.table.now.shared.key
          _ _ _ (ap (λ (m : End). m.0.writes) c.store.ensures.2 ∙ c.requires.puts) c.args.value _
          (ap (λ (m : End). m.0.writer.to_put) c.store.ensures.2) (omega arith),
    )
