-- A chunk that may be sent on a channel, wherever there is room.
use Rattle.std.specs.Prelude.{◌≡◌, ℕ, ◌*◌, ◌<◌, true, false, Result, Ok, Err}
use Rattle.cal_alloc.specs.PointerOffset.{pointer_offset}
use Rattle.cal_connection.specs.Port.{port_at, is_in_use}
use Rattle.cal_resizable.specs.Growth.{OfSegment}
use Rattle.cal_transport.specs.declared.command.Command.TheVariants as command
use Rattle.cal_transport.specs.declared.reply.Reply.TheVariants.{Refused}
use Rattle.cal_transport.specs.declared.reply.Refusal.{Refusal}
use Rattle.cal_transport.specs.declared.transport.sender.Sample.{Sample}
use Rattle.cal_transport.specs.ChunkEntry.{IsFound}
use Rattle.cal_transport.specs.Pointed.{HasPlace}
use Rattle.cal_transport.specs.Standing.{DoesAnywhere}
use Rattle.cal_transport.specs.State.{TransportState}

-- The entry of that name is of a loaned chunk, which the connection can name and which isn't in use on the channel. The
-- pointer and the size are those of its bucket.
pub record IsSample (t : TransportState) (k name : ℕ) (sample : Sample) : Type 0 where
  pub found : IsFound t.entries name sample.found
  pub loaned : sample.found.entry.loaned ≡ true
  pub channel : k < t.settings.channels
  pub segment : sample.found.entry.segment < t.settings.segments
  pub bucket : sample.found.entry.bucket < t.settings.samples
  pub pointer : (p : HasPlace t.memory_registry t.memory sample.found.entry.segment sample.found.entry.bucket) →
      sample.pointer
      ≡ pointer_offset (sample.found.entry.bucket * p.segment.allocator.buckets.size) sample.found.entry.segment
  pub size : OfSegment t.memory_registry t.memory.slots sample.found.entry.segment
      (λ segment. sample.size ≡ segment.allocator.buckets.size)
  pub unused : is_in_use (port_at t.connection_registry t.sender.handle) k sample.pointer sample.size ≡ false

-- whichever ledger the transport stands for, a refusal answers a send there
abbrev pub AnswersSample : TransportState → ℕ → ℕ → Result Sample Refusal → Type 0
AnswersSample t channel name (Ok sample) = IsSample t channel name sample
AnswersSample t channel name (Err why) = DoesAnywhere t (command.Send channel name) (Refused why) t
