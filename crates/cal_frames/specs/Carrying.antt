-- Frames in the chunks of a ledger: each frame has a chunk of its own, which is named by the frame's place.
use Rattle.std.specs.Prelude.{ℕ, ◌^◌, ◌<◌, ◌≤◌, ◌≡◌, List, ◌++◌, length, Some, slice_get}
use Rattle.std.specs.Int.{w64, to_le_bytes}
use Rattle.cal_transport.specs.Ledger.{Ledger, Chunk, chunk_named, history_on, numbers_below}
use Rattle.cal_transport.specs.Standing.{StandsFor}
use Rattle.cal_transport.specs.State.{TransportState}

-- the eight bytes of a frame's length, the lowest first
unfoldable pub header_of : ℕ → List ℕ
header_of length = to_le_bytes w64 length

-- what a frame's chunk begins with: the frame's length, and the frame
abbrev pub packet_of : List ℕ → List ℕ
packet_of frame = header_of (length frame) ++ frame

-- the chunk of that name begins with these bytes
pub record BeginsWith (l : Ledger) (name : ℕ) (bytes : List ℕ) : Type 0 where
  pub chunk : Chunk
  pub named : chunk_named l name ≡ Some chunk
  pub rest : List ℕ
  pub bytes_are : chunk.bytes ≡ bytes ++ rest

-- each chunk has a name below this one
abbrev pub AreNamedBelow : Ledger → ℕ → Type 0
AreNamedBelow l name = (i : ℕ) (chunk : Chunk) → slice_get l.chunks i ≡ Some chunk → chunk.name < name

-- each frame's chunk has the frame in it
pub record HasFrames (l : Ledger) (frames : List (List ℕ)) : Type 0 where
  pub packets : (i : ℕ) (frame : List ℕ) → slice_get frames i ≡ Some frame → BeginsWith l i (packet_of frame)
  pub sizes : (i : ℕ) (frame : List ℕ) → slice_get frames i ≡ Some frame → length frame < 2 ^ 64

-- so many chunks were sent on channel 0, in the order of their names, and so many of them have left its queue
pub record HasQueue (l : Ledger) (sent left : ℕ) : Type 0 where
  pub channel : 0 < length l.histories
  pub sent_are : (history_on l 0).sent ≡ numbers_below sent
  pub left_are : length (history_on l 0).departures ≡ left
  pub few : left ≤ sent

-- these frames were handed over to a transport, in this order, and so many of them have left the queue
pub record Carries (t : TransportState) (frames : List (List ℕ)) (left : ℕ) : Type 0 where
  pub ledger : Ledger
  pub stands : StandsFor t ledger
  pub named : AreNamedBelow ledger (length frames)
  pub has : HasFrames ledger frames
  pub queue : HasQueue ledger (length frames) left
