-- What the receiver reads of a chunk.
use Rattle.std.proofs.Common.{ℕ, ◌≡◌, List, ◌++◌, length, take, drop, ap, ◌∙◌}
use Rattle.std.specs.Int.{w64, from_le_bytes}
use Rattle.cal_transport.specs.declared.command.Command.TheVariants as command
use Rattle.cal_transport.specs.declared.reply.Reply.TheVariants.{Shown}
use Rattle.cal_transport.specs.Ledger.{Ledger, chunk_named}
use Rattle.cal_transport.specs.Standing.{StandsFor, DoesAnywhere}
use Rattle.cal_transport.specs.State.{TransportState}
use Rattle.cal_transport.specs.Step.{bytes_of_chunk}
use Rattle.cal_frames.specs.Carrying.{BeginsWith, header_of, packet_of}
use Rattle.cal_frames.specs.Sides.{Reads}
use Rattle.cal_frames.proofs.Done.{done}
use Rattle.cal_frames.proofs.Header.{header_gives, packet_header, packet_frame}

read_gives : (t : TransportState) (l : Ledger) (name at long : ℕ) (bytes : List ℕ) →
    DoesAnywhere t (command.Read 0 name at long) (Shown bytes) t → StandsFor t l →
    bytes ≡ bytes_of_chunk (chunk_named l name) at long
read_gives t l name at long bytes does stands =
    let step = does 0 l stands in
    let d = done l 0 (command.Read 0 name at long) (Shown bytes) (λ why e. cc) step.0 in
    let owes = d.owes in cc

-- a read of a chunk that begins with a packet
read_of : (t : TransportState) (l : Ledger) (name at long : ℕ) (bytes packet : List ℕ) →
    DoesAnywhere t (command.Read 0 name at long) (Shown bytes) t → StandsFor t l → (b : BeginsWith l name packet) →
    bytes ≡ take long (drop at (packet ++ b.rest))
read_of t l name at long bytes packet does stands b =
    read_gives t l name at long bytes does stands
    ∙ (ap (λ o. bytes_of_chunk o at long) b.named ∙ ap (λ all. take long (drop at all)) b.bytes_are)

-- the length is read, and then as many bytes behind it
pub reads_frame : (t : TransportState) (name long : ℕ) (header bytes : List ℕ) →
    DoesAnywhere t (command.Read 0 name 0 8) (Shown header) t → long ≡ from_le_bytes w64 header →
    DoesAnywhere t (command.Read 0 name 8 long) (Shown bytes) t → Reads t name bytes
reads_frame t name long header bytes first is second = λ l frame stands b small.
    let header_is : header ≡ header_of (length frame) =
    read_of t l name 0 8 header (packet_of frame) first stands b ∙ packet_header frame b.rest in
    let long_is : long ≡ length frame =
    is ∙ (ap (λ h. from_le_bytes w64 h) header_is ∙ header_gives (length frame) small) in
    read_of t l name 8 long bytes (packet_of frame) second stands b
    ∙ (ap (λ n. take n (drop 8 (packet_of frame ++ b.rest))) long_is ∙ packet_frame frame b.rest)
