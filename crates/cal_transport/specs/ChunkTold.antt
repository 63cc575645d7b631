-- What a transport tells of a chunk.
use Rattle.std.specs.Prelude.{◌≡◌, ℕ, ◌*◌, Option, Some, None, if◌then◌else◌}
use Rattle.cal_transport.specs.declared.transport.access.ChunkRecord.{ChunkRecord}
use Rattle.cal_transport.specs.Ledger.{Ledger, Chunk, layout_at, chunk_named, is_live}
use Rattle.cal_transport.specs.Standing.{StandsFor}
use Rattle.cal_transport.specs.State.{TransportState}

-- where a chunk lies, and what became of it
abbrev pub record_of : Ledger → Chunk → ChunkRecord
record_of l chunk = record {
  segment = chunk.segment;
  place = chunk.bucket * (layout_at l chunk.segment).size;
  loaned = chunk.loaned;
  sent = chunk.sent;
}

-- what is told of a chunk, if there is one: nothing where it isn't live
abbrev pub record_where_live : Ledger → Option Chunk → Option ChunkRecord
record_where_live l None = None
record_where_live l (Some chunk) = if is_live l chunk then Some (record_of l chunk) else None

-- in every ledger that the transport stands for this is told of the chunk of a name
abbrev pub TellsChunk : TransportState → ℕ → Option ChunkRecord → Type 0
TellsChunk t name told = (l : Ledger) → StandsFor t l → told ≡ record_where_live l (chunk_named l name)
