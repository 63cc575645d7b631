-- What a transport's parts are seen as, with no handle and no id: the memory and the view by the numbers of segments,
-- the ports by the numbers of channels.
use Rattle.std.specs.Prelude.{ℕ, ◌-◌, ◌≡◌, ◌≢◌, Bool, false, ◌||◌, ◌==◌, nat_lt, if◌then◌else◌, List, Option, Some, None}
use Rattle.cal_alloc.specs.Pool.{Pool, with_mark}
use Rattle.cal_queue.specs.UsedChunks.{UsedChunks}
use Rattle.cal_connection.specs.Channel.{ChannelEntry}
use Rattle.cal_transport.specs.declared.settings.Settings.{Settings}
use Rattle.cal_transport.specs.declared.transport.chunk_entry.ChunkEntry.{ChunkEntry}

-- an active segment: its pool, the bytes of its payload, and how many chunks of it are out
pub record ActiveSegment : Type 0 where
  pub pool : Pool
  pub payload : List ℕ
  pub chunks : ℕ

pub record Core : Type 0 where
  pub settings : Settings
  -- the number of the memory's current segment, and its active segments
  pub current : ℕ
  pub active : ℕ → Option ActiveSegment
  -- the segment that the view opened last, and for each that it has mapped how many offsets are registered
  pub opened_last : Option ℕ
  pub mapped : ℕ → Option ℕ
  -- the connection's channels, and how many offsets the receiver has borrowed from each
  pub channel : ℕ → ChannelEntry
  pub borrowed : ℕ → ℕ
  -- an entry for each loan
  pub entries : List ChunkEntry
  -- the buckets that are lent out on each channel, and how many chunks are in transit there and in all
  pub lent : ℕ → UsedChunks
  pub transits : ℕ → ℕ
  pub in_transit : ℕ
  -- for each bucket of a segment, the place of its chunk's entry
  pub owners : ℕ → List ℕ

-- ---- buckets that are given back

-- a segment of which one bucket is free and one chunk less is out
abbrev pub without_bucket : ActiveSegment → ℕ → ActiveSegment
without_bucket segment bucket =
    record segment { pool = with_mark segment.pool bucket false; chunks = segment.chunks - 1 }

-- it stays while it is the current one or a chunk of it is out
abbrev pub if_active : Bool → ActiveSegment → Option ActiveSegment
if_active is_current segment = if is_current || nat_lt 0 segment.chunks then Some segment else None

abbrev pub given_back : Bool → ℕ → Option ActiveSegment → Option ActiveSegment
given_back is_current bucket None = None
given_back is_current bucket (Some segment) = if_active is_current (without_bucket segment bucket)

-- a bucket of a segment was given back unless it is kept; all else of the memory is as it was
pub record GivesBack (p p' : Core) (kept : Bool) (segment bucket : ℕ) : Type 0 where
  pub current : p'.current ≡ p.current
  pub others : (other : ℕ) → other ≢ segment → p'.active other ≡ p.active other
  pub here : p'.active segment
      ≡ (if kept then p.active segment else given_back (segment == p.current) bucket (p.active segment))
