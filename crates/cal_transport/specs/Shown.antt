-- When a transport's parts show a ledger.
use Rattle.std.specs.Prelude.{ℕ, ◌+◌, ◌*◌, ◌<◌, ◌≤◌, ◌≡◌, Bool, true, false, not, ◌&&◌, ◌||◌, ◌==◌, nat_lt, length, map, take, drop, List, Option, Some, None, slice_get}
use Rattle.cal_alloc.specs.Pool.{is_used}
use Rattle.cal_alloc.specs.PointerOffset.{pointer_offset}
use Rattle.cal_queue.specs.UsedChunks.{contains, capacity_of}
use Rattle.cal_connection.specs.declared.settings.ConnectionSettings.{ConnectionSettings}
use Rattle.cal_connection.specs.Channel as channel
use Rattle.cal_transport.specs.declared.settings.Settings.{Settings}
use Rattle.cal_transport.specs.declared.transport.chunk_entry.ChunkEntry.{ChunkEntry}
use Rattle.cal_transport.specs.Settings.{payload}
use Rattle.cal_transport.specs.Ledger.{Ledger, Chunk, ChannelHistory, layout_at, current, chunk_named, is_live, is_free, is_unused, is_mapped, is_in_transit, is_borrowed, borrow_count, queued_names, completed_names}
use Rattle.cal_transport.specs.Weights.{transits, holds, live_in, borrowed_in, transits_on, transits_in}
use Rattle.cal_transport.specs.Core.{Core, ActiveSegment}

-- ---- the memory

-- the memory has the segment: it is the current one, or has a live chunk
abbrev pub is_active : Ledger → ℕ → Bool
is_active l segment = nat_lt segment (length l.segments) && (segment == current l || not (is_unused l segment))

-- an active segment has the ledger's buckets; those are used that aren't free, and each live chunk is out
pub record ShowsSegment (l : Ledger) (segment : ℕ) (shown : ActiveSegment) : Type 0 where
  pub layout : shown.pool.buckets ≡ layout_at l segment
  pub used : (bucket : ℕ) → is_used shown.pool bucket ≡ not (is_free l segment bucket)
  pub marks : length shown.pool.used ≡ (layout_at l segment).count
  pub chunks : shown.chunks ≡ live_in l segment
  pub payload : payload (layout_at l segment) ≤ length shown.payload

abbrev pub ShowsActive : Ledger → ℕ → Option ActiveSegment → Type 0
ShowsActive l segment None = is_active l segment ≡ false
ShowsActive l segment (Some shown) = (is_active l segment ≡ true) × ShowsSegment l segment shown

-- that many bytes, from a place on
abbrev pub bytes_at : List ℕ → ℕ → ℕ → List ℕ
bytes_at payload place size = take size (drop place payload)

-- the bytes of a chunk are those of its bucket
abbrev pub ShowsBytes : Ledger → Chunk → ActiveSegment → Type 0
ShowsBytes l chunk shown =
    bytes_at shown.payload (chunk.bucket * (layout_at l chunk.segment).size) (layout_at l chunk.segment).size
    ≡ chunk.bytes

-- ---- the view

abbrev pub ShowsMapped : Ledger → ℕ → Option ℕ → Type 0
ShowsMapped l segment None = is_mapped l segment ≡ false
ShowsMapped l segment (Some count) = (is_mapped l segment ≡ true) × (count ≡ borrowed_in l segment)

-- ---- the ports

abbrev pub connection_settings : Settings → ConnectionSettings
connection_settings s = record {
  buffer_size = s.buffer;
  enable_safe_overflow = s.overflow;
  max_borrowed_samples = s.borrow;
  number_of_samples = s.samples;
  number_of_segments = s.segments;
  number_of_channels = s.channels;
}

-- the number by which the queues know a chunk
abbrev pub pointer_to : Ledger → Chunk → ℕ
pointer_to l chunk = pointer_offset (chunk.bucket * (layout_at l chunk.segment).size) chunk.segment

abbrev pub pointer_of : Ledger → Option Chunk → ℕ
pointer_of l None = 0
pointer_of l (Some chunk) = pointer_to l chunk

abbrev pub pointer_named : Ledger → ℕ → ℕ
pointer_named l name = pointer_of l (chunk_named l name)

-- a channel has the queues of its history, and those buckets are in use whose chunk is in transit there
pub record ShowsChannel (p : Core) (l : Ledger) (k : ℕ) (history : ChannelHistory) : Type 0 where
  pub shape : channel.shape (p.channel k) ≡ channel.shape_of (connection_settings l.settings)
  pub queued : (p.channel k).submission.values ≡ map (pointer_named l) (queued_names history)
  pub completed : (p.channel k).completion.values ≡ map (pointer_named l) (completed_names history)
  pub borrowed : p.borrowed k ≡ borrow_count history
  pub used : (segment bucket : ℕ) → channel.is_used (p.channel k).segments segment bucket
      ≡ holds (λ chunk. is_in_transit history chunk.name) l.chunks segment bucket
  pub sizes : (i : ℕ) (chunk : Chunk) → slice_get l.chunks i ≡ Some chunk →
      is_in_transit history chunk.name ≡ true →
      (channel.segment_at (p.channel k).segments chunk.segment).sample_size ≡ (layout_at l chunk.segment).size

-- what the transport keeps beside the ports of a channel: which buckets are lent out there, and how many chunks are in
-- transit
pub record TracksChannel (p : Core) (l : Ledger) (k : ℕ) (history : ChannelHistory) : Type 0 where
  pub room : capacity_of (p.lent k) ≡ l.settings.segments * l.settings.samples
  pub lent : (segment bucket : ℕ) → segment < l.settings.segments → bucket < l.settings.samples →
      contains (p.lent k) (segment * l.settings.samples + bucket)
      ≡ holds (λ chunk. is_borrowed history chunk.name) l.chunks segment bucket
  pub transits : p.transits k ≡ transits_on history l.chunks

-- ---- the chunks

abbrev pub entry_of : List ChannelHistory → Chunk → ChunkEntry
entry_of histories chunk = record {
  name = chunk.name;
  segment = chunk.segment;
  bucket = chunk.bucket;
  loaned = chunk.loaned;
  sent = chunk.sent;
  transits = transits histories chunk.name;
}

-- ---- all of it

-- the parts show the ledger
pub record Shows (p : Core) (l : Ledger) : Type 0 where
  pub settings : p.settings ≡ l.settings
  pub current : p.current ≡ current l
  pub active : (segment : ℕ) → ShowsActive l segment (p.active segment)
  pub bytes : (i : ℕ) (chunk : Chunk) (shown : ActiveSegment) → slice_get l.chunks i ≡ Some chunk →
      is_live l chunk ≡ true → p.active chunk.segment ≡ Some shown → ShowsBytes l chunk shown
  pub opened_last : p.opened_last ≡ l.opened_last
  pub mapped : (segment : ℕ) → ShowsMapped l segment (p.mapped segment)
  pub channels : (k : ℕ) (history : ChannelHistory) → slice_get l.histories k ≡ Some history →
      ShowsChannel p l k history
  pub entries : p.entries ≡ map (entry_of l.histories) l.chunks

-- the tables that the transport keeps lead to the chunks of the ledger
pub record Tracks (p : Core) (l : Ledger) : Type 0 where
  pub channels : (k : ℕ) (history : ChannelHistory) → slice_get l.histories k ≡ Some history →
      TracksChannel p l k history
  pub owners : (i : ℕ) (chunk : Chunk) → slice_get l.chunks i ≡ Some chunk → is_live l chunk ≡ true →
      slice_get (p.owners chunk.segment) chunk.bucket ≡ Some i
  pub table : length (p.owners (current l)) ≡ (layout_at l (current l)).count
  pub in_transit : p.in_transit ≡ transits_in l
