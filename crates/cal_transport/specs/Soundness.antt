-- What every ledger that a run reaches has: the ledger is sound.
use Rattle.std.specs.Prelude.{ℕ, ◌%◌, ◌<◌, ◌≤◌, ◌≡◌, true, length, take, List, [], ◌∷◌, Some, ◌+◌, ◌-◌}
use Rattle.std.specs.Int.{is_power_of_two}
use Rattle.std.specs.List.{slice_get}
use Rattle.cal_alloc.specs.Growth.{SegmentLayout}
use Rattle.cal_alloc.specs.Limits.{max_memory_size, bucket_limit, max_memory_alignment}
use Rattle.cal_transport.specs.declared.settings.Settings.{Settings}
use Rattle.cal_transport.specs.Settings.{payload, completion_size}
use Rattle.cal_transport.specs.Ledger.{Ledger, Chunk, ChannelHistory, Departure, ByReceive, ByOverflow, queued_names, completed_names, borrow_count, layout_at, is_live, received_names, occurrences}

-- ---- segments and chunks

-- a segment's memory can have these buckets
pub record HasSizes (buckets : SegmentLayout) : Type 0 where
  pub power : is_power_of_two buckets.alignment ≡ true
  pub supported : buckets.alignment ≤ max_memory_alignment
  pub padded : buckets.size % buckets.alignment ≡ 0
  pub not_empty : 1 ≤ buckets.size
  pub payload : payload buckets ≤ max_memory_size
  pub count : buckets.count < bucket_limit

-- a chunk lies in one of the segments, within it, and has as many bytes as its bucket
pub record LiesWithin (l : Ledger) (chunk : Chunk) : Type 0 where
  pub segment : chunk.segment < length l.segments
  pub bucket : chunk.bucket < (layout_at l chunk.segment).count
  pub bytes : length chunk.bytes ≡ (layout_at l chunk.segment).size

-- two chunks are in the same bucket of the same segment
pub record ShareBucket (a b : Chunk) : Type 0 where
  pub segment : a.segment ≡ b.segment
  pub bucket : a.bucket ≡ b.bucket

-- chunks are named in the order of their loans, by places before this one
pub record AreNamed (chunks : List Chunk) (place : ℕ) : Type 0 where
  pub rising : (i j : ℕ) (a b : Chunk) → slice_get chunks i ≡ Some a → slice_get chunks j ≡ Some b → i < j →
      a.name < b.name
  pub before : (i : ℕ) (a : Chunk) → slice_get chunks i ≡ Some a → a.name < place

-- ---- channels

-- how often a name is queued, borrowed or completed
abbrev pub weight : ChannelHistory → ℕ → ℕ
weight c name =
    occurrences name (queued_names c) + (occurrences name (received_names c.departures) - occurrences name c.released) +
    occurrences name (completed_names c)

-- each chunk is on its way once at most, and nothing comes back that didn't go
pub record IsOrderly (c : ChannelHistory) : Type 0 where
  pub left_sent : length c.departures ≤ length c.sent
  pub released_received : length c.released ≤ length (received_names c.departures)
  pub reclaimed_released : length c.reclaimed ≤ length c.released
  pub named : (name : ℕ) → occurrences name c.released ≤ occurrences name (received_names c.departures)
  pub once : (name : ℕ) → weight c name ≤ 1

-- the names that left a queue, in order
abbrev pub departed_names : List Departure → List ℕ
departed_names [] = []
departed_names (ByReceive name ∷ departures) = name ∷ departed_names departures
departed_names (ByOverflow name ∷ departures) = name ∷ departed_names departures

-- what left the queue is, in order, a front of what was sent, and what was reclaimed one of what was released
pub record IsInOrder (c : ChannelHistory) : Type 0 where
  pub departures : departed_names c.departures ≡ take (length c.departures) c.sent
  pub reclaims : c.reclaimed ≡ take (length c.reclaimed) c.released

-- as many chunks are queued, borrowed and completed as may be
pub record IsWithinLimits (s : Settings) (c : ChannelHistory) : Type 0 where
  pub queued : length (queued_names c) ≤ s.buffer
  pub borrowed : borrow_count c ≤ s.borrow
  pub completed : length (completed_names c) ≤ completion_size s

pub record IsSoundHistory (s : Settings) (c : ChannelHistory) : Type 0 where
  pub orderly : IsOrderly c
  pub in_order : IsInOrder c
  pub limits : IsWithinLimits s c

-- there is a chunk of that name that was sent, and the connection can name its bucket
pub record IsSentChunk (l : Ledger) (name : ℕ) : Type 0 where
  pub index : ℕ
  pub chunk : Chunk
  pub stands : slice_get l.chunks index ≡ Some chunk
  pub same_name : chunk.name ≡ name
  pub sent : chunk.sent ≡ true
  pub segment : chunk.segment < l.settings.segments
  pub bucket : chunk.bucket < l.settings.samples

-- ---- the ledger

-- the settings have room for a chunk on a channel
pub record HasRoom (s : Settings) : Type 0 where
  pub buffer : 1 ≤ s.buffer
  pub borrow : 1 ≤ s.borrow
  pub samples : 1 ≤ s.samples
  pub segments : 1 ≤ s.segments
  pub channels : 1 ≤ s.channels

pub record HasSoundSegments (l : Ledger) : Type 0 where
  pub some : 1 ≤ length l.segments
  pub few : length l.segments ≤ 256
  pub sizes : (i : ℕ) (buckets : SegmentLayout) → slice_get l.segments i ≡ Some buckets → HasSizes buckets

-- a place of a command, before which every chunk was loaned
pub record IsSoundLedger (l : Ledger) (place : ℕ) : Type 0 where
  pub room : HasRoom l.settings
  pub segments : HasSoundSegments l
  pub names : AreNamed l.chunks place
  pub within : (i : ℕ) (a : Chunk) → slice_get l.chunks i ≡ Some a → LiesWithin l a
  pub apart : (i j : ℕ) (a b : Chunk) → slice_get l.chunks i ≡ Some a → slice_get l.chunks j ≡ Some b →
      is_live l a ≡ true → is_live l b ≡ true → ShareBucket a b → i ≡ j
  pub channels : length l.histories ≡ l.settings.channels
  pub histories : (k : ℕ) (c : ChannelHistory) → slice_get l.histories k ≡ Some c → IsSoundHistory l.settings c
  pub known : (k : ℕ) (c : ChannelHistory) (name : ℕ) → slice_get l.histories k ≡ Some c → 0 < weight c name →
      IsSentChunk l name
  -- the segment that the view opened last is one of the memory's
  pub opened : (segment : ℕ) → l.opened_last ≡ Some segment → segment < length l.segments
