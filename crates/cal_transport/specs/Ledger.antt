-- The chunk ledger: what was ever loaned, sent, received, given back and reclaimed, and what follows from it.
use Rattle.std.specs.Prelude.{ℕ, zero, suc, ◌+◌, ◌-◌, Bool, not, ◌&&◌, ◌||◌, ◌==◌, nat_lt, if◌then◌else◌, List, [], ◌∷◌, ◌++◌, length, drop, filter, find, replicate, slice_index_or, Option, Some, None, option_to_list}
use Rattle.std.specs.List.{list_any}
use Rattle.cal_alloc.specs.Growth.{SegmentLayout}
use Rattle.cal_transport.specs.declared.settings.Settings.{Settings}
use Rattle.cal_transport.specs.Settings.{clamped_settings, first_layout}

-- a chunk that was loaned, in a bucket of a segment
pub record Chunk : Type 0 where
  pub name : ℕ
  pub segment : ℕ
  pub bucket : ℕ
  pub bytes : List ℕ
  pub loaned : Bool
  pub sent : Bool

-- how a chunk left a queue
pub data Departure : Type 0 where
  ByReceive : ℕ → Departure
  ByOverflow : ℕ → Departure

-- a channel's history: four lists of chunk names that only grow
pub record ChannelHistory : Type 0 where
  pub sent : List ℕ
  pub departures : List Departure
  pub released : List ℕ
  pub reclaimed : List ℕ

-- all that happened: the segments ever made and the chunks ever loaned, in order, each channel's history,
-- and the segment that the receiver's view opened last
pub record Ledger : Type 0 where
  pub settings : Settings
  pub segments : List SegmentLayout
  pub chunks : List Chunk
  pub histories : List ChannelHistory
  pub opened_last : Option ℕ

abbrev pub new_history : ChannelHistory
new_history = record { sent = []; departures = []; released = []; reclaimed = [] }

-- a new transport's ledger
abbrev pub first_ledger : Settings → Ledger
first_ledger s = record {
  settings = clamped_settings s;
  segments = first_layout s ∷ [];
  chunks = [];
  histories = replicate (clamped_settings s).channels new_history;
  opened_last = None;
}

-- ---- a channel

-- the names that the receiver took, in order
abbrev pub received_names : List Departure → List ℕ
received_names [] = []
received_names (ByReceive name ∷ departures) = name ∷ received_names departures
received_names (ByOverflow name ∷ departures) = received_names departures

-- how often a name stands in a list
abbrev pub occurrences : ℕ → List ℕ → ℕ
occurrences name [] = 0
occurrences name (other ∷ others) = (if other == name then 1 else 0) + occurrences name others

abbrev pub has_name : ℕ → List ℕ → Bool
has_name name names = list_any (λ other. other == name) names

-- the chunks that are sent and haven't left, the oldest first
abbrev pub queued_names : ChannelHistory → List ℕ
queued_names channel = drop (length channel.departures) channel.sent

-- the chunks that are given back and not reclaimed, the oldest first
abbrev pub completed_names : ChannelHistory → List ℕ
completed_names channel = drop (length channel.reclaimed) channel.released

-- the receiver took the chunk more often than it gave it back
abbrev pub is_borrowed : ChannelHistory → ℕ → Bool
is_borrowed channel name =
    nat_lt (occurrences name channel.released) (occurrences name (received_names channel.departures))

abbrev pub borrow_count : ChannelHistory → ℕ
borrow_count channel = length (received_names channel.departures) - length channel.released

-- the chunk was sent on the channel and hasn't come back
abbrev pub is_in_transit : ChannelHistory → ℕ → Bool
is_in_transit channel name =
    has_name name (queued_names channel) || is_borrowed channel name || has_name name (completed_names channel)

-- ---- chunks and segments

-- the numbers below n, rising
abbrev pub numbers_below : ℕ → List ℕ
numbers_below zero = []
numbers_below (suc n) = numbers_below n ++ n ∷ []

-- the history of a channel; one that isn't there has an empty one
abbrev pub history_on : Ledger → ℕ → ChannelHistory
history_on l channel = slice_index_or l.histories channel new_history

-- the buckets of a segment; one that isn't there has none
abbrev pub layout_at : Ledger → ℕ → SegmentLayout
layout_at l segment = slice_index_or l.segments segment (record { size = 0; alignment = 0; count = 0 })

-- the number of the segment that loans are served from
abbrev pub current : Ledger → ℕ
current l = length l.segments - 1

-- the chunk of that name
abbrev pub chunk_named : Ledger → ℕ → Option Chunk
chunk_named l name = find (λ chunk. chunk.name == name) l.chunks

-- the chunk, where it is loaned
abbrev pub if_loaned : Option Chunk → Option Chunk
if_loaned None = None
if_loaned (Some chunk) = if chunk.loaned then Some chunk else None

-- the chunk of that name, where it is loaned
abbrev pub loaned_chunk : Ledger → ℕ → Option Chunk
loaned_chunk l name = if_loaned (chunk_named l name)

-- the chunk is loaned, or in transit on some channel
abbrev pub is_live : Ledger → Chunk → Bool
is_live l chunk = chunk.loaned || list_any (λ channel. is_in_transit channel chunk.name) l.histories

abbrev pub live_chunks : Ledger → List Chunk
live_chunks l = filter (is_live l) l.chunks

-- no live chunk has the bucket
abbrev pub is_free : Ledger → ℕ → ℕ → Bool
is_free l segment bucket =
    not (list_any (λ chunk. chunk.segment == segment && chunk.bucket == bucket) (live_chunks l))

abbrev pub has_free_bucket : Ledger → ℕ → Bool
has_free_bucket l segment = list_any (is_free l segment) (numbers_below (layout_at l segment).count)

-- every bucket of the segment is free
abbrev pub is_unused : Ledger → ℕ → Bool
is_unused l segment = not (list_any (λ chunk. chunk.segment == segment) (live_chunks l))

-- the segments that the sender's memory has: the current one, and each with a live chunk
abbrev pub active_segments : Ledger → List ℕ
active_segments l =
    filter (λ segment. segment == current l || not (is_unused l segment)) (numbers_below (length l.segments))

-- the chunk is borrowed on some channel
abbrev pub is_borrowed_anywhere : Ledger → Chunk → Bool
is_borrowed_anywhere l chunk = list_any (λ channel. is_borrowed channel chunk.name) l.histories

-- the receiver's view has the segment: it opened it last, or a chunk of it is borrowed
abbrev pub is_mapped : Ledger → ℕ → Bool
is_mapped l segment =
    has_name segment (option_to_list l.opened_last)
    || list_any (λ chunk. chunk.segment == segment && is_borrowed_anywhere l chunk) l.chunks

abbrev pub mapped_segments : Ledger → List ℕ
mapped_segments l = filter (is_mapped l) (numbers_below (length l.segments))
