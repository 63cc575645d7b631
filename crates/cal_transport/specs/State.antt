-- What a transport is made of, and what its parts are seen as.
use Rattle.std.specs.Prelude.{◌≡◌, ℕ, ◌+◌, ◌*◌, ◌^◌, ◌<◌, ◌≤◌, List, [], length, Option, Some, None, option_map, slice_index_or}
use Rattle.cal_alloc.specs.Pool.{Pool}
use Rattle.cal_queue.specs.UsedChunks.{UsedChunks, none_used}
use Rattle.cal_storage.specs.declared.handle.Handle.{Handle}
use Rattle.cal_storage.specs.Contents.{Contents, Has}
use Rattle.cal_shm.specs.Segment.{Segment}
use Rattle.cal_resizable.specs.Chunks.{segment_value}
use Rattle.cal_resizable.specs.Memory.{MemoryState}
use Rattle.cal_resizable.specs.Slots.{Slots, HeldSegment, segment_at, count_at}
use Rattle.cal_resizable.specs.Together.{AreTogether}
use Rattle.cal_resizable.specs.View.{View}
use Rattle.cal_connection.specs.Port as port
use Rattle.cal_transport.specs.declared.settings.Settings.{Settings}
use Rattle.cal_transport.specs.declared.transport.chunk_entry.ChunkEntry.{ChunkEntry}
use Rattle.cal_transport.specs.declared.command.Command.{Command}
use Rattle.cal_transport.specs.declared.reply.Reply.{Reply}
use Rattle.cal_transport.specs.Ledger.{Ledger}
use Rattle.cal_transport.specs.Soundness.{IsSoundLedger}
use Rattle.cal_transport.specs.Step.{IsStep, after_step}
use Rattle.cal_transport.specs.Core.{Core, ActiveSegment}
use Rattle.cal_transport.specs.Shown.{Shows, Tracks, connection_settings}

-- the parts' values, and for how many more chunks and tables of segments there is room
pub record TransportState : Type 0 where
  pub settings : Settings
  pub memory_registry : Contents (Segment Pool)
  pub memory : MemoryState
  pub view : View
  pub connection_registry : Contents port.PortEntry
  pub sender : port.SenderEnd
  pub receiver : port.ReceiverEnd
  pub entries : List ChunkEntry
  pub lent : List UsedChunks
  pub transits : List ℕ
  pub owners : List (List ℕ)
  pub in_transit : ℕ
  pub spare : ℕ
  pub spare_tables : ℕ

-- ---- what they are seen as

-- a segment with what its allocator and its bytes are, where it is there
abbrev pub active_of : Option (Segment Pool) → ℕ → Option ActiveSegment
active_of None count = None
active_of (Some segment) count =
    Some (record { pool = segment.allocator; payload = segment.payload; chunks = count })

abbrev pub active_at : Contents (Segment Pool) → Slots → ℕ → Option ActiveSegment
active_at contents slots number = active_of (segment_value contents slots number) (count_at slots number)

-- how often a segment is counted, where it is held
abbrev pub mapped_at : Slots → ℕ → Option ℕ
mapped_at slots number = option_map (λ (held : HeldSegment). held.count) (segment_at slots number)

abbrev pub core_of : TransportState → Core
core_of t = record {
  settings = t.settings;
  current = t.memory.current;
  active = active_at t.memory_registry t.memory.slots;
  opened_last = t.view.current;
  mapped = mapped_at t.view.slots;
  channel = port.channel_of t.connection_registry t.sender.handle;
  borrowed = port.count_at t.receiver;
  entries = t.entries;
  lent = λ k. slice_index_or t.lent k (none_used 0);
  transits = λ k. slice_index_or t.transits k 0;
  in_transit = t.in_transit;
  owners = λ number. slice_index_or t.owners number [];
}

-- ---- what ties the parts to one another

-- both ports have their entry, which is the same, and it has the transport's settings
pub record LinksPorts (contents : Contents port.PortEntry) (sender receiver : Handle) (settings : Settings) :
    Type 0 where
  pub has_sender : Has contents sender
  pub has_receiver : Has contents receiver
  pub same : receiver.id ≡ sender.id
  pub sound : port.IsSoundPort (port.port_at contents sender)
  pub settings_are : (port.port_at contents sender).settings ≡ connection_settings settings

-- the memory, the view and both ports belong together, and the tables have a place for each channel and segment
pub record IsLinked (t : TransportState) : Type 0 where
  pub together : AreTogether t.memory_registry t.memory t.view
  pub strategy : t.memory.strategy ≡ t.settings.strategy
  pub ports : LinksPorts t.connection_registry t.sender.handle t.receiver.handle t.settings
  pub counts : length t.receiver.borrow_counts ≡ t.settings.channels
  pub lent : length t.lent ≡ t.settings.channels
  pub transits : length t.transits ≡ t.settings.channels
  pub owners : length t.owners ≡ t.memory.current + 1
  pub tables : 256 ≤ length t.owners + t.spare_tables
  pub marks : t.settings.segments * t.settings.samples < 2 ^ 63
  pub pairs : t.settings.samples * t.settings.segments * t.settings.channels < 2 ^ 63

-- ---- the ledger

-- The parts show the ledger, which is sound, and the tables that the transport keeps lead to its chunks.
pub record Represents (t : TransportState) (l : Ledger) : Type 0 where
  pub place : ℕ
  pub sound : IsSoundLedger l place
  pub shows : Shows (core_of t) l
  pub tracks : Tracks (core_of t) l

-- whichever ledger the parts and tables had, the reply answers the command there, and they have the ledger after it
abbrev pub Does : TransportState → ℕ → Command → Reply → TransportState → Type 0
Does old place asked reply new = (l : Ledger) → Represents old l →
    IsStep l place asked reply × Represents new (after_step l place asked reply)

-- whatever its place in the list
abbrev pub DoesAnywhere : TransportState → Command → Reply → TransportState → Type 0
DoesAnywhere old asked reply new = (place : ℕ) → Does old place asked reply new
