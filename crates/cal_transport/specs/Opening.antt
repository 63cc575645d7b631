-- What a transport is opened with, and why it isn't opened.
use Rattle.std.specs.Prelude.{◌≡◌, ◌≢◌, ◌<◌, ℕ, true, false, Option, Some, None, List, codes, replicate}
use Rattle.cal_alloc.specs.Limits.{max_memory_alignment}
use Rattle.cal_alloc.specs.Pool.{Pool}
use Rattle.cal_names.specs.ConceptSettings.{ConceptSettings, settings_of}
use Rattle.cal_storage.specs.Contents.{Contents}
use Rattle.cal_shm.specs.Configuration.{default_parts as shm_parts}
use Rattle.cal_shm.specs.Segment.{Segment}
use Rattle.cal_shm.specs.TypeName.{segment_type_name}
use Rattle.cal_resizable.specs.Creation.{MemoryPlan}
use Rattle.cal_connection.specs.Channel.{new_channel}
use Rattle.cal_connection.specs.Configuration.{default_parts, stored_type}
use Rattle.cal_connection.specs.Plan.{ConnectionPlan}
use Rattle.cal_connection.specs.Port as port
use Rattle.cal_resizable.specs.Memory.{MemoryState}
use Rattle.cal_resizable.specs.Together.{IsAlone, AreTogether}
use Rattle.cal_resizable.specs.View.{View, ViewPlan}
use Rattle.cal_transport.specs.declared.settings.Settings.{Settings}
use Rattle.cal_transport.specs.declared.transport.making.OpenError.{OpenError}
use Rattle.cal_transport.specs.declared.transport.making.OpenError.TheVariants.{Create, NoMemory}
use Rattle.cal_transport.specs.Settings.{CanMake, create_cause, first_layout, payload, has_too_large_connection}
use Rattle.cal_transport.specs.Soundness.{HasRoom}
use Rattle.cal_transport.specs.Core.{ActiveSegment}
use Rattle.cal_transport.specs.Shown.{connection_settings}
use Rattle.cal_transport.specs.State.{LinksPorts, active_at, mapped_at}

-- settings with which a transport can be opened, and in which no zero counts as one
pub record CanOpen (s : Settings) : Type 0 where
  pub memory : CanMake s
  pub room : HasRoom s
  pub connection : has_too_large_connection s ≡ false

-- why no transport is opened: the settings have a cause, or there is none and memory ran out
abbrev pub IsNotOpened : Settings → OpenError → Type 0
IsNotOpened s (Create cause) = create_cause s ≡ Some cause
IsNotOpened s NoMemory = create_cause s ≡ None

-- the name under which memory and connection stand in their registries
abbrev pub transport_name : List ℕ
transport_name = codes "transport"

-- ---- the memory and its view

-- what makes the paths of the segments
abbrev pub memory_settings : ConceptSettings
memory_settings = settings_of shm_parts (Some (segment_type_name 0))

abbrev pub memory_plan : Settings → MemoryPlan
memory_plan s = record {
  name = transport_name;
  settings = memory_settings;
  strategy = s.strategy;
  layout = record { size = s.size; alignment = s.alignment };
  number_of_chunks = s.count;
}

abbrev pub view_plan : ViewPlan
view_plan = record { name = transport_name; settings = memory_settings }

-- the first segment: every bucket is free, and every byte is zero
abbrev pub first_segment : Settings → ActiveSegment
first_segment s = record {
  pool = record {
    buckets = first_layout s;
    memory_alignment = max_memory_alignment;
    used = replicate s.count false;
    is_ready = true;
  };
  payload = replicate (payload (first_layout s)) 0;
  chunks = 0;
}

-- A memory has its first segment alone, which is as the settings say.
pub record HasFirstSegment (s : Settings) (contents : Contents (Segment Pool)) (memory : MemoryState) : Type 0 where
  pub name : memory.name ≡ transport_name
  pub settings : memory.settings ≡ memory_settings
  pub strategy : memory.strategy ≡ s.strategy
  pub current : memory.current ≡ 0
  pub first : active_at contents memory.slots 0 ≡ Some (first_segment s)
  pub others : (number : ℕ) → number ≢ 0 → active_at contents memory.slots number ≡ None

-- A memory was made that no view has opened yet.
pub record IsNewMemory (s : Settings) (contents : Contents (Segment Pool)) (memory : MemoryState) : Type 0 where
  pub alone : IsAlone contents memory
  pub segments : HasFirstSegment s contents memory

-- A memory and a view of it were made. The view has mapped no segment yet.
pub record AreNewTogether (s : Settings) (contents : Contents (Segment Pool)) (memory : MemoryState) (view : View) :
    Type 0 where
  pub together : AreTogether contents memory view
  pub segments : HasFirstSegment s contents memory
  pub opened_last : view.current ≡ None
  pub mapped : (number : ℕ) → mapped_at view.slots number ≡ None

-- ---- the ports

abbrev pub connection_plan : Settings → ConnectionPlan
connection_plan s = record {
  name = transport_name;
  settings = settings_of default_parts (Some stored_type);
  options = record { settings = connection_settings s; initial_state = 0 };
}

-- Both ports of a new connection were made: nothing has gone over it yet.
pub record AreNewPorts (s : Settings) (contents : Contents port.PortEntry) (sender : port.SenderEnd)
    (receiver : port.ReceiverEnd) : Type 0 where
  pub links : LinksPorts contents sender.handle receiver.handle s
  pub counts : receiver.borrow_counts ≡ replicate s.channels 0
  pub channels : (k : ℕ) → k < s.channels →
      port.channel_of contents sender.handle k ≡ new_channel (connection_settings s) 0
