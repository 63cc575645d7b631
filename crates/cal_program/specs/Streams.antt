-- What contracts see of a source and of a sink, and what their calls do to it.
use Rattle.std.specs.Prelude.{ℕ, ◌≡◌, ◌<◌, ◌≤◌, ◌+◌, ◌-◌, ◌^◌, min, List, [], length, take, Option}
use Rattle.std.specs.Io.KnownBytes.{Keeps, Appends, Consumes}

-- ---- faults

-- A count of faults rose, or stands at its type's end, where it can't rise.
abbrev pub Rose : ℕ → ℕ → Type 0
Rose before now = min (before + 1) (2 ^ 64 - 1) ≤ now

-- ---- sources

-- the bytes that are left, where the source tells them; how many bytes it gave so far; how many of its calls failed
pub record SourceState : Type 0 where
  pub left : Option (List ℕ)
  pub given : ℕ
  pub faults : ℕ

-- these bytes were taken from the front of what is left, and no call failed
pub record Takes (before now : SourceState) (bytes : List ℕ) : Type 0 where
  pub front : Consumes before.left now.left bytes
  pub counted : now.given ≡ before.given + length bytes
  pub no_fault : now.faults ≡ before.faults

-- a call failed: it took nothing
pub record TakesNothing (before now : SourceState) : Type 0 where
  pub kept : Keeps before.left now.left
  pub counted : now.given ≡ before.given
  pub fault : Rose before.faults now.faults

-- ---- sinks

-- the bytes that the sink took, where it tells them; how many of its calls failed
pub record SinkState : Type 0 where
  pub written : Option (List ℕ)
  pub faults : ℕ

-- these bytes were put at the end, and no call failed
pub record Puts (before now : SinkState) (bytes : List ℕ) : Type 0 where
  pub appended : Appends before.written now.written bytes
  pub no_fault : now.faults ≡ before.faults

-- known bytes grow by a front of these bytes
abbrev pub AppendsFront : Option (List ℕ) → Option (List ℕ) → List ℕ → Type 0
AppendsFront before now bytes = (count : ℕ) × (count ≤ length bytes) × Appends before now (take count bytes)

-- a call failed: a front of these bytes was put at the end
pub record PutsFront (before now : SinkState) (bytes : List ℕ) : Type 0 where
  pub appended : AppendsFront before.written now.written bytes
  pub fault : Rose before.faults now.faults

-- All of a text was put. Where there is none, the sink was left alone.
pub record PutsAll (before now : SinkState) (text : List ℕ) : Type 0 where
  pub puts : Puts before now text
  pub untouched : text ≡ [] → now ≡ before

-- The sink failed within a text.
pub record FailsWithin (before now : SinkState) (text : List ℕ) : Type 0 where
  pub some : 0 < length text
  pub puts : PutsFront before now text

-- ---- a reader and a writer as a source and a sink

-- the reader, how many bytes it gave so far, and how many calls failed
pub record ReaderState (R : Type 0) : Type 0 where
  pub reader : R
  pub given : ℕ
  pub faults : ℕ

-- the writer, and how many calls failed
pub record WriterState (W : Type 0) : Type 0 where
  pub writer : W
  pub faults : ℕ

-- ---- new streams

-- a source that gave nothing yet
abbrev pub new_source : Option (List ℕ) → SourceState
new_source left = record { left = left; given = 0; faults = 0 }

-- a sink that took nothing yet
abbrev pub new_sink : Option (List ℕ) → SinkState
new_sink written = record { written = written; faults = 0 }
