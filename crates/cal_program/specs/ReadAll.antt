-- How the reading of a script ends.
use Rattle.std.specs.Prelude.{ℕ, ◌≡◌, ◌+◌, ◌≤◌, List, length, Result, Ok, Err, Vec}
use Rattle.std.specs.Io.KnownBytes.{Consumes, IsAtEnd}
use Rattle.std.specs.declared.alloc.Global.{Global}
use Rattle.cal_program.specs.declared.read.ReadError.{ReadError}
use Rattle.cal_program.specs.declared.read.ReadError.TheVariants.{Fault, TooLong, NoMemory}
use Rattle.cal_program.specs.Streams.{SourceState, Rose, Takes}

-- a script has at most this many bytes
abbrev pub script_limit : ℕ
script_limit = 16777216

-- All bytes that the source had were taken, and they aren't too many.
pub record ReadsAll (before now : SourceState) (bytes : List ℕ) : Type 0 where
  pub taken : Takes before now bytes
  pub ended : IsAtEnd now.left
  pub within : length bytes ≤ script_limit

-- Some bytes were taken, at most one more than a script has.
pub record ReadsSome (before now : SourceState) : Type 0 where
  pub bytes : List ℕ
  pub taken : Takes before now bytes
  pub within : length bytes ≤ script_limit + 1

-- Exactly one byte more was taken than a script has.
pub record ReadsTooMany (before now : SourceState) : Type 0 where
  pub bytes : List ℕ
  pub taken : Takes before now bytes
  pub past : length bytes ≡ script_limit + 1

-- The source failed after some bytes, no more than a script has.
pub record FailsReading (before now : SourceState) : Type 0 where
  pub bytes : List ℕ
  pub front : Consumes before.left now.left bytes
  pub counted : now.given ≡ before.given + length bytes
  pub within : length bytes ≤ script_limit
  pub fault : Rose before.faults now.faults

-- Reading ended so.
abbrev pub EndsReading : SourceState → SourceState → Result (Vec ℕ Global) ReadError → Type 0
EndsReading before now (Ok bytes) = ReadsAll before now bytes.items
EndsReading before now (Err Fault) = FailsReading before now
EndsReading before now (Err TooLong) = ReadsTooMany before now
EndsReading before now (Err NoMemory) = ReadsSome before now
