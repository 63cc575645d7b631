-- Streams in memory, with which the program is tested: their calls are numbered from 0, and some are to fail.
use Rattle.std.specs.Prelude.{ℕ, ◌+◌, ◌-◌, ◌^◌, min, List}
use Rattle.cal_program.specs.Streams.{SourceState, SinkState}

-- a source, how many calls there were, and which fail
pub record MemorySourceState : Type 0 where
  pub state : SourceState
  pub calls : ℕ
  pub failing : List ℕ

-- a sink, how many calls there were, and which fail
pub record MemorySinkState : Type 0 where
  pub state : SinkState
  pub calls : ℕ
  pub failing : List ℕ

-- the number of calls after one more; it stands still at its type's end
abbrev pub one_more_call : ℕ → ℕ
one_more_call calls = min (calls + 1) (2 ^ 64 - 1)
