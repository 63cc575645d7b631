-- What a buffer holds back of a text, and what was put of it.
use Rattle.std.specs.Prelude.{ℕ, ◌≡◌, Bool, MatchBool, List, ◌++◌}
use Rattle.cal_program.specs.Streams.{SinkState, PutsAll, FailsWithin}

-- the bytes that a buffer holds, and whether the sink failed
pub record BufferState : Type 0 where
  pub held : List ℕ
  pub failed : Bool

-- All of the text that the buffer doesn't hold was put.
pub record PutsToHeld (from now : SinkState) (held text : List ℕ) : Type 0 where
  pub put : List ℕ
  pub parts : text ≡ put ++ held
  pub puts : PutsAll from now put

-- Since the sink was in the first state, this text was shown. Once the sink failed, what the buffer holds is dropped.
abbrev pub HasPrinted : SinkState → BufferState → SinkState → List ℕ → Type 0
HasPrinted from buffer now text = MatchBool buffer.failed (FailsWithin from now text)
    (PutsToHeld from now buffer.held text)

-- Whatever was shown before, this text follows it.
abbrev pub Follows : BufferState → SinkState → BufferState → SinkState → List ℕ → Type 0
Follows buffer sink buffer_now sink_now text =
    (from : SinkState) (shown : List ℕ) → HasPrinted from buffer sink shown →
    HasPrinted from buffer_now sink_now (shown ++ text)
