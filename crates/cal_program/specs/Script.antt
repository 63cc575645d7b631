-- The forms of a script's lines, and what a script says.
use Rattle.std.specs.Prelude.{ℕ, ◌+◌, Bool, true, false, if◌then◌else◌, List, [], ◌∷◌, Option, Some, None, Result, Ok, Err, codes, bytes_eq}
use Rattle.cal_alloc.specs.declared.allocation_strategy.AllocationStrategy.{AllocationStrategy}
use Rattle.cal_alloc.specs.declared.allocation_strategy.AllocationStrategy.TheVariants.{BestFit, PowerOfTwo, Static}
use Rattle.cal_transport.specs.declared.settings.Settings.{Settings}
use Rattle.cal_transport.specs.declared.command.Command.{Command}
use Rattle.cal_transport.specs.declared.command.Command.TheVariants.{Loan, Write, Send, Receive, Read, Release, Reclaim, Discard, Count}
use Rattle.cal_program.specs.Words.{◌>>=◌, lines, words, number_of, at_most, bytes_of}

-- ---- the settings line

abbrev pub strategy_of : List ℕ → Option AllocationStrategy
strategy_of word =
    if bytes_eq word (codes "best") then Some BestFit
    else if bytes_eq word (codes "power") then Some PowerOfTwo
    else if bytes_eq word (codes "static") then Some Static
    else None

abbrev pub switch_of : List ℕ → Option Bool
switch_of word =
    if bytes_eq word (codes "on") then Some true
    else if bytes_eq word (codes "off") then Some false
    else None

-- a number of at most eight bits
abbrev pub small_number_of : List ℕ → Option ℕ
small_number_of word = do
  number ← number_of word
  at_most 255 number

-- the ten words after `transport`
abbrev pub settings_of_words : List (List ℕ) → Option Settings
settings_of_words (size ∷ alignment ∷ count ∷ strategy ∷ buffer ∷ borrow ∷ overflow ∷ samples ∷ segments ∷ channels ∷
    []) = do
      size ← number_of size
      alignment ← number_of alignment
      count ← number_of count
      strategy ← strategy_of strategy
      buffer ← number_of buffer
      borrow ← number_of borrow
      overflow ← switch_of overflow
      samples ← number_of samples
      segments ← small_number_of segments
      channels ← number_of channels
      Some (record {
        size = size;
        alignment = alignment;
        count = count;
        strategy = strategy;
        buffer = buffer;
        borrow = borrow;
        overflow = overflow;
        samples = samples;
        segments = segments;
        channels = channels;
      })
settings_of_words others = None

abbrev pub settings_named : List (List ℕ) → Option Settings
settings_named [] = None
settings_named (name ∷ others) = if bytes_eq name (codes "transport") then settings_of_words others else None

-- the settings that a line gives
abbrev pub settings_of : List ℕ → Option Settings
settings_of line = settings_named (words line)

-- ---- command lines: the words after each name

abbrev pub loan_of : List (List ℕ) → Option Command
loan_of (size ∷ alignment ∷ []) = do
  size ← number_of size
  alignment ← number_of alignment
  Some (Loan size alignment)
loan_of others = None

abbrev pub write_of : List (List ℕ) → Option Command
write_of (chunk ∷ at ∷ bytes ∷ []) = do
  chunk ← number_of chunk
  at ← number_of at
  bytes ← bytes_of bytes
  Some (Write chunk at bytes)
write_of others = None

abbrev pub send_of : List (List ℕ) → Option Command
send_of (channel ∷ chunk ∷ []) = do
  channel ← number_of channel
  chunk ← number_of chunk
  Some (Send channel chunk)
send_of others = None

abbrev pub receive_of : List (List ℕ) → Option Command
receive_of (channel ∷ []) = do
  channel ← number_of channel
  Some (Receive channel)
receive_of others = None

abbrev pub read_of : List (List ℕ) → Option Command
read_of (channel ∷ chunk ∷ at ∷ length ∷ []) = do
  channel ← number_of channel
  chunk ← number_of chunk
  at ← number_of at
  length ← number_of length
  Some (Read channel chunk at length)
read_of others = None

abbrev pub release_of : List (List ℕ) → Option Command
release_of (channel ∷ chunk ∷ []) = do
  channel ← number_of channel
  chunk ← number_of chunk
  Some (Release channel chunk)
release_of others = None

abbrev pub reclaim_of : List (List ℕ) → Option Command
reclaim_of (channel ∷ []) = do
  channel ← number_of channel
  Some (Reclaim channel)
reclaim_of others = None

abbrev pub discard_of : List (List ℕ) → Option Command
discard_of (chunk ∷ []) = do
  chunk ← number_of chunk
  Some (Discard chunk)
discard_of others = None

abbrev pub count_of : List (List ℕ) → Option Command
count_of [] = Some Count
count_of others = None

abbrev pub command_named : List ℕ → List (List ℕ) → Option Command
command_named name others =
    if bytes_eq name (codes "loan") then loan_of others
    else if bytes_eq name (codes "write") then write_of others
    else if bytes_eq name (codes "send") then send_of others
    else if bytes_eq name (codes "receive") then receive_of others
    else if bytes_eq name (codes "read") then read_of others
    else if bytes_eq name (codes "release") then release_of others
    else if bytes_eq name (codes "reclaim") then reclaim_of others
    else if bytes_eq name (codes "discard") then discard_of others
    else if bytes_eq name (codes "count") then count_of others
    else None

abbrev pub command_of_words : List (List ℕ) → Option Command
command_of_words [] = None
command_of_words (name ∷ others) = command_named name others

-- the command that a line gives
abbrev pub command_of : List ℕ → Option Command
command_of line = command_of_words (words line)

-- ---- scripts

-- what a script says
pub record ParsedScript : Type 0 where
  pub settings : Settings
  pub commands : List Command

-- a command before the others, unless one of them is bad
abbrev pub before_others : Command → Result (List Command) ℕ → Result (List Command) ℕ
before_others command (Ok commands) = Ok (command ∷ commands)
before_others command (Err line) = Err line

-- the line of this number gives the command, if it gives one
abbrev pub command_at : ℕ → Option Command → Result (List Command) ℕ → Result (List Command) ℕ
command_at number None others = Err number
command_at number (Some command) others = before_others command others

-- the commands of lines, the first of which has this number; or the number of the first bad line
abbrev pub commands_of : ℕ → List (List ℕ) → Result (List Command) ℕ
commands_of number [] = Ok []
commands_of number (line ∷ others) = command_at number (command_of line) (commands_of (number + 1) others)

-- settings and commands, unless a line is bad
abbrev pub script_of_parts : Option Settings → Result (List Command) ℕ → Result ParsedScript ℕ
script_of_parts None commands = Err 1
script_of_parts (Some settings) (Ok commands) = Ok (record { settings = settings; commands = commands })
script_of_parts (Some settings) (Err line) = Err line

abbrev pub script_of_lines : List (List ℕ) → Result ParsedScript ℕ
script_of_lines [] = Err 1
script_of_lines (first ∷ others) = script_of_parts (settings_of first) (commands_of 2 others)

-- what the bytes say as a script; or the number of the first bad line, from 1
abbrev pub script_of : List ℕ → Result ParsedScript ℕ
script_of bytes = script_of_lines (lines bytes)
