-- A made script: settings that are always the same, and commands that follow from a number, round by round.
use Rattle.std.specs.Prelude.{ℕ, zero, suc, ◌+◌, ◌*◌, ◌/◌, ◌%◌, ◌^◌, true, List, [], ◌∷◌, ◌++◌}
use Rattle.std.specs.List.{flat_map}
use Rattle.cal_alloc.specs.declared.allocation_strategy.AllocationStrategy.TheVariants.{BestFit}
use Rattle.cal_transport.specs.declared.settings.Settings.{Settings}
use Rattle.cal_transport.specs.declared.command.Command.{Command}
use Rattle.cal_transport.specs.declared.command.Command.TheVariants.{Loan, Write, Send, Receive, Read, Release, Reclaim, Discard}
use Rattle.cal_transport.specs.Ledger.{numbers_below}
use Rattle.cal_program.specs.declared.made_script.Draw.{Draw}
use Rattle.cal_program.specs.Script.{ParsedScript}

-- growing memory of 32 buckets of 16 bytes, and two channels whose sends overflow
abbrev pub made_settings : Settings
made_settings = record {
  size = 16;
  alignment = 8;
  count = 32;
  strategy = BestFit;
  buffer = 4;
  borrow = 4;
  overflow = true;
  samples = 32;
  segments = 8;
  channels = 2;
}

-- ---- what each round is made of

-- the state of 64 bits that follows
abbrev pub next_state : ℕ → ℕ
next_state state = (state * 6364136223846793005 + 1442695040888963407) % 2 ^ 64

-- the state after so many rounds
abbrev pub state_after : ℕ → ℕ → ℕ
state_after number zero = number
state_after number (suc rounds) = next_state (state_after number rounds)

-- what the upper 31 bits of a state say of its round
abbrev pub draw_of : ℕ → Draw
draw_of state =
    let bits = state / 2 ^ 33 in
    record { size = 1 + bits % 64; byte = (bits / 64) % 256; channel = (bits / 16384) % 2 }

-- ---- the commands

-- a chunk is loaned, written, sent and let go by the sender
abbrev pub way_there : Draw → ℕ → List Command
way_there draw chunk =
    Loan draw.size 1 ∷ Write chunk 0 (draw.byte ∷ []) ∷ Send draw.channel chunk ∷ Discard chunk ∷ []

-- it is received, read and given back, and its bucket is free again
abbrev pub way_back : Draw → ℕ → List Command
way_back draw chunk =
    Receive draw.channel ∷ Read draw.channel chunk 0 1 ∷ Release draw.channel chunk ∷ Reclaim draw.channel ∷ []

-- the eight commands of a round, the first of which has the chunk's place
abbrev pub round_of : Draw → ℕ → List Command
round_of draw chunk = way_there draw chunk ++ way_back draw chunk

-- the round of this index, from 0: each takes the next state and eight places
abbrev pub round_at : ℕ → ℕ → List Command
round_at number index = round_of (draw_of (next_state (state_after number index))) (8 * index + 1)

-- so many rounds, one after another
abbrev pub made_commands : ℕ → ℕ → List Command
made_commands number rounds = flat_map (round_at number) (numbers_below rounds)

-- the whole script
abbrev pub made_script : ℕ → ℕ → ParsedScript
made_script number rounds = record { settings = made_settings; commands = made_commands number rounds }
