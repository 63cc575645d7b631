-- The replies that tell which chunks are in transit, by channel and segment.
use Rattle.std.specs.Prelude.{ℕ, List, map}
use Rattle.std.specs.List.{flat_map}
use Rattle.cal_transport.specs.declared.reply.Reply.{Reply}
use Rattle.cal_transport.specs.declared.reply.Reply.TheVariants.{Transit}
use Rattle.cal_transport.specs.Ledger.{Ledger, Chunk, layout_at, numbers_below}
use Rattle.cal_transport.specs.Step.{slot_of}
use Rattle.cal_transport.specs.Run.{transit_at, transit_on}

abbrev pub line_of : Ledger → ℕ → Chunk → Reply
line_of l channel chunk = Transit channel (slot_of l chunk)

-- the lines of a channel: of the buckets of a segment below a number, of a whole segment, and of all segments
abbrev pub lines_below : Ledger → ℕ → ℕ → ℕ → List Reply
lines_below l channel segment bucket =
    map (line_of l channel) (flat_map (transit_at l channel segment) (numbers_below bucket))

abbrev pub lines_in : Ledger → ℕ → ℕ → List Reply
lines_in l channel segment = lines_below l channel segment (layout_at l segment).count

abbrev pub lines_on : Ledger → ℕ → List Reply
lines_on l channel = map (line_of l channel) (transit_on l channel)
