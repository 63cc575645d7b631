-- Runs of the ledger: steps for a list of commands, and the chunks that are in transit after them.
use Rattle.std.specs.Prelude.{ℕ, ◌+◌, ◌<◌, ◌≡◌, ◌&&◌, ◌==◌, IsTrue, length, filter, map, flat_map, List, [], ◌∷◌, None}
use Rattle.cal_transport.specs.declared.settings.Settings.{Settings}
use Rattle.cal_transport.specs.declared.command.Command.{Command}
use Rattle.cal_transport.specs.declared.command.Command.TheVariants as command
use Rattle.cal_transport.specs.declared.reply.Reply.{Reply}
use Rattle.cal_transport.specs.declared.reply.Reply.TheVariants.{Transit}
use Rattle.cal_transport.specs.Ledger.{Ledger, Chunk, first_ledger, history_on, layout_at, numbers_below, is_in_transit}
use Rattle.cal_transport.specs.LoanCause.{needs_segment}
use Rattle.cal_transport.specs.Cause.{cause, current_segment}
use Rattle.cal_transport.specs.Step.{IsStep, after_step, slot_of}

-- the chunks in transit on a channel that have this bucket: one at most
abbrev pub transit_at : Ledger → ℕ → ℕ → ℕ → List Chunk
transit_at l channel segment bucket =
    filter (λ chunk. chunk.segment == segment && chunk.bucket == bucket && is_in_transit (history_on l channel)
    chunk.name) l.chunks

-- the chunks in transit on a channel, by segment and bucket
abbrev pub transit_on : Ledger → ℕ → List Chunk
transit_on l channel =
    flat_map (λ segment. flat_map (transit_at l channel segment) (numbers_below (layout_at l segment).count))
    (numbers_below (length l.segments))

-- the chunks in transit, by channel, segment and bucket
abbrev pub transit_list : Ledger → List Reply
transit_list l =
    flat_map (λ channel. map (λ chunk. Transit channel (slot_of l chunk)) (transit_on l channel))
    (numbers_below (length l.histories))

-- the replies answer the first commands, one after another; the first of them is at this place
abbrev pub AreSteps : Ledger → ℕ → List Command → List Reply → Type 0
AreSteps l place commands [] = Unit {0}
AreSteps l place [] (reply ∷ replies) = ⊥
AreSteps l place (asked ∷ commands) (reply ∷ replies) =
    IsStep l place asked reply × AreSteps (after_step l place asked reply) (place + 1) commands replies

-- the ledger after these answers
abbrev pub after_steps : Ledger → ℕ → List Command → List Reply → Ledger
after_steps l place commands [] = l
after_steps l place [] (reply ∷ replies) = l
after_steps l place (asked ∷ commands) (reply ∷ replies) =
    after_steps (after_step l place asked reply) (place + 1) commands replies

-- the replies answer every command, and then name the chunks in transit, and nothing more
abbrev pub AreStepsAndTransit : Ledger → ℕ → List Command → List Reply → Type 0
AreStepsAndTransit l place [] replies = replies ≡ transit_list l
AreStepsAndTransit l place (asked ∷ commands) [] = ⊥
AreStepsAndTransit l place (asked ∷ commands) (reply ∷ replies) =
    IsStep l place asked reply × AreStepsAndTransit (after_step l place asked reply) (place + 1) commands replies

-- the replies are a run of the commands over a transport with these settings
abbrev pub IsRun : Settings → List Command → List Reply → Type 0
IsRun settings commands replies = AreStepsAndTransit (first_ledger settings) 1 commands replies

-- ---- where a run stops

-- the replies answer the first commands, and what comes next meets a condition
abbrev pub StopsAt : (Ledger → Command → Type 0) → Ledger → ℕ → List Command → List Reply → Type 0
StopsAt P l place [] replies = ⊥
StopsAt P l place (asked ∷ commands) [] = P l asked
StopsAt P l place (asked ∷ commands) (reply ∷ replies) =
    IsStep l place asked reply × StopsAt P (after_step l place asked reply) (place + 1) commands replies

-- the command is one that takes memory: a loan that needs a segment, or a read of some bytes
abbrev pub TakesMemory : Ledger → Command → Type 0
TakesMemory l (command.Loan size alignment) = IsTrue (needs_segment (current_segment l) size alignment)
TakesMemory l (command.Read channel name at length) =
    (0 < length) × (cause l (command.Read channel name at length) ≡ None)
TakesMemory l asked = ⊥

-- memory ran out while the transport was made, or at a command that takes some
abbrev pub StopsForMemory : Settings → List Command → List Reply → Type 0
StopsForMemory settings commands [] = Unit {0}
StopsForMemory settings commands (reply ∷ replies) =
    StopsAt TakesMemory (first_ledger settings) 1 commands (reply ∷ replies)
