-- A run shows no more bytes than its commands ask for, and answers each of them.
use Rattle.std.proofs.Common.{◌≡◌, ℕ, ◌+◌, ◌≤◌, List, [], ◌∷◌, ◌++◌, length, drop, map, Option, Some, None, refl, sym, ap, ◌∙◌, subst, arith}
use Rattle.std.specs.List.{sum_by, flat_map}
use Rattle.std.proofs.lemmas.List.{length-take}
use Rattle.std.proofs.lemmas.List.Sums.{sum_by-cons, sum_by-append}
use Rattle.cal_transport.specs.declared.settings.Settings.{Settings}
use Rattle.cal_transport.specs.declared.command.Command.{Command}
use Rattle.cal_transport.specs.declared.command.Command.TheVariants as command
use Rattle.cal_transport.specs.declared.reply.Reply.{Reply}
use Rattle.cal_transport.specs.declared.reply.Reply.TheVariants.{Loaned, Written, Sent, Received, Shown, Released, Reclaimed, Discarded, Counted, Refused, Transit}
use Rattle.cal_transport.specs.declared.reply.Refusal.{Refusal}
use Rattle.cal_transport.specs.declared.reply.Slot.{Slot}
use Rattle.cal_transport.specs.Ledger.{Ledger, Chunk, first_ledger, numbers_below, chunk_named}
use Rattle.cal_transport.specs.Cause.{cause}
use Rattle.cal_transport.specs.Step.{IsStep, IsStepBy, IsLoan, Owes, after_step, bytes_of_chunk, grown_ledger, slot_of}
use Rattle.cal_transport.specs.Run.{AreStepsAndTransit, IsRun, transit_on, transit_list}
use Rattle.cal_program.specs.Summary.{answer_count, shown_bytes, shown_count, summary_of}

-- how many bytes a command asks to see
abbrev pub asked_count : Command → ℕ
asked_count (command.Read channel chunk at length) = length
asked_count asked = 0

-- how many bytes a reply shows
abbrev pub shown_by : Reply → ℕ
shown_by reply = length (shown_bytes reply)

-- ---- one reply

-- a reply that is known shows what that one does
same-shown : (reply other : Reply) (n : ℕ) → reply ≡ other → shown_by other ≤ n → shown_by reply ≤ n
same-shown reply other n same few =
    subst (λ (r : Reply). shown_by r ≤ n) (sym same) few

loan-shown : (l : Ledger) (name : ℕ) (reply : Reply) → IsLoan l name reply → shown_by reply ≤ 0
loan-shown l name (Loaned slot) h = omega arith
loan-shown l name Written h = absurd h
loan-shown l name (Sent back) h = absurd h
loan-shown l name (Received slot) h = absurd h
loan-shown l name (Shown bytes) h = absurd h
loan-shown l name Released h = absurd h
loan-shown l name (Reclaimed back) h = absurd h
loan-shown l name Discarded h = absurd h
loan-shown l name (Counted count) h = absurd h
loan-shown l name (Refused refusal) h = absurd h
loan-shown l name (Transit channel slot) h = absurd h

bytes-few : (chunk : Option Chunk) (at n : ℕ) → length (bytes_of_chunk chunk at n) ≤ n
bytes-few None at n = omega arith
bytes-few (Some chunk) at n = omega (arith, length-take n (drop at chunk.bytes))

owed-shown : (l : Ledger) (place : ℕ) (asked : Command) (reply : Reply) → Owes l place asked reply →
    shown_by reply ≤ asked_count asked
owed-shown l place (command.Loan size alignment) reply h =
    loan-shown (grown_ledger l size alignment) place reply h
owed-shown l place (command.Write name at bytes) reply h = same-shown reply _ 0 h (omega arith)
owed-shown l place (command.Send channel name) reply h = same-shown reply _ 0 h (omega arith)
owed-shown l place (command.Receive channel) reply h = same-shown reply _ 0 h (omega arith)
owed-shown l place (command.Read channel name at n) reply h =
    same-shown reply (Shown (bytes_of_chunk (chunk_named l name) at n)) n h (bytes-few (chunk_named l name) at n)
owed-shown l place (command.Release channel name) reply h = same-shown reply _ 0 h (omega arith)
owed-shown l place (command.Reclaim channel) reply h = same-shown reply _ 0 h (omega arith)
owed-shown l place (command.Discard name) reply h = same-shown reply _ 0 h (omega arith)
owed-shown l place command.Count reply h = same-shown reply _ 0 h (omega arith)

answer-shown : (why : Option Refusal) (l : Ledger) (place : ℕ) (asked : Command) (reply : Reply) →
    IsStepBy why l place asked reply → shown_by reply ≤ asked_count asked
answer-shown None l place asked reply h = owed-shown l place asked reply h
answer-shown (Some refusal) l place asked reply h =
    same-shown reply (Refused refusal) (asked_count asked) h (omega arith)

step-shown : (l : Ledger) (place : ℕ) (asked : Command) (reply : Reply) → IsStep l place asked reply →
    shown_by reply ≤ asked_count asked
step-shown l place asked reply h = answer-shown (cause l asked) l place asked reply h

-- ---- what is in transit

-- lines of chunks in transit, where one counts for nothing
lines-none : (f : Reply → ℕ) → ((channel : ℕ) (slot : Slot) → f (Transit channel slot) ≡ 0) → (l : Ledger)
    (channel : ℕ) (chunks : List Chunk) → sum_by f (map (λ chunk. Transit channel (slot_of l chunk)) chunks) ≡ 0
lines-none f none l channel [] = refl
lines-none f none l channel (chunk ∷ chunks) =
    let others = map (λ (c : Chunk). Transit channel (slot_of l c)) chunks in
    let line = Transit channel (slot_of l chunk) in
    let first : f line ≡ 0 = none channel (slot_of l chunk) in
    let rest : sum_by f others ≡ 0 = lines-none f none l channel chunks in
    let all : sum_by f (line ∷ others) ≡ f line + sum_by f others = sum_by-cons f line others in
    omega (arith, first, rest, all)

channels-none : (f : Reply → ℕ) → ((channel : ℕ) (slot : Slot) → f (Transit channel slot) ≡ 0) → (l : Ledger)
    (channels : List ℕ) → sum_by f
    (flat_map (λ channel. map (λ chunk. Transit channel (slot_of l chunk)) (transit_on l channel)) channels) ≡ 0
channels-none f none l [] = refl
channels-none f none l (channel ∷ channels) =
    let first = map (λ (chunk : Chunk). Transit channel (slot_of l chunk)) (transit_on l channel) in
    let others = flat_map
    (λ (c : ℕ). map (λ (chunk : Chunk). Transit c (slot_of l chunk)) (transit_on l c)) channels in
    let here : sum_by f first ≡ 0 = lines-none f none l channel (transit_on l channel) in
    let rest : sum_by f others ≡ 0 = channels-none f none l channels in
    let all : sum_by f (first ++ others) ≡ sum_by f first + sum_by f others = sum_by-append f first others in
    omega (arith, here, rest, all)

transit-none : (f : Reply → ℕ) → ((channel : ℕ) (slot : Slot) → f (Transit channel slot) ≡ 0) → (l : Ledger) →
    sum_by f (transit_list l) ≡ 0
transit-none f none l = channels-none f none l (numbers_below (length l.histories))

-- ---- the run

steps-shown : (l : Ledger) (place : ℕ) (commands : List Command) (replies : List Reply) →
    AreStepsAndTransit l place commands replies → shown_count replies ≤ sum_by asked_count commands
steps-shown l place [] replies h =
    let none : shown_count replies ≡ 0 = ap shown_count h ∙ transit-none shown_by (λ channel slot. refl) l in
    omega (arith, none)
steps-shown l place (asked ∷ commands) [] h = absurd h
steps-shown l place (asked ∷ commands) (reply ∷ replies) h =
    let first : shown_by reply ≤ asked_count asked = step-shown l place asked reply h.0 in
    let others : shown_count replies ≤ sum_by asked_count commands =
    steps-shown (after_step l place asked reply) (place + 1) commands replies h.1 in
    let shown : shown_count (reply ∷ replies) ≡ shown_by reply + shown_count replies =
    sum_by-cons shown_by reply replies in
    let all : sum_by asked_count (asked ∷ commands) ≡ asked_count asked + sum_by asked_count commands =
    sum_by-cons asked_count asked commands in
    omega (arith, first, others, shown, all)

pub run-shown : (settings : Settings) (commands : List Command) (replies : List Reply) →
    IsRun settings commands replies → shown_count replies ≤ sum_by asked_count commands
run-shown settings commands replies h = steps-shown (first_ledger settings) 1 commands replies h

-- ---- the answers

loan-answers : (l : Ledger) (name : ℕ) (reply : Reply) → IsLoan l name reply → answer_count reply ≡ 1
loan-answers l name (Loaned slot) h = refl
loan-answers l name Written h = absurd h
loan-answers l name (Sent back) h = absurd h
loan-answers l name (Received slot) h = absurd h
loan-answers l name (Shown bytes) h = absurd h
loan-answers l name Released h = absurd h
loan-answers l name (Reclaimed back) h = absurd h
loan-answers l name Discarded h = absurd h
loan-answers l name (Counted count) h = absurd h
loan-answers l name (Refused refusal) h = absurd h
loan-answers l name (Transit channel slot) h = absurd h

owed-answers : (l : Ledger) (place : ℕ) (asked : Command) (reply : Reply) → Owes l place asked reply →
    answer_count reply ≡ 1
owed-answers l place (command.Loan size alignment) reply h =
    loan-answers (grown_ledger l size alignment) place reply h
owed-answers l place (command.Write name at bytes) reply h = ap answer_count h
owed-answers l place (command.Send channel name) reply h = ap answer_count h
owed-answers l place (command.Receive channel) reply h = ap answer_count h
owed-answers l place (command.Read channel name at n) reply h = ap answer_count h
owed-answers l place (command.Release channel name) reply h = ap answer_count h
owed-answers l place (command.Reclaim channel) reply h = ap answer_count h
owed-answers l place (command.Discard name) reply h = ap answer_count h
owed-answers l place command.Count reply h = ap answer_count h

answer-answers : (why : Option Refusal) (l : Ledger) (place : ℕ) (asked : Command) (reply : Reply) →
    IsStepBy why l place asked reply → answer_count reply ≡ 1
answer-answers None l place asked reply h = owed-answers l place asked reply h
answer-answers (Some refusal) l place asked reply h = ap answer_count h

steps-answers : (l : Ledger) (place : ℕ) (commands : List Command) (replies : List Reply) →
    AreStepsAndTransit l place commands replies → sum_by answer_count replies ≡ length commands
steps-answers l place [] replies h =
    ap (sum_by answer_count) h ∙ transit-none answer_count (λ channel slot. refl) l
steps-answers l place (asked ∷ commands) [] h = absurd h
steps-answers l place (asked ∷ commands) (reply ∷ replies) h =
    let one : answer_count reply ≡ 1 = answer-answers (cause l asked) l place asked reply h.0 in
    let others : sum_by answer_count replies ≡ length commands =
    steps-answers (after_step l place asked reply) (place + 1) commands replies h.1 in
    sum_by-cons answer_count reply replies ∙ omega (arith, one, others)

-- a run has as many answers as commands
pub run-answers : (settings : Settings) (commands : List Command) (replies : List Reply) →
    IsRun settings commands replies → (summary_of replies).answered ≡ length commands
run-answers settings commands replies h = steps-answers (first_ledger settings) 1 commands replies h
