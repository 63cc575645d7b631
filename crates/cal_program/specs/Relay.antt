-- What a relay owes: the words that ask for it, what went over its channel, and what it writes.
use Rattle.std.specs.Prelude.{ℕ, ◌≡◌, ◌+◌, ◌≤◌, true, nat_le, max, ◌&&◌, if◌then◌else◌, List, [], ◌∷◌, ◌++◌, length, Option, Some, None, bytes_eq, decimal, codes}
use Rattle.cal_queue.specs.Partition.{IsPartition}
use Rattle.cal_connection.specs.declared.settings.ConnectionSettings.{ConnectionSettings}
use Rattle.cal_shared.specs.Port.{IsOnePair, ReceivingPort, SendingPort}
use Rattle.cal_shared.specs.Rest.{IsOneSchedule, bounds_of, overflowed_at, received_at, reclaimed_at, released_at, sent_at}
use Rattle.cal_shared.specs.declared.port_settings.PortSettings.{PortSettings}
use Rattle.cal_shared.specs.declared.resting.PortRest.{PortRest}
use Rattle.cal_program.specs.Outcome.{status_text}
use Rattle.cal_program.specs.ReplyText.{line}
use Rattle.cal_program.specs.Streams.{FailsWithin, PutsAll, SinkState}
use Rattle.cal_program.specs.Words.{◌>>=◌, number_of}
use Rattle.cal_program.specs.Workers.{HasEnded, HasGivenBackAll, HasSeenEnd, open_state, relayed_offsets}
use Rattle.cal_program.specs.declared.relay.RelayOutcome.{RelayOutcome}
use Rattle.cal_program.specs.declared.relay_form.RelayForm.{RelayForm}
use Rattle.cal_program.specs.declared.status.Status.{Status}
use Rattle.cal_program.specs.declared.status.Status.TheVariants.{Done, NoMemory, Usage, WriteFault}

-- ---- words

-- how many offsets may be queued at most, and how many may be sent
abbrev pub buffer_limit : ℕ
buffer_limit = 1024

abbrev pub count_limit : ℕ
count_limit = 1000000

-- two numbers, within the limits
abbrev pub form_of : ℕ → ℕ → Option RelayForm
form_of buffer count =
    if nat_le 1 buffer && nat_le buffer buffer_limit && nat_le count count_limit
    then Some (record { buffer = buffer; count = count })
    else None

abbrev pub numbers_form : List ℕ → List ℕ → Option RelayForm
numbers_form buffer count = do
  buffer ← number_of buffer
  count ← number_of count
  form_of buffer count

-- the word `relay`, and two numbers
abbrev pub named_form : List ℕ → List ℕ → List ℕ → Option RelayForm
named_form word buffer count = if bytes_eq word (codes "relay") then numbers_form buffer count else None

-- what the words ask for, where they are these three
abbrev pub relay_form : List (List ℕ) → Option RelayForm
relay_form (word ∷ buffer ∷ count ∷ []) = named_form word buffer count
relay_form words = None

-- what was asked for is within the limits
pub record IsRelayForm (form : RelayForm) : Type 0 where
  pub some : 1 ≤ form.buffer
  pub buffer : form.buffer ≤ buffer_limit
  pub count : form.count ≤ count_limit

-- ---- what goes over the channel

-- overflow, one borrowed offset, a sample for each offset, one segment and one channel
abbrev pub port_settings : RelayForm → PortSettings
port_settings form = record {
  buffer = form.buffer;
  borrow = 1;
  samples = form.count;
  channels = 1;
  overflow = true;
  segments = 1;
  initial = open_state;
}

abbrev pub relay_settings : RelayForm → ConnectionSettings
relay_settings form = record {
  buffer_size = max form.buffer 1;
  enable_safe_overflow = true;
  max_borrowed_samples = 1;
  number_of_samples = max form.count 1;
  number_of_segments = 1;
  number_of_channels = 1;
}

-- All offsets were sent over the channel of a pair, and then it was closed; what was received was given back, and the
-- receiver saw the channel closed, and then received nothing. The counts are those of what went over it
pub record IsRelayed (form : RelayForm) (sent received returned left : ℕ) : Type 0 where
  pub sender : SendingPort
  pub receiver : ReceivingPort
  pub pair : IsOnePair sender receiver
  pub settings : sender.settings ≡ relay_settings form
  pub all_sent : sent_at sender 0 ≡ relayed_offsets form.count
  pub ended : HasEnded form.count sender
  pub given_back : HasGivenBackAll receiver
  pub seen_end : HasSeenEnd receiver
  pub sent_count : sent ≡ form.count
  pub received_count : received ≡ length (received_at receiver 0)
  pub returned_count : returned ≡ length (overflowed_at sender 0)
  pub adds_up : sent ≡ received + returned + left
  pub partition : IsPartition (sent_at sender 0) (received_at receiver 0) (overflowed_at sender 0)
  pub one_schedule : IsOneSchedule (bounds_of sender.settings) (sent_at sender 0) (overflowed_at sender 0)
      (received_at receiver 0) (released_at receiver 0) (length (reclaimed_at sender 0))

-- ---- what is written

abbrev pub relay_line : ℕ → ℕ → ℕ → ℕ → List ℕ
relay_line sent received returned left =
    line (codes "sent " ++ decimal sent ++ codes " received " ++ decimal received ++ codes " returned "
    ++ decimal returned ++ codes " left " ++ decimal left)

-- the workers ran, and this is what went over their channel
abbrev pub with_counts : Status → PortRest → RelayOutcome
with_counts status all = record {
  status = status;
  sent = all.sent;
  received = all.received;
  returned = all.returned;
  left = all.left;
}

-- the workers didn't run
abbrev pub without_counts : Status → RelayOutcome
without_counts status = record { status = status; sent = 0; received = 0; returned = 0; left = 0 }

-- how a relay of this form ends: its counts are written, or the sink fails within their line, or memory ran out before
-- the workers ran
abbrev pub EndsRelayOf : RelayForm → SinkState → SinkState → RelayOutcome → Type 0
EndsRelayOf form before now outcome = IsEnd outcome.status
  where
    IsEnd : Status → Type 0
    IsEnd Done = IsRelayed form outcome.sent outcome.received outcome.returned outcome.left
        × PutsAll before now (relay_line outcome.sent outcome.received outcome.returned outcome.left)
    IsEnd WriteFault = IsRelayed form outcome.sent outcome.received outcome.returned outcome.left
        × FailsWithin before now (relay_line outcome.sent outcome.received outcome.returned outcome.left)
    IsEnd NoMemory = (outcome ≡ without_counts NoMemory) × (now ≡ before)
    IsEnd other = ⊥

-- how a relay of no form ends: the usage line is written, or the sink fails within it
abbrev pub EndsUsage : SinkState → SinkState → RelayOutcome → Type 0
EndsUsage before now outcome = IsEnd outcome.status
  where
    IsEnd : Status → Type 0
    IsEnd Usage = (outcome ≡ without_counts Usage) × PutsAll before now (status_text None Usage [])
    IsEnd WriteFault = (outcome ≡ without_counts WriteFault) × FailsWithin before now (status_text None Usage [])
    IsEnd other = ⊥

-- how a relay ends
abbrev pub EndsRelay : Option RelayForm → SinkState → SinkState → RelayOutcome → Type 0
EndsRelay None before now outcome = EndsUsage before now outcome
EndsRelay (Some form) before now outcome = EndsRelayOf form before now outcome
