-- What the calls of a sender do on one channel: the steps that they take at its rings, what they answer by these, and
-- what becomes of the samples in use.
use Rattle.std.specs.Prelude.{◌≡◌, ◌≢◌, ℕ, ◌+◌, ◌-◌, ◌/◌, ◌%◌, ◌^◌, ◌<◌, ◌↔◌, Bool, false, List, [], length, map, slice_get, unwrap_or, Option, Result, Ok, Err}
use Rattle.cal_alloc.specs.PointerOffset.{offset_of, segment_of}
use Rattle.cal_queue.specs.SubmissionCalls.{IsPush}
use Rattle.cal_queue.specs.SubmissionPass.{after_read_load}
use Rattle.cal_queue.specs.CompletionCalls as completion
use Rattle.cal_queue.specs.declared.push_refusal.PushRefusal.{PushRefusal}
use Rattle.cal_queue.specs.declared.push_refusal.PushRefusal.TheVariants as refusal
use Rattle.cal_connection.specs.Channel.{after_return, is_used, return_answer, with_entry}
use Rattle.cal_connection.specs.declared.errors.ZeroCopyReclaimError.{ZeroCopyReclaimError}
use Rattle.cal_connection.specs.declared.errors.ZeroCopyReclaimError.TheVariants.{ReceiverReturnedCorruptedPointerOffset}
use Rattle.cal_connection.specs.declared.errors.ZeroCopySendError.{ZeroCopySendError}
use Rattle.cal_connection.specs.declared.errors.ZeroCopySendError.TheVariants.{ConnectionCorrupted, PositionsUsedUp, ReceiveBufferFull}
use Rattle.cal_connection.specs.declared.segment_details.SegmentDetails.{SegmentDetails}
use Rattle.cal_connection.specs.declared.settings.ConnectionSettings.{ConnectionSettings}
use Rattle.cal_shared.specs.Channels.{KeepsSendingRoom, SendingChannel}
use Rattle.cal_shared.specs.Port.{SendingPort}

-- ---- what is in use

-- the samples in use and their sizes, by the numbers of the channels and of the segments
abbrev pub used_samples : SendingPort → List (List SegmentDetails)
used_samples port = map (λ (channel : SendingChannel). channel.segments) port.channels

-- an absent channel has no segment
abbrev pub segments_at : SendingPort → ℕ → List SegmentDetails
segments_at port channel = unwrap_or (slice_get (used_samples port) channel) []

-- whether the sample of an offset is in use on a channel
abbrev pub is_in_use : SendingPort → ℕ → ℕ → ℕ → Bool
is_in_use port channel pointer sample_size =
    is_used (segments_at port channel) (segment_of pointer) (offset_of pointer / sample_size)

-- an offset and a sample size are within the settings, and the channel is there
pub record IsWithin (settings : ConnectionSettings) (channel pointer sample_size : ℕ) : Type 0 where
  pub there : channel < settings.number_of_channels
  pub size : 0 < sample_size
  pub divides : offset_of pointer % sample_size ≡ 0
  pub segment : segment_of pointer < settings.number_of_segments
  pub index : offset_of pointer / sample_size < settings.number_of_samples

-- an offset may be sent: it is within the settings, and its sample isn't in use on the channel
pub record IsSendable (port : SendingPort) (channel pointer sample_size : ℕ) : Type 0 where
  pub within : IsWithin port.settings channel pointer sample_size
  pub unused : is_in_use port channel pointer sample_size ≡ false

-- ---- send

abbrev pub send_error : PushRefusal → ZeroCopySendError
send_error refusal.Full = ReceiveBufferFull
send_error refusal.PositionsUsedUp = PositionsUsedUp

-- what is answered where the submission ring answered this. What overflowed is judged by the sizes as they then are
abbrev pub send_answer : List SegmentDetails → ℕ → ℕ → Result (Option ℕ) PushRefusal →
    Result (Option ℕ) ZeroCopySendError
send_answer segments pointer sample_size (Ok back) =
    return_answer ConnectionCorrupted (with_entry segments pointer sample_size) back
send_answer segments pointer sample_size (Err refused) = Err (send_error refused)

-- the own sample is in use then, with its size, and the one that overflowed isn't; a refusal leaves all as it was
abbrev pub segments_after_send : List SegmentDetails → ℕ → ℕ → Result (Option ℕ) PushRefusal → List SegmentDetails
segments_after_send segments pointer sample_size (Ok back) = after_return (with_entry segments pointer sample_size) back
segments_after_send segments pointer sample_size (Err refused) = segments

-- one push into the submission ring
pub record TriesToSend (overflow : Bool) (pointer sample_size : ℕ) (answer : Result (Option ℕ) ZeroCopySendError)
    (before after : SendingChannel) : Type 0 where
  pub pushed : Result (Option ℕ) PushRefusal
  pub push : IsPush overflow pointer pushed before.submission after.submission
  pub used_up : (pushed ≡ Err refusal.PositionsUsedUp) ↔ (length before.submission.sent ≡ 2 ^ 64 - 1)
  pub answers : answer ≡ send_answer before.segments pointer sample_size pushed
  pub segments : after.segments ≡ segments_after_send before.segments pointer sample_size pushed
  pub completion : after.completion ≡ before.completion
  pub room : KeepsSendingRoom before after

-- one look at the read position of the submission ring, which isn't full by it, or is
pub record SeesRoom (before after : SendingChannel) : Type 0 where
  pub position : ℕ
  pub room : length before.submission.sent ≢ position + before.submission.buffer
  pub step : after ≡ record before { submission = after_read_load position before.submission }

pub record SeesFull (before after : SendingChannel) : Type 0 where
  pub position : ℕ
  pub full : length before.submission.sent ≡ position + before.submission.buffer
  pub step : after ≡ record before { submission = after_read_load position before.submission }

-- ---- reclaim

-- one pop from the completion ring. What came back is taken out of use where it names a sample in use, and is refused
-- where it names none
pub record Reclaims (answer : Result (Option ℕ) ZeroCopyReclaimError) (before after : SendingChannel) : Type 0 where
  pub popped : Option ℕ
  pub pop : completion.IsPop popped before.completion after.completion
  pub answers : answer ≡ return_answer ReceiverReturnedCorruptedPointerOffset before.segments popped
  pub segments : after.segments ≡ after_return before.segments popped
  pub submission : after.submission ≡ before.submission
  pub room : KeepsSendingRoom before after
