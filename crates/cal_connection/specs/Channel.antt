-- A channel of a connection, what each call answers of it and what it leaves. A call looks at its own channel alone.
use Rattle.std.specs.Prelude.{ℕ, ◌+◌, ◌-◌, ◌/◌, ◌%◌, Bool, not, ◌&&◌, ◌==◌, nat_le, List, map, replicate, Option, Some, None, Result, Ok, Err, slice_index_or, slice_set, if◌then◌else◌}
use Rattle.cal_alloc.specs.PointerOffset.{offset_of, segment_of}
pub use Rattle.cal_queue.specs.Queue.{Queue, empty, is_empty, is_full, oldest, after_pop, after_push, overflow_of, with_room}
pub use Rattle.cal_queue.specs.UsedChunks.{UsedChunks, capacity_of, contains, after_insertion, after_removal, none_used}
use Rattle.cal_connection.specs.declared.segment_details.SegmentDetails.{SegmentDetails}
use Rattle.cal_connection.specs.declared.settings.ConnectionSettings.{ConnectionSettings}
use Rattle.cal_connection.specs.Settings.{completion_size}
use Rattle.cal_connection.specs.declared.errors.ZeroCopySendError.{ZeroCopySendError}
use Rattle.cal_connection.specs.declared.errors.ZeroCopySendError.TheVariants.{ReceiveBufferFull, ConnectionCorrupted}
use Rattle.cal_connection.specs.declared.errors.ZeroCopyReceiveError.{ZeroCopyReceiveError}
use Rattle.cal_connection.specs.declared.errors.ZeroCopyReceiveError.TheVariants.{ReceiveWouldExceedMaxBorrowValue}
use Rattle.cal_connection.specs.declared.errors.ZeroCopyReclaimError.{ZeroCopyReclaimError}
use Rattle.cal_connection.specs.declared.errors.ZeroCopyReclaimError.TheVariants.{ReceiverReturnedCorruptedPointerOffset}
use Rattle.cal_connection.specs.declared.errors.ZeroCopyReleaseError.{ZeroCopyReleaseError}
use Rattle.cal_connection.specs.declared.errors.ZeroCopyReleaseError.TheVariants.{RetrieveBufferFull}

-- the offsets that are queued and those that the receiver returned, the used entries and the sample size of each
-- segment, and
-- the word
pub record ChannelEntry : Type 0 where
  pub submission : Queue
  pub completion : Queue
  pub segments : List SegmentDetails
  pub word : ℕ

-- ---- used entries

-- an absent segment has no sample, and the sample size 0
abbrev pub no_segment : SegmentDetails
no_segment = record { used = none_used 0; sample_size = 0 }

abbrev pub segment_at : List SegmentDetails → ℕ → SegmentDetails
segment_at segments segment = slice_index_or segments segment no_segment

-- whether the sample of this index is in use
abbrev pub is_used : List SegmentDetails → ℕ → ℕ → Bool
is_used segments segment index = contains (segment_at segments segment).used index

-- an offset in bytes names a used entry of its segment where the stored sample size divides it, and the index is in use
abbrev pub names_used : SegmentDetails → ℕ → Bool
names_used details offset =
    not (details.sample_size == 0)
    && offset % details.sample_size == 0
    && contains details.used (offset / details.sample_size)

abbrev pub names_used_entry : List SegmentDetails → ℕ → Bool
names_used_entry segments pointer = names_used (segment_at segments (segment_of pointer)) (offset_of pointer)

-- a segment whose entry was taken back: the index that the offset names isn't in use
abbrev pub without_used : SegmentDetails → ℕ → SegmentDetails
without_used details offset = record details { used = after_removal details.used (offset / details.sample_size) }

abbrev pub without_entry : List SegmentDetails → ℕ → List SegmentDetails
without_entry segments pointer =
    slice_set segments (segment_of pointer)
    (without_used (segment_at segments (segment_of pointer)) (offset_of pointer))

-- what came back is taken out where it names a used entry
abbrev pub after_return : List SegmentDetails → Option ℕ → List SegmentDetails
after_return segments None = segments
after_return segments (Some pointer) =
    if names_used_entry segments pointer then without_entry segments pointer else segments

-- what is said of what came back: it is given back where it names a used entry
abbrev pub return_answer : {E : Type 0} → E → List SegmentDetails → Option ℕ → Result (Option ℕ) E
return_answer error segments None = Ok None
return_answer error segments (Some pointer) =
    if names_used_entry segments pointer then Ok (Some pointer) else Err error

-- a sample of this size is in use, and the segment's samples have this size from then on
abbrev pub with_used : SegmentDetails → ℕ → ℕ → SegmentDetails
with_used details sample_size index = record { used = after_insertion details.used index; sample_size = sample_size }

abbrev pub with_entry : List SegmentDetails → ℕ → ℕ → List SegmentDetails
with_entry segments pointer sample_size =
    slice_set segments (segment_of pointer)
    (with_used (segment_at segments (segment_of pointer)) sample_size (offset_of pointer / sample_size))

-- ---- send

-- there is no room, and no offset may leave for another
abbrev pub is_refused : Bool → ChannelEntry → Bool
is_refused overflow channel = not overflow && is_full channel.submission

abbrev pub send_answer : Bool → ChannelEntry → ℕ → ℕ → Result (Option ℕ) ZeroCopySendError
send_answer overflow channel pointer sample_size =
    if is_refused overflow channel then Err ReceiveBufferFull
    else return_answer ConnectionCorrupted (with_entry channel.segments pointer sample_size)
    (overflow_of channel.submission)

-- the offset is in use and queued as the last, and the oldest leaves a full queue and is judged by the sizes as they
-- now are
abbrev pub after_send : Bool → ChannelEntry → ℕ → ℕ → ChannelEntry
after_send overflow channel pointer sample_size =
    if is_refused overflow channel then channel
    else record channel {
      submission = after_push (with_room channel.submission) pointer;
      segments = after_return (with_entry channel.segments pointer sample_size) (overflow_of channel.submission);
    }

-- ---- receive

abbrev pub is_at_limit : ℕ → ℕ → Bool
is_at_limit limit count = nat_le limit count

abbrev pub receive_answer : ℕ → ℕ → ChannelEntry → Result (Option ℕ) ZeroCopyReceiveError
receive_answer limit count channel =
    if is_at_limit limit count then Err ReceiveWouldExceedMaxBorrowValue else Ok (oldest channel.submission)

abbrev pub after_receive : ℕ → ℕ → ChannelEntry → ChannelEntry
after_receive limit count channel =
    if is_at_limit limit count then channel else record channel { submission = after_pop channel.submission }

-- how many offsets are borrowed after a receive with this answer
abbrev pub count_after_receive : Result (Option ℕ) ZeroCopyReceiveError → ℕ → ℕ
count_after_receive (Err error) count = count
count_after_receive (Ok None) count = count
count_after_receive (Ok (Some pointer)) count = count + 1

-- ---- release

abbrev pub release_answer : ChannelEntry → Result (Unit {0}) ZeroCopyReleaseError
release_answer channel = if is_full channel.completion then Err RetrieveBufferFull else Ok tt

abbrev pub after_release : ChannelEntry → ℕ → ChannelEntry
after_release channel pointer =
    if is_full channel.completion then channel
    else record channel { completion = after_push channel.completion pointer }

abbrev pub count_after_release : Result (Unit {0}) ZeroCopyReleaseError → ℕ → ℕ
count_after_release (Err error) count = count
count_after_release (Ok done) count = count - 1

-- ---- reclaim

abbrev pub reclaim_answer : ChannelEntry → Result (Option ℕ) ZeroCopyReclaimError
reclaim_answer channel =
    return_answer ReceiverReturnedCorruptedPointerOffset channel.segments (oldest channel.completion)

-- the oldest leaves the completion queue, and is taken out of the used entries where it names one
abbrev pub after_reclaim : ChannelEntry → ChannelEntry
after_reclaim channel = record channel {
  completion = after_pop channel.completion;
  segments = after_return channel.segments (oldest channel.completion);
}

-- ---- other changes

abbrev pub with_word : ChannelEntry → ℕ → ChannelEntry
with_word channel word = record channel { word = word }

-- a segment of which no sample is in use; its sample size stays
abbrev pub emptied : SegmentDetails → SegmentDetails
emptied details = record details { used = none_used (capacity_of details.used) }

-- no sample of a channel is in use; its queues stay
abbrev pub after_acquire : ChannelEntry → ChannelEntry
after_acquire channel = record channel { segments = map emptied channel.segments }

-- ---- what a channel is made with

abbrev pub new_segment : ConnectionSettings → SegmentDetails
new_segment settings = record { used = none_used settings.number_of_samples; sample_size = 0 }

abbrev pub new_channel : ConnectionSettings → ℕ → ChannelEntry
new_channel settings word = record {
  submission = empty settings.buffer_size;
  completion = empty (completion_size settings);
  segments = replicate settings.number_of_segments (new_segment settings);
  word = word;
}

-- how much room a channel has: in its queues, and for the used entries of each segment
pub record Shape : Type 0 where
  pub submission : ℕ
  pub completion : ℕ
  pub samples : List ℕ

abbrev pub samples_of : SegmentDetails → ℕ
samples_of details = capacity_of details.used

abbrev pub shape : ChannelEntry → Shape
shape channel = record {
  submission = channel.submission.capacity;
  completion = channel.completion.capacity;
  samples = map samples_of channel.segments;
}

abbrev pub shape_of : ConnectionSettings → Shape
shape_of settings = record {
  submission = settings.buffer_size;
  completion = completion_size settings;
  samples = replicate settings.number_of_segments settings.number_of_samples;
}
