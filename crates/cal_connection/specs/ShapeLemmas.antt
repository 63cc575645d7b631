-- No call changes how much room a channel has.
use Rattle.std.specs.Prelude.{◌≡◌, ℕ, ◌/◌, Bool, true, false, List, [], ◌∷◌, map, Option, Some, None, slice_set, if◌then◌else◌, refl}
use Rattle.std.proofs.Common.{ap, ◌∙◌}
use Rattle.std.proofs.Math.Seq.{map-set_same}
use Rattle.std.proofs.lemmas.List.{length-replicate, length-set}
use Rattle.cal_alloc.specs.PointerOffset.{offset_of, segment_of}
use Rattle.cal_connection.specs.declared.segment_details.SegmentDetails.{SegmentDetails}
use Rattle.cal_connection.specs.Channel.{Queue, ChannelEntry, Shape, shape, samples_of, capacity_of, no_segment, segment_at, names_used_entry, with_entry, without_entry, after_return, with_used, without_used, is_refused, is_full, is_at_limit, after_send, after_receive, after_release, after_reclaim, after_acquire, emptied, after_pop, after_push, oldest, overflow_of, with_room}

-- ---- used entries

samples-set : (segments : List SegmentDetails) (segment : ℕ) (details : SegmentDetails) →
    samples_of details ≡ samples_of (segment_at segments segment) →
    map samples_of (slice_set segments segment details) ≡ map samples_of segments
samples-set segments segment details same = map-set_same samples_of segments segment details no_segment same

pub samples-with_entry : (segments : List SegmentDetails) (pointer sample_size : ℕ) →
    map samples_of (with_entry segments pointer sample_size) ≡ map samples_of segments
samples-with_entry segments pointer sample_size =
    let details : SegmentDetails = segment_at segments (segment_of pointer) in
    samples-set segments (segment_of pointer) (with_used details sample_size (offset_of pointer / sample_size))
    (length-set details.used.marks (offset_of pointer / sample_size) true)

pub samples-without_entry : (segments : List SegmentDetails) (pointer : ℕ) →
    map samples_of (without_entry segments pointer) ≡ map samples_of segments
samples-without_entry segments pointer =
    let details : SegmentDetails = segment_at segments (segment_of pointer) in
    samples-set segments (segment_of pointer) (without_used details (offset_of pointer))
    (length-set details.used.marks (offset_of pointer / details.sample_size) false)

pub samples-after_return : (segments : List SegmentDetails) (returned : Option ℕ) →
    map samples_of (after_return segments returned) ≡ map samples_of segments
samples-after_return segments None = refl
samples-after_return segments (Some pointer) = by_test (names_used_entry segments pointer)
  where
    by_test : (named : Bool) →
        map samples_of (if named then without_entry segments pointer else segments) ≡ map samples_of segments
    by_test true = samples-without_entry segments pointer
    by_test false = refl

-- ---- queues

capacity-with_room : (full : Bool) (q : Queue) → (if full then after_pop q else q).capacity ≡ q.capacity
capacity-with_room true q = refl
capacity-with_room false q = refl

-- ---- calls

with_parts : ChannelEntry → ℕ → ℕ → List ℕ → Shape
with_parts channel submission completion samples =
    record { submission = submission; completion = completion; samples = samples }

pub shape-after_send : (overflow : Bool) (channel : ChannelEntry) (pointer sample_size : ℕ) →
    shape (after_send overflow channel pointer sample_size) ≡ shape channel
shape-after_send overflow channel pointer sample_size = by_test (is_refused overflow channel)
  where
    sent : ChannelEntry
    sent = record channel {
      submission = after_push (with_room channel.submission) pointer;
      segments = after_return (with_entry channel.segments pointer sample_size) (overflow_of channel.submission);
    }

    by_test : (refused : Bool) → shape (if refused then channel else record channel {
      submission = after_push (with_room channel.submission) pointer;
      segments = after_return (with_entry channel.segments pointer sample_size) (overflow_of channel.submission);
    }) ≡ shape channel
    by_test true = refl
    by_test false =
        ap (λ c. record {
          submission = c;
          completion = channel.completion.capacity;
          samples = map samples_of
              (after_return (with_entry channel.segments pointer sample_size) (overflow_of channel.submission));
        })
        (capacity-with_room (is_full channel.submission) channel.submission)
        ∙ ap (λ s. record {
          submission = channel.submission.capacity;
          completion = channel.completion.capacity;
          samples = s;
        })
        (samples-after_return (with_entry channel.segments pointer sample_size) (overflow_of channel.submission)
        ∙ samples-with_entry channel.segments pointer sample_size)

pub shape-after_receive : (limit count : ℕ) (channel : ChannelEntry) →
    shape (after_receive limit count channel) ≡ shape channel
shape-after_receive limit count channel = by_test (is_at_limit limit count)
  where
    by_test : (at_limit : Bool) →
        shape (if at_limit then channel else record channel { submission = after_pop channel.submission }) ≡
        shape channel
    by_test true = refl
    by_test false = refl

pub shape-after_release : (channel : ChannelEntry) (pointer : ℕ) → shape (after_release channel pointer) ≡ shape channel
shape-after_release channel pointer = by_test (is_full channel.completion)
  where
    by_test : (full : Bool) →
        shape (if full then channel else record channel { completion = after_push channel.completion pointer }) ≡
        shape channel
    by_test true = refl
    by_test false = refl

pub shape-after_reclaim : (channel : ChannelEntry) → shape (after_reclaim channel) ≡ shape channel
shape-after_reclaim channel =
    ap (λ s. record { submission = channel.submission.capacity; completion = channel.completion.capacity; samples = s })
    (samples-after_return channel.segments (oldest channel.completion))

pub shape-after_acquire : (channel : ChannelEntry) → shape (after_acquire channel) ≡ shape channel
shape-after_acquire channel =
    ap (λ s. record { submission = channel.submission.capacity; completion = channel.completion.capacity; samples = s })
    (same channel.segments)
  where
    same : (segments : List SegmentDetails) → map samples_of (map emptied segments) ≡ map samples_of segments
    same [] = refl
    same (details ∷ rest) =
        ap (λ n. n ∷ map samples_of (map emptied rest)) (length-replicate (capacity_of details.used) false)
        ∙ ap (λ xs. samples_of details ∷ xs) (same rest)
