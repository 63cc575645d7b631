-- How often a pair of segment and index is in use on a channel, was sent there and came back, over a run of calls.
use Rattle.std.specs.Prelude.{◌≡◌, ℕ, ◌+◌, ◌/◌, Bool, true, ◌&&◌, ◌==◌, List, [], ◌∷◌, Option, Some, None, if◌then◌else◌}
use Rattle.cal_alloc.specs.PointerOffset.{offset_of, segment_of}
use Rattle.cal_connection.specs.declared.port_call.PortCall.{PortCall}
use Rattle.cal_connection.specs.declared.port_reply.PortReply.{PortReply}
use Rattle.cal_connection.specs.declared.port_reply.PortReply.TheVariants.{Sent, Broken, Reclaimed}
use Rattle.cal_connection.specs.declared.segment_details.SegmentDetails.{SegmentDetails}
use Rattle.cal_connection.specs.Calls.{BothEnds, channel_call, is_on, after_call}
use Rattle.cal_connection.specs.Channel.{is_used, segment_at}
use Rattle.cal_connection.specs.Port.{channel_at}
use Rattle.cal_connection.specs.Traffic.{ChannelCall, sends, receives, releases, reclaims}

-- 1 where it holds, and else 0
abbrev pub one_if : Bool → ℕ
one_if test = if test then 1 else 0

-- how often a pair is in use: once or not at all
abbrev pub times_used : List SegmentDetails → ℕ → ℕ → ℕ
times_used segments segment index = one_if (is_used segments segment index)

-- what is in use in a segment was sent with this size
abbrev pub HasSize : List SegmentDetails → ℕ → ℕ → Type 0
HasSize segments segment sample_size =
    (index : ℕ) → is_used segments segment index ≡ true → (segment_at segments segment).sample_size ≡ sample_size

-- whether a pair is that of an offset: its segment, and the offset divided by the stored sample size of that segment
abbrev pub is_pair_of : List SegmentDetails → ℕ → ℕ → ℕ → Bool
is_pair_of segments pointer segment index =
    segment_of pointer == segment
    && offset_of pointer / (segment_at segments (segment_of pointer)).sample_size == index

abbrev pub times_named : List SegmentDetails → Option ℕ → ℕ → ℕ → ℕ
times_named segments None segment index = 0
times_named segments (Some pointer) segment index = one_if (is_pair_of segments pointer segment index)

-- the offset that came back with a reply, if one did
abbrev pub returned_offset : PortReply → Option ℕ
returned_offset (Sent back) = back
returned_offset (Reclaimed back) = back
returned_offset _ = None

-- the offset that a call sent, by the reply to it
abbrev pub offset_if_sent : ℕ → PortReply → Option ℕ
offset_if_sent pointer (Sent back) = Some pointer
offset_if_sent pointer Broken = Some pointer
offset_if_sent pointer _ = None

abbrev pub sent_offset : ChannelCall → PortReply → Option ℕ
sent_offset (sends pointer sample_size) reply = offset_if_sent pointer reply
sent_offset receives reply = None
sent_offset (releases pointer) reply = None
sent_offset reclaims reply = None

-- the segments of a channel
abbrev pub segments_at : BothEnds → ℕ → List SegmentDetails
segments_at ends channel = (channel_at ends.port channel).segments

module _ (channel segment index : ℕ) where
  -- how often the pair was sent on the channel, by the sample sizes that are stored when each reply is given
  abbrev pub times_sent : BothEnds → List PortCall → List PortReply → ℕ
  times_sent ends [] replies = 0
  times_sent ends (call ∷ calls) [] = 0
  times_sent ends (call ∷ calls) (reply ∷ replies) =
      (if is_on channel call
      then times_named (segments_at (after_call ends call) channel) (sent_offset (channel_call call) reply) segment
      index
      else 0)
      + times_sent (after_call ends call) calls replies

  -- how often it came back there
  abbrev pub times_back : BothEnds → List PortCall → List PortReply → ℕ
  times_back ends [] replies = 0
  times_back ends (call ∷ calls) [] = 0
  times_back ends (call ∷ calls) (reply ∷ replies) =
      (if is_on channel call
      then times_named (segments_at (after_call ends call) channel) (returned_offset reply) segment index
      else 0)
      + times_back (after_call ends call) calls replies
