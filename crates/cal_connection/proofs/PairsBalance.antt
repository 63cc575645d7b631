-- On each channel the pairs in use after calls, with each that came back, are those before with each that was sent.
use Rattle.std.proofs.Common.{◌≡◌, ℕ, ◌+◌, ◌/◌, ◌<◌, ◌≤◌, Bool, true, false, ◌&&◌, ◌==◌, List, [], ◌∷◌, length, Option, Some, None, Result, Ok, Err, refl, sym, ap, ◌∙◌, subst, inl, inr, arith}
use Rattle.std.specs.Prelude.{◌%◌, not, nat_lt, if◌then◌else◌}
use Rattle.std.proofs.lemmas.Bool.{cond-true, cond-false, and_parts, ltb-true, not-true}
use Rattle.std.proofs.lemmas.Bool.Decides.{eqb_tells}
use Rattle.cal_alloc.specs.PointerOffset.{offset_of, segment_of}
use Rattle.cal_connection.specs.declared.errors.ZeroCopySendError.{ZeroCopySendError}
use Rattle.cal_connection.specs.declared.errors.ZeroCopySendError.TheVariants.{ReceiveBufferFull, ConnectionCorrupted}
use Rattle.cal_connection.specs.declared.errors.ZeroCopyReceiveError.{ZeroCopyReceiveError}
use Rattle.cal_connection.specs.declared.errors.ZeroCopyReclaimError.{ZeroCopyReclaimError}
use Rattle.cal_connection.specs.declared.errors.ZeroCopyReclaimError.TheVariants.{ReceiverReturnedCorruptedPointerOffset}
use Rattle.cal_connection.specs.declared.errors.ZeroCopyReleaseError.{ZeroCopyReleaseError}
use Rattle.cal_connection.specs.declared.port_call.PortCall.{PortCall}
use Rattle.cal_connection.specs.declared.port_reply.PortReply.{PortReply}
use Rattle.cal_connection.specs.declared.port_reply.PortReply.TheVariants.{Unsuited}
use Rattle.cal_connection.specs.declared.segment_details.SegmentDetails.{SegmentDetails}
use Rattle.cal_connection.specs.declared.settings.ConnectionSettings.{ConnectionSettings}
use Rattle.cal_connection.specs.Calls.{BothEnds, IsSoundPair, side_at, called_channel, channel_call, is_suited_on, is_free_sample, serves_call, side_left, reply_on, sent_reply, received_reply, released_reply, reclaimed_reply, suited_reply, reply_to, after_call, replies_to, after_calls, is_on}
use Rattle.cal_connection.specs.Channel.{capacity_of, segment_at, is_used, with_entry, after_return, return_answer, is_refused, is_full, is_at_limit, after_push, after_pop, with_room, overflow_of, oldest, receive_answer, release_answer, count_after_receive, count_after_release}
use Rattle.cal_connection.specs.PortLemmas.{length-segments, samples-segment_at}
use Rattle.cal_connection.specs.Traffic.{ChannelCall, sends, receives, releases, reclaims, Side, side_after}
use Rattle.cal_connection.specs.UsedPairs.{one_if, times_used, times_named, returned_offset, offset_if_sent, sent_offset, segments_at, times_sent, times_back}
use Rattle.cal_connection.proofs.BothEnds.{side_at-after_call-same, side_at-after_call-other, IsSoundPair-after_call}
use Rattle.cal_connection.specs.UsedPairLemmas.{entered_pair, returned_pair, size-after_return, given_back}

-- ---- what a reply tells

returned-sent : (answer : Result (Option ℕ) ZeroCopySendError) →
    returned_offset (sent_reply answer) ≡ given_back answer
returned-sent (Ok back) = refl
returned-sent (Err ReceiveBufferFull) = refl
returned-sent (Err _) = refl

returned-received : (answer : Result (Option ℕ) ZeroCopyReceiveError) →
    returned_offset (received_reply answer) ≡ None
returned-received (Ok taken) = refl
returned-received (Err error) = refl

returned-released : (answer : Result (Unit {0}) ZeroCopyReleaseError) →
    returned_offset (released_reply answer) ≡ None
returned-released (Ok done) = refl
returned-released (Err error) = refl

returned-reclaimed : (answer : Result (Option ℕ) ZeroCopyReclaimError) →
    returned_offset (reclaimed_reply answer) ≡ given_back answer
returned-reclaimed (Ok back) = refl
returned-reclaimed (Err error) = refl

-- what was queued was sent, whatever left for it
sent-queued : (pointer : ℕ) (segments : List SegmentDetails) (left : Option ℕ) →
    offset_if_sent pointer (sent_reply (return_answer ConnectionCorrupted segments left)) ≡ Some pointer
sent-queued pointer segments None = refl
sent-queued pointer segments (Some other) = by_test _
  where
    by_test : (named : Bool) →
        offset_if_sent pointer (sent_reply (if named then Ok (Some other) else Err ConnectionCorrupted)) ≡ Some pointer
    by_test true = refl
    by_test false = refl

sent-unsuited : (asked : ChannelCall) → sent_offset asked Unsuited ≡ None
sent-unsuited (sends pointer sample_size) = refl
sent-unsuited receives = refl
sent-unsuited (releases pointer) = refl
sent-unsuited reclaims = refl

-- ---- one call

module _ (segment index : ℕ) where
  -- the pairs in use after a call, with what came back, are those before with what was sent
  abbrev Balanced : Side → Side → ChannelCall → PortReply → Type 0
  Balanced before after asked reply =
      times_used after.channel.segments segment index
      + times_named after.channel.segments (returned_offset reply) segment index
      ≡ times_used before.channel.segments segment index
      + times_named after.channel.segments (sent_offset asked reply) segment index

  module _ (side : Side) where
    -- where no pair changes, and none is told
    unmoved : (reply : PortReply) → returned_offset reply ≡ None →
        times_used side.channel.segments segment index
        + times_named side.channel.segments (returned_offset reply) segment index
        ≡ times_used side.channel.segments segment index + times_named side.channel.segments None segment index
    unmoved reply none =
        ap (λ o. times_used side.channel.segments segment index
        + times_named side.channel.segments o segment index) none

    balanced_receive : (at_limit : Bool) (count : ℕ) (answer : Result (Option ℕ) ZeroCopyReceiveError) →
        (let after : Side = record {
          channel = if at_limit then side.channel
              else record side.channel { submission = after_pop side.channel.submission };
          count = count;
        } in
        Balanced side after receives (received_reply answer))
    balanced_receive true count answer = unmoved (received_reply answer) (returned-received answer)
    balanced_receive false count answer = unmoved (received_reply answer) (returned-received answer)

    balanced_release : (full : Bool) (pointer count : ℕ) (answer : Result (Unit {0}) ZeroCopyReleaseError) →
        (let after : Side = record {
          channel = if full then side.channel
              else record side.channel { completion = after_push side.channel.completion pointer };
          count = count;
        } in
        Balanced side after (releases pointer) (released_reply answer))
    balanced_release true pointer count answer = unmoved (released_reply answer) (returned-released answer)
    balanced_release false pointer count answer = unmoved (released_reply answer) (returned-released answer)

    balanced_reclaim : Balanced side (side_after true 0 side reclaims) reclaims
        (reclaimed_reply (return_answer ReceiverReturnedCorruptedPointerOffset side.channel.segments
        (oldest side.channel.completion)))
    balanced_reclaim =
        let after : List SegmentDetails = after_return side.channel.segments (oldest side.channel.completion) in
        let answer : Result (Option ℕ) ZeroCopyReclaimError =
        return_answer ReceiverReturnedCorruptedPointerOffset side.channel.segments (oldest side.channel.completion) in
        ap (λ o. times_used after segment index + times_named after o segment index) (returned-reclaimed answer)
        ∙ returned_pair side.channel.segments ReceiverReturnedCorruptedPointerOffset segment index
        (oldest side.channel.completion)
        ∙ none (times_used side.channel.segments segment index)
      where
        none : (n : ℕ) → n ≡ n + 0
        none n = omega arith

    module _ (pointer sample_size : ℕ) where
      abbrev queued : List SegmentDetails
      queued = with_entry side.channel.segments pointer sample_size

      -- a send that puts its pair into use, whatever leaves the queue for it
      balanced_queued : (left : Option ℕ) →
          times_used queued segment index
          ≡ times_used side.channel.segments segment index + times_named queued (Some pointer) segment index →
          (let after : List SegmentDetails = after_return queued left in
          let reply : PortReply = sent_reply (return_answer ConnectionCorrupted queued left) in
          times_used after segment index + times_named after (returned_offset reply) segment index
          ≡ times_used side.channel.segments segment index
          + times_named after (offset_if_sent pointer reply) segment index)
      balanced_queued left entered =
          let after : List SegmentDetails = after_return queued left in
          let answer : Result (Option ℕ) ZeroCopySendError = return_answer ConnectionCorrupted queued left in
          let before : ℕ = times_used side.channel.segments segment index in
          let named : times_named after (Some pointer) segment index
          ≡ times_named queued (Some pointer) segment index =
          ap (λ size. one_if (segment_of pointer == segment && offset_of pointer / size == index))
          (size-after_return queued left (segment_of pointer)) in
          ap (λ o. times_used after segment index + times_named after o segment index) (returned-sent answer)
          ∙ returned_pair queued ConnectionCorrupted segment index left
          ∙ entered
          ∙ ap (λ n. before + n) (sym named)
          ∙ ap (λ o. before + times_named after o segment index) (sym (sent-queued pointer queued left))

      balanced_send : (refused : Bool) →
          times_used queued segment index
          ≡ times_used side.channel.segments segment index + times_named queued (Some pointer) segment index →
          (let after : Side = record side {
            channel = if refused then side.channel else record side.channel {
              submission = after_push (with_room side.channel.submission) pointer;
              segments = after_return queued (overflow_of side.channel.submission);
            };
          } in
          let answer : Result (Option ℕ) ZeroCopySendError =
          if refused then Err ReceiveBufferFull
          else return_answer ConnectionCorrupted queued (overflow_of side.channel.submission) in
          Balanced side after (sends pointer sample_size) (sent_reply answer))
      balanced_send true entered = refl
      balanced_send false entered = balanced_queued (overflow_of side.channel.submission) entered

-- ---- a call that finds room

-- a channel has the segments and samples of the settings
record HasRoom (settings : ConnectionSettings) (side : Side) : Type 0 where
  segments : length side.channel.segments ≡ settings.number_of_segments
  samples : (segment : ℕ) → segment < settings.number_of_segments →
      capacity_of (segment_at side.channel.segments segment).used ≡ settings.number_of_samples

module _ (settings : ConnectionSettings) (side : Side) (room : HasRoom settings side) (segment index : ℕ) where
  entered : (pointer sample_size : ℕ) →
      is_free_sample settings side.channel.segments pointer sample_size ≡ true →
      times_used (with_entry side.channel.segments pointer sample_size) segment index
      ≡ times_used side.channel.segments segment index
      + times_named (with_entry side.channel.segments pointer sample_size) (Some pointer) segment index
  entered pointer sample_size free =
      let place : ℕ = offset_of pointer / sample_size in
      let sized : Bool = nat_lt 0 sample_size && offset_of pointer % sample_size == 0 in
      let in_segments : Bool = nat_lt (segment_of pointer) settings.number_of_segments in
      let in_samples : Bool = nat_lt place settings.number_of_samples in
      let used : Bool = is_used side.channel.segments (segment_of pointer) place in
      let all = and_parts (sized && in_segments && in_samples) (not used) free in
      let within = and_parts (sized && in_segments) in_samples all.0 in
      let of_segment = and_parts sized in_segments within.0 in
      let there : segment_of pointer < settings.number_of_segments =
      ltb-true (segment_of pointer) settings.number_of_segments of_segment.1 in
      entered_pair side.channel.segments pointer sample_size
      (subst (λ n. segment_of pointer < n) (sym room.segments) there)
      (subst (λ n. place < n) (sym (room.samples (segment_of pointer) there))
      (ltb-true place settings.number_of_samples within.1))
      (not-true used all.1) segment index

  balanced_suited : (asked : ChannelCall) → serves_call settings side asked ≡ true →
      Balanced segment index side
      (side_after settings.enable_safe_overflow settings.max_borrowed_samples side asked) asked
      (suited_reply settings side asked)
  balanced_suited (sends pointer sample_size) serves =
      balanced_send segment index side pointer sample_size
      (is_refused settings.enable_safe_overflow side.channel) (entered pointer sample_size serves)
  balanced_suited receives serves =
      balanced_receive segment index side (is_at_limit settings.max_borrowed_samples side.count)
      (count_after_receive (receive_answer settings.max_borrowed_samples side.count side.channel) side.count)
      (receive_answer settings.max_borrowed_samples side.count side.channel)
  balanced_suited (releases pointer) serves =
      balanced_release segment index side (is_full side.channel.completion) pointer
      (count_after_release (release_answer side.channel) side.count) (release_answer side.channel)
  balanced_suited reclaims serves = balanced_reclaim segment index side

-- a call, whether or not its condition holds
balanced_left : (settings : ConnectionSettings) (channel : ℕ) (side : Side) (asked : ChannelCall) (segment index : ℕ) →
    (channel < settings.number_of_channels → HasRoom settings side) →
    Balanced segment index side (side_left settings channel side asked) asked (reply_on settings channel side asked)
balanced_left settings channel side asked segment index room =
    by_test (is_suited_on settings channel side asked) (λ suits.
    let both = and_parts (nat_lt channel settings.number_of_channels) (serves_call settings side asked) suits in
    balanced_suited settings side (room (ltb-true channel settings.number_of_channels both.0)) segment index asked
    both.1)
  where
    by_test : (suits : Bool) →
        (suits ≡ true →
        Balanced segment index side
        (side_after settings.enable_safe_overflow settings.max_borrowed_samples side asked) asked
        (suited_reply settings side asked)) →
        (let after : Side = if suits
        then side_after settings.enable_safe_overflow settings.max_borrowed_samples side asked else side in
        let reply : PortReply = if suits then suited_reply settings side asked else Unsuited in
        Balanced segment index side after asked reply)
    by_test true good = good refl
    by_test false good =
        ap (λ o. times_used side.channel.segments segment index
        + times_named side.channel.segments o segment index) (sym (sent-unsuited asked))

-- ---- any calls

module _ (channel segment index : ℕ) where
  module _ (ends : BothEnds) (call : PortCall) (sound : IsSoundPair ends) where
    -- a call on the channel
    balanced_own : called_channel call ≡ channel →
        Balanced segment index (side_at ends channel) (side_at (after_call ends call) channel) (channel_call call)
        (reply_to ends call)
    balanced_own names =
        subst (λ c. Balanced segment index (side_at ends c) (side_at (after_call ends call) c) (channel_call call)
        (reply_to ends call)) names
        (subst (λ after. Balanced segment index (side_at ends (called_channel call)) after (channel_call call)
        (reply_to ends call)) (sym (side_at-after_call-same ends call sound))
        (balanced_left ends.port.settings (called_channel call) (side_at ends (called_channel call))
        (channel_call call) segment index
        (λ there. record {
          segments = length-segments ends.port sound.sound (called_channel call) there;
          samples = λ s below. samples-segment_at ends.port sound.sound (called_channel call) s there below;
        })))

  -- what the first call adds to what the others do
  added : (after back_later middle back before sent sent_later first_back first_sent : ℕ) →
      first_back ≡ back → first_sent ≡ sent → after + back_later ≡ middle + sent_later →
      middle + back ≡ before + sent → after + (first_back + back_later) ≡ before + (first_sent + sent_later)
  added after back_later middle back before sent sent_later first_back first_sent b s later first = omega arith

  pub balanced_calls : (ends : BothEnds) (calls : List PortCall) → IsSoundPair ends →
      times_used (segments_at (after_calls ends calls) channel) segment index
      + times_back channel segment index ends calls (replies_to ends calls)
      ≡ times_used (segments_at ends channel) segment index
      + times_sent channel segment index ends calls (replies_to ends calls)
  balanced_calls ends [] sound = refl
  balanced_calls ends (call ∷ calls) sound =
      let next : BothEnds = after_call ends call in
      let reply : PortReply = reply_to ends call in
      let segments : List SegmentDetails = segments_at next channel in
      let back : ℕ = times_named segments (returned_offset reply) segment index in
      let sent : ℕ = times_named segments (sent_offset (channel_call call) reply) segment index in
      let later = balanced_calls next calls (IsSoundPair-after_call ends call sound) in
      elim (eqb_tells (called_channel call) channel) [
        | inl here ↦
            added (times_used (segments_at (after_calls next calls) channel) segment index)
            (times_back channel segment index next calls (replies_to next calls))
            (times_used segments segment index) back (times_used (segments_at ends channel) segment index) sent
            (times_sent channel segment index next calls (replies_to next calls))
            (if is_on channel call then back else 0) (if is_on channel call then sent else 0)
            (cond-true (is_on channel call) back 0 here.0) (cond-true (is_on channel call) sent 0 here.0) later
            (balanced_own ends call sound here.1)
        | inr elsewhere ↦
            added (times_used (segments_at (after_calls next calls) channel) segment index)
            (times_back channel segment index next calls (replies_to next calls))
            (times_used segments segment index) 0 (times_used (segments_at ends channel) segment index) 0
            (times_sent channel segment index next calls (replies_to next calls))
            (if is_on channel call then back else 0) (if is_on channel call then sent else 0)
            (cond-false (is_on channel call) back 0 elsewhere.0) (cond-false (is_on channel call) sent 0 elsewhere.0)
            later
            (ap (λ (side : Side). times_used side.channel.segments segment index + 0)
            (side_at-after_call-other ends call channel elsewhere.1))
      ]

-- what came back was in use or sent
pub part_of_sum : (used back all : ℕ) → used + back ≡ all → back ≤ all
part_of_sum used back all is = omega arith
