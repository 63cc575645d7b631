-- A channel shows what went over it, over any calls.
use Rattle.std.specs.Prelude.{◌≡◌, ℕ, ◌+◌, ◌-◌, ◌≤◌, ◌<◌, ◌==◌, Bool, true, false, List, [], ◌∷◌, ◌++◌, length, drop, slice_get, Option, Result, Ok, Err, if◌then◌else◌}
use Rattle.std.proofs.Common.{refl, sym, ap, ◌∙◌, arith}
use Rattle.std.proofs.lemmas.Bool.Decides.{nat_tests}
use Rattle.std.proofs.lemmas.List.{drop-append-le, drop-drop, length-append, length-drop}
use Rattle.cal_connection.specs.declared.segment_details.SegmentDetails.{SegmentDetails}
use Rattle.cal_connection.specs.declared.errors.ZeroCopyReceiveError.{ZeroCopyReceiveError}
use Rattle.cal_connection.specs.declared.errors.ZeroCopyReceiveError.TheVariants.{ReceiveWouldExceedMaxBorrowValue}
use Rattle.cal_connection.specs.declared.errors.ZeroCopyReleaseError.{ZeroCopyReleaseError}
use Rattle.cal_connection.specs.declared.errors.ZeroCopyReleaseError.TheVariants.{RetrieveBufferFull}
use Rattle.cal_connection.specs.declared.settings.ConnectionSettings.{ConnectionSettings}
use Rattle.cal_connection.specs.Settings.{IsClamped}
use Rattle.cal_connection.specs.Channel.{new_channel, is_refused, is_at_limit, is_full, oldest, after_pop, after_push, overflow_of, with_entry, after_return, count_after_receive, count_after_release}
use Rattle.cal_connection.specs.Traffic.{ChannelCall, sends, receives, releases, reclaims, Side, Traffic, no_traffic, Shows, side_after, traffic_after, traffic_after_receive, traffic_after_reclaim, MayCall, side_after_all, traffic_after_all, MayCallAll}

-- a queue that is full holds something
full_some : (count capacity : ℕ) → 1 ≤ capacity → (count == capacity) ≡ true → 1 ≤ count
full_some count capacity room full = grind (arith, nat_tests)

-- ---- lists of which some have left

joined : (left : ℕ) (sent values : List ℕ) (value : ℕ) → values ≡ drop left sent → left ≤ length sent →
    values ++ value ∷ [] ≡ drop left (sent ++ value ∷ [])
joined left sent values value is within =
    ap (λ v. v ++ value ∷ []) is ∙ sym (drop-append-le left sent (value ∷ []) within)

advanced : (left : ℕ) (sent values : List ℕ) → values ≡ drop left sent → drop 1 values ≡ drop (left + 1) sent
advanced left sent values is = ap (drop 1) is ∙ drop-drop 1 left sent

one_left : (left : ℕ) (sent values : List ℕ) → values ≡ drop left sent → 1 ≤ length values → left + 1 ≤ length sent
one_left left sent values is some = omega (arith, ap length is, length-drop left sent)

longer : (sent : List ℕ) (value n : ℕ) → n ≤ length sent → n ≤ length (sent ++ value ∷ [])
longer sent value n within = omega (arith, length-append sent (value ∷ []))

-- ---- one call

module _ (side : Side) (traffic : Traffic) (shows : Shows side traffic) where
  after_sends : (pointer : ℕ) (segments : List SegmentDetails) (refused full : Bool) →
      (full ≡ true → 1 ≤ length side.channel.submission.values) →
      Shows (record side {
        channel = if refused then side.channel else record side.channel {
          submission = after_push (if full then after_pop side.channel.submission else side.channel.submission) pointer;
          segments = segments;
        };
      })
      (if refused then traffic else record traffic {
        sent = traffic.sent ++ pointer ∷ [];
        left = (if full then traffic.left + 1 else traffic.left);
      })
  after_sends pointer segments true full some = shows
  after_sends pointer segments false true some = record {
    room = shows.room;
    queued = joined (traffic.left + 1) traffic.sent (drop 1 side.channel.submission.values) pointer
        (advanced traffic.left traffic.sent side.channel.submission.values shows.queued)
        (one_left traffic.left traffic.sent side.channel.submission.values shows.queued (some refl));
    within = longer traffic.sent pointer (traffic.left + 1)
        (one_left traffic.left traffic.sent side.channel.submission.values shows.queued (some refl));
    borrowed = shows.borrowed;
    completed = shows.completed;
    given_back = shows.given_back;
  }
  after_sends pointer segments false false some = record {
    room = shows.room;
    queued = joined traffic.left traffic.sent side.channel.submission.values pointer shows.queued shows.within;
    within = longer traffic.sent pointer traffic.left shows.within;
    borrowed = shows.borrowed;
    completed = shows.completed;
    given_back = shows.given_back;
  }

  after_receives : (at_limit : Bool) (values : List ℕ) → values ≡ side.channel.submission.values →
      (let answer : Result (Option ℕ) ZeroCopyReceiveError =
      if at_limit then Err ReceiveWouldExceedMaxBorrowValue else Ok (slice_get values 0) in
      Shows (record {
        channel = if at_limit then side.channel else record side.channel {
          submission = record side.channel.submission { values = drop 1 values };
        };
        count = count_after_receive answer side.count;
      }) (traffic_after_receive answer traffic))
  after_receives true values is = shows
  after_receives false [] is = record {
    room = shows.room;
    queued = is ∙ shows.queued;
    within = shows.within;
    borrowed = shows.borrowed;
    completed = shows.completed;
    given_back = shows.given_back;
  }
  after_receives false (value ∷ values) is = record {
    room = shows.room;
    queued = advanced traffic.left traffic.sent (value ∷ values) (is ∙ shows.queued);
    within = one_left traffic.left traffic.sent (value ∷ values) (is ∙ shows.queued) (omega arith);
    borrowed = one_more shows.borrowed;
    completed = shows.completed;
    given_back = shows.given_back;
  }
    where
      one_more : side.count + length traffic.released ≡ traffic.received →
          (side.count + 1) + length traffic.released ≡ traffic.received + 1
      one_more same = omega arith

  after_releases : (pointer : ℕ) (full : Bool) → 0 < side.count →
      (let answer : Result (Unit {0}) ZeroCopyReleaseError = if full then Err RetrieveBufferFull else Ok tt in
      Shows (record {
        channel = if full then side.channel
            else record side.channel { completion = after_push side.channel.completion pointer };
        count = count_after_release answer side.count;
      }) (if full then traffic else record traffic { released = traffic.released ++ pointer ∷ [] }))
  after_releases pointer true some = shows
  after_releases pointer false some = record {
    room = shows.room;
    queued = shows.queued;
    within = shows.within;
    borrowed = one_less shows.borrowed (length-append traffic.released (pointer ∷ []));
    completed = joined traffic.reclaimed traffic.released side.channel.completion.values pointer shows.completed
        shows.given_back;
    given_back = longer traffic.released pointer traffic.reclaimed shows.given_back;
  }
    where
      one_less : side.count + length traffic.released ≡ traffic.received →
          length (traffic.released ++ pointer ∷ []) ≡ length traffic.released + length (pointer ∷ []) →
          (side.count - 1) + length (traffic.released ++ pointer ∷ []) ≡ traffic.received
      one_less same more = omega arith

  after_reclaims : (segments : List SegmentDetails) (values : List ℕ) → values ≡ side.channel.completion.values →
      Shows (record side {
        channel = record side.channel {
          completion = record side.channel.completion { values = drop 1 values };
          segments = segments;
        };
      }) (traffic_after_reclaim (slice_get values 0) traffic)
  after_reclaims segments [] is = record {
    room = shows.room;
    queued = shows.queued;
    within = shows.within;
    borrowed = shows.borrowed;
    completed = is ∙ shows.completed;
    given_back = shows.given_back;
  }
  after_reclaims segments (value ∷ values) is = record {
    room = shows.room;
    queued = shows.queued;
    within = shows.within;
    borrowed = shows.borrowed;
    completed = advanced traffic.reclaimed traffic.released (value ∷ values) (is ∙ shows.completed);
    given_back = one_left traffic.reclaimed traffic.released (value ∷ values) (is ∙ shows.completed) (omega arith);
  }

module _ (overflow : Bool) (limit : ℕ) where
  -- a call that is made shows what went over the channel then
  pub Shows-call : (side : Side) (traffic : Traffic) (call : ChannelCall) → Shows side traffic →
      MayCall overflow limit side call →
      Shows (side_after overflow limit side call) (traffic_after overflow limit side traffic call)
  Shows-call side traffic (sends pointer sample_size) shows may =
      after_sends side traffic shows pointer
      (after_return (with_entry side.channel.segments pointer sample_size) (overflow_of side.channel.submission))
      (is_refused overflow side.channel) (is_full side.channel.submission)
      (full_some (length side.channel.submission.values) side.channel.submission.capacity shows.room)
  Shows-call side traffic receives shows may =
      after_receives side traffic shows (is_at_limit limit side.count) side.channel.submission.values refl
  Shows-call side traffic (releases pointer) shows may =
      after_releases side traffic shows pointer (is_full side.channel.completion) may
  Shows-call side traffic reclaims shows may =
      after_reclaims side traffic shows (after_return side.channel.segments (oldest side.channel.completion))
      side.channel.completion.values refl

  -- and so do any calls
  pub Shows-calls : (side : Side) (traffic : Traffic) (calls : List ChannelCall) → Shows side traffic →
      MayCallAll overflow limit side calls →
      Shows (side_after_all overflow limit side calls) (traffic_after_all overflow limit side traffic calls)
  Shows-calls side traffic [] shows may = shows
  Shows-calls side traffic (call ∷ calls) shows may =
      Shows-calls (side_after overflow limit side call) (traffic_after overflow limit side traffic call) calls
      (Shows-call side traffic call shows may.0) may.1

-- a new channel, over which nothing went
pub Shows-new : (settings : ConnectionSettings) (word : ℕ) → IsClamped settings →
    Shows (record { channel = new_channel settings word; count = 0 }) no_traffic
Shows-new settings word clamped = record {
  room = clamped.buffer;
  queued = refl;
  within = omega arith;
  borrowed = refl;
  completed = refl;
  given_back = omega arith;
}
