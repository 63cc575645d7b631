-- What went over a channel: what was sent, received, released and reclaimed, whatever the channel keeps of it.
use Rattle.std.specs.Prelude.{◌≡◌, ℕ, ◌+◌, ◌≤◌, ◌<◌, Bool, List, [], ◌∷◌, ◌++◌, length, drop, ⊤, Option, Some, None, Result, Ok, Err, if◌then◌else◌}
use Rattle.cal_connection.specs.declared.errors.ZeroCopyReceiveError.{ZeroCopyReceiveError}
use Rattle.cal_connection.specs.Channel.{ChannelEntry, is_refused, is_full, oldest, after_send, after_receive, receive_answer, count_after_receive, after_release, release_answer, count_after_release, after_reclaim}

-- a call of one of the ends on the channel
pub data ChannelCall : Type 0 where
  sends : ℕ → ℕ → ChannelCall
  receives : ChannelCall
  releases : ℕ → ChannelCall
  reclaims : ChannelCall

-- a channel, and how many offsets the receiver borrows from it
pub record Side : Type 0 where
  pub channel : ChannelEntry
  pub count : ℕ

-- all offsets that were sent, how many of them have left the queue, how many of those were received, all that were
-- released,
-- and how many of them were reclaimed
pub record Traffic : Type 0 where
  pub sent : List ℕ
  pub left : ℕ
  pub received : ℕ
  pub released : List ℕ
  pub reclaimed : ℕ

abbrev pub no_traffic : Traffic
no_traffic = record { sent = []; left = 0; received = 0; released = []; reclaimed = 0 }

-- what was received counts
abbrev pub traffic_after_receive : Result (Option ℕ) ZeroCopyReceiveError → Traffic → Traffic
traffic_after_receive (Err error) traffic = traffic
traffic_after_receive (Ok None) traffic = traffic
traffic_after_receive (Ok (Some pointer)) traffic =
    record traffic { left = traffic.left + 1; received = traffic.received + 1 }

-- what was reclaimed counts, whether or not it named a used entry
abbrev pub traffic_after_reclaim : Option ℕ → Traffic → Traffic
traffic_after_reclaim None traffic = traffic
traffic_after_reclaim (Some pointer) traffic = record traffic { reclaimed = traffic.reclaimed + 1 }

module _ (overflow : Bool) (limit : ℕ) where
  -- the channel and the count after a call
  abbrev pub side_after : Side → ChannelCall → Side
  side_after side (sends pointer sample_size) =
      record side { channel = after_send overflow side.channel pointer sample_size }
  side_after side receives = record {
    channel = after_receive limit side.count side.channel;
    count = count_after_receive (receive_answer limit side.count side.channel) side.count;
  }
  side_after side (releases pointer) = record {
    channel = after_release side.channel pointer;
    count = count_after_release (release_answer side.channel) side.count;
  }
  side_after side reclaims = record side { channel = after_reclaim side.channel }

  -- what went over the channel after a call: nothing more where it was refused, or found nothing
  abbrev pub traffic_after : Side → Traffic → ChannelCall → Traffic
  traffic_after side traffic (sends pointer sample_size) =
      if is_refused overflow side.channel then traffic
      else record traffic {
        sent = traffic.sent ++ pointer ∷ [];
        left = (if is_full side.channel.submission then traffic.left + 1 else traffic.left);
      }
  traffic_after side traffic receives =
      traffic_after_receive (receive_answer limit side.count side.channel) traffic
  traffic_after side traffic (releases pointer) =
      if is_full side.channel.completion then traffic
      else record traffic { released = traffic.released ++ pointer ∷ [] }
  traffic_after side traffic reclaims = traffic_after_reclaim (oldest side.channel.completion) traffic

  -- a release is of a borrowed offset
  abbrev pub MayCall : Side → ChannelCall → Type 0
  MayCall side (sends pointer sample_size) = ⊤
  MayCall side receives = ⊤
  MayCall side (releases pointer) = 0 < side.count
  MayCall side reclaims = ⊤

  abbrev pub side_after_all : Side → List ChannelCall → Side
  side_after_all side [] = side
  side_after_all side (call ∷ calls) = side_after_all (side_after side call) calls

  abbrev pub traffic_after_all : Side → Traffic → List ChannelCall → Traffic
  traffic_after_all side traffic [] = traffic
  traffic_after_all side traffic (call ∷ calls) =
      traffic_after_all (side_after side call) (traffic_after side traffic call) calls

  abbrev pub MayCallAll : Side → List ChannelCall → Type 0
  MayCallAll side [] = ⊤
  MayCallAll side (call ∷ calls) = MayCall side call × MayCallAll (side_after side call) calls

-- The queue holds what was sent and hasn't left, the completion queue what was released and isn't reclaimed, and what
-- was
-- received and isn't released is borrowed.
pub record Shows (side : Side) (traffic : Traffic) : Type 0 where
  pub room : 1 ≤ side.channel.submission.capacity
  pub queued : side.channel.submission.values ≡ drop traffic.left traffic.sent
  pub within : traffic.left ≤ length traffic.sent
  pub borrowed : side.count + length traffic.released ≡ traffic.received
  pub completed : side.channel.completion.values ≡ drop traffic.reclaimed traffic.released
  pub given_back : traffic.reclaimed ≤ length traffic.released
