-- What the calls of a receiver do on one channel: the steps that they take at its rings, and what they answer by these.
use Rattle.std.specs.Prelude.{◌≡◌, ℕ, ◌-◌, ◌^◌, ◌<◌, ◌↔◌, Bool, IsFalse, length, Option, Some, None, Result, Ok, Err}
use Rattle.cal_queue.specs.SubmissionCalls.{IsPop, LooksOnce}
use Rattle.cal_queue.specs.CompletionCalls.{IsPush}
use Rattle.cal_queue.specs.declared.push_refusal.PushRefusal.{PushRefusal}
use Rattle.cal_queue.specs.declared.push_refusal.PushRefusal.TheVariants as refusal
use Rattle.cal_connection.specs.declared.errors.ZeroCopyReceiveError.{ZeroCopyReceiveError}
use Rattle.cal_connection.specs.declared.errors.ZeroCopyReleaseError.{ZeroCopyReleaseError}
use Rattle.cal_connection.specs.declared.errors.ZeroCopyReleaseError.TheVariants.{PositionsUsedUp, RetrieveBufferFull}
use Rattle.cal_shared.specs.Channels.{KeepsReceivingRoom, ReceivingChannel, borrow_count}
use Rattle.cal_shared.specs.Port.{ReceivingPort, channel_at}

-- none are borrowed from an absent channel
abbrev pub borrow_count_of : Option ReceivingChannel → ℕ
borrow_count_of None = 0
borrow_count_of (Some channel) = borrow_count channel

abbrev pub borrow_count_at : ReceivingPort → ℕ → ℕ
borrow_count_at port channel = borrow_count_of (channel_at port channel)

-- ---- receive

-- one pop from the submission ring
pub record Pops (answer : Option ℕ) (before after : ReceivingChannel) : Type 0 where
  pub below : IsPop answer before.submission after.submission
  pub completion : after.completion ≡ before.completion
  pub room : KeepsReceivingRoom before after

-- no step, where as many are borrowed as may be, and else one pop
abbrev pub Receives : ℕ → Result (Option ℕ) ZeroCopyReceiveError → ReceivingChannel → ReceivingChannel → Type 0
Receives limit (Err error) before after = (borrow_count before ≡ limit) × (after ≡ before)
Receives limit (Ok received) before after = (borrow_count before < limit) × Pops received before after

-- one look at both positions of the submission ring, by which an offset is queued or not
pub record LooksForData (has_data : Bool) (before after : ReceivingChannel) : Type 0 where
  pub look : LooksOnce before.submission after.submission
  pub empty : IsFalse has_data ↔ (after.submission.seen_write ≡ Some after.submission.seen_read)
  pub completion : after.completion ≡ before.completion
  pub room : KeepsReceivingRoom before after

-- ---- release

abbrev pub release_error : PushRefusal → ZeroCopyReleaseError
release_error refusal.Full = RetrieveBufferFull
release_error refusal.PositionsUsedUp = PositionsUsedUp

-- what is answered where the completion ring answered this
abbrev pub release_answer : Result (Unit {0}) PushRefusal → Result (Unit {0}) ZeroCopyReleaseError
release_answer (Ok done) = Ok done
release_answer (Err refused) = Err (release_error refused)

-- one push into the completion ring
pub record Releases (pointer : ℕ) (answer : Result (Unit {0}) ZeroCopyReleaseError) (before after : ReceivingChannel)
    : Type 0 where
  pub pushed : Result (Unit {0}) PushRefusal
  pub push : IsPush pointer pushed before.completion after.completion
  pub used_up : (pushed ≡ Err refusal.PositionsUsedUp) ↔ (length before.completion.put ≡ 2 ^ 64 - 1)
  pub answers : answer ≡ release_answer pushed
  pub submission : after.submission ≡ before.submission
  pub room : KeepsReceivingRoom before after
