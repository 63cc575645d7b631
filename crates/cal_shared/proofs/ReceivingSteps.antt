-- The calls of a receiver's end of a channel, from what its rings and its count did.
use Rattle.std.specs.Prelude.{◌≡◌, ℕ, ◌+◌, ◌-◌, ◌<◌, ◌^◌, ◌≤◌, ◌↔◌, Bool, IsFalse, [], ◌∷◌, ◌++◌, length, Option, Some, Result, Err}
use Rattle.std.proofs.Common.{ap, ◌∙◌, arith, length-append}
use Rattle.cal_queue.specs.CompletionCalls.{IsPush}
use Rattle.cal_queue.specs.SubmissionCalls.{IsPop, LooksOnce}
use Rattle.cal_queue.specs.declared.push_refusal.PushRefusal.{PushRefusal}
use Rattle.cal_queue.specs.declared.push_refusal.PushRefusal.TheVariants.{PositionsUsedUp}
use Rattle.cal_connection.specs.declared.errors.ZeroCopyReleaseError.{ZeroCopyReleaseError}
use Rattle.cal_connection.specs.declared.settings.ConnectionSettings.{ConnectionSettings}
use Rattle.cal_shared.specs.Channels.{FitsReceiver, KeepsReceivingRoom, ReceivingChannel, borrow_count}
use Rattle.cal_shared.specs.Receiving.{LooksForData, Pops, Releases, release_answer}

-- a channel that has as much room as before fits the settings, where its counts do
pub FitsReceiver-kept : (settings : ConnectionSettings) (before after : ReceivingChannel)
    → KeepsReceivingRoom before after → length after.completion.put ≤ length after.submission.received
    → borrow_count after ≤ settings.max_borrowed_samples → FitsReceiver settings before → FitsReceiver settings after
FitsReceiver-kept settings before after keeps received_first within fits = record {
  buffer = keeps.buffer ∙ fits.buffer;
  completion = keeps.completion ∙ fits.completion;
  received_first = received_first;
  within = within;
}

-- a pop of the submission ring leaves the completion ring alone
pub Pops-made : (before after : ReceivingChannel) (answer : Option ℕ) → IsPop answer before.submission after.submission
    → after.rings ≡ before.rings → after.submission.buffer ≡ before.submission.buffer
    → after.completion ≡ before.completion → Pops answer before after
Pops-made before after answer pop rings buffer completion = record {
  below = pop;
  completion = completion;
  room = record { rings = rings; buffer = buffer; completion = ap (λ p. p.capacity) completion };
}

-- what the count beside the two ends says of their passes
pub borrow_count-is : (channel : ReceivingChannel) (count : ℕ)
    → count + length channel.completion.put ≡ length channel.submission.received → borrow_count channel ≡ count
borrow_count-is channel count is = omega arith

-- a look leaves the completion ring alone
pub LooksForData-made : (before after : ReceivingChannel) (has_data : Bool)
    → LooksOnce before.submission after.submission
    → (IsFalse has_data ↔ (after.submission.seen_write ≡ Some after.submission.seen_read))
    → after.rings ≡ before.rings → after.submission.buffer ≡ before.submission.buffer
    → after.completion ≡ before.completion → LooksForData has_data before after
LooksForData-made before after has_data look empty rings buffer completion = record {
  look = look;
  empty = empty;
  completion = completion;
  room = record { rings = rings; buffer = buffer; completion = ap (λ p. p.capacity) completion };
}

-- a push into the completion ring leaves the submission ring alone
pub Releases-made : (before after : ReceivingChannel) (pointer : ℕ) (answer : Result (Unit {0}) ZeroCopyReleaseError)
    (pushed : Result (Unit {0}) PushRefusal) → IsPush pointer pushed before.completion after.completion
    → ((pushed ≡ Err PositionsUsedUp) ↔ (length before.completion.put ≡ 2 ^ 64 - 1))
    → answer ≡ release_answer pushed → after.rings ≡ before.rings
    → after.completion.capacity ≡ before.completion.capacity → after.submission ≡ before.submission
    → Releases pointer answer before after
Releases-made before after pointer answer pushed push used_up answers rings capacity submission = record {
  pushed = pushed;
  push = push;
  used_up = used_up;
  answers = answers;
  submission = submission;
  room = record { rings = rings; buffer = ap (λ p. p.buffer) submission; completion = capacity };
}

-- a channel whose counts stay fits as before
pub FitsReceiver-same_counts : (settings : ConnectionSettings) (before after : ReceivingChannel)
    → KeepsReceivingRoom before after → after.submission.received ≡ before.submission.received
    → after.completion.put ≡ before.completion.put → FitsReceiver settings before → FitsReceiver settings after
FitsReceiver-same_counts settings before after keeps received put fits =
    let received_count : length after.submission.received ≡ length before.submission.received = ap length received in
    let put_count : length after.completion.put ≡ length before.completion.put = ap length put in
    let first = fits.received_first in
    let within = fits.within in
    FitsReceiver-kept settings before after keeps (omega arith) (omega arith) fits

-- one more was received, where fewer were borrowed than may be
pub FitsReceiver-received : (settings : ConnectionSettings) (before after : ReceivingChannel) (entry : ℕ × ℕ)
    → KeepsReceivingRoom before after → after.submission.received ≡ before.submission.received ++ entry ∷ []
    → after.completion.put ≡ before.completion.put → borrow_count before < settings.max_borrowed_samples
    → FitsReceiver settings before → FitsReceiver settings after
FitsReceiver-received settings before after entry keeps received put below fits =
    let received_count : length after.submission.received ≡ length before.submission.received + 1 =
    ap length received ∙ length-append before.submission.received (entry ∷ []) in
    let put_count : length after.completion.put ≡ length before.completion.put = ap length put in
    let first = fits.received_first in
    FitsReceiver-kept settings before after keeps (omega arith) (omega arith) fits

-- one more was released, where some were borrowed
pub FitsReceiver-released : (settings : ConnectionSettings) (before after : ReceivingChannel) (value : ℕ)
    → KeepsReceivingRoom before after → after.completion.put ≡ before.completion.put ++ value ∷ []
    → after.submission.received ≡ before.submission.received → 0 < borrow_count before
    → FitsReceiver settings before → FitsReceiver settings after
FitsReceiver-released settings before after value keeps put received some fits =
    let put_count : length after.completion.put ≡ length before.completion.put + 1 =
    ap length put ∙ length-append before.completion.put (value ∷ []) in
    let received_count : length after.submission.received ≡ length before.submission.received = ap length received in
    let within = fits.within in
    FitsReceiver-kept settings before after keeps (omega arith) (omega arith) fits
