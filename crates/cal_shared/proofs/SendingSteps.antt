-- The calls of a sender's end of a channel, from what its rings and its list of samples did.
use Rattle.std.specs.Prelude.{◌≡◌, ℕ, ◌+◌, ◌-◌, ◌^◌, ◌↔◌, Bool, true, false, IsFalse, List, length, map, MatchBool, Option, Result, Ok, Err}
use Rattle.std.proofs.Common.{refl, sym, ap, ◌∙◌}
use Rattle.std.proofs.lemmas.Bool.{false≢true}
use Rattle.cal_queue.specs.SubmissionCalls.{IsPush, LoadsOnce}
use Rattle.cal_queue.specs.SubmissionPass.{after_read_load}
use Rattle.cal_queue.specs.CompletionCalls as completion
use Rattle.cal_queue.specs.declared.completion_ring.pass.GetPass.{GetPass}
use Rattle.cal_queue.specs.declared.submission_ring.pass.SendPass.{SendPass}
use Rattle.cal_queue.specs.declared.push_refusal.PushRefusal.{PushRefusal}
use Rattle.cal_queue.specs.declared.push_refusal.PushRefusal.TheVariants as refusal
use Rattle.cal_connection.specs.Channel.{after_return, return_answer, samples_of, with_entry}
use Rattle.cal_connection.specs.ShapeLemmas.{samples-after_return, samples-with_entry}
use Rattle.cal_connection.specs.declared.errors.ZeroCopyReclaimError.{ZeroCopyReclaimError}
use Rattle.cal_connection.specs.declared.errors.ZeroCopyReclaimError.TheVariants.{ReceiverReturnedCorruptedPointerOffset}
use Rattle.cal_connection.specs.declared.errors.ZeroCopySendError.{ZeroCopySendError}
use Rattle.cal_connection.specs.declared.errors.ZeroCopySendError.TheVariants.{ConnectionCorrupted}
use Rattle.cal_connection.specs.declared.segment_details.SegmentDetails.{SegmentDetails}
use Rattle.cal_connection.specs.declared.settings.ConnectionSettings.{ConnectionSettings}
use Rattle.cal_shared.specs.Channels.{FitsSender, KeepsSendingRoom, Rings, SendingChannel}
use Rattle.cal_shared.specs.Sending.{Reclaims, SeesFull, SeesRoom, TriesToSend, send_error}

-- a channel that has as much room as before fits the settings as before
pub FitsSender-kept : (settings : ConnectionSettings) (before after : SendingChannel)
    → KeepsSendingRoom before after → FitsSender settings before → FitsSender settings after
FitsSender-kept settings before after keeps fits = record {
  buffer = keeps.buffer ∙ fits.buffer;
  completion = keeps.completion ∙ fits.completion;
  samples = keeps.samples ∙ fits.samples;
}

-- what the submission ring answered
abbrev pub taken : Option ℕ → Result (Option ℕ) PushRefusal
taken back = Ok back

abbrev pub refusing : PushRefusal → Result (Option ℕ) PushRefusal
refusing refused = Err refused

module _ (before after : SendingChannel) (rings : after.rings ≡ before.rings) where
  -- ---- send

  module _ (buffer : after.submission.buffer ≡ before.submission.buffer)
      (completion : after.completion ≡ before.completion) (overflow : Bool) (pointer sample_size : ℕ) where
    -- the offset was sent, its sample is in use, and what came back was judged
    pub TriesToSend-sent : (answer : Result (Option ℕ) ZeroCopySendError) (back : Option ℕ)
        (entered : List SegmentDetails)
        → IsPush overflow pointer (Ok back) before.submission after.submission
        → ((taken back ≡ Err refusal.PositionsUsedUp) ↔ (length before.submission.sent ≡ 2 ^ 64 - 1))
        → entered ≡ with_entry before.segments pointer sample_size
        → answer ≡ return_answer ConnectionCorrupted entered back → after.segments ≡ after_return entered back
        → TriesToSend overflow pointer sample_size answer before after
    TriesToSend-sent answer back entered push used_up is answered segments =
        let judged : after.segments ≡ after_return (with_entry before.segments pointer sample_size) back =
        segments ∙ ap (λ (xs : List SegmentDetails). after_return xs back) is in
        record {
          pushed = Ok back;
          push = push;
          used_up = used_up;
          answers = answered ∙ ap (λ (xs : List SegmentDetails). return_answer ConnectionCorrupted xs back) is;
          segments = judged;
          completion = completion;
          room = record {
            rings = rings;
            buffer = buffer;
            completion = ap (λ p. p.capacity) completion;
            samples = ap (map samples_of) judged
                ∙ samples-after_return (with_entry before.segments pointer sample_size) back
                ∙ samples-with_entry before.segments pointer sample_size;
          };
        }

    -- nothing was sent
    pub TriesToSend-refused : (answer : Result (Option ℕ) ZeroCopySendError) (refused : PushRefusal)
        → IsPush overflow pointer (Err refused) before.submission after.submission
        → ((refusing refused ≡ Err refusal.PositionsUsedUp) ↔ (length before.submission.sent ≡ 2 ^ 64 - 1))
        → answer ≡ Err (send_error refused) → after.segments ≡ before.segments
        → TriesToSend overflow pointer sample_size answer before after
    TriesToSend-refused answer refused push used_up answered segments = record {
      pushed = Err refused;
      push = push;
      used_up = used_up;
      answers = answered;
      segments = segments;
      completion = completion;
      room = record {
        rings = rings;
        buffer = buffer;
        completion = ap (λ p. p.capacity) completion;
        samples = ap (map samples_of) segments;
      };
    }

  -- ---- reclaim

  pub Reclaims-popped : (answer : Result (Option ℕ) ZeroCopyReclaimError) (popped : Option ℕ)
      → completion.IsPop popped before.completion after.completion
      → after.completion.capacity ≡ before.completion.capacity
      → answer ≡ return_answer ReceiverReturnedCorruptedPointerOffset before.segments popped
      → after.segments ≡ after_return before.segments popped → after.submission ≡ before.submission
      → Reclaims answer before after
  Reclaims-popped answer popped pop capacity answered segments submission = record {
    popped = popped;
    pop = pop;
    answers = answered;
    segments = segments;
    submission = submission;
    room = record {
      rings = rings;
      buffer = ap (λ p. p.buffer) submission;
      completion = capacity;
      samples = ap (map samples_of) segments ∙ samples-after_return before.segments popped;
    };
  }

-- ---- one look

-- by the answer the look showed room, or that the queue is full
pub SeesRoom-or_full : (before after : SendingChannel) (answer : Bool)
    → LoadsOnce before.submission after.submission
    → (IsFalse answer ↔ (length before.submission.sent ≡ after.submission.seen_read + after.submission.buffer))
    → after.rings ≡ before.rings → after.submission.buffer ≡ before.submission.buffer
    → after.completion ≡ before.completion → after.segments ≡ before.segments
    → MatchBool answer (SeesRoom before after) (SeesFull before after)
SeesRoom-or_full before after answer loads full rings buffer completion segments = by_answer answer full
  where
    step : after ≡ record before { submission = after_read_load after.submission.seen_read before.submission }
    step =
        ap (λ (r : Rings). record after { rings = r }) rings
        ∙ ap (λ (p : SendPass). record after { rings = before.rings; submission = p }) loads
        ∙ ap (λ (p : GetPass). record {
          rings = before.rings;
          submission = after_read_load after.submission.seen_read before.submission;
          completion = p;
          segments = after.segments;
        }) completion
        ∙ ap (λ (xs : List SegmentDetails). record {
          rings = before.rings;
          submission = after_read_load after.submission.seen_read before.submission;
          completion = before.completion;
          segments = xs;
        }) segments

    same : after.submission.seen_read + after.submission.buffer
        ≡ after.submission.seen_read + before.submission.buffer
    same = ap (λ n. after.submission.seen_read + n) buffer

    by_answer : (b : Bool)
        → (IsFalse b ↔ (length before.submission.sent ≡ after.submission.seen_read + after.submission.buffer))
        → MatchBool b (SeesRoom before after) (SeesFull before after)
    by_answer true either = record {
      position = after.submission.seen_read;
      room = λ is. false≢true (sym (either.1 (is ∙ sym same)));
      step = step;
    }
    by_answer false either = record {
      position = after.submission.seen_read;
      full = either.0 refl ∙ same;
      step = step;
    }
