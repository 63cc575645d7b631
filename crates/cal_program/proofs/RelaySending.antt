-- The steps of a relay's sender, and what it has sent by them.
use Rattle.std.specs.Prelude.{ℕ, ◌≡◌, ◌≢◌, ◌+◌, ◌-◌, ◌/◌, ◌^◌, ◌<◌, ◌≤◌, Bool, true, false, List, [], ◌∷◌, ◌++◌, length, map, Option, Some, None, Result, Ok, Err, slice_get, slice_set, unwrap_or}
use Rattle.std.specs.List.{range_with_len}
use Rattle.std.specs.Option.{option_map}
use Rattle.std.proofs.Common.{zero, suc, refl, sym, ap, ◌∙◌, subst, inl, inr, arith, add-one}
use Rattle.std.proofs.lemmas.List.{length-map, map-append}
use Rattle.std.proofs.lemmas.List.FromFn.{length-range_with_len}
use Rattle.std.proofs.lemmas.Option.{slice_get-map}
use Rattle.cal_alloc.specs.PointerOffset.{offset_of, pointer_offset, segment_of}
use Rattle.cal_queue.specs.SubmissionCalls.{IsPush}
use Rattle.cal_queue.specs.declared.push_refusal.PushRefusal.{PushRefusal}
use Rattle.cal_queue.specs.declared.push_refusal.PushRefusal.TheVariants.{Full, PositionsUsedUp}
use Rattle.cal_queue.specs.declared.submission_ring.pass.SendPass.{SendPass}
use Rattle.cal_connection.specs.Channel.{is_used, with_entry}
use Rattle.cal_connection.specs.declared.errors.ZeroCopyReclaimError.{ZeroCopyReclaimError}
use Rattle.cal_connection.specs.declared.errors.ZeroCopySendError.{ZeroCopySendError}
use Rattle.cal_connection.specs.declared.segment_details.SegmentDetails.{SegmentDetails}
use Rattle.cal_connection.specs.declared.settings.ConnectionSettings.{ConnectionSettings}
use Rattle.cal_shared.specs.Channels.{SendingChannel}
use Rattle.cal_shared.specs.Port.{OnChannel, Pair, SendingPort, channel_at, pair_of_sender}
use Rattle.cal_shared.specs.Rest.{sent_at, sent_of}
use Rattle.cal_shared.specs.Sending.{IsSendable, IsWithin, Reclaims, TriesToSend, segments_after_send, segments_at}
use Rattle.cal_program.specs.Relay.{relay_settings}
use Rattle.cal_program.specs.Workers.{HasEnded, HasSent, relayed_offsets}
use Rattle.cal_program.specs.declared.relay_form.RelayForm.{RelayForm}
use Rattle.cal_program.proofs.InUse.{unused-after_return, unused-with_entry}

-- ---- the offsets

range-more : (first count : ℕ) → range_with_len first (suc count) ≡ range_with_len first count ++ (first + count) ∷ []
range-more first zero = ap (λ (n : ℕ). n ∷ []) (omega arith)
range-more first (suc count) =
    ap (λ (ns : List ℕ). first ∷ ns)
    (range-more (first + 1) count
    ∙ ap (λ (n : ℕ). range_with_len (first + 1) count ++ n ∷ []) (omega arith))

pub relayed_offsets-more : (count : ℕ) →
    relayed_offsets (count + 1) ≡ relayed_offsets count ++ pointer_offset count 0 ∷ []
relayed_offsets-more count =
    ap relayed_offsets (add-one count)
    ∙ ap (map (λ (index : ℕ). pointer_offset index 0))
    (range-more 0 count ∙ ap (λ (n : ℕ). range_with_len 0 count ++ n ∷ []) (omega arith))
    ∙ map-append (λ (index : ℕ). pointer_offset index 0) (range_with_len 0 count) (count ∷ [])

pub length-relayed_offsets : (count : ℕ) → length (relayed_offsets count) ≡ count
length-relayed_offsets count =
    length-map (range_with_len 0 count) (λ (index : ℕ). pointer_offset index 0) ∙ length-range_with_len 0 count

pub offset-relayed : (index : ℕ) → offset_of (pointer_offset index 0) ≡ index
offset-relayed index = omega (arith)

pub segment-relayed : (index : ℕ) → segment_of (pointer_offset index 0) ≡ 0
segment-relayed index = omega (arith)

-- ---- a call on the channel

-- the channel that is set at a number is found there
pub set-found : {E : Type 0} (channels : List E) (index : ℕ) (before after : E) →
    slice_get channels index ≡ Some before → slice_get (slice_set channels index after) index ≡ Some after
set-found [] index before after there = absurd cc
set-found (channel ∷ channels) zero before after there = refl
set-found (channel ∷ channels) (suc index) before after there = set-found channels index before after there

pub segments-there : (port : SendingPort) (channel : SendingChannel) → channel_at port 0 ≡ Some channel →
    segments_at port 0 ≡ channel.segments
segments-there port channel there =
    ap (λ (found : Option (List SegmentDetails)). unwrap_or found [])
    (slice_get-map (λ (c : SendingChannel). c.segments) port.channels 0
    ∙ ap (option_map (λ (c : SendingChannel). c.segments)) there)

module _ (Steps : SendingChannel → SendingChannel → Type 0) (before after : SendingPort)
    (on : OnChannel 0 Steps before after) where
  there-after : channel_at after 0 ≡ Some on.changed
  there-after =
      ap (λ (port : SendingPort). channel_at port 0) on.only
      ∙ set-found before.channels 0 on.found on.changed on.there

  -- what was sent, and what isn't in use, after a call on the channel
  HasSent-on : (count now : ℕ) → HasSent count before →
      (on.found.submission.sent ≡ relayed_offsets count → on.changed.submission.sent ≡ relayed_offsets now) →
      (((k : ℕ) → count ≤ k → is_used on.found.segments 0 k ≡ false) → (k : ℕ) → now ≤ k →
      is_used on.changed.segments 0 k ≡ false) → HasSent now after
  HasSent-on count now has sending using = record {
    sent = ap sent_of there-after ∙ sending (sym (ap sent_of on.there) ∙ has.sent);
    unused = λ k from.
        subst (λ (segments : List SegmentDetails). is_used segments 0 k ≡ false)
        (sym (segments-there after on.changed there-after))
        (using (λ j past.
        subst (λ (segments : List SegmentDetails). is_used segments 0 j ≡ false)
        (segments-there before on.found on.there) (has.unused j past)) k from);
  }

-- taking back leaves what was sent, and takes nothing into use
pub HasSent-reclaimed : (answer : Result (Option ℕ) ZeroCopyReclaimError) (before after : SendingPort) →
    OnChannel 0 (Reclaims answer) before after → (count : ℕ) → HasSent count before → HasSent count after
HasSent-reclaimed answer before after on count has =
    HasSent-on (Reclaims answer) before after on count count has
    (λ sent. ap (λ (p : SendPass). p.sent) on.steps.submission ∙ sent)
    (λ unused k from.
    subst (λ (segments : List SegmentDetails). is_used segments 0 k ≡ false) (sym on.steps.segments)
    (unused-after_return on.found.segments on.steps.popped 0 k (unused k from)))

-- ---- a send

-- with overflow, the value is sent after all others where positions are left
sent-pushed : (value : ℕ) (pushed : Result (Option ℕ) PushRefusal) (before after : SendPass) →
    length before.sent ≢ 2 ^ 64 - 1 → IsPush true value pushed before after → after.sent ≡ before.sent ++ value ∷ []
sent-pushed value (Ok None) before after left (inl sends) = ap (λ (p : SendPass). p.sent) sends.steps
sent-pushed value (Ok None) before after left (inr loses) = ap (λ (p : SendPass). p.sent) loses.1.steps
sent-pushed value (Ok (Some oldest)) before after left push = ap (λ (p : SendPass). p.sent) push.1.steps
sent-pushed value (Err Full) before after left push = absurd cc
sent-pushed value (Err PositionsUsedUp) before after left push = absurd (left push.0)

-- another sample than the one that is sent stays out of use
unused-sent : (segments : List SegmentDetails) (pointer sample_size : ℕ) (pushed : Result (Option ℕ) PushRefusal)
    (k : ℕ) → k ≢ offset_of pointer / sample_size → is_used segments 0 k ≡ false →
    is_used (segments_after_send segments pointer sample_size pushed) 0 k ≡ false
unused-sent segments pointer sample_size (Ok back) k apart h =
    unused-after_return (with_entry segments pointer sample_size) back 0 k
    (unused-with_entry segments pointer sample_size 0 k apart h)
unused-sent segments pointer sample_size (Err refused) k apart h = h

-- one offset more is sent
pub HasSent-sent : (answer : Result (Option ℕ) ZeroCopySendError) (before after : SendingPort) (index : ℕ) →
    index < 2 ^ 32 → OnChannel 0 (TriesToSend true (pointer_offset index 0) 1 answer) before after →
    HasSent index before → HasSent (index + 1) after
HasSent-sent answer before after index few on has =
    HasSent-on (TriesToSend true (pointer_offset index 0) 1 answer) before after on index (index + 1) has
    (λ sent.
    sent-pushed (pointer_offset index 0) on.steps.pushed on.found.submission on.changed.submission
    (λ used_up. absurd (omega (arith, few, used_up, ap length sent, length-relayed_offsets index)))
    on.steps.push
    ∙ ap (λ (offsets : List ℕ). offsets ++ pointer_offset index 0 ∷ []) sent
    ∙ sym (relayed_offsets-more index))
    (λ unused k from.
    subst (λ (segments : List SegmentDetails). is_used segments 0 k ≡ false) (sym on.steps.segments)
    (unused-sent on.found.segments (pointer_offset index 0) 1 on.steps.pushed k
    (λ same. absurd (omega (arith, from, same))) (unused k (omega (arith, from)))))

-- the same, as the calls tell it
pub HasSent-try_send : (answer : Result (Option ℕ) ZeroCopySendError) (before after : SendingPort) (form : RelayForm)
    (index pointer channel : ℕ) → before.settings ≡ relay_settings form → pointer ≡ pointer_offset index 0 →
    channel ≡ 0 → index < 2 ^ 32 →
    OnChannel channel (TriesToSend before.settings.enable_safe_overflow pointer 1 answer) before after →
    HasSent index before → HasSent (index + 1) after
HasSent-try_send answer before after form index pointer channel settings is first few on has =
    HasSent-sent answer before after index few
    (subst (λ (c : ℕ). OnChannel c (TriesToSend true (pointer_offset index 0) 1 answer) before after) first
    (subst (λ (p : ℕ). OnChannel channel (TriesToSend true p 1 answer) before after) is
    (subst (λ (overflow : Bool). OnChannel channel (TriesToSend overflow pointer 1 answer) before after)
    (ap (λ (s : ConnectionSettings). s.enable_safe_overflow) settings) on)))
    has

pub HasSent-reclaim : (answer : Result (Option ℕ) ZeroCopyReclaimError) (before after : SendingPort) (channel : ℕ) →
    channel ≡ 0 → OnChannel channel (Reclaims answer) before after → (count : ℕ) → HasSent count before →
    HasSent count after
HasSent-reclaim answer before after channel first on count has =
    HasSent-reclaimed answer before after
    (subst (λ (c : ℕ). OnChannel c (Reclaims answer) before after) first on) count has

-- ---- what may be sent

module _ (form : RelayForm) (port : SendingPort) (settings : port.settings ≡ relay_settings form) (index : ℕ)
    (within : index < form.count) (has : HasSent index port) where
  IsWithin-relayed : IsWithin (relay_settings form) 0 (pointer_offset index 0) 1
  IsWithin-relayed = record {
    there = omega arith;
    size = omega arith;
    divides = omega arith;
    segment = omega arith;
    index = omega (arith, within);
  }

  -- the next offset is one of the channel's, and isn't in use
  pub IsSendable-next : IsSendable port 0 (pointer_offset index 0) 1
  IsSendable-next = record {
    within =
        subst (λ (s : ConnectionSettings). IsWithin s 0 (pointer_offset index 0) 1) (sym settings) IsWithin-relayed;
    unused =
        ap (λ (s : ℕ). is_used (segments_at port 0) s (offset_of (pointer_offset index 0) / 1)) (segment-relayed index)
        ∙ has.unused (offset_of (pointer_offset index 0) / 1) (omega arith);
  }

-- ---- the end

-- closing leaves what was sent
pub sent-ended : (count : ℕ) (port : SendingPort) → HasEnded count port → sent_at port 0 ≡ relayed_offsets count
sent-ended count port ended = ap (λ (p : SendingPort). sent_at p 0) ended.closed.only ∙ ended.sent.sent

-- ---- the settings stay where what both ports have in common does

pub settings-kept : (before after : SendingPort) → pair_of_sender after ≡ pair_of_sender before →
    after.settings ≡ before.settings
settings-kept before after pair = ap (λ (p : Pair). p.settings) pair
