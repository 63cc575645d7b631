-- Where the condition of a call holds, and what is never answered then.
use Rattle.std.specs.Bool.{Decides}
use Rattle.std.proofs.Common.{◌≡◌, ℕ, ◌<◌, ◌/◌, ◌%◌, Bool, true, false, not, Option, Result, Ok, Err, refl, sym, ◌∙◌}
use Rattle.std.proofs.lemmas.Bool.{not-true, not_from_false, cond-true, cond-false, false_from_ne_true}
use Rattle.std.proofs.lemmas.Bool.Decides.{Decides-ltb, Decides-eqb, Decides-and, Decides-like}
use Rattle.cal_alloc.specs.PointerOffset.{offset_of, segment_of}
use Rattle.cal_connection.specs.declared.errors.ZeroCopySendError.{ZeroCopySendError}
use Rattle.cal_connection.specs.declared.errors.ZeroCopySendError.TheVariants.{ReceiveBufferFull}
use Rattle.cal_connection.specs.declared.errors.ZeroCopyReceiveError.{ZeroCopyReceiveError}
use Rattle.cal_connection.specs.declared.errors.ZeroCopyReclaimError.{ZeroCopyReclaimError}
use Rattle.cal_connection.specs.declared.errors.ZeroCopyReleaseError.{ZeroCopyReleaseError}
use Rattle.cal_connection.specs.declared.port_call.PortCall.{PortCall}
use Rattle.cal_connection.specs.declared.port_call.PortCall.TheVariants.{Send, Receive, Release, Reclaim}
use Rattle.cal_connection.specs.declared.port_reply.PortReply.TheVariants.{Unsuited}
use Rattle.cal_connection.specs.declared.settings.ConnectionSettings.{ConnectionSettings}
use Rattle.cal_connection.specs.Calls.{BothEnds, side_at, called_channel, channel_call, IsSuited, is_suited, sent_reply, received_reply, released_reply, reclaimed_reply, suited_reply, reply_to}
use Rattle.cal_connection.specs.Channel.{send_answer, receive_answer, release_answer, reclaim_answer}
use Rattle.cal_connection.specs.Port.{IsSendable, is_in_use}
use Rattle.cal_connection.specs.Traffic.{ChannelCall, sends, receives, releases, reclaims, Side}

-- ---- conditions

decides_unused : (used : Bool) → Decides (not used) (used ≡ false)
decides_unused used = (not-true used, not_from_false used)

decides_nothing : Decides true (Unit {0})
decides_nothing = (λ is. tt, λ is. refl)

module _ (ends : BothEnds) (channel : ℕ) where
  decides_there : Decides (is_suited ends (Receive channel)) (channel < ends.port.settings.number_of_channels)
  decides_there =
      Decides-like (is_suited ends (Receive channel)) (λ both. both.0) (λ below. (below, tt))
      (Decides-and _ _ (Decides-ltb channel ends.port.settings.number_of_channels) decides_nothing)

  decides_borrowed : (pointer : ℕ) →
      Decides (is_suited ends (Release channel pointer)) (IsSuited ends (Release channel pointer))
  decides_borrowed pointer =
      Decides-and _ _ (Decides-ltb channel ends.port.settings.number_of_channels)
      (Decides-ltb 0 (side_at ends channel).count)

  decides_sendable : (pointer sample_size : ℕ) →
      Decides (is_suited ends (Send channel pointer sample_size)) (IsSendable ends.port channel pointer sample_size)
  decides_sendable pointer sample_size =
      Decides-like (is_suited ends (Send channel pointer sample_size))
      (λ all. record {
        within = record {
          there = all.0;
          size = all.1.0.0.0.0;
          divides = all.1.0.0.0.1;
          segment = all.1.0.0.1;
          index = all.1.0.1;
        };
        unused = all.1.1;
      })
      (λ sendable. (
        sendable.within.there,
        (
          (((sendable.within.size, sendable.within.divides), sendable.within.segment), sendable.within.index),
          sendable.unused,
        ),
      ))
      (Decides-and _ _ (Decides-ltb channel ends.port.settings.number_of_channels)
      (Decides-and _ _
      (Decides-and _ _
      (Decides-and _ _
      (Decides-and _ _ (Decides-ltb 0 sample_size) (Decides-eqb (offset_of pointer % sample_size) 0))
      (Decides-ltb (segment_of pointer) ends.port.settings.number_of_segments))
      (Decides-ltb (offset_of pointer / sample_size) ends.port.settings.number_of_samples))
      (decides_unused (is_in_use ends.port channel pointer sample_size))))

-- the test of a call tells whether its condition holds
pub decides_suited : (ends : BothEnds) (call : PortCall) → Decides (is_suited ends call) (IsSuited ends call)
decides_suited ends (Send channel pointer sample_size) = decides_sendable ends channel pointer sample_size
decides_suited ends (Receive channel) = decides_there ends channel
decides_suited ends (Release channel pointer) = decides_borrowed ends channel pointer
decides_suited ends (Reclaim channel) = decides_there ends channel

pub suited : (ends : BothEnds) (call : PortCall) → IsSuited ends call → is_suited ends call ≡ true
suited ends call is = (decides_suited ends call).1 is

pub unsuited : (ends : BothEnds) (call : PortCall) → (IsSuited ends call → ⊥) → is_suited ends call ≡ false
unsuited ends call apart =
    false_from_ne_true (is_suited ends call) (λ is. apart ((decides_suited ends call).0 is))

-- ---- a call whose condition holds is answered

answered_send : (answer : Result (Option ℕ) ZeroCopySendError) → sent_reply answer ≡ Unsuited → ⊥
answered_send (Ok back) is = cc
answered_send (Err ReceiveBufferFull) is = cc
answered_send (Err _) is = cc

answered_receive : (answer : Result (Option ℕ) ZeroCopyReceiveError) → received_reply answer ≡ Unsuited → ⊥
answered_receive (Ok taken) is = cc
answered_receive (Err error) is = cc

answered_release : (answer : Result (Unit {0}) ZeroCopyReleaseError) → released_reply answer ≡ Unsuited → ⊥
answered_release (Ok done) is = cc
answered_release (Err error) is = cc

answered_reclaim : (answer : Result (Option ℕ) ZeroCopyReclaimError) → reclaimed_reply answer ≡ Unsuited → ⊥
answered_reclaim (Ok back) is = cc
answered_reclaim (Err error) is = cc

answered : (settings : ConnectionSettings) (side : Side) (asked : ChannelCall) →
    suited_reply settings side asked ≡ Unsuited → ⊥
answered settings side (sends pointer sample_size) is =
    answered_send (send_answer settings.enable_safe_overflow side.channel pointer sample_size) is
answered settings side receives is =
    answered_receive (receive_answer settings.max_borrowed_samples side.count side.channel) is
answered settings side (releases pointer) is = answered_release (release_answer side.channel) is
answered settings side reclaims is = answered_reclaim (reclaim_answer side.channel) is

module _ (ends : BothEnds) (call : PortCall) where
  pub unsuited_only : reply_to ends call ≡ Unsuited → IsSuited ends call → ⊥
  unsuited_only is suits =
      answered ends.port.settings (side_at ends (called_channel call)) (channel_call call)
      (sym (cond-true (is_suited ends call) _ Unsuited (suited ends call suits)) ∙ is)

  pub unsuited_always : (IsSuited ends call → ⊥) → reply_to ends call ≡ Unsuited
  unsuited_always apart = cond-false (is_suited ends call) _ Unsuited (unsuited ends call apart)
