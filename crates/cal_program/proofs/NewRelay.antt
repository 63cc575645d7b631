-- A relay's pair as it is made: nothing is sent, received or given back.
use Rattle.std.specs.Prelude.{ℕ, ◌≡◌, ◌<◌, false, List, [], ◌∷◌, All, Some, length, replicate, slice_get, slice_index_or}
use Rattle.std.proofs.Common.{zero, suc, refl, sym, ap, ◌∙◌, subst, arith}
use Rattle.cal_queue.specs.declared.completion_ring.pass.PutPass.{PutPass}
use Rattle.cal_queue.specs.declared.submission_ring.pass.SendPass.{SendPass}
use Rattle.cal_queue.specs.declared.submission_ring.pass.TakePass.{TakePass}
use Rattle.cal_connection.specs.Channel.{is_used, new_segment}
use Rattle.cal_connection.specs.declared.segment_details.SegmentDetails.{SegmentDetails}
use Rattle.cal_connection.specs.declared.settings.ConnectionSettings.{ConnectionSettings}
use Rattle.cal_shared.specs.New.{IsNewPort, IsNewReceivingChannel, IsNewSendingChannel}
use Rattle.cal_shared.specs.Port.{Port, ReceivingPort, SendingPort}
use Rattle.cal_shared.specs.Rest.{received_of, released_of, sent_of}
use Rattle.cal_shared.specs.Settings.{connection_settings}
use Rattle.cal_shared.specs.declared.port_settings.PortSettings.{PortSettings}
use Rattle.cal_program.specs.Relay.{port_settings, relay_settings}
use Rattle.cal_program.specs.Workers.{HasGivenBackAll, HasSent, open_state}
use Rattle.cal_program.specs.declared.relay_form.RelayForm.{RelayForm}
use Rattle.cal_program.proofs.RelaySending.{segments-there}
use Rattle.cal_program.proofs.RelayReceiving.{values}

-- the first of some channels is a new one
record First {E : Type 0} (IsNew : E → Type 0) (channels : List E) : Type 0 where
  channel : E
  there : slice_get channels 0 ≡ Some channel
  new : IsNew channel

First-some : {E : Type 0} (IsNew : E → Type 0) (channels : List E) → 0 < length channels → All IsNew channels →
    First IsNew channels
First-some IsNew [] some all = absurd (omega (arith, some))
First-some IsNew (channel ∷ channels) some all =
    record { channel = channel; there = refl; new = all 0 channel (omega arith) }

First-new : {E : Type 0} (IsNew : ConnectionSettings → E → Type 0) (settings : ConnectionSettings) (initial : ℕ)
    (port : Port E) → 0 < settings.number_of_channels → IsNewPort IsNew settings initial port →
    First (IsNew settings) port.channels
First-new IsNew settings initial port some new =
    First-some (IsNew settings) port.channels (subst (λ n. 0 < n) (sym new.count) some) new.channels

-- a list of no marks has none
none-replicated : (count k : ℕ) → slice_index_or (replicate count false) k false ≡ false
none-replicated zero k = refl
none-replicated (suc count) zero = refl
none-replicated (suc count) (suc k) = none-replicated count k

unused-new : (settings : ConnectionSettings) (count s k : ℕ) →
    is_used (replicate count (new_segment settings)) s k ≡ false
unused-new settings zero s k = refl
unused-new settings (suc count) zero k = none-replicated settings.number_of_samples k
unused-new settings (suc count) (suc s) k = unused-new settings count s k

pub HasSent-new : (settings : ConnectionSettings) (initial : ℕ) (port : SendingPort) → 0 < settings.number_of_channels →
    IsNewPort IsNewSendingChannel settings initial port → HasSent 0 port
HasSent-new settings initial port some new =
    let first = First-new IsNewSendingChannel settings initial port some new in
    record {
      sent = ap sent_of first.there ∙ ap (λ (p : SendPass). p.sent) first.new.submission;
      unused = λ k from.
          subst (λ (segments : List SegmentDetails). is_used segments 0 k ≡ false)
          (sym (segments-there port first.channel first.there ∙ first.new.segments))
          (unused-new settings settings.number_of_segments 0 k);
    }

pub HasGivenBackAll-new : (settings : ConnectionSettings) (initial : ℕ) (port : ReceivingPort) →
    0 < settings.number_of_channels → IsNewPort IsNewReceivingChannel settings initial port → HasGivenBackAll port
HasGivenBackAll-new settings initial port some new =
    let first = First-new IsNewReceivingChannel settings initial port some new in
    ap released_of first.there
    ∙ ap (λ (p : PutPass). p.put) first.new.completion
    ∙ sym (ap values (ap received_of first.there ∙ ap (λ (p : TakePass). p.received) first.new.submission))

-- a new port has the settings of the relay
pub IsNewPort-relayed : {E : Type 0} (IsNew : ConnectionSettings → E → Type 0) (form : RelayForm)
    (asked : PortSettings) (port : Port E) → asked ≡ port_settings form →
    IsNewPort IsNew (connection_settings asked) asked.initial port →
    IsNewPort IsNew (relay_settings form) open_state port
IsNewPort-relayed IsNew form asked port is new =
    subst (λ (s : PortSettings). IsNewPort IsNew (connection_settings s) s.initial port) is new
