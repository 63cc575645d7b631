-- A pair with one channel: both ends of it, and what they have in common.
use Rattle.std.specs.Prelude.{◌≡◌, ℕ, List, [], ◌∷◌, ◌++◌, length, map, Option, Some, slice_get, slice_index_or}
use Rattle.std.proofs.Common.{sym, ap, ◌∙◌, subst, arith, length-append}
use Rattle.std.proofs.lemmas.Option.{get_or_from_slice_get, slice_get_within}
use Rattle.cal_queue.specs.RingState.{Bounds}
use Rattle.cal_connection.specs.Settings.{completion_size}
use Rattle.cal_connection.specs.declared.settings.ConnectionSettings.{ConnectionSettings}
use Rattle.cal_shared.specs.Channels.{FitsReceiver, FitsSender, ReceivingChannel, Rings, SendingChannel}
use Rattle.cal_shared.specs.Port.{IsSoundPort, Port, ReceivingPort, SendingPort}
use Rattle.cal_shared.specs.Rest.{CountsChannel, IsOneSchedule, bounds_of, overflowed_at, overflowed_of, received_at, received_of, released_at, released_of, sent_at, sent_of}
use Rattle.cal_shared.specs.declared.resting.PortRest.{PortRest}

-- the last element of a list of one is the list's
pub only_element : {X : Type 0} (xs ys : List X) (x : X) → xs ≡ ys ++ x ∷ [] → length xs ≡ 1 → xs ≡ x ∷ []
only_element xs [] x is one = is
only_element {X} xs (y ∷ ys) x is one =
    let long : length xs ≡ length ((y ∷ ys) ++ x ∷ []) = ap length is in
    let count = length-append (y ∷ ys) (x ∷ []) in absurd (omega arith)

pub rings-only : (sending : List SendingChannel) (receiving : List ReceivingChannel) (s : SendingChannel)
    (r : ReceivingChannel) → sending ≡ s ∷ [] → receiving ≡ r ∷ []
    → map (λ (c : SendingChannel). c.rings) sending ≡ map (λ (c : ReceivingChannel). c.rings) receiving
    → s.rings ≡ r.rings
rings-only sending receiving s r one other same =
    ap (λ (rings : List Rings). slice_index_or rings 0 s.rings)
    (sym (ap (map (λ (c : SendingChannel). c.rings)) one) ∙ same
    ∙ ap (map (λ (c : ReceivingChannel). c.rings)) other)

-- the only channel fits the settings
module _ {E : Type 0} (Fits : ConnectionSettings → E → Type 0) (port : Port E) (sound : IsSoundPort Fits port) (channel : E)
    (one : port.channels ≡ channel ∷ []) where
  there-only : slice_get port.channels 0 ≡ Some channel
  there-only = ap (λ (channels : List E). slice_get channels 0) one

  Fits-only : Fits port.settings channel
  Fits-only =
      subst (Fits port.settings) (get_or_from_slice_get port.channels 0 channel channel there-only)
      (sound.fits 0 channel (slice_get_within port.channels 0 channel there-only))

abbrev bounds_from : ℕ → ℕ → Bounds
bounds_from buffer completion = record { buffer = buffer; completion = completion }

abbrev IsScheduled : Bounds → ℕ → Option ReceivingChannel → Option SendingChannel → Type 0
IsScheduled bounds reclaimed r s =
    IsOneSchedule bounds (sent_of s) (overflowed_of s) (received_of r) (released_of r) reclaimed

-- what was counted of the only channel is of channel 0 of both ports
pub IsOneSchedule-only : (sender : SendingPort) (receiver : ReceivingPort) (sending : SendingChannel)
    (receiving : ReceivingChannel) (rest : PortRest) → IsSoundPort FitsSender sender
    → IsSoundPort FitsReceiver receiver → receiver.settings ≡ sender.settings → sender.channels ≡ sending ∷ []
    → receiver.channels ≡ receiving ∷ [] → CountsChannel sending receiving rest
    → IsOneSchedule (bounds_of sender.settings) (sent_at sender 0) (overflowed_at sender 0) (received_at receiver 0)
    (released_at receiver 0) rest.reclaimed
IsOneSchedule-only sender receiver sending receiving rest sound other_sound same one other counted =
    subst (IsScheduled (bounds_of sender.settings) rest.reclaimed (slice_get receiver.channels 0))
    (sym (there-only FitsSender sender sound sending one))
    (subst
    (λ (r : Option ReceivingChannel). IsScheduled (bounds_of sender.settings) rest.reclaimed r (Some sending))
    (sym (there-only FitsReceiver receiver other_sound receiving other))
    (subst (λ (b : Bounds). IsScheduled b rest.reclaimed (Some receiving) (Some sending)) bounds counted.one_schedule))
  where
    bounds : bounds_from sending.submission.buffer receiving.completion.capacity ≡ bounds_of sender.settings
    bounds =
        ap (λ (n : ℕ). bounds_from n receiving.completion.capacity)
        (Fits-only FitsSender sender sound sending one).buffer
        ∙ ap (bounds_from sender.settings.buffer_size)
        ((Fits-only FitsReceiver receiver other_sound receiving other).completion
        ∙ ap (λ (s : ConnectionSettings). completion_size s) same)
