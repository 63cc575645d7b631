-- New ports are sound.
use Rattle.std.specs.Prelude.{◌≡◌, ℕ, ◌+◌, ◌^◌, ◌<◌, false, List, [], ◌∷◌, ◌++◌, length, map, replicate, All}
use Rattle.std.proofs.Common.{refl, sym, ap, ◌∙◌, subst, arith}
use Rattle.std.proofs.Math.ListN.{get_or-map}
use Rattle.std.proofs.lemmas.List.{get_or-replicate, get_or_default, length-map, length-replicate, length_push, map-append, same_lists}
use Rattle.std.proofs.lemmas.List.Elements.{All-nil, All-push}
use Rattle.atomic_table.specs.Seated.{TableId}
use Rattle.cal_queue.specs.declared.completion_ring.pass.GetPass.{GetPass}
use Rattle.cal_queue.specs.declared.completion_ring.pass.PutPass.{PutPass}
use Rattle.cal_queue.specs.declared.state_table.pass.StatePass.{StatePass}
use Rattle.cal_queue.specs.StateTable.{new_pass_of}
use Rattle.cal_queue.specs.declared.submission_ring.pass.SendPass.{SendPass}
use Rattle.cal_queue.specs.declared.submission_ring.pass.TakePass.{TakePass}
use Rattle.cal_connection.specs.Channel.{new_segment, samples_of}
use Rattle.cal_connection.specs.Settings.{IsClamped, completion_size}
use Rattle.cal_connection.specs.declared.settings.ConnectionSettings.{ConnectionSettings}
use Rattle.cal_shared.specs.Channels.{FitsReceiver, FitsSender, ReceivingChannel, Rings, SendingChannel}
use Rattle.cal_shared.specs.New.{AreNewChannels, IsNewReceivingChannel, IsNewSendingChannel, both_ports}
use Rattle.cal_shared.specs.Port.{IsSoundPort, Pair}

map-replicate : {X Y : Type 0} (f : X → Y) (n : ℕ) (x : X) → map f (replicate n x) ≡ replicate n (f x)
map-replicate f n x =
    same_lists (map f (replicate n x)) (replicate n (f x))
    (length-map (replicate n x) f ∙ length-replicate n x ∙ sym (length-replicate n (f x)))
    (λ k d below.
    let within : k < n = subst (λ m. k < m) (length-map (replicate n x) f ∙ length-replicate n x) below in
    get_or_default (map f (replicate n x)) k d (f x) below ∙ get_or-map f (replicate n x) k x
    ∙ ap f (get_or-replicate n k x x within) ∙ sym (get_or-replicate n k (f x) d within))

pub FitsSender-new : (settings : ConnectionSettings) (channel : SendingChannel)
    → IsNewSendingChannel settings channel → FitsSender settings channel
FitsSender-new settings channel new = record {
  buffer = ap (λ (p : SendPass). p.buffer) new.submission;
  completion = ap (λ (p : GetPass). p.capacity) new.completion;
  samples =
      ap (map samples_of) new.segments
      ∙ map-replicate samples_of settings.number_of_segments (new_segment settings)
      ∙ ap (replicate settings.number_of_segments) (length-replicate settings.number_of_samples false);
}

pub FitsReceiver-new : (settings : ConnectionSettings) (channel : ReceivingChannel)
    → IsNewReceivingChannel settings channel → FitsReceiver settings channel
FitsReceiver-new settings channel new =
    let none_put : length channel.completion.put ≡ 0 = ap (λ (p : PutPass). length p.put) new.completion in
    let none_received : length channel.submission.received ≡ 0 =
    ap (λ (p : TakePass). length p.received) new.submission in
    record {
      buffer = ap (λ (p : TakePass). p.buffer) new.submission;
      completion = ap (λ (p : PutPass). p.capacity) new.completion;
      received_first = omega arith;
      within = omega arith;
    }

-- ---- the channels of a new pair

pub AreNewChannels-none : (settings : ConnectionSettings) → AreNewChannels settings 0 [] []
AreNewChannels-none settings = record {
  senders = All-nil (IsNewSendingChannel settings);
  receivers = All-nil (IsNewReceivingChannel settings);
  rings = refl;
  sender_count = refl;
  receiver_count = refl;
}

-- one more
pub AreNewChannels-more : (settings : ConnectionSettings) (count : ℕ) (sending : List SendingChannel)
    (receiving : List ReceivingChannel) (sender : SendingChannel) (receiver : ReceivingChannel)
    → IsNewSendingChannel settings sender → IsNewReceivingChannel settings receiver
    → sender.rings ≡ receiver.rings → AreNewChannels settings count sending receiving
    → AreNewChannels settings (count + 1) (sending ++ sender ∷ []) (receiving ++ receiver ∷ [])
AreNewChannels-more settings count sending receiving sender receiver new_sender new_receiver same so_far = record {
  senders = All-push (IsNewSendingChannel settings) sending sender so_far.senders new_sender;
  receivers = All-push (IsNewReceivingChannel settings) receiving receiver so_far.receivers new_receiver;
  rings =
      map-append (λ (c : SendingChannel). c.rings) sending (sender ∷ [])
      ∙ ap (λ (rings : List Rings). rings ++ sender.rings ∷ []) so_far.rings
      ∙ ap (λ (r : Rings). map (λ (c : ReceivingChannel). c.rings) receiving ++ r ∷ []) same
      ∙ sym (map-append (λ (c : ReceivingChannel). c.rings) receiving (receiver ∷ []));
  sender_count = length_push sending sender ∙ ap (λ n. n + 1) so_far.sender_count;
  receiver_count = length_push receiving receiver ∙ ap (λ n. n + 1) so_far.receiver_count;
}

-- ---- new ports

-- a port of new channels is sound
pub IsSoundPort-new : {E : Type 0} (Fits IsNew : ConnectionSettings → E → Type 0) (settings : ConnectionSettings)
    (initial : ℕ) (words : TableId) (states : StatePass) (channels : List E)
    → ((channel : E) → IsNew settings channel → Fits settings channel) → IsClamped settings
    → completion_size settings < 2 ^ 32 → states ≡ new_pass_of both_ports settings.number_of_channels initial
    → length channels ≡ settings.number_of_channels → All (IsNew settings) channels
    → IsSoundPort Fits (record { settings = settings; words = words; states = states; channels = channels })
IsSoundPort-new Fits IsNew settings initial words states channels fitting clamped few new count all = record {
  clamped = clamped;
  few = few;
  words = ap (λ (p : StatePass). p.opening.channels) new;
  count = count;
  fits = λ index d within. fitting _ (all index d within);
}

abbrev pub made : ConnectionSettings → TableId → List Rings → Pair
made settings words rings = record { settings = settings; words = words; rings = rings }

-- both ports have the same in common
pub same_pair : (settings : ConnectionSettings) (words words' : TableId) (sending : List SendingChannel)
    (receiving : List ReceivingChannel) → words ≡ words'
    → map (λ (c : SendingChannel). c.rings) sending ≡ map (λ (c : ReceivingChannel). c.rings) receiving
    → made settings words (map (λ (c : SendingChannel). c.rings) sending)
    ≡ made settings words' (map (λ (c : ReceivingChannel). c.rings) receiving)
same_pair settings words words' sending receiving same rings =
    ap (λ (w : TableId). made settings w (map (λ (c : SendingChannel). c.rings) sending)) same
    ∙ ap (made settings words') rings
