-- The receive of a transport, from what its calls on the ports, the memory and the view say.
use Rattle.std.proofs.Common.{ℕ, ◌<◌, ◌≤◌, ◌≡◌, Bool, true, false, cond, nat_le, List, [], ◌∷◌, drop, Option, Some, None, Result, Ok, Err, refl, sym, ap, ◌∙◌, subst}
use Rattle.std.specs.List.{slice_get}
use Rattle.std.proofs.lemmas.Bool.{leb-true, leb-false}
use Rattle.std.proofs.lemmas.List.{set-get_or}
use Rattle.std.proofs.lemmas.Option.{none-some}
use Rattle.cal_queue.specs.Queue.{after_pop, oldest}
use Rattle.cal_storage.specs.Contents.{Contents}
use Rattle.cal_connection.specs.declared.errors.ZeroCopyReceiveError.{ZeroCopyReceiveError}
use Rattle.cal_connection.specs.declared.errors.ZeroCopyReceiveError.TheVariants as error
use Rattle.cal_connection.specs.Channel.{ChannelEntry, receive_answer, after_receive, count_after_receive}
use Rattle.cal_connection.specs.Port.{PortEntry, ReceiverEnd, channel_of, with_channel_of, settings_at, count_at, with_count}
use Rattle.cal_connection.specs.RegistryLemmas.{with_channel_of-present}
use Rattle.cal_transport.specs.declared.command.Command.TheVariants as command
use Rattle.cal_transport.specs.declared.reply.Reply.{Reply}
use Rattle.cal_transport.specs.declared.reply.Reply.TheVariants.{Received, Refused}
use Rattle.cal_transport.specs.declared.reply.Refusal.TheVariants as refusal
use Rattle.cal_transport.specs.Ledger.{Ledger}
use Rattle.cal_transport.specs.State.{TransportState, core_of, IsLinked, DoesAnywhere}
use Rattle.cal_transport.proofs.Settled.{settled}
use Rattle.cal_transport.proofs.PortCalls.{channel_is, with_is, borrow_limit}
use Rattle.cal_transport.proofs.Represented.{IsPlaceless, stands, state_same}
use Rattle.cal_transport.proofs.Stands.{SameCore}
use Rattle.cal_transport.proofs.ReceiveStep.{receive_outside, receive_at_limit, receives_none}

-- ---- what the receiver's call says

pub record ReceiveCall (t : TransportState) (k : ℕ) (answer : Result (Option ℕ) ZeroCopyReceiveError)
    (registry : Contents PortEntry) (receiver : ReceiverEnd) : Type 0 where
  pub answer_is : answer ≡ receive_answer
      (settings_at t.connection_registry t.receiver.handle).max_borrowed_samples (count_at t.receiver k)
      (channel_of t.connection_registry t.receiver.handle k)
  pub registry_is : registry ≡ with_channel_of t.connection_registry t.receiver.handle k (after_receive
      (settings_at t.connection_registry t.receiver.handle).max_borrowed_samples (count_at t.receiver k)
      (channel_of t.connection_registry t.receiver.handle k))
  pub receiver_is : receiver ≡ with_count t.receiver k (count_after_receive answer (count_at t.receiver k))

-- below the limit the oldest is the answer
pub answer_below : (limit count : ℕ) (ch : ChannelEntry) (o : Option ℕ) → Ok o ≡ receive_answer limit count ch →
    (nat_le limit count ≡ false) × (o ≡ oldest ch.submission)
answer_below limit count ch o is = go (nat_le limit count) refl is
  where
    go : (b : Bool) → nat_le limit count ≡ b →
        Ok o ≡ cond b (Err error.ReceiveWouldExceedMaxBorrowValue) (Ok (oldest ch.submission)) →
        (nat_le limit count ≡ false) × (o ≡ oldest ch.submission)
    go true e q = absurd (let q2 = q in cc)
    go false e q = (e, (let q2 = q in cc))

answer_at_limit : (limit count : ℕ) (ch : ChannelEntry) (e : ZeroCopyReceiveError) →
    Err e ≡ receive_answer limit count ch → nat_le limit count ≡ true
answer_at_limit limit count ch e is = go (nat_le limit count) refl is
  where
    go : (b : Bool) → nat_le limit count ≡ b →
        Err e ≡ cond b (Err error.ReceiveWouldExceedMaxBorrowValue) (Ok (oldest ch.submission)) →
        nat_le limit count ≡ true
    go true is q = is
    go false is q = absurd (let q2 = q in cc)

-- ---- a channel that isn't there

pub receive_outside_does : (t : TransportState) (k : ℕ) → t.settings.channels ≤ k →
    DoesAnywhere t (command.Receive k) (Refused refusal.OutsideConnection) t
receive_outside_does t k past place l r =
    stands t l (command.Receive k) (Refused refusal.OutsideConnection) r.place place r.sound placeless
    (λ any. receive_outside (core_of t) l any k r.shows r.tracks past)
  where
    placeless : IsPlaceless l (command.Receive k) (Refused refusal.OutsideConnection)
    placeless None a b = refl
    placeless (Some why) a b = refl

module _ (t : TransportState) (linked : IsLinked t) (k : ℕ) (inside : k < t.settings.channels) where
  abbrev ch : ChannelEntry
  ch = channel_of t.connection_registry t.sender.handle k

  abbrev limit : ℕ
  limit = (settings_at t.connection_registry t.receiver.handle).max_borrowed_samples

  abbrev count : ℕ
  count = count_at t.receiver k

  limit_is : limit ≡ t.settings.borrow
  limit_is = borrow_limit t.connection_registry t.sender.handle t.receiver.handle t.settings linked.ports

  ch_is : channel_of t.connection_registry t.receiver.handle k ≡ ch
  ch_is = channel_is t.connection_registry t.sender.handle t.receiver.handle t.settings linked.ports k

  -- the registry by the sender's handle
  pub registry_by : (n : ℕ) (registry : Contents PortEntry) →
      registry ≡ with_channel_of t.connection_registry t.receiver.handle k (after_receive n count
      (channel_of t.connection_registry t.receiver.handle k)) →
      registry ≡ with_channel_of t.connection_registry t.sender.handle k (after_receive n count ch)
  registry_by n registry is =
      is ∙ ap (λ e. with_channel_of t.connection_registry t.receiver.handle k (after_receive n count e)) ch_is
      ∙ with_is t.connection_registry t.sender.handle t.receiver.handle t.settings linked.ports k
      (after_receive n count ch)

  -- ---- nothing is received

  abbrev same_state : Contents PortEntry → ReceiverEnd → TransportState
  same_state registry receiver = record t { connection_registry = registry; receiver = receiver }

  counts_same : with_count t.receiver k count ≡ t.receiver
  counts_same = ap (λ cs. record t.receiver { borrow_counts = cs }) (set-get_or t.receiver.borrow_counts k 0)

  refused_registry : (registry : Contents PortEntry) (receiver : ReceiverEnd) (e : ZeroCopyReceiveError) →
      ReceiveCall t k (Err e) registry receiver → same_state registry receiver ≡ t
  refused_registry registry receiver e call =
      let at = answer_at_limit limit count (channel_of t.connection_registry t.receiver.handle k) e call.answer_is in
      state_same t registry receiver
      (registry_by limit registry call.registry_is
      ∙ ap (λ b. with_channel_of t.connection_registry t.sender.handle k
      (cond b ch (record ch { submission = after_pop ch.submission }))) at
      ∙ with_channel_of-present t.connection_registry t.sender.handle k linked.ports.has_sender)
      (call.receiver_is ∙ counts_same)

  pub receive_limit_state : (registry : Contents PortEntry) (receiver : ReceiverEnd) (e : ZeroCopyReceiveError) →
      ReceiveCall t k (Err e) registry receiver → same_state registry receiver ≡ t
  receive_limit_state = refused_registry

  pub receive_limit_does : (registry : Contents PortEntry) (receiver : ReceiverEnd) (e : ZeroCopyReceiveError) →
      ReceiveCall t k (Err e) registry receiver →
      DoesAnywhere t (command.Receive k) (Refused refusal.ReceiveWouldExceedMaxBorrowValue) t
  receive_limit_does registry receiver e call place l r =
      let at = answer_at_limit limit count (channel_of t.connection_registry t.receiver.handle k) e call.answer_is in
      let full = leb-true limit count at in
      stands t l (command.Receive k) (Refused refusal.ReceiveWouldExceedMaxBorrowValue) r.place place r.sound
      (placeless l (Refused refusal.ReceiveWouldExceedMaxBorrowValue))
      (λ any. receive_at_limit (core_of t) l any k (settled l r.place r.sound) r.shows r.tracks inside
      (subst (λ n. n ≤ count) limit_is full))
    where
      placeless : (m : Ledger) (reply : Reply) → IsPlaceless m (command.Receive k) reply
      placeless m reply None a b = refl
      placeless m reply (Some why) a b = refl

  empty_values : (values : List ℕ) → slice_get values 0 ≡ None → values ≡ []
  empty_values [] e = refl
  empty_values (v ∷ values) e = absurd (none-some v (sym e))

  pub receive_none_state : (registry : Contents PortEntry) (receiver : ReceiverEnd) →
      ReceiveCall t k (Ok None) registry receiver → same_state registry receiver ≡ t
  receive_none_state registry receiver call =
      let at = answer_below limit count (channel_of t.connection_registry t.receiver.handle k) None call.answer_is in
      let first : slice_get ch.submission.values 0 ≡ None =
      sym (at.1 ∙ ap (λ (e : ChannelEntry). oldest e.submission) ch_is) in
      let none = empty_values ch.submission.values first in
      let popped : record ch { submission = after_pop ch.submission } ≡ ch =
      ap (λ vs. record ch { submission = record ch.submission { values = drop 1 vs } }) none
      ∙ ap (λ vs. record ch { submission = record ch.submission { values = vs } }) (sym none) in
      state_same t registry receiver
      (registry_by limit registry call.registry_is
      ∙ ap (λ b. with_channel_of t.connection_registry t.sender.handle k
      (cond b ch (record ch { submission = after_pop ch.submission }))) at.0
      ∙ ap (with_channel_of t.connection_registry t.sender.handle k) popped
      ∙ with_channel_of-present t.connection_registry t.sender.handle k linked.ports.has_sender)
      (call.receiver_is ∙ counts_same)

  same_core : SameCore (core_of t) (core_of t)
  same_core = record {
    settings = refl;
    current = refl;
    active = λ segment. refl;
    opened_last = refl;
    mapped = λ segment. refl;
    channels = λ n. record { channel = refl; borrowed = refl };
    entries = refl;
    tracks = λ n. record { lent = refl; transits = refl };
    owners = λ segment. refl;
    in_transit = refl;
  }

  pub receive_none_does : (registry : Contents PortEntry) (receiver : ReceiverEnd) →
      ReceiveCall t k (Ok None) registry receiver → DoesAnywhere t (command.Receive k) (Received None) t
  receive_none_does registry receiver call place l r =
      let at = answer_below limit count (channel_of t.connection_registry t.receiver.handle k) None call.answer_is in
      let room = leb-false limit count at.0 in
      let first : slice_get ch.submission.values 0 ≡ None =
      sym (at.1 ∙ ap (λ (e : ChannelEntry). oldest e.submission) ch_is) in
      stands t l (command.Receive k) (Received None) r.place place r.sound placeless
      (λ any. receives_none (core_of t) (core_of t) l any k (settled l r.place r.sound) r.shows r.tracks inside
      (subst (λ n. count < n) limit_is room) first same_core)
    where
      placeless : IsPlaceless l (command.Receive k) (Received None)
      placeless None a b = refl
      placeless (Some why) a b = refl
