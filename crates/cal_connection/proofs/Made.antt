-- Calls of both ports that are made one after the other: each is a step, and the replies so far with those to what is
-- left are those to all.
use Rattle.std.proofs.Common.{◌≡◌, ℕ, ◌+◌, ◌<◌, ◌≤◌, true, false, List, [], ◌∷◌, ◌++◌, length, drop, Option, Result, refl, sym, ap, ◌∙◌, subst, arith, append_assoc}
use Rattle.std.specs.Prelude.{slice_index_or, slice_set}
use Rattle.std.specs.Option.{unwrap_or}
use Rattle.std.proofs.lemmas.Bool.{cond-true, cond-false}
use Rattle.std.proofs.lemmas.List.{append-nil, drop_all, length-set, length_push, set-get_or}
use Rattle.cal_storage.specs.declared.handle.Handle.{Handle}
use Rattle.cal_storage.specs.Contents.{Contents, Has, value_of, with_value}
use Rattle.cal_connection.specs.declared.errors.ZeroCopySendError.{ZeroCopySendError}
use Rattle.cal_connection.specs.declared.errors.ZeroCopyReceiveError.{ZeroCopyReceiveError}
use Rattle.cal_connection.specs.declared.errors.ZeroCopyReclaimError.{ZeroCopyReclaimError}
use Rattle.cal_connection.specs.declared.errors.ZeroCopyReleaseError.{ZeroCopyReleaseError}
use Rattle.cal_connection.specs.declared.port_call.PortCall.{PortCall}
use Rattle.cal_connection.specs.declared.port_call.PortCall.TheVariants.{Send, Receive, Release, Reclaim}
use Rattle.cal_connection.specs.declared.port_reply.PortReply.{PortReply}
use Rattle.cal_connection.specs.declared.port_reply.PortReply.TheVariants.{Unsuited}
use Rattle.cal_connection.specs.Calls.{BothEnds, AreJoined, MakesCall, IsSuited, ends_of, side_at, with_side, with_counts, called_channel, channel_call, is_suited, suited_reply, reply_to, replies_to, after_calls, sent_reply, received_reply, released_reply, reclaimed_reply}
use Rattle.cal_connection.specs.Channel.{send_answer, after_send, receive_answer, after_receive, count_after_receive, release_answer, after_release, count_after_release, reclaim_answer, after_reclaim}
use Rattle.cal_connection.specs.Port.{PortEntry, SenderEnd, ReceiverEnd, IsSendable, no_port, channel_at, port_at, with_port, settings_at, channel_of, with_channel, with_channel_of, count_at, with_count}
use Rattle.cal_connection.specs.RegistryLemmas.{Has-with_port, port_at-with_port-same, with_port-present, with_port-twice}
use Rattle.cal_connection.specs.Traffic.{Side, side_after}
use Rattle.cal_connection.proofs.BothEnds.{with_side-present}
use Rattle.cal_connection.proofs.Suited.{suited, unsuited}

-- ---- one call

abbrev both : PortEntry → List ℕ → BothEnds
both port counts = record { port = port; borrow_counts = counts }

module _ (old : Contents PortEntry) (receiver : ReceiverEnd) (has : Has old receiver.handle) where
  abbrev ends : BothEnds
  ends = ends_of old receiver

  -- a call whose condition doesn't hold, and that changes nothing
  pub made_unsuited : (call : PortCall) → (IsSuited ends call → ⊥) → MakesCall old receiver call Unsuited old receiver
  made_unsuited call apart =
      let not_suited : is_suited ends call ≡ false = unsuited ends call apart in
      record {
        answers = sym (cond-false (is_suited ends call) _ Unsuited not_suited);
        leaves =
            sym (ap (with_side ends (called_channel call))
            (cond-false (is_suited ends call) _ (side_at ends (called_channel call)) not_suited)
            ∙ with_side-present ends (called_channel call));
        entry_alone = sym (with_port-present old receiver.handle has);
        counts_alone = refl;
      }

  module _ (call : PortCall) where
    -- what the port's call leaves
    abbrev left : Side
    left =
        side_after ends.port.settings.enable_safe_overflow ends.port.settings.max_borrowed_samples
        (side_at ends (called_channel call)) (channel_call call)

    abbrev port_left : PortEntry
    port_left = with_channel ends.port (called_channel call) left.channel

    abbrev counts_left : List ℕ
    counts_left = slice_set receiver.borrow_counts (called_channel call) left.count

    -- a call whose condition holds, and that does what the port's call does
    made_suited : (new : Contents PortEntry) (after : ReceiverEnd) (reply : PortReply) → IsSuited ends call →
        reply ≡ suited_reply ends.port.settings (side_at ends (called_channel call)) (channel_call call) →
        new ≡ with_port old receiver.handle port_left → after ≡ with_counts receiver counts_left →
        MakesCall old receiver call reply new after
    made_suited new after reply suits is wrote counted =
        let does : is_suited ends call ≡ true = suited ends call suits in
        let port_is : port_at new receiver.handle ≡ port_left =
        ap (λ c. port_at c receiver.handle) wrote
        ∙ port_at-with_port-same old receiver.handle port_left has in
        record {
          answers = is ∙ sym (cond-true (is_suited ends call) _ Unsuited does);
          leaves =
              ap (ends_of new) counted ∙ ap (λ port. both port counts_left) port_is
              ∙ sym (ap (with_side ends (called_channel call))
              (cond-true (is_suited ends call) left (side_at ends (called_channel call)) does));
          entry_alone = wrote ∙ ap (with_port old receiver.handle) (sym port_is);
          counts_alone = counted ∙ ap (λ (r : ReceiverEnd). with_counts receiver r.borrow_counts) (sym counted);
        }

  -- where the count of a channel stays
  counts_stay : (channel : ℕ) →
      receiver ≡ with_counts receiver
      (slice_set receiver.borrow_counts channel (slice_index_or receiver.borrow_counts channel 0))
  counts_stay channel = sym (ap (with_counts receiver) (set-get_or receiver.borrow_counts channel 0))

  -- ---- the sender's calls, by its own handle of the entry

  module _ (handle : Handle) (same : handle.id ≡ receiver.handle.id) where
    at_handle : port_at old handle ≡ port_at old receiver.handle
    at_handle = ap (λ id. unwrap_or (value_of old id) no_port) same

    -- what was written through the sender's handle
    written : (new : Contents PortEntry) (f : PortEntry → PortEntry) →
        new ≡ with_port old handle (f (port_at old handle)) →
        new ≡ with_port old receiver.handle (f (port_at old receiver.handle))
    written new f is =
        is ∙ ap (λ port. with_port old handle (f port)) at_handle
        ∙ ap (λ id. with_value old id (f (port_at old receiver.handle))) same

    module _ (channel : ℕ) where
      pub made_send : (pointer sample_size : ℕ) (answer : Result (Option ℕ) ZeroCopySendError)
          (new : Contents PortEntry) → IsSendable (port_at old handle) channel pointer sample_size →
          answer ≡ send_answer (settings_at old handle).enable_safe_overflow (channel_of old handle channel) pointer
          sample_size →
          new ≡ with_channel_of old handle channel
          (after_send (settings_at old handle).enable_safe_overflow (channel_of old handle channel) pointer
          sample_size) →
          MakesCall old receiver (Send channel pointer sample_size) (sent_reply answer) new receiver
      made_send pointer sample_size answer new sendable is wrote =
          made_suited (Send channel pointer sample_size) new receiver (sent_reply answer)
          (subst (λ (port : PortEntry). IsSendable port channel pointer sample_size) at_handle sendable)
          (ap sent_reply (is ∙ ap (λ (port : PortEntry).
          send_answer port.settings.enable_safe_overflow (channel_at port channel) pointer sample_size) at_handle))
          (written new
          (λ port. with_channel port channel
          (after_send port.settings.enable_safe_overflow (channel_at port channel) pointer sample_size)) wrote)
          (counts_stay channel)

      pub made_reclaim : (answer : Result (Option ℕ) ZeroCopyReclaimError) (new : Contents PortEntry) →
          channel < (settings_at old handle).number_of_channels →
          answer ≡ reclaim_answer (channel_of old handle channel) →
          new ≡ with_channel_of old handle channel (after_reclaim (channel_of old handle channel)) →
          MakesCall old receiver (Reclaim channel) (reclaimed_reply answer) new receiver
      made_reclaim answer new there is wrote =
          made_suited (Reclaim channel) new receiver (reclaimed_reply answer)
          (subst (λ (port : PortEntry). channel < port.settings.number_of_channels) at_handle there)
          (ap reclaimed_reply
          (is ∙ ap (λ (port : PortEntry). reclaim_answer (channel_at port channel)) at_handle))
          (written new (λ port. with_channel port channel (after_reclaim (channel_at port channel))) wrote)
          (counts_stay channel)

      pub unmade_send : (pointer sample_size : ℕ) →
          (IsSendable (port_at old handle) channel pointer sample_size → ⊥) →
          MakesCall old receiver (Send channel pointer sample_size) Unsuited old receiver
      unmade_send pointer sample_size apart =
          made_unsuited (Send channel pointer sample_size)
          (subst (λ (port : PortEntry). IsSendable port channel pointer sample_size → ⊥) at_handle apart)

      pub unmade_reclaim : (settings_at old handle).number_of_channels ≤ channel →
          MakesCall old receiver (Reclaim channel) Unsuited old receiver
      unmade_reclaim past =
          made_unsuited (Reclaim channel) (λ below.
          let above : ends.port.settings.number_of_channels ≤ channel =
          subst (λ (port : PortEntry). port.settings.number_of_channels ≤ channel) at_handle past in
          omega arith)

  -- ---- the receiver's calls

  module _ (channel : ℕ) where
    pub made_receive : (answer : Result (Option ℕ) ZeroCopyReceiveError) (new : Contents PortEntry)
        (after : ReceiverEnd) → channel < (settings_at old receiver.handle).number_of_channels →
        answer ≡ receive_answer (settings_at old receiver.handle).max_borrowed_samples (count_at receiver channel)
        (channel_of old receiver.handle channel) →
        new ≡ with_channel_of old receiver.handle channel
        (after_receive (settings_at old receiver.handle).max_borrowed_samples (count_at receiver channel)
        (channel_of old receiver.handle channel)) →
        after ≡ with_count receiver channel (count_after_receive answer (count_at receiver channel)) →
        MakesCall old receiver (Receive channel) (received_reply answer) new after
    made_receive answer new after there is wrote counted =
        made_suited (Receive channel) new after (received_reply answer) there (ap received_reply is) wrote
        (counted ∙ ap (λ a. with_count receiver channel (count_after_receive a (count_at receiver channel))) is)

    pub made_release : (pointer : ℕ) (answer : Result (Unit {0}) ZeroCopyReleaseError) (new : Contents PortEntry)
        (after : ReceiverEnd) → channel < (settings_at old receiver.handle).number_of_channels →
        0 < count_at receiver channel → answer ≡ release_answer (channel_of old receiver.handle channel) →
        new ≡ with_channel_of old receiver.handle channel
        (after_release (channel_of old receiver.handle channel) pointer) →
        after ≡ with_count receiver channel (count_after_release answer (count_at receiver channel)) →
        MakesCall old receiver (Release channel pointer) (released_reply answer) new after
    made_release pointer answer new after there some is wrote counted =
        made_suited (Release channel pointer) new after (released_reply answer) (there, some)
        (ap released_reply is) wrote
        (counted ∙ ap (λ a. with_count receiver channel (count_after_release a (count_at receiver channel))) is)

    pub unmade_receive : (settings_at old receiver.handle).number_of_channels ≤ channel →
        MakesCall old receiver (Receive channel) Unsuited old receiver
    unmade_receive past = made_unsuited (Receive channel) (λ below. omega arith)

    pub unmade_release_absent : (pointer : ℕ) → (settings_at old receiver.handle).number_of_channels ≤ channel →
        MakesCall old receiver (Release channel pointer) Unsuited old receiver
    unmade_release_absent pointer past =
        made_unsuited (Release channel pointer) (λ suits. let below = suits.0 in omega arith)

    pub unmade_release_unborrowed : (pointer : ℕ) → count_at receiver channel ≡ 0 →
        MakesCall old receiver (Release channel pointer) Unsuited old receiver
    unmade_release_unborrowed pointer none =
        made_unsuited (Release channel pointer) (λ suits. let some = suits.1 in omega arith)

-- ---- what every call keeps

module _ (old new : Contents PortEntry) (before after : ReceiverEnd) (call : PortCall) (reply : PortReply)
    (made : MakesCall old before call reply new after) where
  same_handle : after.handle ≡ before.handle
  same_handle = ap (λ (r : ReceiverEnd). r.handle) made.counts_alone

  -- both ends stay those of one entry
  pub AreJoined-made : (sender : SenderEnd) → AreJoined old sender before → AreJoined new sender after
  AreJoined-made sender joined =
      let keeps : (handle : Handle) → Has old handle → Has new handle = λ handle has.
      subst (λ (c : Contents PortEntry). Has c handle) (sym made.entry_alone)
      (Has-with_port old before.handle (port_at new before.handle) handle has) in
      record {
        sender_there = keeps sender.handle joined.sender_there;
        receiver_there =
            subst (λ (h : Handle). Has new h) (sym same_handle) (keeps before.handle joined.receiver_there);
        same = joined.same ∙ ap (λ (h : Handle). h.id) (sym same_handle);
        counts =
            subst (λ (ends : BothEnds). length ends.borrow_counts ≡ ends.port.settings.number_of_channels)
            (sym made.leaves)
            (length-set before.borrow_counts (called_channel call) _ ∙ joined.counts);
      }

-- ---- calls so far

-- so many calls were made: what they answered and left, with what is left to be made, is what all give
pub record AreMade (old : Contents PortEntry) (before : ReceiverEnd) (calls : List PortCall)
    (new : Contents PortEntry) (after : ReceiverEnd) (replies : List PortReply) (made : ℕ) : Type 0 where
  pub told : replies ++ replies_to (ends_of new after) (drop made calls) ≡ replies_to (ends_of old before) calls
  pub left : after_calls (ends_of new after) (drop made calls) ≡ after_calls (ends_of old before) calls
  pub entry_alone : new ≡ with_port old before.handle (port_at new before.handle)
  pub counts_alone : after ≡ with_counts before after.borrow_counts
  pub many : length replies ≡ made

module _ (old : Contents PortEntry) (before : ReceiverEnd) (calls : List PortCall) where
  pub AreMade-at_start : Has old before.handle → AreMade old before calls old before [] 0
  AreMade-at_start has = record {
    told = refl;
    left = refl;
    entry_alone = sym (with_port-present old before.handle has);
    counts_alone = refl;
    many = refl;
  }

  module _ (now : Contents PortEntry) (middle : ReceiverEnd) (replies : List PortReply) (made : ℕ)
      (so_far : AreMade old before calls now middle replies made) where
    pub AreMade-next : (call : PortCall) (reply : PortReply) (new : Contents PortEntry) (after : ReceiverEnd) →
        drop made calls ≡ call ∷ drop (made + 1) calls → MakesCall now middle call reply new after →
        AreMade old before calls new after (replies ++ reply ∷ []) (made + 1)
    AreMade-next call reply new after next makes =
        let rest : List PortCall = drop (made + 1) calls in
        let middle_handle : middle.handle ≡ before.handle =
        ap (λ (r : ReceiverEnd). r.handle) so_far.counts_alone in
        record {
          told =
              append_assoc replies (reply ∷ []) (replies_to (ends_of new after) rest)
              ∙ ap (λ rs. replies ++ rs)
              (ap (λ r. r ∷ replies_to (ends_of new after) rest) makes.answers
              ∙ ap (λ e. reply_to (ends_of now middle) call ∷ replies_to e rest) makes.leaves
              ∙ sym (ap (replies_to (ends_of now middle)) next))
              ∙ so_far.told;
          left =
              ap (λ e. after_calls e rest) makes.leaves
              ∙ sym (ap (after_calls (ends_of now middle)) next)
              ∙ so_far.left;
          entry_alone =
              subst (λ (h : Handle). new ≡ with_port now h (port_at new h)) middle_handle makes.entry_alone
              ∙ ap (λ (c : Contents PortEntry). with_port c before.handle (port_at new before.handle))
              so_far.entry_alone
              ∙ with_port-twice old before.handle (port_at now before.handle) (port_at new before.handle);
          counts_alone =
              makes.counts_alone
              ∙ ap (λ (r : ReceiverEnd). with_counts r after.borrow_counts) so_far.counts_alone;
          many = length_push replies reply ∙ ap (λ n. n + 1) so_far.many;
        }

    module _ (all : length calls ≤ made) where
      none_left : drop made calls ≡ []
      none_left = drop_all made calls all

      pub all_told : replies ≡ replies_to (ends_of old before) calls
      all_told =
          sym (append-nil replies)
          ∙ ap (λ rest. replies ++ replies_to (ends_of now middle) rest) (sym none_left)
          ∙ so_far.told

      pub all_left : ends_of now middle ≡ after_calls (ends_of old before) calls
      all_left = ap (after_calls (ends_of now middle)) (sym none_left) ∙ so_far.left

      pub entry_left : port_at now before.handle ≡ (after_calls (ends_of old before) calls).port
      entry_left =
          ap (λ (r : ReceiverEnd). port_at now r.handle) (sym so_far.counts_alone)
          ∙ ap (λ (e : BothEnds). e.port) all_left

      pub all_written : now ≡ with_port old before.handle (after_calls (ends_of old before) calls).port
      all_written = so_far.entry_alone ∙ ap (with_port old before.handle) entry_left

      pub all_counted : middle ≡ with_counts before (after_calls (ends_of old before) calls).borrow_counts
      all_counted =
          so_far.counts_alone ∙ ap (λ (e : BothEnds). with_counts before e.borrow_counts) all_left
