-- A port that is created under the path of another one is the other end of its entry.
use Rattle.std.proofs.Common.{◌≡◌, ℕ, Bool, true, false, not, ◌==◌, List, length, replicate, Option, Some, None, Ok, Err, IfSome, if◌then◌else◌, option_map, option_and_then, refl, sym, ap, subst, ◌∙◌, inl, inr}
use Rattle.std.specs.Prelude.{◌⊎◌}
use Rattle.std.specs.Option.{unwrap_or}
use Rattle.std.proofs.Math.Bool.{beq}
use Rattle.std.proofs.lemmas.Bool.{eqb-true, not-false}
use Rattle.std.proofs.lemmas.List.{length-replicate}
use Rattle.std.proofs.lemmas.Option.{none-some}
use Rattle.cal_storage.specs.declared.entry.Entry.{Entry}
use Rattle.cal_storage.specs.declared.handle.Handle.{Handle}
use Rattle.cal_storage.specs.Contents.{Contents, Has, id_at, entry_of, value_at, value_of, after_opening, found_handle}
use Rattle.cal_storage.specs.ContentsLaws.{one_holder_more}
use Rattle.cal_storage.specs.EntryLemmas.{after_opening-ChangesEntry}
use Rattle.cal_storage.specs.HandleLemmas.{has_entry}
use Rattle.cal_storage.specs.Holding.{Holds, IsNamed, JoinsHandles}
use Rattle.cal_storage.specs.ValueLemmas.{entry_of-with_value-same}
use Rattle.cal_connection.specs.declared.settings.ConnectionSettings.{ConnectionSettings}
use Rattle.cal_connection.specs.declared.errors.ZeroCopyCreationError.{ZeroCopyCreationError}
use Rattle.cal_connection.specs.declared.errors.ZeroCopyCreationError.TheVariants.{AnotherInstanceIsAlreadyConnected, IsBeingCleanedUp, IncompatibleBufferSize, IncompatibleMaxBorrowedSamplesPerChannelSetting, IncompatibleOverflowSetting, IncompatibleNumberOfSamples, IncompatibleNumberOfSegments, IncompatibleNumberOfChannels, NoMemory}
use Rattle.cal_connection.specs.Calls.{AreJoined}
use Rattle.cal_connection.specs.Creation.{early_refusal, join_refusal, found_refusal, with_bit, end_handle, new_end, after_joining, after_connecting, after_connecting_at}
use Rattle.cal_connection.specs.Plan.{ConnectionPlan, path_of}
use Rattle.cal_connection.specs.Port.{PortEntry, SenderEnd, ReceiverEnd, no_port, port_at, with_port, settings_at}
use Rattle.cal_connection.specs.Settings.{completion_size}
use Rattle.cal_connection.specs.Words.{has_bit, mark, receiver_bit}

-- ---- settings

-- where none of eight causes holds, the last one doesn't
last_passes : (a b c d e f g h : Bool) (s t u v w x y z : ZeroCopyCreationError) →
    (if a then Some s else if b then Some t else if c then Some u else if d then Some v else if e then Some w
    else if f then Some x else if g then Some y else if h then Some z else None) ≡ None → h ≡ false
last_passes true b c d e f g h s t u v w x y z is = absurd (none-some s (sym is))
last_passes false true c d e f g h s t u v w x y z is = absurd (none-some t (sym is))
last_passes false false true d e f g h s t u v w x y z is = absurd (none-some u (sym is))
last_passes false false false true e f g h s t u v w x y z is = absurd (none-some v (sym is))
last_passes false false false false true f g h s t u v w x y z is = absurd (none-some w (sym is))
last_passes false false false false false true g h s t u v w x y z is = absurd (none-some x (sym is))
last_passes false false false false false false true h s t u v w x y z is = absurd (none-some y (sym is))
last_passes false false false false false false false true s t u v w x y z is = absurd (none-some z (sym is))
last_passes false false false false false false false false s t u v w x y z is = refl

-- a port that joins asks for as many channels as there are
same_channels : (port : PortEntry) (asked : ConnectionSettings) (bit : ℕ) → join_refusal port asked bit ≡ None →
    port.settings.number_of_channels ≡ asked.number_of_channels
same_channels port asked bit is =
    eqb-true port.settings.number_of_channels asked.number_of_channels
    (not-false (port.settings.number_of_channels == asked.number_of_channels)
    (last_passes (has_bit port.word bit) (has_bit port.word mark)
    (not (port.settings.buffer_size == asked.buffer_size))
    (not (completion_size port.settings == completion_size asked))
    (not (beq port.settings.enable_safe_overflow asked.enable_safe_overflow))
    (not (port.settings.number_of_samples == asked.number_of_samples))
    (not (port.settings.number_of_segments == asked.number_of_segments))
    (not (port.settings.number_of_channels == asked.number_of_channels))
    AnotherInstanceIsAlreadyConnected IsBeingCleanedUp IncompatibleBufferSize
    IncompatibleMaxBorrowedSamplesPerChannelSetting IncompatibleOverflowSetting IncompatibleNumberOfSamples
    IncompatibleNumberOfSegments IncompatibleNumberOfChannels is))

-- ---- handles

-- a new port's handle has the path of its plan
pub path-new_end : (contents : Contents PortEntry) (plan : ConnectionPlan) →
    (new_end contents plan).path ≡ path_of plan
path-new_end contents plan = by_id (id_at contents (path_of plan))
  where
    by_id : (at : Option ℕ) → (end_handle contents plan at).path ≡ path_of plan
    by_id None = refl
    by_id (Some id) = refl

module _ (contents : Contents PortEntry) (first : Handle) (plan : ConnectionPlan) (bit : ℕ)
    (holds : Holds contents 1 first) (named : IsNamed contents first) (path : first.path ≡ path_of plan) where
  id_there : id_at contents (path_of plan) ≡ Some first.id
  id_there = subst (λ (p : List ℕ). id_at contents p ≡ Some first.id) path named

  abbrev found : Handle
  found = found_handle (path_of plan) first.id

  abbrev opened : Contents PortEntry
  opened = after_opening contents first.id

  abbrev joined : PortEntry
  joined = with_bit (port_at opened found) bit

  -- the new port is on the entry that is found
  end_is : new_end contents plan ≡ found
  end_is = ap (end_handle contents plan) id_there

  connected_is : after_connecting contents plan bit ≡ after_joining contents found bit
  connected_is = ap (after_connecting_at contents plan bit) id_there

  -- which keeps its settings
  entry : (e : Entry PortEntry) × (entry_of contents first.id ≡ Some e)
  entry = has_entry contents first holds.0

  abbrev value_in : Option (Entry PortEntry) → PortEntry
  value_in at = unwrap_or (option_map (λ (e : Entry PortEntry). e.value) at) no_port

  entry-opened : entry_of opened first.id ≡ Some (one_holder_more entry.0)
  entry-opened = (after_opening-ChangesEntry contents first.id).entry ∙ ap (option_map one_holder_more) entry.1

  port_at-joined : port_at (with_port opened found joined) found ≡ joined
  port_at-joined =
      ap value_in
      (entry_of-with_value-same opened first.id joined
      ∙ ap (option_map (λ (e : Entry PortEntry). record e { value = joined })) entry-opened)

  channels_after : (new : Contents PortEntry) (second : Handle) → new ≡ after_connecting contents plan bit →
      second ≡ new_end contents plan →
      (settings_at new second).number_of_channels ≡ (settings_at contents first).number_of_channels
  channels_after new second new_is second_is =
      ap (λ (h : Handle). (settings_at new h).number_of_channels) (second_is ∙ end_is)
      ∙ ap (λ (c : Contents PortEntry). (settings_at c found).number_of_channels) (new_is ∙ connected_is)
      ∙ ap (λ (p : PortEntry). p.settings.number_of_channels) port_at-joined
      ∙ ap (λ at. (value_in at).settings.number_of_channels) entry-opened
      ∙ sym (ap (λ at. (value_in at).settings.number_of_channels) entry.1)

  -- and has as many channels as the new port asks for
  channels_asked : found_refusal contents plan bit ≡ None →
      (settings_at contents first).number_of_channels ≡ plan.options.settings.number_of_channels
  channels_asked unrefused =
      let value_is : value_at contents (path_of plan) ≡ Some entry.0.value =
      ap (λ at. option_map (λ (e : Entry PortEntry). e.value) (option_and_then (entry_of contents) at)) id_there
      ∙ ap (option_map (λ (e : Entry PortEntry). e.value)) entry.1 in
      let refusal : join_refusal entry.0.value plan.options.settings bit ≡ None =
      sym (ap (option_and_then (λ port. join_refusal port plan.options.settings bit)) value_is) ∙ unrefused in
      ap (λ at. (value_in at).settings.number_of_channels) entry.1
      ∙ same_channels entry.0.value plan.options.settings bit refusal

  module _ (new : Contents PortEntry) (second : Handle) (new_is : new ≡ after_connecting contents plan bit)
      (second_is : second ≡ new_end contents plan) (joins : JoinsHandles contents new second) where
    both_there : Has new first × Has new second
    both_there =
        let two = joins first holds named (path ∙ sym (ap (λ (h : Handle). h.path) (second_is ∙ end_is))) in
        (two.0.0, two.1.0)

    same_id : second.id ≡ first.id
    same_id = ap (λ (h : Handle). h.id) (second_is ∙ end_is)

-- a receiver that was created under a sender's path
pub AreJoined-receiver : (contents new : Contents PortEntry) (sender : SenderEnd) (receiver : ReceiverEnd)
    (plan : ConnectionPlan) (bit : ℕ) → Holds contents 1 sender.handle → IsNamed contents sender.handle →
    sender.handle.path ≡ path_of plan → found_refusal contents plan bit ≡ None →
    new ≡ after_connecting contents plan bit → receiver.handle ≡ new_end contents plan →
    receiver.borrow_counts ≡ replicate plan.options.settings.number_of_channels 0 →
    JoinsHandles contents new receiver.handle → AreJoined new sender receiver
AreJoined-receiver contents new sender receiver plan bit holds named path unrefused new_is end_is counts joins =
    let there = both_there contents sender.handle plan bit holds named path new receiver.handle new_is end_is joins in
    record {
      sender_there = there.0;
      receiver_there = there.1;
      same =
          sym (same_id contents sender.handle plan bit holds named path new receiver.handle new_is end_is joins);
      counts =
          ap (λ (xs : List ℕ). length xs) counts ∙ length-replicate plan.options.settings.number_of_channels 0
          ∙ sym (channels_after contents sender.handle plan bit holds named path new receiver.handle new_is end_is
          ∙ channels_asked contents sender.handle plan bit holds named path unrefused);
    }

-- a sender that was created under a receiver's path
pub AreJoined-sender : (contents new : Contents PortEntry) (sender : SenderEnd) (receiver : ReceiverEnd)
    (plan : ConnectionPlan) (bit : ℕ) → Holds contents 1 receiver.handle → IsNamed contents receiver.handle →
    receiver.handle.path ≡ path_of plan →
    length receiver.borrow_counts ≡ (settings_at contents receiver.handle).number_of_channels →
    new ≡ after_connecting contents plan bit → sender.handle ≡ new_end contents plan →
    JoinsHandles contents new sender.handle → AreJoined new sender receiver
AreJoined-sender contents new sender receiver plan bit holds named path counts new_is end_is joins =
    let there = both_there contents receiver.handle plan bit holds named path new sender.handle new_is end_is joins in
    let same : sender.handle.id ≡ receiver.handle.id =
    same_id contents receiver.handle plan bit holds named path new sender.handle new_is end_is joins in
    record {
      sender_there = there.1;
      receiver_there = there.0;
      same = same;
      counts =
          counts
          ∙ sym (channels_after contents receiver.handle plan bit holds named path new sender.handle new_is end_is)
          ∙ ap (λ id. (unwrap_or (value_of new id) no_port).settings.number_of_channels) same;
    }

-- ---- what the clauses of both creations tell

module _ {T : Type 0} (made : T) where
  -- a port that was made wasn't refused
  unrefused_early : (refusal : Option ZeroCopyCreationError) → IfSome refusal (λ error. Ok made ≡ Err error) →
      refusal ≡ None
  unrefused_early None refused = refl
  unrefused_early (Some error) refused = cc

  unrefused_found : (refusal : Option ZeroCopyCreationError) →
      IfSome refusal (λ error. (Ok made ≡ Err error) ⊎ (Ok made ≡ Err NoMemory)) → refusal ≡ None
  unrefused_found None refused = refl
  unrefused_found (Some error) (inl refused) = cc
  unrefused_found (Some error) (inr refused) = cc

-- a sender was created, and then a receiver under the same path
pub AreJoined-created : (before contents new : Contents PortEntry) (sender : SenderEnd) (receiver : ReceiverEnd)
    (checks_version : Bool) (first second : ConnectionPlan) → sender.handle ≡ new_end before first →
    Holds contents 1 sender.handle → IsNamed contents sender.handle → path_of first ≡ path_of second →
    IfSome (early_refusal checks_version contents second) (λ error. Ok receiver ≡ Err error) →
    (early_refusal checks_version contents second ≡ None →
    IfSome (found_refusal contents second receiver_bit)
    (λ error. (Ok receiver ≡ Err error) ⊎ (Ok receiver ≡ Err NoMemory))) →
    new ≡ after_connecting contents second receiver_bit →
    receiver ≡ record {
      name = second.name;
      handle = new_end contents second;
      borrow_counts = replicate second.options.settings.number_of_channels 0;
    } → JoinsHandles contents new receiver.handle → AreJoined new sender receiver
AreJoined-created before contents new sender receiver checks_version first second is_new holds named path early found
    connected end joins =
    AreJoined-receiver contents new sender receiver second receiver_bit holds named
    (ap (λ (h : Handle). h.path) is_new ∙ path-new_end before first ∙ path)
    (unrefused_found receiver (found_refusal contents second receiver_bit)
    (found (unrefused_early receiver (early_refusal checks_version contents second) early)))
    connected (ap (λ (r : ReceiverEnd). r.handle) end) (ap (λ (r : ReceiverEnd). r.borrow_counts) end) joins
