-- Both ports of a connection over a new registry are made, where there is room for them.
use Rattle.std.proofs.Common.{◌≡◌, ℕ, ◌+◌, ◌*◌, ◌^◌, ◌<◌, ◌≤◌, Bool, true, false, cond, not, ◌||◌, nat_le, nat_eq, Option, Some, None, is_some, List, [], ◌∷◌, ◌++◌, codes, length, get_or, replicate, option_map, refl, sym, ap, ◌∙◌, subst, inl, inr, ◌⊎◌, arith}
use Rattle.std.specs.Option.{option_and_then}
use Rattle.std.proofs.Math.Bool.{beq}
use Rattle.std.proofs.lemmas.List.{get_or-replicate}
use Rattle.std.proofs.lemmas.Option.{none-some}
use Rattle.cal_names.specs.ConceptSettings.{settings_of, file_path_for}
use Rattle.cal_storage.specs.Contents.{Contents, Has, id_at, entry_of, entry_at, value_at, nothing_registered, after_creation, found_handle, new_handle}
use Rattle.cal_storage.specs.Refusals.{finished_version, is_too_long, entry_refusal}
use Rattle.cal_storage.specs.declared.handle.Handle.{Handle}
use Rattle.cal_storage.specs.SoundnessLemmas.{id_at-after_creation-same}
use Rattle.cal_storage.specs.declared.dynamic_storage.errors.DynamicStorageOpenError.TheVariants as opening
use Rattle.cal_connection.specs.declared.errors.ZeroCopyCreationError.{ZeroCopyCreationError}
use Rattle.cal_connection.specs.declared.errors.ZeroCopyCreationError.TheVariants.{NoMemory, SizeOutOfRange}
use Rattle.cal_connection.specs.declared.settings.ConnectionSettings.{ConnectionSettings}
use Rattle.cal_connection.specs.Channel.{new_channel}
use Rattle.cal_connection.specs.Configuration.{default_parts, stored_type}
use Rattle.cal_connection.specs.Creation.{early_refusal, found_refusal, join_refusal, opening_cause, new_end, end_handle, after_connecting, after_connecting_at, after_making, after_joining}
use Rattle.cal_connection.specs.Plan.{ConnectionPlan, path_of, storage_plan}
use Rattle.cal_connection.specs.Port.{PortEntry, SenderEnd, ReceiverEnd, new_port, no_channel}
use Rattle.cal_connection.specs.PortLemmas.{IsSoundPort-new}
use Rattle.cal_connection.specs.Settings.{incompatibility, IsClamped, completion_size}
use Rattle.cal_connection.specs.Words.{sender_bit, receiver_bit}
use Rattle.cal_transport.specs.declared.settings.Settings.{Settings}
use Rattle.cal_transport.specs.Opening.{CanOpen, AreNewPorts, connection_plan, transport_name}
use Rattle.cal_transport.specs.Settings as transport
use Rattle.cal_transport.specs.Shown.{connection_settings}
use Rattle.cal_transport.proofs.Paths.{fits_path}

-- ---- settings agree with themselves

same_number : (n : ℕ) → nat_eq n n ≡ true
same_number n = grind arith

same_flag : (b : Bool) → beq b b ≡ true
same_flag true = refl
same_flag false = refl

agreed : (s : ConnectionSettings) → incompatibility s s ≡ None
agreed s = rw (
  same_number s.buffer_size,
  same_number (completion_size s),
  same_flag s.enable_safe_overflow,
  same_number s.number_of_samples,
  same_number s.number_of_segments,
  same_number s.number_of_channels,
) refl

module _ (s : Settings) (can : CanOpen s) where
  abbrev plan : ConnectionPlan
  plan = connection_plan s

  abbrev path : List ℕ
  path = path_of plan

  short : is_too_long plan.settings plan.name ≡ false
  short = fits_path default_parts stored_type transport_name (omega arith)

  -- ---- the sender, over a new registry

  abbrev with_sender : Contents PortEntry
  with_sender = after_making nothing_registered plan sender_bit

  pub sender_early : (checks : Bool) → early_refusal checks nothing_registered plan ≡ None
  sender_early checks =
      ap (λ b. cond b (Some SizeOutOfRange) (option_and_then opening_cause
      (cond (is_too_long plan.settings plan.name) (Some opening.PathTooLong) (Some opening.DoesNotExist))))
      can.connection
      ∙ ap (λ b. option_and_then opening_cause (cond b (Some opening.PathTooLong) (Some opening.DoesNotExist))) short

  -- ---- the receiver, over the registry in which the sender is

  there : id_at with_sender path ≡ Some 0
  there =
      id_at-after_creation-same nothing_registered path (new_port plan.options.settings sender_bit 0) finished_version

  receiver_early : early_refusal false with_sender plan ≡ None
  receiver_early =
      ap (λ b. cond b (Some SizeOutOfRange) (option_and_then opening_cause
      (cond (is_too_long plan.settings plan.name) (Some opening.PathTooLong)
      (entry_refusal false (entry_at with_sender path))))) can.connection
      ∙ ap (λ b. option_and_then opening_cause (cond b (Some opening.PathTooLong)
      (entry_refusal false (entry_at with_sender path)))) short
      ∙ ap (λ o. option_and_then opening_cause (entry_refusal false (option_and_then (entry_of with_sender) o))) there

  receiver_found : found_refusal with_sender plan receiver_bit ≡ None
  receiver_found =
      ap (λ o. option_and_then (λ port. join_refusal port plan.options.settings receiver_bit)
      (option_map (λ entry. entry.value) (option_and_then (entry_of with_sender) o))) there
      ∙ agreed plan.options.settings

  -- want of memory is all that is left
  pub sender_error : (checks : Bool) (contents : Contents PortEntry) (error : ZeroCopyCreationError) →
      contents ≡ nothing_registered →
      (early_refusal checks contents plan ≡ Some error)
      ⊎ ((found_refusal contents plan sender_bit ≡ Some error) ⊎ (error ≡ NoMemory)) → error ≡ NoMemory
  sender_error checks contents error new (inl early) =
      absurd (none-some error (sym (ap (λ c. early_refusal checks c plan) new ∙ sender_early checks) ∙ early))
  sender_error checks contents error new (inr (inl found)) =
      absurd (none-some error (sym (ap (λ c. found_refusal c plan sender_bit) new) ∙ found))
  sender_error checks contents error new (inr (inr is)) = is

  pub receiver_error : (contents : Contents PortEntry) (error : ZeroCopyCreationError) →
      contents ≡ after_connecting nothing_registered plan sender_bit →
      (early_refusal false contents plan ≡ Some error)
      ⊎ ((found_refusal contents plan receiver_bit ≡ Some error) ⊎ (error ≡ NoMemory)) → error ≡ NoMemory
  receiver_error contents error is (inl early) =
      absurd (none-some error (sym (ap (λ c. early_refusal false c plan) is ∙ receiver_early) ∙ early))
  receiver_error contents error is (inr (inl found)) =
      absurd (none-some error (sym (ap (λ c. found_refusal c plan receiver_bit) is ∙ receiver_found) ∙ found))
  receiver_error contents error is (inr (inr same)) = same

  -- ---- what is made

  abbrev with_both : Contents PortEntry
  with_both = after_joining with_sender (found_handle path 0) receiver_bit

  abbrev handle : Handle
  handle = found_handle path 0

  clamped : IsClamped (connection_settings s)
  clamped = record {
    buffer = can.room.buffer;
    borrow = can.room.borrow;
    samples = can.room.samples;
    segments = can.room.segments;
    channels = can.room.channels;
  }

  fits : completion_size (connection_settings s) < 2 ^ 63
  fits = let c = can.memory.completions in omega arith

  made : AreNewPorts s with_both (record { name = transport_name; handle = handle })
      (record { name = transport_name; handle = handle; borrow_counts = replicate s.channels 0 })
  made = record {
    links = record {
      has_sender = refl;
      has_receiver = refl;
      same = refl;
      sound = IsSoundPort-new (connection_settings s) (sender_bit + receiver_bit) 0 clamped fits (inl (omega arith));
      settings_are = refl;
    };
    counts = refl;
    channels = λ k below.
        get_or-replicate s.channels k (new_channel (connection_settings s) 0) no_channel below;
  }

  pub ports_made : (old first last : Contents PortEntry) (sender : SenderEnd) (receiver : ReceiverEnd) →
      old ≡ nothing_registered → first ≡ after_connecting old plan sender_bit →
      sender.handle ≡ new_end old plan → sender.name ≡ transport_name →
      last ≡ after_connecting first plan receiver_bit →
      receiver ≡ (record {
        name = transport_name;
        handle = new_end first plan;
        borrow_counts = replicate s.channels 0;
      }) → AreNewPorts s last sender receiver
  ports_made old first last sender receiver new first_is sender_handle sender_name last_is receiver_is =
      let start : first ≡ with_sender = first_is ∙ ap (λ c. after_connecting c plan sender_bit) new in
      let at : id_at first path ≡ Some 0 = ap (λ c. id_at c path) start ∙ there in
      let end : last ≡ with_both =
      last_is ∙ ap (λ c. after_connecting c plan receiver_bit) start
      ∙ ap (after_connecting_at with_sender plan receiver_bit) there in
      let ours : sender.handle ≡ handle = sender_handle ∙ ap (λ c. new_end c plan) new in
      let theirs : new_end first plan ≡ handle =
      ap (λ c. new_end c plan) start ∙ ap (end_handle with_sender plan) there in
      let sender_is : sender ≡ (record { name = transport_name; handle = handle }) =
      ap (λ name. record { name = name; handle = sender.handle }) sender_name
      ∙ ap (λ h. record { name = transport_name; handle = h }) ours in
      let receiver_at : receiver ≡ (record {
        name = transport_name;
        handle = handle;
        borrow_counts = replicate s.channels 0;
      }) = receiver_is
      ∙ ap (λ h. record { name = transport_name; handle = h; borrow_counts = replicate s.channels 0 }) theirs in
      subst (λ c. AreNewPorts s c sender receiver) (sym end)
      (subst (λ one. AreNewPorts s with_both one receiver) (sym sender_is)
      (subst (AreNewPorts s with_both (record { name = transport_name; handle = handle })) (sym receiver_at) made))
