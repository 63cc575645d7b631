-- What a call of a port on one channel does to the channels that both ports see.
use Rattle.std.proofs.Common.{ℕ, ◌<◌, ◌≡◌, ◌≢◌, length, sym, ap, ◌∙◌, subst, arith}
use Rattle.std.proofs.lemmas.List.{get_or_default, get_or-set_same, get_or-set_other, length-set}
use Rattle.cal_storage.specs.declared.handle.Handle.{Handle}
use Rattle.cal_storage.specs.Contents.{Contents, with_value}
use Rattle.cal_connection.specs.declared.settings.ConnectionSettings.{ConnectionSettings}
use Rattle.cal_connection.specs.Channel.{ChannelEntry, shape}
use Rattle.cal_connection.specs.Port.{PortEntry, IsSoundPort, ReceiverEnd, no_channel, port_at, channel_at, with_channel, channel_of, with_channel_of, settings_at, count_at, with_count}
use Rattle.cal_connection.specs.PortLemmas.{length-channels, IsSoundPort-changed}
use Rattle.cal_connection.specs.RegistryLemmas.{port_at-with_port-same, Has-with_port}
use Rattle.cal_transport.specs.declared.settings.Settings.{Settings}
use Rattle.cal_transport.specs.State.{LinksPorts}

-- ---- both handles see one entry

module _ (contents : Contents PortEntry) (sender receiver : Handle) (settings : Settings)
    (links : LinksPorts contents sender receiver settings) where
  pub port_is : port_at contents receiver ≡ port_at contents sender
  port_is = ap (λ id. port_at contents (record receiver { id = id })) links.same

  pub channel_is : (k : ℕ) → channel_of contents receiver k ≡ channel_of contents sender k
  channel_is k = ap (λ (p : PortEntry). channel_at p k) port_is

  pub with_is : (k : ℕ) (changed : ChannelEntry) →
      with_channel_of contents receiver k changed ≡ with_channel_of contents sender k changed
  with_is k changed =
      ap (λ (p : PortEntry). with_value contents receiver.id (with_channel p k changed)) port_is
      ∙ ap (λ id. with_value contents id (with_channel (port_at contents sender) k changed)) links.same

  -- the channels that the calls ask for
  pub sender_channels : (k : ℕ) → k < settings.channels → k < (settings_at contents sender).number_of_channels
  sender_channels k inside =
      subst (λ n. k < n) (sym (ap (λ (s : ConnectionSettings). s.number_of_channels) links.settings_are)) inside

  pub receiver_channels : (k : ℕ) → k < settings.channels → k < (settings_at contents receiver).number_of_channels
  receiver_channels k inside =
      subst (λ n. k < n) (sym (ap (λ (p : PortEntry). p.settings.number_of_channels) port_is))
      (sender_channels k inside)

  pub borrow_limit : (settings_at contents receiver).max_borrowed_samples ≡ settings.borrow
  borrow_limit =
      ap (λ (p : PortEntry). p.settings.max_borrowed_samples) port_is
      ∙ ap (λ (s : ConnectionSettings). s.max_borrowed_samples) links.settings_are

  -- ---- a channel that changes, with the room that it had

  module _ (k : ℕ) (inside : k < settings.channels) (changed : ChannelEntry)
      (same : shape changed ≡ shape (channel_of contents sender k)) where
    abbrev new : Contents PortEntry
    new = with_channel_of contents sender k changed

    abbrev port : PortEntry
    port = port_at contents sender

    within : k < length port.channels
    within =
        let long = length-channels port links.sound in
        let many = sender_channels k inside in omega arith

    port_new : port_at new sender ≡ with_channel port k changed
    port_new = port_at-with_port-same contents sender (with_channel port k changed) links.has_sender

    pub channel_here : channel_of new sender k ≡ changed
    channel_here =
        ap (λ (p : PortEntry). channel_at p k) port_new
        ∙ get_or-set_same port.channels k changed no_channel within

    pub channel_else : (other : ℕ) → other ≢ k → channel_of new sender other ≡ channel_of contents sender other
    channel_else other apart =
        ap (λ (p : PortEntry). channel_at p other) port_new
        ∙ get_or-set_other port.channels k other changed no_channel apart

    pub links_after : LinksPorts new sender receiver settings
    links_after = record {
      has_sender = Has-with_port contents sender (with_channel port k changed) sender links.has_sender;
      has_receiver = Has-with_port contents sender (with_channel port k changed) receiver links.has_receiver;
      same = links.same;
      sound = subst IsSoundPort (sym port_new)
          (IsSoundPort-changed port links.sound k (channel_at port k) changed
          (get_or_default port.channels k no_channel (channel_at port k) within) same);
      settings_are = ap (λ (p : PortEntry). p.settings) port_new ∙ links.settings_are;
    }

-- ---- the receiver's counts

pub count_here : (receiver : ReceiverEnd) (k count : ℕ) → k < length receiver.borrow_counts →
    count_at (with_count receiver k count) k ≡ count
count_here receiver k count within = get_or-set_same receiver.borrow_counts k count 0 within

pub count_else : (receiver : ReceiverEnd) (k other count : ℕ) → other ≢ k →
    count_at (with_count receiver k count) other ≡ count_at receiver other
count_else receiver k other count apart = get_or-set_other receiver.borrow_counts k other count 0 apart

pub counts_long : (receiver : ReceiverEnd) (k count : ℕ) →
    length (with_count receiver k count).borrow_counts ≡ length receiver.borrow_counts
counts_long receiver k count = length-set receiver.borrow_counts k count
