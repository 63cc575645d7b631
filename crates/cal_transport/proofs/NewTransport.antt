-- The parts of a new transport belong together, and show the first ledger.
use Rattle.std.proofs.Common.{ℕ, zero, suc, ◌+◌, ◌*◌, ◌<◌, ◌≤◌, ◌≡◌, Bool, true, false, nat_lt, nat_le, List, [], ◌∷◌, length, get_or, map, replicate, Some, None, refl, sym, ap, ◌∙◌, subst, arith, mul_comm, mul-le-mul_left, ◌^◌, ◌&&◌, ◌||◌, ◌==◌, not}
use Rattle.std.specs.List.{slice_get}
use Rattle.std.proofs.lemmas.Bool.{true≢false}
use Rattle.std.proofs.lemmas.Bool.Decides.{nat_tests}
use Rattle.std.proofs.lemmas.List.{length-replicate, get_or-replicate}
use Rattle.std.proofs.lemmas.Option.{none-some, same_Some}
use Rattle.cal_queue.specs.UsedChunks.{UsedChunks, none_used, contains, capacity_of}
use Rattle.cal_connection.specs.Channel as channel
use Rattle.cal_connection.specs.Port as port
use Rattle.cal_connection.specs.PortLemmas.{shape-channel_at}
use Rattle.cal_connection.specs.declared.settings.ConnectionSettings.{ConnectionSettings}
use Rattle.cal_transport.specs.declared.settings.Settings.{Settings}
use Rattle.cal_transport.specs.Settings.{clamped_settings, completion_size, first_layout, payload, create_cause}
use Rattle.cal_transport.specs.Ledger.{Ledger, ChannelHistory, first_ledger, new_history, current, is_unused}
use Rattle.cal_transport.specs.Opening.{CanOpen, first_segment, HasFirstSegment, AreNewTogether, AreNewPorts}
use Rattle.cal_transport.specs.Shown.{ShowsActive, ShowsMapped, ShowsChannel, TracksChannel, Shows, Tracks, connection_settings}
use Rattle.cal_transport.specs.Soundness.{IsSoundLedger}
use Rattle.cal_transport.specs.State.{TransportState, IsLinked, Represents, core_of, active_at}
use Rattle.cal_transport.proofs.Sound.{sound_first}

-- what the parts of a new transport are
pub record IsNewState (t : TransportState) : Type 0 where
  pub can : CanOpen t.settings
  pub parts : AreNewTogether t.settings t.memory_registry t.memory t.view
  pub ports : AreNewPorts t.settings t.connection_registry t.sender t.receiver
  pub lent : t.lent ≡ replicate t.settings.channels (none_used (t.settings.segments * t.settings.samples))
  pub transits : t.transits ≡ replicate t.settings.channels 0
  pub owners : t.owners ≡ replicate t.settings.count 0 ∷ []
  pub tables : 255 ≤ t.spare_tables
  pub entries : t.entries ≡ []
  pub in_transit : t.in_transit ≡ 0

-- the first ledger of settings in which no zero counts as one
abbrev ledger_of : Settings → Ledger
ledger_of s = record {
  settings = s;
  segments = first_layout s ∷ [];
  chunks = [];
  histories = replicate s.channels new_history;
  opened_last = None;
}

-- ---- lists of one value

replicated : {A : Type 0} (n k : ℕ) (x y : A) → slice_get (replicate n x) k ≡ Some y → (k < n) × (y ≡ x)
replicated zero k x y e = absurd (none-some y e)
replicated (suc n) zero x y e = (omega arith, sym (same_Some x y e))
replicated (suc n) (suc k) x y e = let r = replicated n k x y e in (omega (arith, r.0), r.1)

pub everywhere : {A : Type 0} (n k : ℕ) (x : A) → get_or (replicate n x) k x ≡ x
everywhere zero k x = refl
everywhere (suc n) zero x = refl
everywhere (suc n) (suc k) x = everywhere n k x

at_least : (m n : ℕ) → m ≡ n → n ≤ m
at_least m n e = omega arith

none_in_use : (settings : ConnectionSettings) (n segment bucket : ℕ) →
    channel.is_used (replicate n (channel.new_segment settings)) segment bucket ≡ false
none_in_use settings zero segment bucket = refl
none_in_use settings (suc n) zero bucket = everywhere settings.number_of_samples bucket false
none_in_use settings (suc n) (suc segment) bucket = none_in_use settings n segment bucket

-- ---- how large a connection can be

pub few_pairs : (s : Settings) → CanOpen s → s.samples * s.segments * s.channels < 2 ^ 63
few_pairs s can = go (nat_le (2 ^ 63) (completion_size s)) (nat_le (2 ^ 63) (s.samples * s.segments * s.channels)) refl
    can.connection
  where
    go : (a b : Bool) → nat_le (2 ^ 63) (s.samples * s.segments * s.channels) ≡ b → (a || b) ≡ false →
        s.samples * s.segments * s.channels < 2 ^ 63
    go true b e none = absurd (true≢false none)
    go false true e none = absurd (true≢false none)
    go false false e none = grind (arith, nat_tests)

pub few_marks : (s : Settings) → CanOpen s → s.segments * s.samples < 2 ^ 63
few_marks s can =
    let pairs = few_pairs s can in
    let some = can.room.channels in
    let most : s.samples * s.segments * 1 ≤ s.samples * s.segments * s.channels =
    mul-le-mul_left (s.samples * s.segments) some in
    let same : s.segments * s.samples ≡ s.samples * s.segments = mul_comm s.segments s.samples in omega arith

-- ---- what is shown

module _ (t : TransportState) (new : IsNewState t) where
  abbrev l : Ledger
  l = ledger_of t.settings

  pub linked : IsLinked t
  linked =
      let ports = new.ports in
      let long : length t.owners ≡ 1 = ap length new.owners in
      let first = new.parts.segments.current in
      record {
        together = new.parts.together;
        strategy = new.parts.segments.strategy;
        ports = ports.links;
        counts = ap length ports.counts ∙ length-replicate t.settings.channels 0;
        lent = ap length new.lent
            ∙ length-replicate t.settings.channels (none_used (t.settings.segments * t.settings.samples));
        transits = ap length new.transits ∙ length-replicate t.settings.channels 0;
        owners = omega (arith, long, first);
        tables = omega (arith, long, new.tables);
        marks = few_marks t.settings new.can;
        pairs = few_pairs t.settings new.can;
      }

  shows_active : (segment : ℕ) → ShowsActive l segment (active_at t.memory_registry t.memory.slots segment)
  shows_active zero =
      subst (ShowsActive l 0) (sym new.parts.segments.first) (
        refl,
        record {
          layout = refl;
          used = λ bucket. everywhere t.settings.count bucket false;
          marks = length-replicate t.settings.count false;
          chunks = refl;
          payload = at_least (length (replicate (payload (first_layout t.settings)) 0))
              (payload (first_layout t.settings))
              (length-replicate (payload (first_layout t.settings)) 0);
        },
      )
  shows_active (suc n) =
      subst (ShowsActive l (suc n)) (sym (new.parts.segments.others (suc n) (λ e. absurd (omega (arith, e)))))
      (ap (λ b. b && (suc n == current l || not (is_unused l (suc n))))
      (let past : nat_lt (suc n) 1 ≡ false = grind (arith, nat_tests) in past))

  shows_channel : (k : ℕ) (history : ChannelHistory) → slice_get l.histories k ≡ Some history →
      ShowsChannel (core_of t) l k history
  shows_channel k history there =
      let found = replicated t.settings.channels k new_history history there in
      let ports = new.ports in
      let links = ports.links in
      let is = ports.channels k found.0 in
      let s : ConnectionSettings = connection_settings t.settings in
      let within : k < (port.port_at t.connection_registry t.sender.handle).settings.number_of_channels =
      subst (λ (c : ConnectionSettings). k < c.number_of_channels) (sym links.settings_are) found.0 in
      subst (ShowsChannel (core_of t) l k) (sym found.1)
      (record {
        shape = shape-channel_at (port.port_at t.connection_registry t.sender.handle) links.sound k within
            ∙ ap channel.shape_of links.settings_are;
        queued = ap (λ (c : channel.ChannelEntry). c.submission.values) is;
        completed = ap (λ (c : channel.ChannelEntry). c.completion.values) is;
        borrowed = ap (λ counts. get_or counts k 0) ports.counts ∙ everywhere t.settings.channels k 0;
        used = λ segment bucket.
            ap (λ (c : channel.ChannelEntry). channel.is_used c.segments segment bucket) is
            ∙ none_in_use s t.settings.segments segment bucket;
        sizes = λ i chunk e. absurd (none-some chunk e);
      })

  tracks_channel : (k : ℕ) (history : ChannelHistory) → slice_get l.histories k ≡ Some history →
      TracksChannel (core_of t) l k history
  tracks_channel k history there =
      let found = replicated t.settings.channels k new_history history there in
      let room : ℕ = t.settings.segments * t.settings.samples in
      let list : get_or t.lent k (none_used 0) ≡ none_used room =
      ap (λ lists. get_or lists k (none_used 0)) new.lent
      ∙ get_or-replicate t.settings.channels k (none_used room) (none_used 0) found.0 in
      subst (TracksChannel (core_of t) l k) (sym found.1)
      (record {
        room = ap capacity_of list ∙ length-replicate room false;
        lent = λ segment bucket within below.
            ap (λ used. contains used (segment * t.settings.samples + bucket)) list
            ∙ everywhere room (segment * t.settings.samples + bucket) false;
        transits = ap (λ counts. get_or counts k 0) new.transits ∙ everywhere t.settings.channels k 0;
      })

  table_long : length (get_or t.owners 0 []) ≡ t.settings.count
  table_long = ap (λ owners. length (get_or owners 0 [])) new.owners ∙ length-replicate t.settings.count 0

  shows : Shows (core_of t) l
  shows = record {
    settings = refl;
    current = new.parts.segments.current;
    active = shows_active;
    bytes = λ i chunk shown e. absurd (none-some chunk e);
    opened_last = new.parts.opened_last;
    mapped = λ segment. subst (ShowsMapped l segment) (sym (new.parts.mapped segment)) refl;
    channels = shows_channel;
    entries = new.entries;
  }

  tracks : Tracks (core_of t) l
  tracks = record {
    channels = tracks_channel;
    owners = λ i chunk e. absurd (none-some chunk e);
    table = table_long;
    in_transit = new.in_transit;
  }

  module _ (s : Settings) (is : t.settings ≡ clamped_settings s) (can : create_cause s ≡ None) where
    pub represents_first : Represents t (first_ledger s)
    represents_first =
        let same : first_ledger s ≡ l = ap ledger_of (sym is) in
        record {
          place = 1;
          sound = sound_first s can;
          shows = subst (Shows (core_of t)) (sym same) shows;
          tracks = subst (Tracks (core_of t)) (sym same) tracks;
        }
