-- A channel that is found at its number among a port's channels, and what a call on it leaves.
use Rattle.std.specs.Prelude.{◌≡◌, ℕ, ◌<◌, Bool, true, false, List, length, map, MatchBool, Some, slice_index_or}
use Rattle.std.proofs.Common.{refl, sym, ap, ◌∙◌, subst}
use Rattle.std.proofs.Math.Seq.{map-set_same}
use Rattle.std.proofs.lemmas.List.{length-set}
use Rattle.std.proofs.lemmas.List.Elements.{All-get_or, All-set}
use Rattle.std.proofs.lemmas.Option.{slice_get_read}
use Rattle.cal_connection.specs.declared.settings.ConnectionSettings.{ConnectionSettings}
use Rattle.cal_shared.specs.Channels.{Rings}
use Rattle.cal_shared.specs.Port.{IsSoundPort, OnChannel, Port, channel_at, pair_of, with_channel}

-- The port's parts, which are sound, and the element at the index that is the channel's number
pub record Found {E : Type 0} (Fits : ConnectionSettings → E → Type 0) (value : Port E) (channel : ℕ) : Type 0 where
  pub port : Port E
  pub same : port ≡ value
  pub sound : IsSoundPort Fits port
  pub index : ℕ
  pub at : index ≡ channel
  pub within : channel < value.settings.number_of_channels
  pub found : E
  pub is : found ≡ slice_index_or port.channels index found

module _ {E : Type 0} {Fits : ConnectionSettings → E → Type 0} {value : Port E} {channel : ℕ} where
  pub index-within : (f : Found Fits value channel) → f.index < f.port.settings.number_of_channels
  index-within f =
      subst (λ (n : ℕ). n < f.port.settings.number_of_channels) (sym f.at)
      (subst (λ (p : Port E). channel < p.settings.number_of_channels) (sym f.same) f.within)

  inside : (f : Found Fits value channel) → f.index < length f.port.channels
  inside f = subst (λ (n : ℕ). f.index < n) (sym f.sound.count) (index-within f)

  -- the channel fits the settings
  pub Fits-found : (f : Found Fits value channel) → Fits f.port.settings f.found
  Fits-found f =
      subst (Fits f.port.settings) (sym f.is)
      (All-get_or (Fits f.port.settings) f.port.channels f.index f.found (inside f) f.sound.fits)

  -- so the port stays sound where the channel still fits them
  pub IsSoundPort-changed : (f : Found Fits value channel) (changed : E) → Fits f.port.settings changed
      → IsSoundPort Fits (with_channel f.port f.index changed)
  IsSoundPort-changed f changed fits = record {
    clamped = f.sound.clamped;
    few = f.sound.few;
    words = f.sound.words;
    count = length-set f.port.channels f.index changed ∙ f.sound.count;
    fits = All-set (Fits f.port.settings) f.port.channels f.index changed fits f.sound.fits;
  }

  -- it is the channel of that number
  pub there : (f : Found Fits value channel) → channel_at value channel ≡ Some f.found
  there f =
      subst (λ (p : Port E). channel_at p channel ≡ Some f.found) f.same
      (subst (λ (n : ℕ). channel_at f.port n ≡ Some f.found) f.at
      (slice_get_read f.port.channels (length f.port.channels) f.index f.found refl (inside f) f.is))

  -- the steps on the channel are all that the call did
  pub OnChannel-changed : (f : Found Fits value channel) (changed : E) (Steps : ConnectionSettings → E → E → Type 0)
      → Steps f.port.settings f.found changed
      → OnChannel channel (Steps value.settings) value (with_channel f.port f.index changed)
  OnChannel-changed f changed Steps steps = record {
    found = f.found;
    there = there f;
    changed = changed;
    steps = subst (λ (p : Port E). Steps p.settings f.found changed) f.same steps;
    only =
        ap (λ (n : ℕ). with_channel f.port n changed) f.at
        ∙ ap (λ (p : Port E). with_channel p channel changed) f.same;
  }

  -- and what both ports have in common stays
  pub pair_of-changed : (f : Found Fits value channel) (rings_of : E → Rings) (changed : E)
      → rings_of changed ≡ rings_of f.found
      → pair_of rings_of (with_channel f.port f.index changed) ≡ pair_of rings_of value
  pair_of-changed f rings_of changed keeps =
      ap (λ (rings : List Rings). record { settings = f.port.settings; words = f.port.words; rings = rings })
      (map-set_same rings_of f.port.channels f.index changed f.found (keeps ∙ ap rings_of f.is))
      ∙ ap (pair_of rings_of) f.same

  -- a part that the channel keeps is kept of all channels
  pub map-changed : {X : Type 0} (f : Found Fits value channel) (part : E → X) (changed : E)
      → part changed ≡ part f.found
      → map part (with_channel f.port f.index changed).channels ≡ map part value.channels
  map-changed f part changed keeps =
      map-set_same part f.port.channels f.index changed f.found (keeps ∙ ap part f.is)
      ∙ ap (λ (p : Port E). map part p.channels) f.same

  -- one of two kinds of steps on the channel
  pub OnChannel-either : (f : Found Fits value channel) (changed : E) (One Other : E → E → Type 0) (which : Bool)
      → MatchBool which (One f.found changed) (Other f.found changed)
      → MatchBool which (OnChannel channel One value (with_channel f.port f.index changed))
      (OnChannel channel Other value (with_channel f.port f.index changed))
  OnChannel-either f changed One Other true steps = OnChannel-changed f changed (λ (s : ConnectionSettings). One) steps
  OnChannel-either f changed One Other false steps =
      OnChannel-changed f changed (λ (s : ConnectionSettings). Other) steps
