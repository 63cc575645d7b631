-- A port after steps at the words that both ports share.
use Rattle.std.specs.Prelude.{◌≡◌}
use Rattle.std.proofs.Common.{ap, ◌∙◌, subst}
use Rattle.atomic_table.specs.Seated.{TableId}
use Rattle.cal_queue.specs.declared.state_table.pass.OpeningWords.{OpeningWords}
use Rattle.cal_queue.specs.declared.state_table.pass.StatePass.{StatePass}
use Rattle.cal_connection.specs.declared.settings.ConnectionSettings.{ConnectionSettings}
use Rattle.cal_shared.specs.Channels.{Rings}
use Rattle.cal_shared.specs.Port.{AtWords, IsSoundPort, Port, pair_of, with_states}

module _ {E : Type 0} where
  -- the port with another seat at the words, which has taken these steps
  abbrev pub stepped : Port E → TableId → StatePass → Port E
  stepped port words states = record port { words = words; states = states }

  -- it stays sound, since no step changes what the table was made of
  pub IsSoundPort-stepped : (Fits : ConnectionSettings → E → Type 0) (port : Port E) (words : TableId)
      (states : StatePass) → states.opening ≡ port.states.opening → IsSoundPort Fits port
      → IsSoundPort Fits (stepped port words states)
  IsSoundPort-stepped Fits port words states same sound = record {
    clamped = sound.clamped;
    few = sound.few;
    words = ap (λ (o : OpeningWords). o.channels) same ∙ sound.words;
    count = sound.count;
    fits = sound.fits;
  }

  module _ (port value : Port E) (same : port ≡ value) (words : TableId) (states : StatePass)
      (table : words ≡ port.words) where
    only_stepped : stepped port words states ≡ with_states value states
    only_stepped =
        ap (λ (id : TableId). stepped port id states) table ∙ ap (λ (p : Port E). with_states p states) same

    -- the steps are all that the call did
    pub AtWords-stepped : (Steps : StatePass → StatePass → Type 0) → Steps port.states states
        → AtWords Steps value (stepped port words states)
    AtWords-stepped Steps steps = record {
      changed = states;
      steps = subst (λ (p : Port E). Steps p.states states) same steps;
      only = only_stepped;
    }

    -- and what both ports have in common stays
    pub pair_of-stepped : (rings_of : E → Rings)
        → pair_of rings_of (stepped port words states) ≡ pair_of rings_of value
    pair_of-stepped rings_of = ap (pair_of rings_of) only_stepped
