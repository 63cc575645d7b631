-- What follows of a call's change of a port.
use Rattle.std.specs.Prelude.{◌≡◌, ℕ, List, map, slice_index_or}
use Rattle.std.proofs.Common.{sym, ap, ◌∙◌}
use Rattle.std.proofs.Math.Seq.{map-set_same}
use Rattle.std.proofs.lemmas.Option.{get_or_from_slice_get}
use Rattle.cal_queue.specs.declared.state_table.pass.StatePass.{StatePass}
use Rattle.cal_shared.specs.Channels.{Rings}
use Rattle.cal_shared.specs.Port.{AtWords, OnChannel, Port, pair_of}

-- a call on one channel leaves what it leaves of that channel
pub map-OnChannel : {E X : Type 0} (part : E → X) (channel : ℕ) (Steps : E → E → Type 0) (before after : Port E)
    → ((x y : E) → Steps x y → part y ≡ part x) → OnChannel channel Steps before after
    → map part after.channels ≡ map part before.channels
map-OnChannel {E} part channel Steps before after keeps on =
    let there : slice_index_or before.channels channel on.found ≡ on.found =
    get_or_from_slice_get before.channels channel on.found on.found on.there in
    ap (λ (p : Port E). map part p.channels) on.only
    ∙ map-set_same part before.channels channel on.changed on.found
    (keeps on.found on.changed on.steps ∙ ap part (sym there))

module _ {E : Type 0} (rings_of : E → Rings) where
  -- it leaves what both ports have in common, where it leaves that channel's rings
  pub pair_of-OnChannel : (channel : ℕ) (Steps : E → E → Type 0) (before after : Port E)
      → ((x y : E) → Steps x y → rings_of y ≡ rings_of x) → OnChannel channel Steps before after
      → pair_of rings_of after ≡ pair_of rings_of before
  pair_of-OnChannel channel Steps before after keeps on =
      ap (λ (p : Port E). record {
        settings = p.settings;
        words = p.words;
        rings = map rings_of after.channels;
      }) on.only
      ∙ ap (λ (rings : List Rings). record { settings = before.settings; words = before.words; rings = rings })
      (map-OnChannel rings_of channel Steps before after keeps on)

  -- and so does a call at the words
  pub pair_of-AtWords : (Steps : StatePass → StatePass → Type 0) (before after : Port E)
      → AtWords Steps before after → pair_of rings_of after ≡ pair_of rings_of before
  pair_of-AtWords Steps before after at = ap (pair_of rings_of) at.only
