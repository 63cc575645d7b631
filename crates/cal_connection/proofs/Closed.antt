-- Channels that are closed one after the other.
use Rattle.std.specs.Prelude.{◌≡◌, ℕ, ◌+◌, ◌<◌, ◌≤◌, List, length, map, slice_index_or, slice_set}
use Rattle.std.proofs.Common.{sym, ap, ◌∙◌, subst, inl, inr, arith}
use Rattle.std.proofs.Math.ListN.{get_or-map}
use Rattle.std.proofs.lemmas.Bool.{cases_eq}
use Rattle.std.proofs.lemmas.List.{get_or_default, get_or-set_same, get_or-set_other, length-map, same_lists}
use Rattle.cal_connection.specs.Channel.{ChannelEntry}
use Rattle.cal_connection.specs.Closing.{closed_channel}
use Rattle.cal_connection.specs.Port.{no_channel}

-- the channels below an index are closed
pub record AreClosedBelow (channels : List ChannelEntry) (index : ℕ) : Type 0 where
  pub closed : (k : ℕ) → k < index →
      slice_index_or channels k no_channel ≡ closed_channel (slice_index_or channels k no_channel)

-- one more
pub AreClosedBelow-set : (channels : List ChannelEntry) (index : ℕ) (channel : ChannelEntry) → index < length channels →
    AreClosedBelow channels index → AreClosedBelow (slice_set channels index (closed_channel channel)) (index + 1)
AreClosedBelow-set channels index channel within below = record {
  closed = λ k before. elim (cases_eq k index) [
    | inl same ↦
        let here : slice_index_or (slice_set channels index (closed_channel channel)) k no_channel ≡
        closed_channel channel =
        ap (λ i. slice_index_or (slice_set channels index (closed_channel channel)) i no_channel) same
        ∙ get_or-set_same channels index (closed_channel channel) no_channel within in
        here ∙ ap closed_channel (sym here)
    | inr apart ↦
        let there : slice_index_or (slice_set channels index (closed_channel channel)) k no_channel
        ≡ slice_index_or channels k no_channel =
        get_or-set_other channels index k (closed_channel channel) no_channel apart in
        there ∙ below.closed k (omega arith) ∙ ap closed_channel (sym there)
  ];
}

-- all of them
pub all_closed : (channels : List ChannelEntry) (index : ℕ) → length channels ≤ index → AreClosedBelow channels index →
    channels ≡ map closed_channel channels
all_closed channels index all below =
    same_lists channels (map closed_channel channels) (sym (length-map channels closed_channel))
    (λ k d within.
    get_or_default channels k d no_channel within ∙ below.closed k (omega arith)
    ∙ sym (get_or-map closed_channel channels k no_channel)
    ∙ get_or_default (map closed_channel channels) k (closed_channel no_channel) d
    (subst (λ n. k < n) (sym (length-map channels closed_channel)) within))
