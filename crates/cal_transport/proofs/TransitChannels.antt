-- The lines of a channel, segment by segment, and of all channels, one by one.
use Rattle.std.proofs.Common.{ℕ, suc, ◌+◌, ◌-◌, ◌<◌, ◌≤◌, ◌≡◌, min, List, [], ◌∷◌, ◌++◌, length, get_or, map, sym, ap, refl, ◌∙◌, subst, arith, length-append, append_assoc}
use Rattle.std.specs.List.{slice_get, flat_map}
use Rattle.std.proofs.lemmas.List.{append-nil}
use Rattle.cal_transport.specs.declared.reply.Reply.{Reply}
use Rattle.cal_transport.specs.declared.settings.Settings.{Settings}
use Rattle.cal_transport.specs.Ledger.{Ledger, ChannelHistory, layout_at, history_on, numbers_below}
use Rattle.cal_transport.specs.Weights.{transits_on}
use Rattle.cal_transport.specs.Run.{transit_at, transit_on, transit_list}
use Rattle.cal_transport.specs.State.{TransportState, core_of, IsLinked, Represents}
use Rattle.cal_transport.specs.TransitLines.{line_of, lines_in, lines_on}
use Rattle.cal_transport.proofs.Settled.{IsSettled, settled}
use Rattle.cal_transport.proofs.Stands.{HasHistory, has_history}
use Rattle.cal_transport.proofs.TransitCode.{none_beyond}
use Rattle.cal_transport.proofs.ListedCounts.{lines_on_few, transit_list_few}
use Rattle.cal_transport.proofs.TransitWalk.{map_flat_map, flat_map_next, flat_map_ends, part_few}

no_longer : (xs : List Reply) → length xs ≤ 0 → xs ≡ []
no_longer [] few = refl
no_longer (x ∷ xs) few = absurd (omega arith)

-- what the next number gives is told after what was told so far
pub told_next : (f : ℕ → List Reply) (n : ℕ) (before now later : List Reply) →
    now ≡ before ++ flat_map f (numbers_below n) → later ≡ now ++ f n →
    later ≡ before ++ flat_map f (numbers_below (n + 1))
told_next f n before now later is more =
    more ∙ ap (λ xs. xs ++ f n) is ∙ append_assoc before (flat_map f (numbers_below n)) (f n)
    ∙ ap (λ xs. before ++ xs) (sym (flat_map_next f n))
    ∙ ap (λ m. before ++ flat_map f (numbers_below m)) (let e : suc n ≡ n + 1 = omega arith in e)

-- where it gives nothing, nothing is told
pub told_none : (f : ℕ → List Reply) (n : ℕ) (before now : List Reply) →
    now ≡ before ++ flat_map f (numbers_below n) → f n ≡ [] → now ≡ before ++ flat_map f (numbers_below (n + 1))
told_none f n before now is none =
    told_next f n before now now is (sym (ap (λ xs. now ++ xs) none ∙ append-nil now))

-- there is room for what the next number gives
pub room_next : (f : ℕ → List Reply) (n all spare spare_before : ℕ) (before now : List Reply) →
    now ≡ before ++ flat_map f (numbers_below n) → spare + length now ≡ spare_before + length before → n < all →
    length (flat_map f (numbers_below all)) ≤ spare_before → length (f n) ≤ spare
room_next f n all spare spare_before before now is kept below few =
    let part = part_few f n all below in
    let long = ap length is ∙ length-append before (flat_map f (numbers_below n)) in
    omega arith

module _ (t : TransportState) (linked : IsLinked t) where
  -- the table of owners has a place for each segment that was ever made
  pub segments_many : (l : Ledger) → Represents t l → length t.owners ≡ length l.segments
  segments_many l r =
      let owners = linked.owners in let current = r.shows.current in let some = r.sound.segments.some in omega arith

  pub by_segments : (l : Ledger) (k : ℕ) →
      lines_on l k ≡ flat_map (lines_in l k) (numbers_below (length l.segments))
  by_segments l k =
      map_flat_map (line_of l k)
      (λ segment. flat_map (transit_at l k segment) (numbers_below (layout_at l segment).count))
      (numbers_below (length l.segments))

  -- the segments that the connection can name have all lines
  pub all_segments : (l : Ledger) → Represents t l → (k : ℕ) → k < t.settings.channels → (n : ℕ) →
      n ≡ min (length t.owners) t.settings.segments → lines_on l k ≡ flat_map (lines_in l k) (numbers_below n)
  all_segments l r k inside n is =
      let many = segments_many l r in
      by_segments l k
      ∙ flat_map_ends (lines_in l k) (length l.segments) n
      (λ m past below. absurd (omega arith))
      (λ m past below. none_beyond t k m inside l r (omega arith))

  pub channels_many : (l : Ledger) → Represents t l → length l.histories ≡ t.settings.channels
  channels_many l r = r.sound.channels ∙ ap (λ (s : Settings). s.channels) (sym r.shows.settings)

  pub all_few : (l : Ledger) → Represents t l → length (transit_list l) ≤ t.in_transit
  all_few l r = let few = transit_list_few l in let counted = r.tracks.in_transit in omega arith

  pub none_at_all : (l : Ledger) → Represents t l → t.in_transit ≡ 0 → transit_list l ≡ []
  none_at_all l r none = let few = all_few l r in no_longer (transit_list l) (omega arith)

  pub none_on : (l : Ledger) → Represents t l → (k : ℕ) → k < t.settings.channels → get_or t.transits k 0 ≡ 0 →
      lines_on l k ≡ []
  none_on l r k inside none =
      let h = has_history l (settled l r.place r.sound) k
      (subst (λ (c : Settings). k < c.channels) r.shows.settings inside) in
      let counted = (r.tracks.channels k h.history h.here).transits in
      let few = lines_on_few l k in
      let same = ap (λ (c : ChannelHistory). transits_on c l.chunks) h.on in
      no_longer (lines_on l k) (omega arith)
