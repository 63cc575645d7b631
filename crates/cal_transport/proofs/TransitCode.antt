-- The lines of what is in transit, from what the port, the memory and the tables say.
use Rattle.std.proofs.Common.{ℕ, suc, ◌+◌, ◌-◌, ◌*◌, ◌<◌, ◌≤◌, ◌≡◌, Bool, true, false, nat_lt, List, [], ◌∷◌, ◌++◌, length, get_or, map, Some, IsSome, refl, sym, ap, ◌∙◌, subst, arith, length-append}
use Rattle.std.specs.List.{slice_get, flat_map}
use Rattle.std.proofs.lemmas.Bool.{true≢false, lt-ltb, ltb-true}
use Rattle.std.proofs.lemmas.List.{length-map, map-append}
use Rattle.std.proofs.lemmas.Option.{same_Some}
use Rattle.cal_alloc.specs.Growth.{SegmentLayout}
use Rattle.cal_alloc.specs.Limits.{max_memory_size, bucket_limit}
use Rattle.cal_alloc.specs.Pool.{Pool}
use Rattle.cal_queue.specs.FirstFrom.{IsFirst}
use Rattle.cal_shm.specs.Segment.{Segment}
use Rattle.cal_connection.specs.Channel.{ChannelEntry, is_used}
use Rattle.cal_connection.specs.Port.{channel_of}
use Rattle.cal_resizable.specs.Growth.{OfSegment}
use Rattle.cal_resizable.specs.Slots.{segment_at}
use Rattle.cal_transport.specs.declared.reply.Reply.{Reply}
use Rattle.cal_transport.specs.declared.reply.Reply.TheVariants.{Transit}
use Rattle.cal_transport.specs.declared.settings.Settings.{Settings}
use Rattle.cal_transport.specs.declared.transport.chunk_entry.ChunkEntry.{ChunkEntry}
use Rattle.cal_transport.specs.ChunkEntry.{LeadsToEntry}
use Rattle.cal_transport.specs.Ledger.{Ledger, Chunk, ChannelHistory, layout_at, is_in_transit, numbers_below}
use Rattle.cal_transport.specs.Soundness.{weight}
use Rattle.cal_transport.specs.Shown.{entry_of}
use Rattle.cal_transport.specs.State.{TransportState, core_of, IsLinked, Represents}
use Rattle.cal_transport.specs.Run.{transit_at}
use Rattle.cal_transport.specs.TransitLines.{line_of, lines_below, lines_in}
use Rattle.cal_transport.specs.Weights.{holds, total, one_if, transits}
use Rattle.cal_transport.proofs.Changed.{live_is}
use Rattle.cal_transport.proofs.Fronts.{sizes_of, has_segment, alive_active, leads, led}
use Rattle.cal_transport.proofs.Lent.{IsNamable, namable}
use Rattle.cal_transport.proofs.ReleaseCode.{PlaceOf, place_of}
use Rattle.cal_transport.proofs.Seen.{is_seen}
use Rattle.cal_transport.proofs.Segments.{of_shown, shown_held}
use Rattle.cal_transport.proofs.Settled.{IsSettled, settled}
use Rattle.cal_transport.proofs.Stands.{HasHistory, has_history}
use Rattle.cal_transport.proofs.Totals.{total_least}
use Rattle.cal_transport.proofs.TransitWalk.{IsListed, none_there, one_there, flat_map_next, flat_map_gap, flat_map_ends, part_few}

-- a bucket is in use on a channel
abbrev pub in_use : TransportState → ℕ → ℕ → ℕ → Bool
in_use t k segment bucket = is_used (channel_of t.connection_registry t.sender.handle k).segments segment bucket

module _ (t : TransportState) (k segment : ℕ) (inside : k < t.settings.channels) where
  module _ (l : Ledger) (r : Represents t l) where
    pub s : IsSettled l
    s = settled l r.place r.sound

    abbrev pub has : HasHistory l k
    has = has_history l (settled l r.place r.sound) k
        (subst (λ (c : Settings). k < c.channels) r.shows.settings inside)

    used_is : (bucket : ℕ) →
        in_use t k segment bucket ≡ holds (λ chunk. is_in_transit has.history chunk.name) l.chunks segment bucket
    used_is bucket = (r.shows.channels k has.history has.here).used segment bucket

    abbrev pub Told : ℕ → Type 0
    Told bucket = IsListed l s k has.history has.here has.on segment bucket

    pub told : (bucket : ℕ) → in_use t k segment bucket ≡ true → Told bucket
    told bucket used =
        one_there l s k has.history has.here has.on segment bucket (sym (used_is bucket) ∙ used)

    untold : (bucket : ℕ) → in_use t k segment bucket ≡ false → transit_at l k segment bucket ≡ []
    untold bucket unused =
        none_there l s k has.history has.here has.on segment bucket (sym (used_is bucket) ∙ unused)

    -- a bucket in use is one of the segment's, and the connection can name it
    pub inside_segment : (bucket : ℕ) → in_use t k segment bucket ≡ true → bucket < (layout_at l segment).count
    inside_segment bucket used =
        let one = told bucket used in
        let within = (s.within one.index one.chunk one.stands).bucket in
        subst (λ n. n < (layout_at l segment).count) one.in_bucket
        (subst (λ n. one.chunk.bucket < (layout_at l n).count) one.in_segment within)

    named_there : (bucket : ℕ) → (used : in_use t k segment bucket ≡ true) → IsNamable l (told bucket used).chunk
    named_there bucket used =
        let one = told bucket used in
        let least = total_least (λ (h : ChannelHistory). one_if (is_in_transit h one.chunk.name)) l.histories k
        has.history has.here in
        let counted = ap one_if one.moves in
        namable l s one.index one.chunk one.stands (lt-ltb 0 (transits l.histories one.chunk.name) (omega arith))

    pub inside_samples : (bucket : ℕ) → in_use t k segment bucket ≡ true → bucket < t.settings.samples
    inside_samples bucket used =
        subst (λ (c : Settings). bucket < c.samples) (sym r.shows.settings)
        (subst (λ n. n < l.settings.samples) (told bucket used).in_bucket (named_there bucket used).bucket)

    inside_segments : (bucket : ℕ) → in_use t k segment bucket ≡ true → segment < t.settings.segments
    inside_segments bucket used =
        subst (λ (c : Settings). segment < c.segments) (sym r.shows.settings)
        (subst (λ n. n < l.settings.segments) (told bucket used).in_segment (named_there bucket used).segment)

    -- nothing is told of a segment that the connection can't name
    pub none_beyond : t.settings.segments ≤ segment → lines_in l k segment ≡ []
    none_beyond past =
        ap (map (line_of l k))
        (flat_map_gap (transit_at l k segment) 0 (layout_at l segment).count (omega arith)
        (λ n above below. untold n (outside n (in_use t k segment n) refl)))
      where
        outside : (n : ℕ) (b : Bool) → in_use t k segment n ≡ b → in_use t k segment n ≡ false
        outside n false e = e
        outside n true e = let below = inside_segments n e in absurd (omega arith)

    pub few_buckets : (bucket : ℕ) → in_use t k segment bucket ≡ true → bucket < bucket_limit
    few_buckets bucket used =
        let one = told bucket used in
        let within = (s.within one.index one.chunk one.stands).bucket in
        let sizes = sizes_of l s one.index one.chunk one.stands in
        let most = sizes.count in
        subst (λ n. n < bucket_limit) one.in_bucket (omega arith)

    -- ---- the parts of a chunk that is told

    pub place : (bucket : ℕ) → (used : in_use t k segment bucket ≡ true) →
        PlaceOf t l (told bucket used).chunk (entry_of l.histories (told bucket used).chunk)
    place bucket used =
        let one = told bucket used in
        place_of t l s r.shows one.index one.chunk one.stands one.alive

    pub held : (bucket : ℕ) → in_use t k segment bucket ≡ true → IsSome (segment_at t.memory.slots segment)
    held bucket used =
        let one = told bucket used in
        let at = place bucket used in
        subst (λ n. IsSome (segment_at t.memory.slots n)) one.in_segment
        (shown_held t.memory_registry t.memory.slots one.chunk.segment at.place.segment at.place.there)

    pub leads_there : (bucket : ℕ) → in_use t k segment bucket ≡ true →
        LeadsToEntry t.entries (get_or t.owners segment []) bucket
    leads_there bucket used =
        let one = told bucket used in
        subst (LeadsToEntry t.entries (get_or t.owners segment [])) one.in_bucket
        (subst (λ n. LeadsToEntry t.entries (get_or t.owners n []) one.chunk.bucket) one.in_segment
        (leads (core_of t) l one.index one.chunk r.shows r.tracks one.stands one.alive))

    size_there : (bucket size : ℕ) → (used : in_use t k segment bucket ≡ true) →
        OfSegment t.memory_registry t.memory.slots segment
        (λ (held : Segment Pool). size ≡ held.allocator.buckets.size) →
        size ≡ (place bucket used).place.segment.allocator.buckets.size
    size_there bucket size used is =
        let one = told bucket used in
        let at = place bucket used in
        of_shown t.memory_registry t.memory.slots one.chunk.segment
        (λ (held : Segment Pool). size ≡ held.allocator.buckets.size) at.place.segment
        (subst (λ n. OfSegment t.memory_registry t.memory.slots n
        (λ (held : Segment Pool). size ≡ held.allocator.buckets.size)) (sym one.in_segment) is) at.place.there

    pub place_fits : (bucket size : ℕ) → in_use t k segment bucket ≡ true →
        OfSegment t.memory_registry t.memory.slots segment
        (λ (held : Segment Pool). size ≡ held.allocator.buckets.size) → bucket * size < max_memory_size
    place_fits bucket size used is =
        let one = told bucket used in
        let at = place bucket used in
        subst (λ n. n * size < max_memory_size) one.in_bucket
        (subst (λ n. one.chunk.bucket * n < max_memory_size) (sym (size_there bucket size used is)) at.place.small)

    size_is : (bucket size : ℕ) → in_use t k segment bucket ≡ true → OfSegment t.memory_registry t.memory.slots segment
        (λ (held : Segment Pool). size ≡ held.allocator.buckets.size) → size ≡ (layout_at l segment).size
    size_is bucket size used is =
        let one = told bucket used in
        let had = has_segment (core_of t) l one.chunk.segment r.shows
        (alive_active l s one.index one.chunk one.stands one.alive) in
        let seen = is_seen t.memory_registry t.memory one.chunk.segment had.shown had.has in
        of_shown t.memory_registry t.memory.slots one.chunk.segment
        (λ (held : Segment Pool). size ≡ held.allocator.buckets.size) seen.segment
        (subst (λ n. OfSegment t.memory_registry t.memory.slots n
        (λ (held : Segment Pool). size ≡ held.allocator.buckets.size)) (sym one.in_segment) is) seen.there
        ∙ ap (λ (q : Pool). q.buckets.size) seen.pool ∙ ap (λ (b : SegmentLayout). b.size) had.shows.layout
        ∙ ap (λ n. (layout_at l n).size) one.in_segment

    reply_at : ℕ → ℕ → ℕ → Reply
    reply_at name number at = Transit k (record { chunk = name; segment = number; place = at })

    -- the reply tells of the chunk
    pub line_is : (bucket size index : ℕ) (entry : ChunkEntry) → (used : in_use t k segment bucket ≡ true) →
        OfSegment t.memory_registry t.memory.slots segment
        (λ (held : Segment Pool). size ≡ held.allocator.buckets.size) →
        slice_get (get_or t.owners segment []) bucket ≡ Some index → slice_get t.entries index ≡ Some entry →
        Transit k (record { chunk = entry.name; segment = segment; place = bucket * size })
        ≡ line_of l k (told bucket used).chunk
    unfolding reply_at
    line_is bucket size index entry used is owner stands =
        let one = told bucket used in
        let same = (led (core_of t) l one.index one.chunk index entry r.shows r.tracks one.stands one.alive
        (ap (λ n. slice_get (get_or t.owners n []) one.chunk.bucket) one.in_segment
        ∙ ap (slice_get (get_or t.owners segment [])) one.in_bucket ∙ owner) stands).1 in
        ap (λ (e : ChunkEntry). reply_at e.name segment (bucket * size)) same
        ∙ ap (λ n. reply_at one.chunk.name segment (bucket * n)) (size_is bucket size used is)
        ∙ ap (λ n. reply_at one.chunk.name n (bucket * (layout_at l n).size)) (sym one.in_segment)
        ∙ ap (λ n. reply_at one.chunk.name one.chunk.segment (n * (layout_at l one.chunk.segment).size))
        (sym one.in_bucket)

    -- ---- the walk

    pub up_to : (start bucket : ℕ) → IsFirst (in_use t k segment) start bucket →
        lines_below l k segment bucket ≡ lines_below l k segment start
    up_to start bucket first =
        ap (map (line_of l k))
        (flat_map_gap (transit_at l k segment) start bucket first.not_before
        (λ n above below. untold n (first.first n above below)))

    pub one_more : (start bucket : ℕ) (first : IsFirst (in_use t k segment) start bucket) →
        lines_below l k segment (bucket + 1)
        ≡ lines_below l k segment start ++ line_of l k (told bucket first.passes).chunk ∷ []
    one_more start bucket first =
        let one = told bucket first.passes in
        ap (lines_below l k segment) (let e : bucket + 1 ≡ suc bucket = omega arith in e)
        ∙ ap (map (line_of l k)) (flat_map_next (transit_at l k segment) bucket)
        ∙ map-append (line_of l k) (flat_map (transit_at l k segment) (numbers_below bucket))
        (transit_at l k segment bucket)
        ∙ ap (λ told. lines_below l k segment bucket ++ map (line_of l k) told) one.alone
        ∙ ap (λ before. before ++ line_of l k one.chunk ∷ []) (up_to start bucket first)

    pub to_end : (start : ℕ) → ((n : ℕ) → start ≤ n → in_use t k segment n ≡ false) →
        lines_in l k segment ≡ lines_below l k segment start
    to_end start none =
        ap (map (line_of l k))
        (flat_map_ends (transit_at l k segment) (layout_at l segment).count start
        (λ n past below. untold n (outside n past (in_use t k segment n) refl))
        (λ n above below. untold n (none n above)))
      where
        outside : (n : ℕ) → (layout_at l segment).count ≤ n → (b : Bool) → in_use t k segment n ≡ b →
            in_use t k segment n ≡ false
        outside n past false e = e
        outside n past true e = let below = inside_segment n e in absurd (omega arith)

    -- there is room for one more line
    pub has_room : (start bucket spare spare_before : ℕ) (before now : List Reply) →
        IsFirst (in_use t k segment) start bucket →
        now ≡ before ++ lines_below l k segment start → spare + length now ≡ spare_before + length before →
        length (lines_in l k segment) ≤ spare_before → 0 < spare
    has_room start bucket spare spare_before before now first is kept few =
        let few_more = part_few (transit_at l k segment) bucket (layout_at l segment).count
        (inside_segment bucket first.passes) in
        let alone = ap length (told bucket first.passes).alone in
        let all = length-map (flat_map (transit_at l k segment) (numbers_below (layout_at l segment).count))
        (line_of l k) in
        let so_far = length-map (flat_map (transit_at l k segment) (numbers_below bucket)) (line_of l k) in
        let same = ap length (up_to start bucket first) in
        let long = ap length is ∙ length-append before (lines_below l k segment start) in
        omega arith
