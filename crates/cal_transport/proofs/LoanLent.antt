-- A bucket is handed out, cleared and entered: a state of the transport that shows a ledger shows it with the new
-- chunk.
use Rattle.std.proofs.Common.{ℕ, ◌+◌, ◌-◌, ◌*◌, ◌/◌, ◌%◌, ◌<◌, ◌≤◌, ◌≡◌, ◌≢◌, Bool, true, false, not, ◌&&◌, nat_eq, nat_lt, [], ◌∷◌, ◌++◌, length, set, get_or, replicate, Some, refl, sym, ap, ◌∙◌, subst, arith}
use Rattle.std.proofs.Math.Nat.{mul-div_cancel, mul-mod_left}
use Rattle.std.proofs.lemmas.Bool.{true≢false, and_from, eq-eqb, lt-ltb}
use Rattle.std.proofs.lemmas.List.{get_or-set_same, get_or-set_other}
use Rattle.std.proofs.lemmas.Option.{same_Some}
use Rattle.cal_alloc.specs.Growth.{SegmentLayout}
use Rattle.cal_alloc.specs.Pool.{Pool, is_used, with_mark, bucket_of}
use Rattle.cal_alloc.specs.PointerOffset.{offset_of, segment_of, pointer_offset}
use Rattle.cal_storage.specs.Contents.{Contents}
use Rattle.cal_shm.specs.Segment.{Segment, with_allocator}
use Rattle.cal_resizable.specs.Chunks.{segment_value}
use Rattle.cal_resizable.specs.Memory.{MemoryState}
use Rattle.cal_resizable.specs.Slots.{count_at}
use Rattle.cal_transport.specs.declared.reply.Slot.{Slot}
use Rattle.cal_transport.specs.declared.reply.Reply.TheVariants.{Loaned}
use Rattle.cal_transport.specs.declared.transport.chunk_entry.ChunkEntry.{ChunkEntry}
use Rattle.cal_transport.specs.Ledger.{Ledger, layout_at, current, is_free}
use Rattle.cal_transport.specs.Core.{ActiveSegment}
use Rattle.cal_transport.specs.Owning.{table_at, with_owner}
use Rattle.cal_transport.specs.Putting.{PutsBytes}
use Rattle.cal_transport.specs.Shown.{ShowsSegment, Shows, Tracks}
use Rattle.cal_transport.specs.Soundness.{AreNamed}
use Rattle.cal_transport.specs.State.{TransportState, active_of, core_of}
use Rattle.cal_transport.specs.Step.{IsLoan, with_loan_at, with_bytes, new_chunk}
use Rattle.cal_transport.proofs.Settled.{IsSettled}
use Rattle.cal_transport.proofs.LendStep.{LendsAt, lent_shows, lent_tracks}
use Rattle.cal_transport.proofs.LoanCauses.{shown_current, current_sizes}
use Rattle.cal_transport.proofs.Handed.{Hands}

-- the entry of a new chunk
abbrev pub new_entry : ℕ → ℕ → ℕ → ChunkEntry
new_entry name segment bucket = record {
  name = name;
  segment = segment;
  bucket = bucket;
  loaned = true;
  sent = false;
  transits = 0;
}

-- where the chunk of an entry lies, by its pointer
abbrev pub slot_of_entry : ChunkEntry → ℕ → Slot
slot_of_entry entry pointer = record {
  chunk = entry.name;
  segment = segment_of pointer;
  place = offset_of pointer;
}

module _ (t : TransportState) (pointer : ℕ) (handed : Contents (Segment Pool)) (memory : MemoryState)
    (h : Hands t.memory_registry t.memory pointer handed memory) (cleared : Contents (Segment Pool))
    (put : PutsBytes memory t.view handed (segment_of pointer) (offset_of pointer)
    (replicate h.was.allocator.buckets.size 0) cleared)
    (name bucket : ℕ) (bucket_is : bucket ≡ offset_of pointer / h.was.allocator.buckets.size) (spare tables : ℕ) where
  abbrev size : ℕ
  size = h.was.allocator.buckets.size

  abbrev pub lent_state : TransportState
  lent_state = record t {
    memory_registry = cleared;
    memory = memory;
    entries = t.entries ++ new_entry name (segment_of pointer) bucket ∷ [];
    owners = with_owner t.owners (segment_of pointer) bucket (length t.entries);
    spare = spare;
    spare_tables = tables;
  }

  -- the bucket starts at the pointer
  in_segment : offset_of (pointer_offset (offset_of pointer) 0) ≡ offset_of pointer
  in_segment = omega arith

  bucket_here : bucket_of h.was.allocator (pointer_offset (offset_of pointer) 0) ≡ bucket
  bucket_here = ap (λ n. n / size) in_segment ∙ sym bucket_is

  pub starts : offset_of pointer ≡ bucket * size
  starts = sym in_segment ∙ ap offset_of h.given.at_start
      ∙ again (bucket_of h.was.allocator (pointer_offset (offset_of pointer) 0) * size)
      ∙ ap (λ b. b * size) bucket_here
    where
      again : (offset : ℕ) → offset_of (pointer_offset offset 0) ≡ offset
      again offset = omega arith

  marked_pool : h.left ≡ with_mark h.was.allocator bucket true
  marked_pool = h.given.after ∙ ap (λ b. with_mark h.was.allocator b true) bucket_here

  exists : bucket < h.was.allocator.buckets.count
  exists = subst (λ b. b < h.was.allocator.buckets.count) bucket_here h.given.exists

  was_free : is_used h.was.allocator bucket ≡ false
  was_free = ap (is_used h.was.allocator) (sym bucket_here) ∙ h.given.was_free

  current_kept : memory.current ≡ t.memory.current
  current_kept = ap (λ (m : MemoryState). m.current) h.memory

  -- the current segment, before and after
  was_shown : (shown : ActiveSegment) → (core_of t).active t.memory.current ≡ Some shown → record {
    pool = h.was.allocator;
    payload = h.was.payload;
    chunks = count_at t.memory.slots t.memory.current;
  } ≡ shown
  was_shown shown has =
      same_Some (record {
        pool = h.was.allocator;
        payload = h.was.payload;
        chunks = count_at t.memory.slots t.memory.current;
      }) shown (sym (ap (λ o. active_of o (count_at t.memory.slots t.memory.current)) h.origin) ∙ has)

  is_shown : (core_of lent_state).active t.memory.current ≡ Some (record {
    pool = with_mark h.was.allocator bucket true;
    payload = with_bytes h.was.payload (bucket * size) (replicate size 0);
    chunks = count_at t.memory.slots t.memory.current + 1;
  })
  is_shown =
      ap (λ n. active_of (segment_value cleared memory.slots n) (count_at memory.slots t.memory.current))
      (sym h.carries)
      ∙ ap (λ o. active_of o (count_at memory.slots t.memory.current))
      (put.here (with_allocator h.was h.left)
      (ap (segment_value handed memory.slots) h.carries ∙ h.becomes))
      ∙ ap (λ n. active_of (Some (record h.was {
        allocator = h.left;
        payload = with_bytes h.was.payload (offset_of pointer) (replicate size 0);
      })) n) h.one_more
      ∙ ap (λ p. active_of (Some (record h.was {
        allocator = p;
        payload = with_bytes h.was.payload (offset_of pointer) (replicate size 0);
      })) (count_at t.memory.slots t.memory.current + 1)) marked_pool
      ∙ ap (λ n. active_of (Some (record h.was {
        allocator = with_mark h.was.allocator bucket true;
        payload = with_bytes h.was.payload n (replicate size 0);
      })) (count_at t.memory.slots t.memory.current + 1)) starts

  module _ (l : Ledger) (s : IsSettled l) (names : AreNamed l.chunks name) (shows : Shows (core_of t) l)
      (tracks : Tracks (core_of t) l) (tabled : t.memory.current < length t.owners) where
    was : ShowsSegment l (current l) (record {
      pool = h.was.allocator;
      payload = h.was.payload;
      chunks = count_at t.memory.slots t.memory.current;
    })
    was = shown_current t l s shows h.was h.origin

    size_is : size ≡ (layout_at l (current l)).size
    size_is = ap (λ (b : SegmentLayout). b.size) was.layout

    within : bucket < (layout_at l (current l)).count
    within = subst (λ (b : SegmentLayout). bucket < b.count) was.layout exists

    free : is_free l (current l) bucket ≡ true
    free = turn (is_free l (current l) bucket) (sym (was.used bucket) ∙ was_free)
      where
        turn : (b : Bool) → not b ≡ false → b ≡ true
        turn true e = refl
        turn false e = absurd (true≢false e)

    lends_at : LendsAt (core_of t) (core_of lent_state) name bucket (layout_at l (current l)).size
    lends_at = record {
      settings = refl;
      current = current_kept;
      others = λ other apart.
          ap (λ o. active_of o (count_at memory.slots other)) (put.others other (λ e. apart (e ∙ h.carries)))
          ∙ h.others other apart;
      here = λ shown has. subst (λ n. (core_of lent_state).active t.memory.current ≡ Some (record {
        pool = with_mark shown.pool bucket true;
        payload = with_bytes shown.payload (bucket * n) (replicate n 0);
        chunks = shown.chunks + 1;
      })) size_is (subst (λ (a : ActiveSegment). (core_of lent_state).active t.memory.current ≡ Some (record {
        pool = with_mark a.pool bucket true;
        payload = with_bytes a.payload (bucket * size) (replicate size 0);
        chunks = a.chunks + 1;
      })) (was_shown shown has) is_shown);
      marked = λ shown has. subst (λ (a : ActiveSegment). bucket < length a.pool.used) (was_shown shown has)
          (let marks = h.given.sound.marked in let there = exists in omega arith);
      entries = ap (λ n. t.entries ++ new_entry name n bucket ∷ []) h.carries;
      opened_last = refl;
      mapped = λ other. refl;
      channels = λ k. record { channel = refl; borrowed = refl };
      tracks = λ k. record { lent = refl; transits = refl };
      other_owners = λ other apart. get_or-set_other t.owners (segment_of pointer) other
          (set (table_at t.owners (segment_of pointer)) bucket (length t.entries)) []
          (λ e. apart (e ∙ h.carries));
      owner = ap (λ n. get_or (with_owner t.owners n bucket (length t.entries)) t.memory.current []) h.carries
          ∙ get_or-set_same t.owners t.memory.current
          (set (table_at t.owners t.memory.current) bucket (length t.entries)) [] tabled;
      in_transit = refl;
    }

    abbrev slot : Slot
    slot = record { chunk = name; segment = segment_of pointer; place = offset_of pointer }

    some_size : 1 ≤ (layout_at l (current l)).size
    some_size = (current_sizes l s).not_empty

    place_is : offset_of pointer ≡ bucket * (layout_at l (current l)).size
    place_is = starts ∙ ap (λ n. bucket * n) size_is

    divided : offset_of pointer / (layout_at l (current l)).size ≡ bucket
    divided = ap (λ n. n / (layout_at l (current l)).size) place_is ∙ mul-div_cancel bucket some_size

    -- the reply is what a loan owes
    pub owes : IsLoan l name (Loaned slot)
    owes = (
      refl,
      h.carries ∙ shows.current,
      and_from (nat_eq (offset_of pointer % (layout_at l (current l)).size) 0
          && nat_lt (offset_of pointer / (layout_at l (current l)).size) (layout_at l (current l)).count)
          (is_free l (current l) (offset_of pointer / (layout_at l (current l)).size))
          (and_from (nat_eq (offset_of pointer % (layout_at l (current l)).size) 0)
          (nat_lt (offset_of pointer / (layout_at l (current l)).size) (layout_at l (current l)).count)
          (eq-eqb (offset_of pointer % (layout_at l (current l)).size) 0
          (ap (λ n. n % (layout_at l (current l)).size) place_is
          ∙ mul-mod_left bucket (layout_at l (current l)).size))
          (lt-ltb (offset_of pointer / (layout_at l (current l)).size) (layout_at l (current l)).count
          (subst (λ n. n < (layout_at l (current l)).count) (sym divided) within)))
          (ap (is_free l (current l)) divided ∙ free),
    )

    pub lent_shows_loan : Shows (core_of lent_state) (with_loan_at l name (offset_of pointer))
    lent_shows_loan = subst (λ b. Shows (core_of lent_state) (record l {
      chunks = l.chunks ++ new_chunk name (current l) b (layout_at l (current l)).size ∷ [];
    })) (sym divided)
        (lent_shows (core_of t) (core_of lent_state) l s name bucket names within free lends_at shows tracks)

    pub lent_tracks_loan : Tracks (core_of lent_state) (with_loan_at l name (offset_of pointer))
    lent_tracks_loan = subst (λ b. Tracks (core_of lent_state) (record l {
      chunks = l.chunks ++ new_chunk name (current l) b (layout_at l (current l)).size ∷ [];
    })) (sym divided)
        (lent_tracks (core_of t) (core_of lent_state) l s name bucket names within free lends_at shows tracks)
