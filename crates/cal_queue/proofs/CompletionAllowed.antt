-- The table of a completion ring allows each step of either end.
use Rattle.std.proofs.Common.{◌≡◌, ℕ, ◌+◌, ◌-◌, ◌^◌, ◌<◌, ◌≤◌, true, List, [], ◌∷◌, ◌++◌, length, get_or, replicate, set, Option, Some, None, refl, sym, ap, ◌∙◌, subst, arith, length-append}
use Rattle.std.proofs.lemmas.List.{get_or-replicate, length-replicate, set-get_or}
use Rattle.std.specs.Option.{option_to_list}
use mathlib.Core.Option.{none}
use Rattle.atomic_table.specs.Table.{Allows, opening, step}
use Rattle.cal_queue.specs.RingState.{IsCompleted, releases, reclaims, ring_state}
use Rattle.cal_queue.specs.RingWords.{slot_of}
use Rattle.cal_queue.specs.CompletionPass.{after_read_load, after_slot_look, after_write_look, new_get_pass, new_put_pass, after_read_store, after_slot_store, after_write_store}
use Rattle.cal_queue.specs.CompletionRule.{Fits, IsSoundRing, IsSoundTable, new_view}
use Rattle.cal_queue.specs.CompletionSteps.{End, WriterLoadsRead, ReaderLoadsSlot, ReaderLoadsWrite, Settles, ReaderStoresRead, WriterStoresSlot, WriterStoresWrite}
use Rattle.cal_queue.specs.declared.completion_ring.pass.PutPass.{PutPass}
use Rattle.cal_queue.specs.declared.completion_ring.pass.GetPass.{GetPass}
use Rattle.cal_queue.proofs.CompletionKeeps.{reader_loads_write-fits, reader_loads_slot-fits, reader_stores_read-fits, got_below, new_ring-fits, writer_loads_read-fits, writer_stores_slot-fits, writer_stores_write-fits}
use Rattle.cal_queue.proofs.OneSideEach.{opens}
use Rattle.cal_queue.proofs.Schedules.{IsReached-more}
use Rattle.cal_queue.proofs.SidedTables.{look_allowed, reader_allowed, writer_allowed}

abbrev Sound : ℕ → List ℕ → PutPass → GetPass → Type 0
Sound = IsSoundRing

-- a load puts the word back that it found
looked : (capacity i : ℕ) (words : List ℕ) (writer : PutPass) (reader : GetPass) → Sound capacity words writer reader →
    Sound capacity (set words i (get_or words i 0)) writer reader
looked capacity i words writer reader sound = subst
    (λ (w : List ℕ). Sound capacity w writer reader) (sym (set-get_or words i 0)) sound

-- one value more is released
released-more : (capacity : ℕ) (put got : List ℕ) (value : ℕ) → length put < length got + capacity →
    length got ≤ length put
    → IsCompleted capacity put (length got) → IsCompleted capacity (put ++ value ∷ []) (length got)
released-more capacity put got value room within completed buffer sent tags submitted =
    IsReached-more _ (ring_state sent tags put (length got)) (releases value) (completed buffer sent tags submitted)
    (omega arith)

-- and one more is reclaimed
reclaimed-more : (capacity : ℕ) (put : List ℕ) (got : ℕ) → got < length put → IsCompleted capacity put got →
    IsCompleted capacity put (got + 1)
reclaimed-more capacity put got below completed buffer sent tags submitted =
    IsReached-more _ (ring_state sent tags put got) reclaims (completed buffer sent tags submitted) (omega arith)

module _ (capacity slots seat : ℕ) (me : End) where
  pub writer_loads_read-allowed : me.0.writes ≡ true → me.0.writer.to_put ≡ None
      → Allows (IsSoundTable capacity) slots seat me 0 (λ n. n) (WriterLoadsRead (step slots 0 0 0 none) me)
  writer_loads_read-allowed writes idle = writer_allowed (Sound capacity) slots seat me 0
      (λ n. n) (WriterLoadsRead (step slots 0 0 0 none) me) (λ n. after_read_load n me.0.writer) writes
      (λ words q below sound. let W = sound.fits.words_fit in
      let size = sound.fits.writer_fits.sized in (
        looked capacity 0 words _ q
            (record {
              fits = writer_loads_read-fits capacity words me.0.writer q sound.fits idle;
              reached = sound.reached;
            }),
        record {
          loaded = refl;
          within = (let h = W.read_position in let h' = W.read_within in omega arith);
          room = (let h = W.read_position in let h' = sound.fits.values_fit.room in omega arith);
        },
      ))

  module _ (writes : me.0.writes ≡ true) (value : ℕ) where
    pub writer_stores_slot-allowed : (slot : ℕ) → me.0.writer.to_put ≡ None →
        slot ≡ slot_of capacity (length me.0.writer.put) → length me.0.writer.put < me.0.writer.seen_read + capacity →
        length me.0.writer.put < 2 ^ 64 - 1
        → Allows (IsSoundTable capacity) slots seat me slot (λ _. value)
        (λ _. WriterStoresSlot (step slots slot value 0 none) me value)
    writer_stores_slot-allowed slot idle place room counts = writer_allowed (Sound capacity) slots seat me slot
        (λ _. value) (λ _. WriterStoresSlot (step slots slot value 0 none) me value)
        (λ _. after_slot_store value me.0.writer) writes
        (λ words q below sound. (
          subst (λ (s : ℕ). Sound capacity (set words s value) (after_slot_store value me.0.writer) q) (sym place)
              (record {
                fits = writer_stores_slot-fits capacity words me.0.writer q sound.fits idle value room counts;
                reached = sound.reached;
              }),
          refl,
        ))

    pub writer_stores_write-allowed : (next : ℕ) → me.0.writer.to_put ≡ Some value → next ≡ length me.0.writer.put + 1
        → Allows (IsSoundTable capacity) slots seat me 1 (λ _. next)
        (λ _. WriterStoresWrite (step slots 1 next 0 none) me next)
    writer_stores_write-allowed next pending is = writer_allowed (Sound capacity) slots seat me 1 (λ _. next)
        (λ _. WriterStoresWrite (step slots 1 next 0 none) me next) (λ _. after_write_store me.0.writer) writes
        (λ words q below sound. let near = sound.fits.writer_fits.to_put_room value pending in
        let seen = sound.fits.writer_fits.read_within in
        let W = sound.fits.words_fit in (
          subst (λ (n : ℕ). Sound capacity (set words 1 n) (after_write_store me.0.writer) q) (sym is) (record {
            fits = writer_stores_write-fits capacity words me.0.writer q sound.fits value pending;
            reached = subst (λ (o : Option ℕ).
                IsCompleted capacity (me.0.writer.put ++ option_to_list o) (length q.got)) (sym pending)
                (released-more capacity me.0.writer.put q.got value (omega arith) W.read_within sound.reached);
          }),
          refl,
        ))

  pub reader_loads_write-allowed : me.0.reads ≡ true → Allows (IsSoundTable capacity) slots seat me 1
      (λ n. n) (ReaderLoadsWrite (step slots 1 0 0 none) me)
  reader_loads_write-allowed reads = reader_allowed (Sound capacity) slots seat me 1
      (λ n. n) (ReaderLoadsWrite (step slots 1 0 0 none) me) (λ n. after_write_look n me.0.reader) reads
      (λ words p below sound. let W = sound.fits.words_fit in (
        looked capacity 1 words p
            _ (record {
              fits = reader_loads_write-fits capacity words p me.0.reader sound.fits;
              reached = sound.reached;
            }),
        record { loaded = refl; within = (let h = W.write_position in let h' = W.read_within in omega arith) },
      ))

  module _ (reads : me.0.reads ≡ true) where
    pub reader_loads_slot-allowed : (slot : ℕ) → slot ≡ slot_of capacity (length me.0.reader.got) →
        length me.0.reader.got < me.0.reader.seen_write
        → Allows (IsSoundTable capacity) slots seat me slot (λ n. n) (ReaderLoadsSlot (step slots slot 0 0 none) me)
    reader_loads_slot-allowed slot place waits = reader_allowed (Sound capacity) slots seat me slot
        (λ n. n) (ReaderLoadsSlot (step slots slot 0 0 none) me) (λ n. after_slot_look n me.0.reader) reads
        (λ words p below sound. (
          looked capacity slot words p _ (record {
            fits = subst (λ (s : ℕ). Fits capacity words p (after_slot_look (get_or words s 0) me.0.reader)) (sym place)
                (reader_loads_slot-fits capacity words p me.0.reader sound.fits waits);
            reached = sound.reached;
          }),
          refl,
        ))

    pub reader_stores_read-allowed : (value next : ℕ) → me.0.reader.seen_value ≡ Some value →
        next ≡ length me.0.reader.got + 1
        → Allows (IsSoundTable capacity) slots seat me 0 (λ _. next)
        (λ _. ReaderStoresRead (step slots 0 next 0 none) me next)
    reader_stores_read-allowed value next loaded is = reader_allowed (Sound capacity) slots seat me 0 (λ _. next)
        (λ _. ReaderStoresRead (step slots 0 next 0 none) me next) (λ _. after_read_store me.0.reader) reads
        (λ words p below sound. (
          subst (λ (n : ℕ). Sound capacity (set words 0 n) p (after_read_store me.0.reader)) (sym is) (record {
            fits = reader_stores_read-fits capacity words p me.0.reader sound.fits value loaded;
            reached = subst (λ (o : Option ℕ).
                IsCompleted capacity p.put (length (me.0.reader.got ++ option_to_list o))) (sym loaded)
                (subst (λ (k : ℕ). IsCompleted capacity p.put k) (sym (length-append me.0.reader.got (value ∷ [])))
                (reclaimed-more capacity p.put (length me.0.reader.got)
                (got_below capacity words p me.0.reader sound.fits value loaded) sound.reached));
          }),
          refl,
        ))

  pub settles-allowed : me.0.writes ≡ true → me.0.reads ≡ true → Allows (IsSoundTable capacity) slots seat me 0
      (λ n. n) (Settles (step slots 0 0 0 none) me)
  settles-allowed writes reads = look_allowed (Sound capacity) slots seat me 0 (Settles (step slots 0 0 0 none) me)
      writes reads
      (λ words sound. let W = sound.fits.words_fit in record {
        same = refl;
        settled = record {
          got_first = sound.fits.values_fit.got_first;
          read_within = W.read_within;
          room = let room = sound.fits.values_fit.room in let sized = sound.fits.writer_fits.sized in omega arith;
          completed = subst (λ (c : ℕ). IsCompleted c me.0.writer.put (length me.0.reader.got))
              (sym sound.fits.writer_fits.sized) sound.reached;
        };
      })

-- the words of a new ring, and what its first seat knows
pub new_ring-sound : (capacity : ℕ) (words : List ℕ) → 1 ≤ capacity → words ≡ replicate (capacity + 2) 0 →
    IsSoundTable capacity (opening words [] (new_view capacity))
new_ring-sound capacity words some are = opens (Sound capacity) words [] (new_put_pass capacity) (new_get_pass capacity)
    (record {
      fits = new_ring-fits capacity words some (ap (λ (w : List ℕ). length w) are ∙ length-replicate (capacity + 2) 0)
          (ap (λ (w : List ℕ). get_or w 0 0) are ∙ get_or-replicate (capacity + 2) 0 0 0 (omega arith))
          (ap (λ (w : List ℕ). get_or w 1 0) are ∙ get_or-replicate (capacity + 2) 1 0 0 (omega arith));
      reached = λ buffer sent tags submitted. submitted;
    })
