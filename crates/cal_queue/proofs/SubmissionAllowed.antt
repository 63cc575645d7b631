-- The table of a submission ring allows each step of its ends.
use Rattle.std.proofs.Common.{◌≡◌, ◌≢◌, ℕ, ◌+◌, ◌-◌, ◌^◌, ◌<◌, ◌≤◌, Bool, true, cond, List, [], ◌∷◌, ◌++◌, length, get_or, set, replicate, Option, Some, eqb, refl, sym, ap, ◌∙◌, subst, ⊎_elim, arith, eq-eqb, ne_eqb}
use Rattle.std.proofs.lemmas.Bool.{cases_eq}
use Rattle.std.proofs.lemmas.List.{set-get_or, length-replicate, get_or-replicate}
use Rattle.std.specs.Option.{option_to_list}
use prog.Atomic.{either}
use mathlib.Core.Option.{none}
use Rattle.atomic_table.specs.Table.{Allows, step, opening}
use Rattle.cal_queue.specs.RingState.{IsSubmitted, received, overflowed, sends, overflows, receives, ring_state}
use Rattle.cal_queue.specs.Sides.{with_writer, with_reader}
use Rattle.cal_queue.specs.SubmissionPass.{new_send_pass, new_take_pass, after_read_load, after_slot_store, after_write_store, after_won_exchange, after_lost_exchange, after_read_look, after_write_look, after_slot_look, after_take, after_miss, IsIdle}
use Rattle.cal_queue.specs.RingWords.{slot_of}
use Rattle.cal_queue.specs.SubmissionRule.{Fits, IsSoundRing, IsSoundTable, new_view}
use Rattle.cal_queue.specs.SubmissionSteps.{End, WriterLoadsRead, WriterStoresSlot, WriterStoresWrite, WriterExchangesRead, ReaderLoadsRead, ReaderLoadsWrite, ReaderLoadsSlot, ReaderExchangesRead, Settles}
use Rattle.cal_queue.specs.declared.submission_ring.pass.SendPass.{SendPass}
use Rattle.cal_queue.specs.declared.submission_ring.pass.TakePass.{TakePass}
use Rattle.cal_queue.proofs.OneSideEach.{opens}
use Rattle.cal_queue.proofs.Schedules.{IsReached-more}
use Rattle.cal_queue.proofs.SidedTables.{writer_allowed, reader_allowed, look_allowed}
use Rattle.cal_queue.proofs.SubmissionKeeps.{new_ring-fits, writer_loads_read-fits, writer_stores_slot-fits, writer_stores_write-fits, pending_room, writer_wins-fits, writer_loses-fits, due_full, reader_loads_read-fits, reader_loads_write-fits, reader_loads_slot-fits, reader_wins-fits, reader_loses-fits, taken_within}
use Rattle.cal_queue.proofs.TaggedPositions.{tagged-counts}

-- a look leaves the words
same_words : (buffer i : ℕ) (words : List ℕ) (writer : SendPass) (reader : TakePass) →
    IsSoundRing buffer words writer reader → IsSoundRing buffer (set words i (get_or words i 0)) writer reader
same_words buffer i words writer reader shows = subst
    (λ (w : List ℕ). IsSoundRing buffer w writer reader) (sym (set-get_or words i 0)) shows

module _ (buffer slots seat : ℕ) (me : End) where
  abbrev writer : SendPass
  writer = me.0.writer

  abbrev reader : TakePass
  reader = me.0.reader

  module _ (writes : me.0.writes ≡ true) where
    pub writer_loads_read-allowed : IsIdle writer → Allows (IsSoundTable buffer) slots seat me 0
        (λ n. n) (WriterLoadsRead (step slots 0 0 0 none) me)
    writer_loads_read-allowed idle = writer_allowed (IsSoundRing buffer) slots seat me 0
        (λ n. n) (WriterLoadsRead (step slots 0 0 0 none) me) (λ n. after_read_load n writer) writes
        (λ words q below shows.
        let fits = shows.1 in
        let shown = fits.words_fit.read_position in
        let within = fits.words_fit.read_within in
        let room = fits.writer_fits.room idle.none_due in
        let size = fits.writer_fits.sized in (
          same_words buffer 0 words (after_read_load (get_or words 0 0) writer) q
              (shows.0, writer_loads_read-fits buffer words writer q shows.0 fits idle, shows.2),
          (refl, omega arith, omega arith),
        ))

    pub writer_stores_slot-allowed : IsIdle writer → (slot value : ℕ) →
        slot ≡ slot_of (buffer + 1) (length writer.sent) → length writer.sent ≤ writer.seen_read + buffer →
        length writer.sent < 2 ^ 64 - 1
        → Allows (IsSoundTable buffer) slots seat me slot (λ _. value)
        (λ _. WriterStoresSlot (step slots slot value 0 none) me value)
    writer_stores_slot-allowed idle slot value here room counts = writer_allowed (IsSoundRing buffer) slots seat me slot
        (λ _. value) (λ _. WriterStoresSlot (step slots slot value 0 none) me value)
        (λ _. after_slot_store value writer) writes
        (λ words q below shows. (
          (
            shows.0,
            subst (λ (k : ℕ). Fits buffer (set words k value) (after_slot_store value writer) q shows.0)
                (sym here) (writer_stores_slot-fits buffer words writer q shows.0 shows.1 idle value room counts),
            shows.2,
          ),
          refl,
        ))

    pub writer_stores_write-allowed : (position value : ℕ) → writer.to_send ≡ Some value →
        position ≡ length writer.sent + 1
        → Allows (IsSoundTable buffer) slots seat me 1 (λ _. position)
        (λ _. WriterStoresWrite (step slots 1 position 0 none) me position)
    writer_stores_write-allowed position value pending next = writer_allowed (IsSoundRing buffer) slots seat me 1
        (λ _. position) (λ _. WriterStoresWrite (step slots 1 position 0 none) me position)
        (λ _. after_write_store writer) writes
        (λ words q below shows.
        let room = pending_room buffer words writer q shows.0 shows.1 value pending in (
          (
            shows.0,
            subst (λ (k : ℕ). Fits buffer (set words 1 k) (after_write_store writer) q shows.0) (sym next)
                (writer_stores_write-fits buffer words writer q shows.0 shows.1 value pending),
            subst (λ (o : Option ℕ). IsSubmitted buffer (writer.sent ++ option_to_list o) shows.0) (sym pending)
                (λ completion. IsReached-more _ (ring_state writer.sent shows.0 [] 0) (sends value) (shows.2 completion)
                (omega arith)),
          ),
          refl,
        ))

    pub writer_exchanges_read-allowed : (read : ℕ) → read ≡ writer.seen_read → writer.exchange_due ≡ true
        → Allows (IsSoundTable buffer) slots seat me 0
        (λ n. either (eqb n read) (read + 1) n) (WriterExchangesRead (step slots 0 read (read + 1) none) me)
    writer_exchanges_read-allowed read loaded due = writer_allowed (IsSoundRing buffer) slots seat me 0
        (λ n. either (eqb n read) (read + 1) n) (WriterExchangesRead (step slots 0 read (read + 1) none) me) next writes
        (λ words q below shows. ⊎_elim (won words q shows) (lost words q shows) (cases_eq (get_or words 0 0) read))
      where
        next : ℕ → SendPass
        next n = cond (eqb n read) (after_won_exchange writer) (after_lost_exchange writer)

        Done : List ℕ → TakePass → Bool → Type 0
        Done words q b = IsSoundRing buffer (set words 0 (either b (read + 1) (get_or words 0 0)))
            (cond b (after_won_exchange writer) (after_lost_exchange writer)) q
            × WriterExchangesRead (step slots 0 read (read + 1) none) me (get_or words 0 0)
            (with_writer me (cond b (after_won_exchange writer) (after_lost_exchange writer)))

        won : (words : List ℕ) (q : TakePass) → IsSoundRing buffer words writer q → get_or words 0 0 ≡ read →
            Done words q (eqb (get_or words 0 0) read)
        won words q shows hit =
            let fits = shows.1 in
            let there = hit ∙ loaded in
            let full = due_full buffer words writer q shows.0 fits due in
            let shown = fits.words_fit.read_position in
            let counts = tagged-counts 0 shows.0 writer.sent fits.words_fit.read_within in
            let back = ap length fits.writer_fits.overflowed_tagged in
            subst (Done words q) (sym (eq-eqb _ _ hit)) (
              (
                shows.0 ++ overflowed ∷ [],
                subst (λ (k : ℕ). Fits buffer (set words 0 (k + 1)) (after_won_exchange writer) q
                    (shows.0 ++ overflowed ∷ [])) (sym loaded)
                    (writer_wins-fits buffer words writer q shows.0 fits due there),
                λ completion. IsReached-more _ (ring_state writer.sent shows.0 [] 0) overflows (shows.2 completion)
                    (omega arith),
              ),
              (λ same. (refl, omega arith), λ other. absurd (other there)),
            )

        lost : (words : List ℕ) (q : TakePass) → IsSoundRing buffer words writer q → get_or words 0 0 ≢ read →
            Done words q (eqb (get_or words 0 0) read)
        lost words q shows miss =
            let away : get_or words 0 0 ≢ writer.seen_read = λ e. miss (e ∙ sym loaded) in
            subst (Done words q) (sym (ne_eqb _ _ miss)) (
              same_words buffer 0 words (after_lost_exchange writer) q
                  (shows.0, writer_loses-fits buffer words writer q shows.0 shows.1 due away, shows.2),
              (λ same. absurd (away same), λ other. refl),
            )

  module _ (reads : me.0.reads ≡ true) where
    pub reader_loads_read-allowed : Allows (IsSoundTable buffer) slots seat me 0
        (λ n. n) (ReaderLoadsRead (step slots 0 0 0 none) me)
    reader_loads_read-allowed = reader_allowed (IsSoundRing buffer) slots seat me 0
        (λ n. n) (ReaderLoadsRead (step slots 0 0 0 none) me) (λ n. after_read_look n reader) reads
        (λ words p below shows. (
          same_words buffer 0 words p (after_read_look (get_or words 0 0) reader)
              (shows.0, reader_loads_read-fits buffer words p reader shows.0 shows.1, shows.2),
          refl,
        ))

    pub reader_loads_write-allowed : Allows (IsSoundTable buffer) slots seat me 1
        (λ n. n) (ReaderLoadsWrite (step slots 1 0 0 none) me)
    reader_loads_write-allowed = reader_allowed (IsSoundRing buffer) slots seat me 1
        (λ n. n) (ReaderLoadsWrite (step slots 1 0 0 none) me) (λ n. after_write_look n reader) reads
        (λ words p below shows.
        let fits = shows.1 in
        let shown = fits.words_fit.write_position in
        let within = fits.words_fit.read_within in
        let seen = fits.reader_fits.read_within in (
          same_words buffer 1 words p (after_write_look (get_or words 1 0) reader)
              (shows.0, reader_loads_write-fits buffer words p reader shows.0 fits, shows.2),
          (refl, omega arith),
        ))

    pub reader_loads_slot-allowed : (slot write : ℕ) → slot ≡ slot_of (buffer + 1) reader.seen_read →
        reader.seen_write ≡ Some write → reader.seen_read < write
        → Allows (IsSoundTable buffer) slots seat me slot (λ n. n) (ReaderLoadsSlot (step slots slot 0 0 none) me)
    reader_loads_slot-allowed slot write here seen behind = reader_allowed (IsSoundRing buffer) slots seat me slot
        (λ n. n) (ReaderLoadsSlot (step slots slot 0 0 none) me) (λ n. after_slot_look n reader) reads
        (λ words p below shows. (
          same_words buffer slot words p (after_slot_look (get_or words slot 0) reader) (
            shows.0,
            subst (λ (k : ℕ). Fits buffer words p (after_slot_look (get_or words k 0) reader) shows.0)
                (sym here) (reader_loads_slot-fits buffer words p reader shows.0 shows.1 write seen behind),
            shows.2,
          ),
          refl,
        ))

    pub reader_exchanges_read-allowed : (read value : ℕ) → read ≡ reader.seen_read → reader.seen_value ≡ Some value
        → Allows (IsSoundTable buffer) slots seat me 0
        (λ n. either (eqb n read) (read + 1) n) (ReaderExchangesRead (step slots 0 read (read + 1) none) me)
    reader_exchanges_read-allowed read value loaded has = reader_allowed (IsSoundRing buffer) slots seat me 0
        (λ n. either (eqb n read) (read + 1) n) (ReaderExchangesRead (step slots 0 read (read + 1) none) me) next reads
        (λ words p below shows. ⊎_elim (won words p shows) (lost words p shows) (cases_eq (get_or words 0 0) read))
      where
        next : ℕ → TakePass
        next n = cond (eqb n read) (after_take reader) (after_miss reader)

        Done : List ℕ → SendPass → Bool → Type 0
        Done words p b = IsSoundRing buffer (set words 0 (either b (read + 1) (get_or words 0 0))) p
            (cond b (after_take reader) (after_miss reader))
            × ReaderExchangesRead (step slots 0 read (read + 1) none) me (get_or words 0 0)
            (with_reader me (cond b (after_take reader) (after_miss reader)))

        won : (words : List ℕ) (p : SendPass) → IsSoundRing buffer words p reader → get_or words 0 0 ≡ read →
            Done words p (eqb (get_or words 0 0) read)
        won words p shows hit =
            let fits = shows.1 in
            let there = hit ∙ loaded in
            let within = taken_within buffer words p reader shows.0 fits value has in
            let shown = fits.words_fit.read_position in
            let counts = tagged-counts 0 shows.0 p.sent fits.words_fit.read_within in
            let mine = ap length fits.reader_fits.received_tagged in
            subst (Done words p) (sym (eq-eqb _ _ hit)) (
              (
                shows.0 ++ received ∷ [],
                subst (λ (k : ℕ). Fits buffer (set words 0 (k + 1)) p (after_take reader) (shows.0 ++ received ∷ []))
                    (sym loaded) (reader_wins-fits buffer words p reader shows.0 fits value has there),
                λ completion. IsReached-more _ (ring_state p.sent shows.0 [] 0) receives (shows.2 completion)
                    (omega arith),
              ),
              (λ same. (omega arith, refl), λ other. absurd (other there)),
            )

        lost : (words : List ℕ) (p : SendPass) → IsSoundRing buffer words p reader → get_or words 0 0 ≢ read →
            Done words p (eqb (get_or words 0 0) read)
        lost words p shows miss =
            let away : get_or words 0 0 ≢ reader.seen_read = λ e. miss (e ∙ sym loaded) in
            subst (Done words p) (sym (ne_eqb _ _ miss)) (
              same_words buffer 0 words p (after_miss reader)
                  (shows.0, reader_loses-fits buffer words p reader shows.0 shows.1, shows.2),
              (λ same. absurd (away same), λ other. refl),
            )

  pub settles-allowed : me.0.writes ≡ true → me.0.reads ≡ true → Allows (IsSoundTable buffer) slots seat me 0
      (λ n. n) (Settles (step slots 0 0 0 none) me)
  settles-allowed writes reads = look_allowed (IsSoundRing buffer) slots seat me 0 (Settles (step slots 0 0 0 none) me)
      writes reads
      (λ words shows. (
        refl,
        (
          shows.0,
          record {
            read_position = shows.1.words_fit.read_position;
            read_within = shows.1.words_fit.read_within;
            room = λ none_due. let room = shows.1.writer_fits.room none_due in
                let sized = shows.1.writer_fits.sized in omega arith;
            overflowed_tagged = shows.1.writer_fits.overflowed_tagged;
            received_tagged = shows.1.reader_fits.received_tagged;
            submitted = subst (λ (b : ℕ). IsSubmitted b writer.sent shows.0) (sym shows.1.writer_fits.sized) shows.2;
          },
        ),
      ))

-- a new ring meets the rule
pub new_ring-sound : (buffer : ℕ) (words : List ℕ) → words ≡ replicate (buffer + 3) 0 →
    IsSoundTable buffer (opening words [] (new_view buffer))
new_ring-sound buffer words is =
    let size : length words ≡ buffer + 3 = ap length is ∙ length-replicate (buffer + 3) 0 in
    let read : get_or words 0 0 ≡ 0 = ap (λ (l : List ℕ). get_or l 0 0) is
    ∙ get_or-replicate (buffer + 3) 0 0 0 (omega arith) in
    let written : get_or words 1 0 ≡ 0 = ap (λ (l : List ℕ). get_or l 1 0) is
    ∙ get_or-replicate (buffer + 3) 1 0 0 (omega arith) in
    opens (IsSoundRing buffer) words [] (new_send_pass buffer) (new_take_pass buffer)
    ([], new_ring-fits buffer words size read written, λ completion. ([], refl))
