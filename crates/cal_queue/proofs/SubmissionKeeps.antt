-- Each step of either end of a submission ring keeps the words and the passes fitting together, from any state in which
-- they do.
use Rattle.std.proofs.Common.{◌≡◌, ◌≢◌, ℕ, ◌+◌, ◌-◌, ◌^◌, ◌<◌, ◌≤◌, Bool, true, false, List, [], ◌∷◌, ◌++◌, length, get_or, map, set, Option, Some, None, eqb, refl, sym, ap, ◌∙◌, subst, arith, length-append, eq-eqb, eqb-true}
use Rattle.std.proofs.lemmas.Bool.{false≢true}
use Rattle.std.proofs.lemmas.List.{append-nil}
use Rattle.std.specs.Option.{option_to_list}
use Rattle.cal_queue.specs.RingState.{Tag, received, overflowed, tagged_positions}
use Rattle.cal_queue.specs.RingWords.{WordsFit, slot_of}
use Rattle.cal_queue.specs.SubmissionPass.{IsIdle, after_lost_exchange, after_miss, after_read_load, after_read_look, after_slot_look, after_slot_store, after_take, after_won_exchange, after_write_look, after_write_store, new_send_pass, new_take_pass}
use Rattle.cal_queue.specs.SubmissionRule.{Fits, ReaderFits, WriterFits}
use Rattle.cal_queue.specs.declared.submission_ring.pass.SendPass.{SendPass}
use Rattle.cal_queue.specs.declared.submission_ring.pass.TakePass.{TakePass}
use Rattle.cal_queue.proofs.RingWordsFit.{WordsFit-new, WordsFit-read, WordsFit-slot, WordsFit-written, grown-before, next_slot-stored, slot-after_store}
use Rattle.cal_queue.proofs.Schedules.{tagged_positions-sent, tagged_positions-tag}

pub new_ring-fits : (buffer : ℕ) (words : List ℕ) → length words ≡ buffer + 3
    → get_or words 0 0 ≡ 0 → get_or words 1 0 ≡ 0 → Fits buffer words (new_send_pass buffer) (new_take_pass buffer) []
new_ring-fits buffer words sized read written = record {
  words_fit = WordsFit-new (buffer + 1) words (omega arith) read written;
  writer_fits = record {
    sized = refl;
    overflowed_tagged = refl;
    read_within = omega arith;
    room = λ due. omega arith;
    due_room = λ due. absurd (false≢true due);
    due_read = λ due. absurd (false≢true due);
    due_none_to_send = λ due. refl;
    to_send_in_slot = λ value is. cc;
    to_send_room = λ value is. cc;
    to_send_counts = λ value is. cc;
  };
  reader_fits = record {
    sized = refl;
    received_tagged = refl;
    read_within = omega arith;
    write_within = λ write is. cc;
    write_not_behind = λ write is. cc;
    value_queued = λ value is. cc;
    value_sent = λ value is. cc;
  };
}

module _ (buffer : ℕ) (words : List ℕ) (writer : SendPass) (reader : TakePass) (tags : List Tag)
    (fits : Fits buffer words writer reader tags) where
  abbrev slots : ℕ
  slots = buffer + 1

  abbrev W : WordsFit slots words writer.sent (length tags)
  W = fits.words_fit

  abbrev X : WriterFits buffer words tags writer
  X = fits.writer_fits

  abbrev Y : ReaderFits buffer writer.sent tags reader
  Y = fits.reader_fits

  -- ---- the sender

  module _ (idle : IsIdle writer) where
    not_due : writer.exchange_due ≡ true → ⊥
    not_due due = false≢true (sym idle.none_due ∙ due)

    none_to_send : (value : ℕ) → writer.to_send ≡ Some value → ⊥
    none_to_send value is = let none = idle.none_to_send in cc

    pub writer_loads_read-fits : Fits buffer words (after_read_load (get_or words 0 0) writer) reader tags
    writer_loads_read-fits = record {
      words_fit = W;
      writer_fits = record {
        sized = X.sized;
        overflowed_tagged = X.overflowed_tagged;
        read_within = let h = W.read_position in omega arith;
        room = X.room;
        due_room = X.due_room;
        due_read = λ due. absurd (not_due due);
        due_none_to_send = X.due_none_to_send;
        to_send_in_slot = X.to_send_in_slot;
        to_send_room = λ value is. absurd (none_to_send value is);
        to_send_counts = X.to_send_counts;
      };
      reader_fits = Y;
    }

    pub writer_stores_slot-fits : (value : ℕ) → length writer.sent ≤ writer.seen_read + buffer
        → length writer.sent < 2 ^ 64 - 1
        → Fits buffer (set words (slot_of slots (length writer.sent)) value) (after_slot_store value writer) reader tags
    writer_stores_slot-fits value has_room counts = let seen = X.read_within in record {
      words_fit = WordsFit-slot slots words writer.sent (length tags) W value (omega arith) (omega arith);
      writer_fits = record {
        sized = X.sized;
        overflowed_tagged = X.overflowed_tagged;
        read_within = X.read_within;
        room = X.room;
        due_room = X.due_room;
        due_read = X.due_read;
        due_none_to_send = λ due. absurd (not_due due);
        to_send_in_slot = λ v is. next_slot-stored slots words writer.sent (length tags) W value (omega arith) ∙ cc;
        to_send_room = λ v is. has_room;
        to_send_counts = λ v is. counts;
      };
      reader_fits = Y;
    }

  module _ (value : ℕ) (pending : writer.to_send ≡ Some value) where
    abbrev grown : List ℕ
    grown = writer.sent ++ value ∷ []

    abbrev published : List ℕ
    published = set words 1 (length writer.sent + 1)

    abbrev full : Bool
    full = eqb (length writer.sent) (writer.seen_read + writer.buffer)

    pub pending_room : length writer.sent ≤ length tags + buffer
    pending_room = let seen = X.read_within in
        let near = X.to_send_room value pending in omega arith

    is_full : full ≡ true → length writer.sent ≡ writer.seen_read + buffer
    is_full t = eqb-true _ _ t ∙ ap (λ (k : ℕ). writer.seen_read + k) X.sized

    not_full : full ≡ false → length writer.sent ≢ writer.seen_read + buffer
    not_full f e = false≢true (sym f ∙ eq-eqb _ _ (e ∙ ap (λ (k : ℕ). writer.seen_read + k) (sym X.sized)))

    published_fits : Fits buffer published (record writer { sent = grown; to_send = None; exchange_due = full }) reader
        tags
    published_fits = let long : length grown ≡ length writer.sent + 1 = length-append writer.sent (value ∷ []) in
        let seen = X.read_within in
        let near = X.to_send_room value pending in record {
          words_fit = WordsFit-written slots words writer.sent (length tags) W value (X.to_send_in_slot value pending);
          writer_fits = record {
            sized = X.sized;
            overflowed_tagged = X.overflowed_tagged
                ∙ sym (tagged_positions-sent overflowed 0 tags writer.sent value W.read_within);
            read_within = X.read_within;
            room = λ due. let h = not_full due in omega arith;
            due_room = λ due. omega arith;
            due_read = λ due. let h = is_full due in omega arith;
            due_none_to_send = λ due. refl;
            to_send_in_slot = λ v is. cc;
            to_send_room = λ v is. cc;
            to_send_counts = λ v is. cc;
          };
          reader_fits = record {
            sized = Y.sized;
            received_tagged = Y.received_tagged
                ∙ sym (tagged_positions-sent received 0 tags writer.sent value W.read_within);
            read_within = Y.read_within;
            write_within = λ write is. let h = Y.write_within write is in omega arith;
            write_not_behind = Y.write_not_behind;
            value_queued = Y.value_queued;
            value_sent = λ v is here. let q = Y.value_queued v is in
                let behind = q.2 in
                let within = Y.write_within q.0 q.1 in
                grown-before slots words writer.sent (length tags) W value reader.seen_read (omega arith)
                ∙ Y.value_sent v is here;
          };
        }

    pub writer_stores_write-fits : Fits buffer published (after_write_store writer) reader tags
    writer_stores_write-fits = subst
        (λ (o : Option ℕ). Fits buffer published
        (record writer { sent = writer.sent ++ option_to_list o; to_send = None; exchange_due = full }) reader tags)
        (sym pending) published_fits

  module _ (due : writer.exchange_due ≡ true) where
    due_not_pending : (value : ℕ) → writer.to_send ≡ Some value → ⊥
    due_not_pending value is = let none = X.due_none_to_send due in cc

    pub due_full : length writer.sent ≡ writer.seen_read + buffer + 1
    due_full = X.due_read due

    -- the read position is still the one that was loaded
    module _ (hit : get_or words 0 0 ≡ writer.seen_read) where
      still_there : length tags ≡ writer.seen_read
      still_there = sym W.read_position ∙ hit

      pub writer_wins-fits : Fits buffer (set words 0 (writer.seen_read + 1)) (after_won_exchange writer) reader (tags
          ++ overflowed ∷ [])
      writer_wins-fits = let long = due_full in
          let there = still_there in
          let more : length (tags ++ overflowed ∷ []) ≡ length tags + 1 = length-append tags (overflowed ∷ []) in
          let below : length tags < length writer.sent = omega arith in
          let back = tagged_positions-tag overflowed 0 tags overflowed writer.sent below in
          let same : 0 + length tags ≡ writer.seen_read = omega arith in record {
            words_fit = WordsFit-read slots words writer.sent (length tags) (length (tags ++ overflowed ∷ []))
                (writer.seen_read + 1) W more (omega arith) below;
            writer_fits = record {
              sized = X.sized;
              overflowed_tagged =
                  ap (λ (l : List (ℕ × ℕ)). l ++ (writer.seen_read, get_or writer.sent writer.seen_read 0) ∷ [])
                  X.overflowed_tagged
                  ∙ ap (λ (k : ℕ × ℕ). tagged_positions overflowed 0 tags writer.sent
                  ++ (k.0, get_or writer.sent k.1 0) ∷ [])
                  (λ i. (sym same i, sym there i)) ∙ sym back;
              read_within = omega arith;
              room = λ d. omega arith;
              due_room = λ d. absurd (false≢true d);
              due_read = λ d. absurd (false≢true d);
              due_none_to_send = λ d. absurd (false≢true d);
              to_send_in_slot = λ v is. absurd (due_not_pending v is);
              to_send_room = λ v is. absurd (due_not_pending v is);
              to_send_counts = λ v is. absurd (due_not_pending v is);
            };
            reader_fits = record {
              sized = Y.sized;
              received_tagged = Y.received_tagged ∙ sym (append-nil (tagged_positions received 0 tags writer.sent))
                  ∙ sym (tagged_positions-tag received 0 tags overflowed writer.sent below);
              read_within = let h = Y.read_within in omega arith;
              write_within = Y.write_within;
              write_not_behind = Y.write_not_behind;
              value_queued = Y.value_queued;
              value_sent = λ v is here. let h = Y.read_within in absurd (omega arith);
            };
          }

    -- the taker has moved it on
    pub writer_loses-fits : get_or words 0 0 ≢ writer.seen_read
        → Fits buffer words (after_lost_exchange writer) reader tags
    writer_loses-fits miss = record {
      words_fit = W;
      writer_fits = record {
        sized = X.sized;
        overflowed_tagged = X.overflowed_tagged;
        read_within = X.read_within;
        room = λ d. let long = due_full in
            let seen = X.read_within in
            let shown = W.read_position in omega arith;
        due_room = λ d. absurd (false≢true d);
        due_read = λ d. absurd (false≢true d);
        due_none_to_send = λ d. absurd (false≢true d);
        to_send_in_slot = λ v is. absurd (due_not_pending v is);
        to_send_room = λ v is. absurd (due_not_pending v is);
        to_send_counts = λ v is. absurd (due_not_pending v is);
      };
      reader_fits = Y;
    }

  -- ---- the taker

  pub reader_loads_read-fits : Fits buffer words writer (after_read_look (get_or words 0 0) reader) tags
  reader_loads_read-fits = record {
    words_fit = W;
    writer_fits = X;
    reader_fits = record {
      sized = Y.sized;
      received_tagged = Y.received_tagged;
      read_within = let h = W.read_position in omega arith;
      write_within = λ write is. cc;
      write_not_behind = λ write is. cc;
      value_queued = λ value is. cc;
      value_sent = λ value is. cc;
    };
  }

  pub reader_loads_write-fits : Fits buffer words writer (after_write_look (get_or words 1 0) reader) tags
  reader_loads_write-fits = let shown = W.write_position in
      let within = W.read_within in
      let seen = Y.read_within in
      let here : (write : ℕ) → Some (get_or words 1 0) ≡ Some write → write
      ≡ get_or words 1 0 = λ write is. cc in record {
        words_fit = W;
        writer_fits = X;
        reader_fits = record {
          sized = Y.sized;
          received_tagged = Y.received_tagged;
          read_within = Y.read_within;
          write_within = λ write is. let h = here write is in omega arith;
          write_not_behind = λ write is. let h = here write is in omega arith;
          value_queued = λ value is. let q = Y.value_queued value is in
              let behind = q.2 in
              let old = Y.write_within q.0 q.1 in (get_or words 1 0, refl, omega arith);
          value_sent = Y.value_sent;
        };
      }

  module _ (write : ℕ) (seen : reader.seen_write ≡ Some write) (behind : reader.seen_read < write) where
    abbrev its_slot : ℕ
    its_slot = slot_of slots reader.seen_read

    pub reader_loads_slot-fits : Fits buffer words writer (after_slot_look (get_or words its_slot 0) reader) tags
    reader_loads_slot-fits = record {
      words_fit = W;
      writer_fits = X;
      reader_fits = record {
        sized = Y.sized;
        received_tagged = Y.received_tagged;
        read_within = Y.read_within;
        write_within = Y.write_within;
        write_not_behind = Y.write_not_behind;
        value_queued = λ value is. (write, seen, behind);
        value_sent = λ value is here. let within = Y.write_within write seen in
            let first : get_or words its_slot 0 ≡ value = cc in
            sym (W.in_slots reader.seen_read (omega arith) (omega arith)) ∙ first;
      };
    }

  module _ (value : ℕ) (loaded : reader.seen_value ≡ Some value) where
    -- the position that the taker loaded was sent
    pub taken_within : reader.seen_read < length writer.sent
    taken_within = let q = Y.value_queued value loaded in
        let behind = q.2 in
        let within = Y.write_within q.0 q.1 in omega arith

    module _ (hit : get_or words 0 0 ≡ reader.seen_read) where
      abbrev passed : List ℕ
      passed = set words 0 (reader.seen_read + 1)

      passed_fits : Fits buffer passed writer (record reader {
        received = reader.received
            ++ (reader.seen_read, value) ∷ [];
        seen_write = None;
        seen_value = None;
      }) (tags ++ received ∷ [])
      passed_fits = let there : length tags ≡ reader.seen_read = sym W.read_position ∙ hit in
          let within = taken_within in
          let more : length (tags ++ received ∷ []) ≡ length tags + 1 = length-append tags (received ∷ []) in
          let below : length tags < length writer.sent = omega arith in
          let mine = tagged_positions-tag received 0 tags received writer.sent below in
          let same : 0 + length tags ≡ reader.seen_read = omega arith in
          let is_value : get_or writer.sent reader.seen_read 0 ≡ value = Y.value_sent value loaded there in record {
            words_fit = WordsFit-read slots words writer.sent (length tags) (length (tags ++ received ∷ []))
                (reader.seen_read + 1) W more (omega arith) below;
            writer_fits = record {
              sized = X.sized;
              overflowed_tagged = X.overflowed_tagged
                  ∙ sym (append-nil (tagged_positions overflowed 0 tags writer.sent))
                  ∙ sym (tagged_positions-tag overflowed 0 tags received writer.sent below);
              read_within = let h = X.read_within in omega arith;
              room = λ d. let h = X.room d in omega arith;
              due_room = λ d. let h = X.due_room d in omega arith;
              due_read = X.due_read;
              due_none_to_send = X.due_none_to_send;
              to_send_in_slot = λ v is.
                  slot-after_store slots words 0 (length writer.sent) (reader.seen_read + 1) (omega arith)
                  ∙ X.to_send_in_slot v is;
              to_send_room = X.to_send_room;
              to_send_counts = X.to_send_counts;
            };
            reader_fits = record {
              sized = Y.sized;
              received_tagged =
                  ap (λ (l : List (ℕ × ℕ)). l ++ (reader.seen_read, value) ∷ []) Y.received_tagged
                  ∙ ap (λ (k : ℕ × ℕ). tagged_positions received 0 tags writer.sent ++ k ∷ [])
                  (λ i. (sym same i, (sym is_value ∙ ap (λ (k : ℕ). get_or writer.sent k 0) (sym there)) i)) ∙ sym mine;
              read_within = omega arith;
              write_within = λ write is. cc;
              write_not_behind = λ write is. cc;
              value_queued = λ v is. cc;
              value_sent = λ v is. cc;
            };
          }

      pub reader_wins-fits : Fits buffer passed writer (after_take reader) (tags ++ received ∷ [])
      reader_wins-fits = subst
          (λ (o : Option ℕ). Fits buffer passed writer
          (record reader {
            received = reader.received ++ map
                (λ (v : ℕ). (reader.seen_read, v)) (option_to_list o);
            seen_write = None;
            seen_value = None;
          })
          (tags ++ received ∷ []))
          (sym loaded) passed_fits

  pub reader_loses-fits : Fits buffer words writer (after_miss reader) tags
  reader_loses-fits = record {
    words_fit = W;
    writer_fits = X;
    reader_fits = record {
      sized = Y.sized;
      received_tagged = Y.received_tagged;
      read_within = Y.read_within;
      write_within = λ write is. cc;
      write_not_behind = λ write is. cc;
      value_queued = λ value is. cc;
      value_sent = λ value is. cc;
    };
  }
