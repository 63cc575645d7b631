-- Each step of either end of a completion ring keeps the words and the passes fitting together, from any state in which
-- they do.
use Rattle.std.proofs.Common.{◌≡◌, ℕ, ◌+◌, ◌-◌, ◌^◌, ◌<◌, ◌≤◌, List, [], ◌∷◌, ◌++◌, length, get_or, set, take, Option, Some, None, refl, sym, ap, ◌∙◌, subst, arith, length-append}
use Rattle.std.proofs.lemmas.List.{take-append-le, take_more}
use Rattle.std.specs.Option.{option_to_list}
use Rattle.cal_queue.specs.CompletionPass.{after_read_load, after_read_store, after_slot_look, after_slot_store, after_write_look, after_write_store, new_get_pass, new_put_pass}
use Rattle.cal_queue.specs.CompletionRule.{Fits, ReaderFits, ValuesFit, WriterFits}
use Rattle.cal_queue.specs.RingWords.{WordsFit, slot_of}
use Rattle.cal_queue.specs.declared.completion_ring.pass.PutPass.{PutPass}
use Rattle.cal_queue.specs.declared.completion_ring.pass.GetPass.{GetPass}
use Rattle.cal_queue.proofs.RingWordsFit.{WordsFit-new, WordsFit-read, WordsFit-slot, WordsFit-written, grown-before, next_slot-stored, slot-after_store}

pub new_ring-fits : (capacity : ℕ) (words : List ℕ) → 1 ≤ capacity → length words ≡ capacity + 2
    → get_or words 0 0 ≡ 0 → get_or words 1 0 ≡ 0 → Fits capacity words (new_put_pass capacity) (new_get_pass capacity)
new_ring-fits capacity words some sized read written = record {
  words_fit = WordsFit-new capacity words sized read written;
  values_fit = record { some_room = some; got_first = refl; room = omega arith };
  writer_fits = record {
    sized = refl;
    read_within = omega arith;
    to_put_in_slot = λ value is. cc;
    to_put_room = λ value is. cc;
    to_put_counts = λ value is. cc;
  };
  reader_fits = record {
    sized = refl;
    write_within = omega arith;
    value_waits = λ value is. cc;
    value_put = λ value is. cc;
  };
}

module _ (capacity : ℕ) (words : List ℕ) (writer : PutPass) (reader : GetPass)
    (fits : Fits capacity words writer reader) where
  abbrev W : WordsFit capacity words writer.put (length reader.got)
  W = fits.words_fit

  abbrev V : ValuesFit capacity writer.put reader.got
  V = fits.values_fit

  abbrev X : WriterFits capacity words reader.got writer
  X = fits.writer_fits

  abbrev Y : ReaderFits capacity writer.put reader
  Y = fits.reader_fits

  -- ---- the putting end

  module _ (idle : writer.to_put ≡ None) where
    none_to_put : (value : ℕ) → writer.to_put ≡ Some value → ⊥
    none_to_put value is = cc

    pub writer_loads_read-fits : Fits capacity words (after_read_load (get_or words 0 0) writer) reader
    writer_loads_read-fits = record {
      words_fit = W;
      values_fit = V;
      writer_fits = record {
        sized = X.sized;
        read_within = let h = W.read_position in omega arith;
        to_put_in_slot = X.to_put_in_slot;
        to_put_room = λ value is. absurd (none_to_put value is);
        to_put_counts = X.to_put_counts;
      };
      reader_fits = Y;
    }

    pub writer_stores_slot-fits : (value : ℕ) → length writer.put < writer.seen_read + capacity
        → length writer.put < 2 ^ 64 - 1
        → Fits capacity (set words (slot_of capacity (length writer.put)) value) (after_slot_store value writer) reader
    writer_stores_slot-fits value has_room counts = let seen = X.read_within in
        let some = V.some_room in record {
          words_fit = WordsFit-slot capacity words writer.put (length reader.got) W value some (omega arith);
          values_fit = V;
          writer_fits = record {
            sized = X.sized;
            read_within = X.read_within;
            to_put_in_slot = λ v is.
                next_slot-stored capacity words writer.put (length reader.got) W value some ∙ cc;
            to_put_room = λ v is. has_room;
            to_put_counts = λ v is. counts;
          };
          reader_fits = Y;
        }

  module _ (value : ℕ) (pending : writer.to_put ≡ Some value) where
    abbrev grown : List ℕ
    grown = writer.put ++ value ∷ []

    abbrev published : List ℕ
    published = set words 1 (length writer.put + 1)

    published_fits : Fits capacity published (record writer { put = grown; to_put = None }) reader
    published_fits = let long : length grown ≡ length writer.put + 1 = length-append writer.put (value ∷ []) in
        let seen = X.read_within in
        let near = X.to_put_room value pending in
        let within = W.read_within in record {
          words_fit = WordsFit-written capacity words writer.put (length reader.got) W value
              (X.to_put_in_slot value pending);
          values_fit = record {
            some_room = V.some_room;
            got_first = V.got_first ∙ sym (take-append-le (length reader.got) writer.put (value ∷ []) within);
            room = omega arith;
          };
          writer_fits = record {
            sized = X.sized;
            read_within = X.read_within;
            to_put_in_slot = λ v is. cc;
            to_put_room = λ v is. cc;
            to_put_counts = λ v is. cc;
          };
          reader_fits = record {
            sized = Y.sized;
            write_within = let h = Y.write_within in omega arith;
            value_waits = Y.value_waits;
            value_put = λ v is. let waits = Y.value_waits v is in
                let seen' = Y.write_within in
                grown-before capacity words writer.put (length reader.got) W value (length reader.got) (omega arith)
                ∙ Y.value_put v is;
          };
        }

    pub writer_stores_write-fits : Fits capacity published (after_write_store writer) reader
    writer_stores_write-fits = subst
        (λ (o : Option ℕ). Fits capacity published (record writer {
          put = writer.put
              ++ option_to_list o;
          to_put = None;
        }) reader)
        (sym pending) published_fits

  -- ---- the getting end

  pub reader_loads_write-fits : Fits capacity words writer (after_write_look (get_or words 1 0) reader)
  reader_loads_write-fits = record {
    words_fit = W;
    values_fit = V;
    writer_fits = X;
    reader_fits = record {
      sized = Y.sized;
      write_within = let h = W.write_position in omega arith;
      value_waits = λ value is. cc;
      value_put = λ value is. cc;
    };
  }

  module _ (waits : length reader.got < reader.seen_write) where
    abbrev its_slot : ℕ
    its_slot = slot_of capacity (length reader.got)

    pub reader_loads_slot-fits : Fits capacity words writer (after_slot_look (get_or words its_slot 0) reader)
    reader_loads_slot-fits = record {
      words_fit = W;
      values_fit = V;
      writer_fits = X;
      reader_fits = record {
        sized = Y.sized;
        write_within = Y.write_within;
        value_waits = λ value is. waits;
        value_put = λ value is. let within = Y.write_within in
            let first : get_or words its_slot 0 ≡ value = cc in
            sym (W.in_slots (length reader.got) (omega arith) (omega arith)) ∙ first;
      };
    }

  module _ (value : ℕ) (loaded : reader.seen_value ≡ Some value) where
    abbrev passed : List ℕ
    passed = set words 0 (length reader.got + 1)

    abbrev taken : List ℕ
    taken = reader.got ++ value ∷ []

    -- a value waits at the read position
    pub got_below : length reader.got < length writer.put
    got_below = let waits = Y.value_waits value loaded in
        let within = Y.write_within in omega arith

    taken_first : taken ≡ take (length taken) writer.put
    taken_first =
        let long : length taken ≡ length reader.got + 1 = length-append reader.got (value ∷ []) in
        ap (λ (l : List ℕ). l ++ value ∷ []) V.got_first
        ∙ ap (λ (v : ℕ). take (length reader.got) writer.put ++ v ∷ []) (sym (Y.value_put value loaded))
        ∙ sym (take_more writer.put (length reader.got) 0 got_below)
        ∙ ap (λ (n : ℕ). take n writer.put) (sym long)

    passed_fits : Fits capacity passed writer (record reader { got = taken; seen_value = None })
    passed_fits = let below = got_below in
        let room = V.room in
        let seen = X.read_within in
        let long : length taken ≡ length reader.got + 1 = length-append reader.got (value ∷ []) in record {
          words_fit = WordsFit-read capacity words writer.put (length reader.got) (length taken) (length reader.got + 1)
              W long (sym long) below;
          values_fit = record { some_room = V.some_room; got_first = taken_first; room = omega arith };
          writer_fits = record {
            sized = X.sized;
            read_within = omega arith;
            to_put_in_slot = λ v is.
                slot-after_store capacity words 0 (length writer.put) (length reader.got + 1) (omega arith)
                ∙ X.to_put_in_slot v is;
            to_put_room = X.to_put_room;
            to_put_counts = X.to_put_counts;
          };
          reader_fits = record {
            sized = Y.sized;
            write_within = Y.write_within;
            value_waits = λ v is. cc;
            value_put = λ v is. cc;
          };
        }

    pub reader_stores_read-fits : Fits capacity passed writer (after_read_store reader)
    reader_stores_read-fits = subst
        (λ (o : Option ℕ). Fits capacity passed writer (record reader {
          got = reader.got
              ++ option_to_list o;
          seen_value = None;
        }))
        (sym loaded) passed_fits
