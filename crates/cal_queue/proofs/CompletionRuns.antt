-- Each step of a completion ring is an event of the state that it represents, or none.
use Rattle.std.proofs.Common.{◌∙◌, ◌≡◌, ℕ, ◌+◌, ◌≤◌, List, [], ◌∷◌, ◌++◌, length, map, replicate, Option, Some, refl, sym, ap, subst, arith, length-append}
use Rattle.std.proofs.lemmas.List.{get_or-replicate, length-replicate}
use Rattle.std.specs.Option.{option_to_list}
use Rattle.cal_queue.specs.CompletionLaw.{MayStep, Represents, RingMoment, RingStep, after_step, completion_machine, events_of, new_ring, reader_loads_slot, reader_loads_write, reader_stores_read, writer_loads_read, writer_stores_slot, writer_stores_write}
use Rattle.cal_queue.specs.CompletionRule.{Fits}
use Rattle.cal_queue.specs.RingMachine.{LeadsTo, StepsAreEvents}
use Rattle.cal_queue.specs.RingState.{Bounds, Event, IsSchedule, RingState, reclaims, releases, unused_state}
use Rattle.cal_queue.proofs.CompletionKeeps.{got_below, new_ring-fits}
use Rattle.cal_queue.proofs.CompletionKeeps as keeps
use Rattle.cal_queue.proofs.Schedules.{value_of}

pub new_ring-unused : (capacity : ℕ) → 1 ≤ capacity → Represents capacity (new_ring capacity) unused_state
new_ring-unused capacity some = record {
  released = refl;
  reclaimed = refl;
  fits = new_ring-fits capacity (replicate (capacity + 2) 0) some (length-replicate (capacity + 2) 0)
      (get_or-replicate (capacity + 2) 0 0 0 (omega arith)) (get_or-replicate (capacity + 2) 1 0 0 (omega arith));
}

module _ (b : Bounds) (m : RingMoment) (c : RingState) (shows : Represents b.completion m c) where
  abbrev F : Fits b.completion m.words m.writer m.reader
  F = shows.fits

  abbrev Leads : List Event → RingMoment → Type 0
  Leads = LeadsTo (completion_machine b.completion) b c

  -- the store of the write position is a release
  releases-one : (value : ℕ) → m.writer.to_put ≡ Some value
      → Leads (map releases (option_to_list m.writer.to_put)) (after_step b.completion m writer_stores_write)
  releases-one value pending =
      let near = F.writer_fits.to_put_room value pending in
      let seen = F.writer_fits.read_within in
      let within = F.words_fit.read_within in
      let many : length c.released ≡ length m.writer.put = ap (λ (l : List ℕ). length l) shows.released in
      let few = shows.reclaimed in
      let d : RingState = record c { released = c.released ++ value ∷ [] } in (
        d,
        subst (λ (o : Option ℕ). IsSchedule b c (map releases (option_to_list o)) d) (sym pending) (omega arith, refl),
        record {
          released = ap (λ (l : List ℕ). l ++ value ∷ []) shows.released
              ∙ ap (λ (o : Option ℕ). m.writer.put ++ option_to_list o) (sym pending);
          reclaimed = few;
          fits = keeps.writer_stores_write-fits b.completion m.words m.writer m.reader F value pending;
        },
      )

  -- the store of the read position is a reclaim
  reclaims-one : (value : ℕ) → m.reader.seen_value ≡ Some value
      → Leads (reclaims ∷ []) (after_step b.completion m reader_stores_read)
  reclaims-one value loaded =
      let below = got_below b.completion m.words m.writer m.reader F value loaded in
      let many : length c.released ≡ length m.writer.put = ap (λ (l : List ℕ). length l) shows.released in
      let few = shows.reclaimed in
      let d : RingState = record c { reclaimed = c.reclaimed + 1 } in (
        d,
        (omega arith, refl),
        record {
          released = shows.released;
          reclaimed = ap (λ (n : ℕ). n + 1) few ∙ sym (length-append m.reader.got (value ∷ []))
              ∙ ap (λ (o : Option ℕ). length (m.reader.got ++ option_to_list o)) (sym loaded);
          fits = keeps.reader_stores_read-fits b.completion m.words m.writer m.reader F value loaded;
        },
      )

  pub step_is_an_event : (s : RingStep) → MayStep b.completion m s → Leads (events_of m s) (after_step b.completion m s)
  step_is_an_event writer_loads_read may = (
    c,
    refl,
    record {
      released = shows.released;
      reclaimed = shows.reclaimed;
      fits = keeps.writer_loads_read-fits b.completion m.words m.writer m.reader F may;
    },
  )
  step_is_an_event (writer_stores_slot value) may = (
    c,
    refl,
    record {
      released = shows.released;
      reclaimed = shows.reclaimed;
      fits = keeps.writer_stores_slot-fits b.completion m.words m.writer m.reader F may.0 value may.1 may.2;
    },
  )
  step_is_an_event writer_stores_write may = let v = value_of m.writer.to_put may in releases-one v.0 v.1
  step_is_an_event reader_loads_write may = (
    c,
    refl,
    record {
      released = shows.released;
      reclaimed = shows.reclaimed;
      fits = keeps.reader_loads_write-fits b.completion m.words m.writer m.reader F;
    },
  )
  step_is_an_event reader_loads_slot may = (
    c,
    refl,
    record {
      released = shows.released;
      reclaimed = shows.reclaimed;
      fits = keeps.reader_loads_slot-fits b.completion m.words m.writer m.reader F may;
    },
  )
  step_is_an_event reader_stores_read may = let v = value_of m.reader.seen_value may in reclaims-one v.0 v.1

pub steps_are_events : (b : Bounds) → StepsAreEvents (completion_machine b.completion) b
steps_are_events b m c s shows may = step_is_an_event b m c shows s may
