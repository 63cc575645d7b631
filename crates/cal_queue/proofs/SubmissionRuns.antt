-- Each step of a submission ring is an event of the state that it represents, or none.
use Rattle.std.proofs.Common.{◌≡◌, ◌≢◌, ℕ, ◌+◌, ◌<◌, Bool, true, false, cond, List, [], ◌∷◌, ◌++◌, length, get_or, map, set, replicate, Option, Some, None, eqb, ltb, refl, sym, ap, ◌∙◌, subst, arith, eq-eqb, eqb-true}
use Rattle.std.proofs.lemmas.Bool.{false≢true}
use Rattle.std.proofs.lemmas.List.{length-replicate, get_or-replicate}
use Rattle.std.specs.Option.{option_to_list}
use Rattle.cal_queue.specs.RingMachine.{LeadsTo, StepsAreEvents}
use Rattle.cal_queue.specs.RingState.{Bounds, Event, IsSchedule, RingState, after_event, overflows, receives, sends, unused_state}
use Rattle.cal_queue.specs.RingWords.{slot_of}
use Rattle.cal_queue.specs.SubmissionLaw.{MayStep, Represents, RingMoment, RingStep, after_step, events_of, is_ahead, new_ring, reader_exchanges_read, reader_loads_read, reader_loads_slot, reader_loads_write, submission_machine, writer_exchanges_read, writer_loads_read, writer_stores_slot, writer_stores_write}
use Rattle.cal_queue.specs.SubmissionPass.{after_lost_exchange, after_miss, after_slot_look, after_take, after_won_exchange}
use Rattle.cal_queue.specs.SubmissionRule.{Fits}
use Rattle.cal_queue.proofs.Schedules.{value_of}
use Rattle.cal_queue.proofs.SubmissionKeeps.{new_ring-fits, pending_room, due_full, taken_within}
use Rattle.cal_queue.proofs.SubmissionKeeps as keeps

pub new_ring-unused : (buffer : ℕ) → Represents buffer (new_ring buffer) unused_state
new_ring-unused buffer = record {
  sent = refl;
  fits = new_ring-fits buffer (replicate (buffer + 3) 0) (length-replicate (buffer + 3) 0)
      (get_or-replicate (buffer + 3) 0 0 0 (omega arith)) (get_or-replicate (buffer + 3) 1 0 0 (omega arith));
}

module _ (b : Bounds) (m : RingMoment) (c : RingState) (shows : Represents b.buffer m c) where
  abbrev F : Fits b.buffer m.words m.writer m.reader c.tags
  F = shows.fits

  abbrev Leads : List Event → RingMoment → Type 0
  Leads = LeadsTo (submission_machine b.buffer) b c

  unchanged : (later : RingMoment) → later.writer.sent ≡ m.writer.sent
      → Fits b.buffer later.words later.writer later.reader c.tags → Leads [] later
  unchanged later same fits = (c, refl, record { sent = shows.sent ∙ sym same; fits = fits })

  publishes : (value : ℕ) → m.writer.to_send ≡ Some value
      → Leads (map sends (option_to_list m.writer.to_send)) (after_step b.buffer m writer_stores_write)
  publishes value pending =
      let room = pending_room b.buffer m.words m.writer m.reader c.tags F value pending in
      let long = ap length shows.sent in
      let d : RingState = after_event c (sends value) in (
        d,
        subst (λ (o : Option ℕ). IsSchedule b c (map sends (option_to_list o)) d) (sym pending) (omega arith, refl),
        record {
          sent = ap (λ (l : List ℕ). l ++ value ∷ []) shows.sent
              ∙ ap (λ (o : Option ℕ). m.writer.sent ++ option_to_list o) (sym pending);
          fits = keeps.writer_stores_write-fits b.buffer m.words m.writer m.reader c.tags F value pending;
        },
      )

  exchanges : m.writer.exchange_due ≡ true → (hit : Bool) → eqb (get_or m.words 0 0) m.writer.seen_read ≡ hit
      → Leads (cond hit (overflows ∷ []) [])
      (cond hit (record m { words = set m.words 0 (m.writer.seen_read + 1); writer = after_won_exchange m.writer })
      (record m { writer = after_lost_exchange m.writer }))
  exchanges due true is =
      let there = eqb-true _ _ is in
      let full = due_full b.buffer m.words m.writer m.reader c.tags F due in
      let shown = F.words_fit.read_position in
      let long = ap length shows.sent in (
        after_event c overflows,
        (omega arith, refl),
        record {
          sent = shows.sent;
          fits = keeps.writer_wins-fits b.buffer m.words m.writer m.reader c.tags F due there;
        },
      )
  exchanges due false is =
      let away : get_or m.words 0 0 ≢ m.writer.seen_read = λ e. false≢true (sym is ∙ eq-eqb _ _ e) in
      unchanged _ refl (keeps.writer_loses-fits b.buffer m.words m.writer m.reader c.tags F due away)

  takes : (value : ℕ) → m.reader.seen_value ≡ Some value → (hit : Bool) → eqb (get_or m.words 0 0) m.reader.seen_read
      ≡ hit
      → Leads (cond hit (receives ∷ []) [])
      (cond hit (record m { words = set m.words 0 (m.reader.seen_read + 1); reader = after_take m.reader })
      (record m { reader = after_miss m.reader }))
  takes value loaded true is =
      let there = eqb-true _ _ is in
      let within = taken_within b.buffer m.words m.writer m.reader c.tags F value loaded in
      let shown = F.words_fit.read_position in
      let long = ap length shows.sent in (
        after_event c receives,
        (omega arith, refl),
        record {
          sent = shows.sent;
          fits = keeps.reader_wins-fits b.buffer m.words m.writer m.reader c.tags F value loaded there;
        },
      )
  takes value loaded false is =
      unchanged _ refl (keeps.reader_loses-fits b.buffer m.words m.writer m.reader c.tags F)

  looks_at_slot : (write : Option ℕ) → m.reader.seen_write ≡ write
      → (ahead : Bool) → is_ahead m.reader.seen_read write ≡ ahead
      → Leads []
      (cond ahead (record m {
        reader = after_slot_look (get_or m.words (slot_of (b.buffer + 1) m.reader.seen_read) 0)
            m.reader;
      }) m)
  looks_at_slot None seen true is = absurd (false≢true is)
  looks_at_slot None seen false is = unchanged m refl F
  looks_at_slot (Some write) seen true is = unchanged _ refl
      (keeps.reader_loads_slot-fits b.buffer m.words m.writer m.reader c.tags F write seen
      (ltb-below m.reader.seen_read write is))
    where
      ltb-below : (x y : ℕ) → ltb x y ≡ true → x < y
      ltb-below x y t = grind (arith, t)
  looks_at_slot (Some write) seen false is = unchanged m refl F

  pub step_is_an_event : (s : RingStep) → MayStep b.buffer m s → Leads (events_of m s) (after_step b.buffer m s)
  step_is_an_event writer_loads_read idle =
      unchanged _ refl (keeps.writer_loads_read-fits b.buffer m.words m.writer m.reader c.tags F idle)
  step_is_an_event (writer_stores_slot value) may = unchanged _ refl
      (keeps.writer_stores_slot-fits b.buffer m.words m.writer m.reader c.tags F may.0 value may.1 may.2)
  step_is_an_event writer_stores_write may = let v = value_of m.writer.to_send may in publishes v.0 v.1
  step_is_an_event writer_exchanges_read due = exchanges due _ refl
  step_is_an_event reader_loads_read may =
      unchanged _ refl (keeps.reader_loads_read-fits b.buffer m.words m.writer m.reader c.tags F)
  step_is_an_event reader_loads_write may =
      unchanged _ refl (keeps.reader_loads_write-fits b.buffer m.words m.writer m.reader c.tags F)
  step_is_an_event reader_loads_slot may = looks_at_slot m.reader.seen_write refl _ refl
  step_is_an_event reader_exchanges_read may = let v = value_of m.reader.seen_value may in takes v.0 v.1 _ refl

pub steps_are_events : (b : Bounds) → StepsAreEvents (submission_machine b.buffer) b
steps_are_events b m c s shows may = step_is_an_event b m c shows s may
