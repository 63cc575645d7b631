-- A ring as a machine, which both rings are: its moments, the steps of its two ends in any order, and the states that
-- its moments represent. What holds of each step holds of each run.
use Rattle.std.specs.Prelude.{◌≡◌, ℕ, List, [], ◌∷◌, ◌++◌}
use Rattle.std.proofs.Common.{refl, sym, subst}
use Rattle.cal_queue.specs.RingState.{Bounds, Event, IsSchedule, RingState, after_event}

-- what there is between two steps: the words, and what each end knows
pub record Moment (P Q : Type 0) : Type 0 where
  pub words : List ℕ
  pub writer : P
  pub reader : Q

pub record Machine (M S : Type 0) : Type 1 where
  -- when a step may be taken
  pub may : M → S → Type 0
  -- the moment after a step
  pub after : M → S → M
  -- what a step means for the channel: one event, or none
  pub events : M → S → List Event
  -- which states a moment represents
  pub represents : M → RingState → Type 0

-- two schedules, one after the other
pub IsSchedule-joined : (b : Bounds) (c d e : RingState) (events more : List Event)
    → IsSchedule b c events d → IsSchedule b d more e → IsSchedule b c (events ++ more) e
IsSchedule-joined b c d e [] more is rest = subst (λ (x : RingState). IsSchedule b x more e) (sym is) rest
IsSchedule-joined b c d e (x ∷ xs) more is rest =
    (is.0, IsSchedule-joined b (after_event c x) d e xs more is.1 rest)

module _ {M S : Type 0} (machine : Machine M S) where
  -- steps of both ends, in any order, lead from one moment to another, each taken where it may be
  abbrev pub IsRun : M → List S → M → Type 0
  IsRun m [] last = m ≡ last
  IsRun m (s ∷ steps) last = machine.may m s × IsRun (machine.after m s) steps last

  -- the events of all these steps
  abbrev pub events_of_run : M → List S → List Event
  events_of_run m [] = []
  events_of_run m (s ∷ steps) = machine.events m s ++ events_of_run (machine.after m s) steps

  -- these events lead from a state to one that a later moment represents
  abbrev pub LeadsTo : Bounds → RingState → List Event → M → Type 0
  LeadsTo b c events later = (d : RingState) × IsSchedule b c events d × machine.represents later d

  -- from any moment that represents a state, each step is an event that may happen there, or none
  abbrev pub StepsAreEvents : Bounds → Type 0
  StepsAreEvents b = (m : M) (c : RingState) (s : S)
      → machine.represents m c → machine.may m s → LeadsTo b c (machine.events m s) (machine.after m s)

  -- each run of steps, however the two ends take turns, is a schedule
  abbrev pub RunsAreSchedules : Bounds → Type 0
  RunsAreSchedules b = (steps : List S) (m last : M) (c : RingState)
      → machine.represents m c → IsRun m steps last → LeadsTo b c (events_of_run m steps) last

  -- the second follows from the first
  pub runs_are_schedules : (b : Bounds) → StepsAreEvents b → RunsAreSchedules b
  runs_are_schedules b each [] m last c represents run =
      (c, refl, subst (λ (x : M). machine.represents x c) run represents)
  runs_are_schedules b each (s ∷ steps) m last c represents run =
      let next : M = machine.after m s in
      let one = each m c s represents run.0 in
      let rest = runs_are_schedules b each steps next last one.0 one.2 run.1 in (
        rest.0,
        IsSchedule-joined b c one.0 rest.0 (machine.events m s) (events_of_run next steps) one.1 rest.1,
        rest.2,
      )
