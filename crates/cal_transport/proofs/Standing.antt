-- What a transport stands for, from what its invariant keeps: the tables follow from what the parts show.
use Rattle.std.proofs.Common.{ℕ, ◌+◌, ◌<◌, ◌≡◌, List, [], Option, Some, None, Result, Ok, Err, option_map, refl, sym, ap, ◌∙◌, subst}
use Rattle.std.specs.List.{slice_get}
use Rattle.std.proofs.lemmas.Option.{slice_get-map}
use Rattle.cal_transport.specs.declared.settings.Settings.{Settings}
use Rattle.cal_transport.specs.declared.command.Command.{Command}
use Rattle.cal_transport.specs.declared.command.Command.TheVariants as command
use Rattle.cal_transport.specs.declared.reply.Reply.{Reply}
use Rattle.cal_transport.specs.declared.reply.Reply.TheVariants.{Loaned, Refused}
use Rattle.cal_transport.specs.declared.reply.Slot.{Slot}
use Rattle.cal_transport.specs.declared.reply.Refusal.{Refusal}
use Rattle.cal_transport.specs.declared.transport.Transport.TheInside.{Inside}
use Rattle.cal_transport.specs.declared.transport.loaning.LoanError.{LoanError}
use Rattle.cal_transport.specs.declared.transport.loaning.LoanError.TheVariants as loan_error
use Rattle.cal_transport.specs.Settings.{create_cause}
use Rattle.cal_transport.specs.ChunkEntry.{AreBelow}
use Rattle.cal_transport.specs.Ledger.{Ledger, Chunk, first_ledger}
use Rattle.cal_transport.specs.Cause.{cause}
use Rattle.cal_transport.specs.Step.{IsStep, IsStepBy, after_step, after_step_by}
use Rattle.cal_transport.specs.Reached.{IsNewName, IsReached}
use Rattle.cal_transport.specs.Shown.{entry_of}
use Rattle.cal_transport.specs.State as inner
use Rattle.cal_transport.specs.State.{TransportState, Represents, core_of}
use Rattle.cal_transport.specs.StateOf.{state_of, IsKept}
use Rattle.cal_transport.specs.Standing.{StandsFor, Does, DoesAnywhere}
use Rattle.cal_transport.specs.CommandsDo.{LoanDoes}
use Rattle.cal_transport.proofs.InsideDoes as loan
use Rattle.cal_transport.proofs.Determined.{tracks_any}
use Rattle.cal_transport.proofs.Reaching.{sound_reached, reached_first, reached_step}
use Rattle.cal_transport.proofs.Represented.{IsPlaceless}
use Rattle.cal_transport.proofs.Settled.{settled}

-- a new transport stands for the first ledger
pub stands_first : (t : TransportState) (settings : Settings) → create_cause settings ≡ None →
    Represents t (first_ledger settings) → StandsFor t (first_ledger settings)
stands_first t settings made r = record { reached = reached_first settings made; shows = r.shows }

-- a refusal leaves what a transport stands for
pub refused_stands : (t : TransportState) (l : Ledger) (place : ℕ) (asked : Command) (why : Refusal) →
    cause l asked ≡ Some why → StandsFor t l →
    IsStep l place asked (Refused why) × StandsFor t (after_step l place asked (Refused why))
refused_stands t l place asked why is stands =
    subst
    (λ o. IsStepBy o l place asked (Refused why) × StandsFor t (after_step_by o l place asked (Refused why)))
    (sym is) (refl, stands)

-- only a loan depends on its place
abbrev pub IsNoLoan : Command → Type 0
IsNoLoan (command.Loan size alignment) = ⊥
IsNoLoan asked = Unit {0}

pub placeless : (l : Ledger) (asked : Command) (reply : Reply) → IsNoLoan asked → IsPlaceless l asked reply
placeless l (command.Loan size alignment) reply placed o a b = absurd placed
placeless l (command.Write name at bytes) reply placed None a b = refl
placeless l (command.Write name at bytes) reply placed (Some why) a b = refl
placeless l (command.Send channel name) reply placed None a b = refl
placeless l (command.Send channel name) reply placed (Some why) a b = refl
placeless l (command.Receive channel) reply placed None a b = refl
placeless l (command.Receive channel) reply placed (Some why) a b = refl
placeless l (command.Read channel name at length) reply placed None a b = refl
placeless l (command.Read channel name at length) reply placed (Some why) a b = refl
placeless l (command.Release channel name) reply placed None a b = refl
placeless l (command.Release channel name) reply placed (Some why) a b = refl
placeless l (command.Reclaim channel) reply placed None a b = refl
placeless l (command.Reclaim channel) reply placed (Some why) a b = refl
placeless l (command.Discard name) reply placed None a b = refl
placeless l (command.Discard name) reply placed (Some why) a b = refl
placeless l command.Count reply placed None a b = refl
placeless l command.Count reply placed (Some why) a b = refl

module _ (t : TransportState) (kept : Ledger) (keeps : Represents t kept) where
  pub represents_any : (l : Ledger) → StandsFor t l → Represents t l
  represents_any l s =
      let at = sound_reached l s.reached in
      record {
        place = at.place;
        sound = at.sound;
        shows = s.shows;
        tracks = tracks_any (core_of t) kept l (settled kept keeps.place keeps.sound) (settled l at.place at.sound)
            keeps.shows s.shows keeps.tracks;
      }

  -- a place above all entries names no chunk
  new_name : (l : Ledger) (place : ℕ) → StandsFor t l → AreBelow t.entries place → IsNewName l place
  new_name l place s below i chunk there =
      below i (entry_of l.histories chunk)
      (ap (λ es. slice_get es i) s.shows.entries ∙ slice_get-map (entry_of l.histories) l.chunks i
      ∙ ap (λ o. option_map (entry_of l.histories) o) there)

  -- an answer at a place that names no chunk
  pub does_at : (new : TransportState) (place : ℕ) (asked : Command) (reply : Reply) → AreBelow t.entries place →
      inner.Does t place asked reply new → Does t place asked reply new
  does_at new place asked reply below does l s =
      let both = does l (represents_any l s) in (
        both.0,
        record {
          reached = reached_step l place asked reply s.reached (new_name l place s below) both.0;
          shows = both.1.shows;
        },
      )

  -- an answer at any place
  pub does_anywhere : (new : TransportState) (asked : Command) (reply : Reply) → IsNoLoan asked →
      inner.DoesAnywhere t asked reply new → DoesAnywhere t asked reply new
  does_anywhere new asked reply placed does place l s =
      let r = represents_any l s in
      let there = does r.place l r in
      let both = does place l r in (
        both.0,
        record {
          reached = subst IsReached (placeless l asked reply placed (cause l asked) r.place place)
              (reached_step l r.place asked reply s.reached r.sound.names.before there.0);
          shows = both.1.shows;
        },
      )

-- ---- from what a transport's fields say

module _ (inside : Inside) (kept : IsKept inside) (now : TransportState) (seen : state_of inside ≡ now) where
  kept_now : Represents now kept.ledger
  kept_now = subst (λ t. Represents t kept.ledger) seen kept.represents

  pub inside_now : (l : Ledger) → StandsFor now l → Represents now l
  inside_now l s = represents_any now kept.ledger kept_now l s

  -- a command that changed something
  pub outside : (new : TransportState) (asked : Command) (reply : Reply) → IsNoLoan asked →
      inner.DoesAnywhere (state_of inside) asked reply new → DoesAnywhere now asked reply new
  outside new asked reply placed does =
      does_anywhere now kept.ledger kept_now new asked reply placed
      (subst (λ t. inner.DoesAnywhere t asked reply new) seen does)

  -- a command that changed nothing
  pub unchanged : (asked : Command) (reply : Reply) → IsNoLoan asked →
      inner.DoesAnywhere (state_of inside) asked reply (state_of inside) → DoesAnywhere now asked reply now
  unchanged asked reply placed does =
      does_anywhere now kept.ledger kept_now now asked reply placed
      (subst (λ t. inner.DoesAnywhere t asked reply t) seen does)

  -- a loan, at a name above all names
  pub outside_loan : (name size alignment : ℕ) (answer : Result Slot LoanError) (new : TransportState) →
      AreBelow now.entries name → loan.LoanDoes now name size alignment answer new →
      LoanDoes now name size alignment answer new
  outside_loan name size alignment (Ok slot) new below does =
      does_at now kept.ledger kept_now new name (command.Loan size alignment) (Loaned slot) below does
  outside_loan name size alignment (Err (loan_error.Refused why)) new below does =
      does_at now kept.ledger kept_now new name (command.Loan size alignment) (Refused why) below does
  outside_loan name size alignment (Err loan_error.NoMemory) new below does = record {
    wanted = λ l s. does.wanted l (inside_now l s);
    same = λ l s. record { reached = s.reached; shows = (does.same l (inside_now l s)).shows };
  }
