-- A ledger to which commands lead is sound, and so is each to which one more command leads.
use Rattle.std.proofs.Common.{ℕ, ◌+◌, ◌<◌, ◌≡◌, List, [], ◌∷◌, Option, Some, None, refl, sym, subst}
use Rattle.cal_transport.specs.declared.settings.Settings.{Settings}
use Rattle.cal_transport.specs.declared.command.Command.{Command}
use Rattle.cal_transport.specs.declared.reply.Reply.{Reply}
use Rattle.cal_transport.specs.Settings.{create_cause}
use Rattle.cal_transport.specs.Ledger.{Ledger, first_ledger}
use Rattle.cal_transport.specs.Soundness.{IsSoundLedger}
use Rattle.cal_transport.specs.Step.{IsStep, after_step}
use Rattle.cal_transport.specs.Reached.{Answered, IsNewName, LeadTo, IsReached}
use Rattle.cal_transport.proofs.Sound.{sound_first, sound_step}

-- a sound ledger is one at each new name
pub sound_at : (l : Ledger) (at place : ℕ) → IsSoundLedger l at → IsNewName l place → IsSoundLedger l place
sound_at l at place sound new = record {
  room = sound.room;
  segments = sound.segments;
  names = record { rising = sound.names.rising; before = new };
  within = sound.within;
  apart = sound.apart;
  channels = sound.channels;
  histories = sound.histories;
  known = sound.known;
  opened = sound.opened;
}

-- a place at which a ledger is sound
pub record IsSoundSomewhere (l : Ledger) : Type 0 where
  pub place : ℕ
  pub sound : IsSoundLedger l place

sound_lead : (settings : Settings) → create_cause settings ≡ None → (answers : List Answered) (l : Ledger) →
    LeadTo settings answers l → IsSoundSomewhere l
sound_lead settings made [] l first = record {
  place = 1;
  sound = subst (λ m. IsSoundLedger m 1) (sym first) (sound_first settings made);
}
sound_lead settings made (last ∷ earlier) l (before, lead, new, step, is) =
    let s = sound_lead settings made earlier before lead in
    record {
      place = last.place + 1;
      sound = subst (λ m. IsSoundLedger m (last.place + 1)) (sym is)
          (sound_step before last.place last.asked last.reply (sound_at before s.place last.place s.sound new) step);
    }

pub sound_reached : (l : Ledger) → IsReached l → IsSoundSomewhere l
sound_reached l r = sound_lead r.settings r.made r.answers l r.lead

pub reached_first : (settings : Settings) → create_cause settings ≡ None → IsReached (first_ledger settings)
reached_first settings made = record { settings = settings; made = made; answers = []; lead = refl }

-- one more answer
pub reached_step : (l : Ledger) (place : ℕ) (asked : Command) (reply : Reply) → IsReached l → IsNewName l place →
    IsStep l place asked reply → IsReached (after_step l place asked reply)
reached_step l place asked reply r new step = record {
  settings = r.settings;
  made = r.made;
  answers = record { place = place; asked = asked; reply = reply } ∷ r.answers;
  lead = (l, r.lead, new, step, refl);
}
