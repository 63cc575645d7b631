-- The ledgers to which the commands of a transport lead.
use Rattle.std.specs.Prelude.{ℕ, ◌<◌, ◌≡◌, List, [], ◌∷◌, Some, None, slice_get}
use Rattle.cal_transport.specs.declared.settings.Settings.{Settings}
use Rattle.cal_transport.specs.declared.command.Command.{Command}
use Rattle.cal_transport.specs.declared.reply.Reply.{Reply}
use Rattle.cal_transport.specs.Settings.{create_cause}
use Rattle.cal_transport.specs.Ledger.{Ledger, Chunk, first_ledger}
use Rattle.cal_transport.specs.Step.{IsStep, after_step}

-- a command, the place that names what it loans, and its reply
pub record Answered : Type 0 where
  pub place : ℕ
  pub asked : Command
  pub reply : Reply

-- a place is greater than every name so far
abbrev pub IsNewName : Ledger → ℕ → Type 0
IsNewName l place = (i : ℕ) (chunk : Chunk) → slice_get l.chunks i ≡ Some chunk → chunk.name < place

-- the answers, the last of them first, lead from the first ledger of the settings to this one
abbrev pub LeadTo : Settings → List Answered → Ledger → Type 0
LeadTo settings [] l = l ≡ first_ledger settings
LeadTo settings (last ∷ earlier) l =
    (before : Ledger) × LeadTo settings earlier before × IsNewName before last.place
    × IsStep before last.place last.asked last.reply × (l ≡ after_step before last.place last.asked last.reply)

-- commands lead to the ledger
pub record IsReached (l : Ledger) : Type 0 where
  pub settings : Settings
  pub made : create_cause settings ≡ None
  pub answers : List Answered
  pub lead : LeadTo settings answers l
