-- Commands that fill a completion queue to its last place, so that no smaller one serves.
use Rattle.std.specs.Prelude.{ℕ, zero, suc, ◌+◌, ◌≤◌, ◌≡◌, ◌≢◌, true, false, length, map, replicate, List, [], ◌∷◌, ◌++◌, None}
use Rattle.std.specs.List.{flat_map}
use Rattle.cal_transport.specs.declared.settings.Settings.{Settings}
use Rattle.cal_transport.specs.declared.command.Command.{Command}
use Rattle.cal_transport.specs.declared.command.Command.TheVariants.{Loan, Send, Receive, Release, Reclaim}
use Rattle.cal_transport.specs.declared.reply.Reply.{Reply}
use Rattle.cal_transport.specs.declared.reply.Reply.TheVariants.{Reclaimed, Refused}
use Rattle.cal_transport.specs.declared.reply.Refusal.{Refusal}
use Rattle.cal_transport.specs.Settings.{create_cause}
use Rattle.cal_transport.specs.Ledger.{first_ledger, history_on, completed_names}
use Rattle.cal_transport.specs.Run.{after_steps}
use Rattle.cal_transport.specs.LoanCause.{is_static}

-- ---- the commands

-- so many names, from a first one on
abbrev pub names_from : ℕ → ℕ → List ℕ
names_from first zero = []
names_from first (suc count) = first ∷ names_from (first + 1) count

abbrev pub send_and_receive : ℕ → List Command
send_and_receive name = Send 0 name ∷ Receive 0 ∷ Reclaim 0 ∷ []

abbrev pub send_and_leave : ℕ → List Command
send_and_leave name = Send 0 name ∷ Reclaim 0 ∷ []

abbrev pub release_and_receive : ℕ → List Command
release_and_receive name = Release 0 name ∷ Receive 0 ∷ []

-- with as many chunks as the completion queue holds: the receiver borrows all that it may, the queue is filled, one is
-- exchanged for the last chunk, and then all are released, with no reclaim after the last send
abbrev pub fill_list : ℕ → ℕ → List Command
fill_list buffer borrow =
    replicate (buffer + borrow + 1) (Loan 1 1) ++
    (flat_map send_and_receive (names_from 1 borrow) ++
    (flat_map send_and_leave (names_from (borrow + 1) buffer) ++
    (Release 0 1 ∷ Receive 0 ∷ Send 0 (buffer + borrow + 1) ∷
    (flat_map release_and_receive (names_from 2 buffer) ++
    map (λ name. Release 0 name) (names_from (buffer + 2) borrow)))))

-- ---- what comes of them

-- settings over which they are asked
pub record AreFilled (s : Settings) (buffer borrow : ℕ) : Type 0 where
  pub made : create_cause s ≡ None
  pub static : is_static s.strategy ≡ true
  pub no_overflow : s.overflow ≡ false
  pub one_channel : s.channels ≡ 1
  pub buffer_is : s.buffer ≡ buffer
  pub borrow_is : s.borrow ≡ borrow
  pub some_buffer : 1 ≤ buffer
  pub some_borrow : 1 ≤ borrow
  pub buckets : buffer + borrow + 1 ≤ s.count
  pub samples : s.count ≤ s.samples

-- a reply is no refusal, and that to a reclaim is none
pub record IsServed (asked : Command) (reply : Reply) : Type 0 where
  pub accepted : (why : Refusal) → reply ≢ Refused why
  pub nothing_back : asked ≡ Reclaim 0 → reply ≡ Reclaimed None

-- how many chunks are completed on channel 0 after these answers
abbrev pub completed_after : Settings → List Command → List Reply → ℕ
completed_after s commands replies =
    length (completed_names (history_on (after_steps (first_ledger s) 1 commands replies) 0))

-- each command is served, and so many replies follow
abbrev pub AreServed : ℕ → List Command → List Reply → Type 0
AreServed last [] replies = length replies ≡ last
AreServed last (asked ∷ commands) [] = ⊥
AreServed last (asked ∷ commands) (reply ∷ replies) = IsServed asked reply × AreServed last commands replies
