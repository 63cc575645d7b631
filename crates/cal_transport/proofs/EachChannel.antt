-- Each channel of a number, also one that the connection doesn't have, is moved by a step, and its history is sound.
use Rattle.std.proofs.Common.{ℕ, ◌≤◌, ◌≡◌, inl, inr, false, cond, not, ◌||◌, ◌&&◌, nat_le, [], ◌∷◌, length, Option, Some, None, refl, sym, ap, ◌∙◌, subst, arith}
use Rattle.std.proofs.lemmas.Bool.{cases_lt, or_parts, leb-false}
use Rattle.std.proofs.lemmas.List.{get_or_past}
use Rattle.std.proofs.lemmas.Option.{same_Some, none-some, slice_get-get_or, get_or_from_slice_get}
use Rattle.cal_transport.specs.declared.command.Command.{Command}
use Rattle.cal_transport.specs.declared.command.Command.TheVariants as command
use Rattle.cal_transport.specs.declared.reply.Reply.{Reply}
use Rattle.cal_transport.specs.declared.reply.Refusal.{Refusal}
use Rattle.cal_transport.specs.declared.reply.Refusal.TheVariants as refusal
use Rattle.cal_transport.specs.Settings.{completion_size}
use Rattle.cal_transport.specs.Ledger.{Ledger, Chunk, new_history, history_on, loaned_chunk, is_in_transit, is_borrowed, borrow_count, completed_names}
use Rattle.cal_transport.specs.Cause.{cause, send_cause, is_channel_outside, is_bucket_outside, is_buffer_full}
use Rattle.cal_transport.specs.Step.{IsStep, IsStepBy, after_step}
use Rattle.cal_transport.specs.Soundness.{IsSoundHistory, IsSoundLedger}
use Rattle.cal_transport.proofs.Running.{steps_settings}
use Rattle.cal_transport.proofs.Moves.{channel_of, LeavesAlone, Refuses, Elsewhere, Move, Stays}
use Rattle.cal_transport.proofs.Moving.{first_no, step_moves}
use Rattle.cal_transport.proofs.Sound.{new_sound, sound_step}

-- ---- a command without a cause is on a channel that is there

send_inside : (l : Ledger) (channel : ℕ) (o : Option Chunk) → send_cause l channel o ≡ None →
    is_channel_outside l channel ≡ false
send_inside l channel None none = absurd (none-some refusal.NotLoaned (sym none))
send_inside l channel (Some chunk) none =
    let inside = first_no (is_channel_outside l channel || is_bucket_outside l chunk) refusal.OutsideConnection
    (cond (is_in_transit (history_on l channel) chunk.name) (Some refusal.AlreadyInTransit)
    (cond (not l.settings.overflow && is_buffer_full l (history_on l channel)) (Some refusal.ReceiveBufferFull)
    None)) none in
    (or_parts (is_channel_outside l channel) (is_bucket_outside l chunk) inside.0).0

inside : (l : Ledger) (asked : Command) (k : ℕ) → cause l asked ≡ None → channel_of asked ≡ Some k →
    is_channel_outside l k ≡ false
inside l (command.Send channel name) k none on =
    subst (λ n. is_channel_outside l n ≡ false) (same_Some channel k on)
    (send_inside l channel (loaned_chunk l name) none)
inside l (command.Receive channel) k none on =
    subst (λ n. is_channel_outside l n ≡ false) (same_Some channel k on)
    (first_no (is_channel_outside l channel) refusal.OutsideConnection
    (cond (nat_le l.settings.borrow (borrow_count (history_on l channel)))
    (Some refusal.ReceiveWouldExceedMaxBorrowValue) None) none).0
inside l (command.Release channel name) k none on =
    subst (λ n. is_channel_outside l n ≡ false) (same_Some channel k on)
    (first_no (is_channel_outside l channel) refusal.OutsideConnection
    (cond (not (is_borrowed (history_on l channel) name)) (Some refusal.NotBorrowed)
    (cond (nat_le (completion_size l.settings) (length (completed_names (history_on l channel))))
    (Some refusal.RetrieveBufferFull) None)) none).0
inside l (command.Reclaim channel) k none on =
    subst (λ n. is_channel_outside l n ≡ false) (same_Some channel k on)
    (first_no (is_channel_outside l channel) refusal.OutsideConnection None none).0
inside l (command.Loan size alignment) k none on = absurd (none-some k on)
inside l (command.Write name at bytes) k none on = absurd (none-some k on)
inside l (command.Read channel name at len) k none on = absurd (none-some k on)
inside l (command.Discard name) k none on = absurd (none-some k on)
inside l command.Count k none on = absurd (none-some k on)

-- ---- each channel

pub step_settings : (l : Ledger) (place : ℕ) (asked : Command) (reply : Reply) →
    (after_step l place asked reply).settings ≡ l.settings
step_settings l place asked reply = steps_settings l place (asked ∷ []) (reply ∷ [])

-- a channel that isn't there stays empty
outside_moves : (l : Ledger) (place : ℕ) (asked : Command) (reply : Reply) (k : ℕ) → IsSoundLedger l place →
    IsStep l place asked reply → length l.histories ≤ k →
    Move l k asked reply (history_on l k) (history_on (after_step l place asked reply) k)
outside_moves l place asked reply k sound step past = Stays (go (cause l asked) refl step) (after ∙ sym before)
  where
    before : history_on l k ≡ new_history
    before = get_or_past l.histories k new_history past

    after : history_on (after_step l place asked reply) k ≡ new_history
    after =
        let now = sound_step l place asked reply sound step in
        let there = now.channels in let here = sound.channels in
        let same = ap (λ s. s.channels) (step_settings l place asked reply) in
        get_or_past (after_step l place asked reply).histories k new_history (omega arith)

    go : (o : Option Refusal) → cause l asked ≡ o → IsStepBy o l place asked reply →
        LeavesAlone l k asked reply (history_on l k)
    go None none owes = Elsewhere none (λ on. (
        let within = leb-false l.settings.channels k (inside l asked k none on) in
        let here = sound.channels in absurd (omega arith)))
    go (Some why) is refused = Refuses why is refused

pub each_moves : (l : Ledger) (place : ℕ) (asked : Command) (reply : Reply) (k : ℕ) → IsSoundLedger l place →
    IsStep l place asked reply →
    Move l k asked reply (history_on l k) (history_on (after_step l place asked reply) k)
each_moves l place asked reply k sound step = elim (cases_lt k (length l.histories)) [
  | inl within ↦ (
      let here = slice_get-get_or l.histories k new_history within in
      let moved = step_moves l place asked reply k (history_on l k) sound here step in
      subst (Move l k asked reply (history_on l k))
      (sym (get_or_from_slice_get (after_step l place asked reply).histories k moved.new new_history moved.stands))
      moved.move)
  | inr past ↦ outside_moves l place asked reply k sound step past
]

pub each_sound : (l : Ledger) (place : ℕ) (k : ℕ) → IsSoundLedger l place → IsSoundHistory l.settings (history_on l k)
each_sound l place k sound = elim (cases_lt k (length l.histories)) [
  | inl within ↦ sound.histories k (history_on l k) (slice_get-get_or l.histories k new_history within)
  | inr past ↦ subst (IsSoundHistory l.settings) (sym (get_or_past l.histories k new_history past))
      (new_sound l.settings)
]
