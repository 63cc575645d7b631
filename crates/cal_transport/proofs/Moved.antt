-- What a move keeps: a sound history stays sound, and what is on its way then was so before, or is just sent.
use Rattle.std.proofs.Common.{ℕ, ◌+◌, ◌<◌, ◌≡◌, ◌⊎◌, inl, inr, [], ◌∷◌, None, sym, ap, ◌∙◌, subst, arith}
use Rattle.cal_transport.specs.declared.command.Command.{Command}
use Rattle.cal_transport.specs.declared.command.Command.TheVariants as command
use Rattle.cal_transport.specs.declared.reply.Reply.{Reply}
use Rattle.cal_transport.specs.Ledger.{Ledger, ChannelHistory, occurrences}
use Rattle.cal_transport.specs.Cause.{cause}
use Rattle.cal_transport.specs.Soundness.{IsSoundHistory, weight}
use Rattle.cal_transport.proofs.Lists.{same_or_apart}
use Rattle.cal_transport.proofs.Names.{occurrences_else, weight-sent_on, weight-received_from, weight-released_on, weight-reclaimed_from}
use Rattle.cal_transport.proofs.Histories.{history_after_overflow, overflow_then_send, weight-overflowed, sound_sent, sound_overflowed, sound_replaced, sound_received, sound_released, sound_reclaimed}
use Rattle.cal_transport.proofs.Moves.{IsSendable, Move, Stays, BySend, ByOverflow, ByReceive, ByRelease, ByReclaim}

pub move_sound : (l : Ledger) (k : ℕ) (asked : Command) (reply : Reply) (old new : ChannelHistory) →
    Move l k asked reply old new → IsSoundHistory l.settings old → IsSoundHistory l.settings new
move_sound l k asked reply old new (Stays alone same) h = subst (IsSoundHistory l.settings) (sym same) h
move_sound l k asked reply old new (BySend m) h =
    subst (IsSoundHistory l.settings) (sym m.made) (sound_sent l.settings old m.name h m.new_here m.room)
move_sound l k asked reply old new (ByOverflow m) h =
    subst (IsSoundHistory l.settings) (sym m.made)
    (sound_replaced l.settings old m.name m.oldest m.rest h m.front m.new_here)
move_sound l k asked reply old new (ByReceive m) h =
    subst (IsSoundHistory l.settings) (sym m.made) (sound_received l.settings old m.name m.rest h m.front m.room)
move_sound l k asked reply old new (ByRelease m) h =
    subst (IsSoundHistory l.settings) (sym m.made) (sound_released l.settings old m.name h m.borrowed m.room)
move_sound l k asked reply old new (ByReclaim m) h =
    subst (IsSoundHistory l.settings) (sym m.made) (sound_reclaimed l.settings old m.name m.rest h m.front)

-- the name was just sent on the channel
pub record WasSent (l : Ledger) (k : ℕ) (asked : Command) (name : ℕ) : Type 0 where
  pub asked_is : asked ≡ command.Send k name
  pub none : cause l asked ≡ None
  pub chunk : IsSendable l name

-- a name that weighs something once another was added
pub added : (w sent name : ℕ) → 0 < w + occurrences name (sent ∷ []) → (0 < w) ⊎ (sent ≡ name)
added w sent name some = elim (same_or_apart sent name) [
  | inl same ↦ inr same
  | inr apart ↦ (let none = occurrences_else name sent [] apart in inl (omega arith))
]

pub weighed_before : (l : Ledger) (k : ℕ) (asked : Command) (reply : Reply) (old new : ChannelHistory) (name : ℕ) →
    Move l k asked reply old new → IsSoundHistory l.settings old → 0 < weight new name →
    (0 < weight old name) ⊎ WasSent l k asked name
weighed_before l k asked reply old new name (Stays alone same) h some =
    inl (subst (λ c. 0 < weight c name) same some)
weighed_before l k asked reply old new name (BySend m) h some =
    let now = subst (λ c. 0 < weight c name) m.made some in
    let split = weight-sent_on old m.name name h.orderly in
    elim (added (weight old name) m.name name (omega arith)) [
      | inl before ↦ inl before
      | inr same ↦ inr (record {
        asked_is = m.asked_is ∙ ap (command.Send k) same;
        none = m.none;
        chunk = subst (IsSendable l) same m.chunk;
      })
    ]
weighed_before l k asked reply old new name (ByOverflow m) h some =
    let between = history_after_overflow old m.oldest in
    let now = subst (λ c. 0 < weight c name) (m.made ∙ overflow_then_send old m.name m.oldest) some in
    let middle = sound_overflowed l.settings old m.oldest m.rest h m.front in
    let split = weight-sent_on between m.name name middle.orderly in
    let lighter = weight-overflowed old m.oldest m.rest name m.front in
    elim (added (weight between name) m.name name (omega arith)) [
      | inl before ↦ inl (omega arith)
      | inr same ↦ inr (record {
        asked_is = m.asked_is ∙ ap (command.Send k) same;
        none = m.none;
        chunk = subst (IsSendable l) same m.chunk;
      })
    ]
weighed_before l k asked reply old new name (ByReceive m) h some =
    let now = subst (λ c. 0 < weight c name) m.made some in
    inl (omega (arith, weight-received_from old m.name m.rest name h.orderly m.front))
weighed_before l k asked reply old new name (ByRelease m) h some =
    let now = subst (λ c. 0 < weight c name) m.made some in
    inl (omega (arith, weight-released_on old m.name name h.orderly m.borrowed))
weighed_before l k asked reply old new name (ByReclaim m) h some =
    let now = subst (λ c. 0 < weight c name) m.made some in
    inl (omega (arith, weight-reclaimed_from old m.name m.rest name m.front))
