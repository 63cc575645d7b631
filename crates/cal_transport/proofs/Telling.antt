-- Commands and their replies tell the history of each channel.
use Rattle.std.proofs.Common.{ℕ, ◌+◌, ◌≡◌, ◌≢◌, inl, inr, Bool, true, false, cond, nat_eq, List, [], ◌∷◌, length, Some, None, refl, sym, ap, ◌∙◌, subst, arith, replicate}
use Rattle.std.proofs.lemmas.Bool.{cases_lt, eq-eqb, ne_eqb, cond-true, cond-false}
use Rattle.std.proofs.lemmas.List.{append-nil, append_assoc, get_or-replicate, get_or_past, length-replicate}
use Rattle.cal_transport.specs.declared.settings.Settings.{Settings}
use Rattle.cal_transport.specs.declared.command.Command.{Command}
use Rattle.cal_transport.specs.declared.command.Command.TheVariants as command
use Rattle.cal_transport.specs.declared.reply.Reply.{Reply}
use Rattle.cal_transport.specs.declared.reply.Reply.TheVariants.{Sent, Received, Released, Reclaimed, Refused}
use Rattle.cal_transport.specs.declared.reply.Refusal.{Refusal}
use Rattle.cal_transport.specs.Settings.{clamped_settings, create_cause}
use Rattle.cal_transport.specs.Ledger.{Ledger, ChannelHistory, ByReceive, ByOverflow, new_history, history_on, first_ledger}
use Rattle.cal_transport.specs.Step.{after_step, history_after_send, history_after_receive, history_after_release, history_after_reclaim}
use Rattle.cal_transport.specs.Run.{AreSteps, after_steps}
use Rattle.cal_transport.specs.Soundness.{IsSoundHistory, IsSoundLedger}
use Rattle.cal_transport.specs.Told.{followed_by, told_by_send, told_by_receive, told_by_release, told_by_reclaim, told_by, told_history}
use Rattle.cal_transport.proofs.Running.{steps_settings}
use Rattle.cal_transport.proofs.Moves.{channel_of, LeavesAlone, Refuses, Elsewhere, ReceivesNone, ReclaimsNone, Move, Stays, BySend, ByOverflow as ByReplacement, ByReceive as ByReceipt, ByRelease, ByReclaim}
use Rattle.cal_transport.proofs.EachChannel.{each_moves, each_sound}
use Rattle.cal_transport.proofs.Sound.{sound_first, sound_step, sound_run}

-- ---- histories put together

pub nothing_follows : (c : ChannelHistory) → followed_by c new_history ≡ c
nothing_follows c = rw (append-nil c.sent, append-nil c.departures, append-nil c.released, append-nil c.reclaimed) refl

follows_on : (a b c : ChannelHistory) → followed_by (followed_by a b) c ≡ followed_by a (followed_by b c)
follows_on a b c = rw (
  append_assoc a.sent b.sent c.sent,
  append_assoc a.departures b.departures c.departures,
  append_assoc a.released b.released c.released,
  append_assoc a.reclaimed b.reclaimed c.reclaimed,
) refl

-- ---- what one answer tells

-- of a channel that a command names nothing is told, whatever the choice
either : (b : Bool) → cond b new_history new_history ≡ new_history
either true = refl
either false = refl

refused_tells : (k : ℕ) (asked : Command) (why : Refusal) → told_by k asked (Refused why) ≡ new_history
refused_tells k (command.Send channel name) why = either (nat_eq channel k)
refused_tells k (command.Receive channel) why = either (nat_eq channel k)
refused_tells k (command.Release channel name) why = either (nat_eq channel k)
refused_tells k (command.Reclaim channel) why = either (nat_eq channel k)
refused_tells k (command.Loan size alignment) why = refl
refused_tells k (command.Write name at bytes) why = refl
refused_tells k (command.Read channel name at len) why = refl
refused_tells k (command.Discard name) why = refl
refused_tells k command.Count why = refl

-- another channel's number
other_number : (channel k : ℕ) (told : ChannelHistory) → Some channel ≢ Some k →
    cond (nat_eq channel k) told new_history ≡ new_history
other_number channel k told apart =
    cond-false (nat_eq channel k) told new_history (ne_eqb channel k (λ same. apart (ap Some same)))

elsewhere_tells : (k : ℕ) (asked : Command) (reply : Reply) → channel_of asked ≢ Some k →
    told_by k asked reply ≡ new_history
elsewhere_tells k (command.Send channel name) reply apart = other_number channel k (told_by_send name reply) apart
elsewhere_tells k (command.Receive channel) reply apart = other_number channel k (told_by_receive reply) apart
elsewhere_tells k (command.Release channel name) reply apart =
    other_number channel k (told_by_release name reply) apart
elsewhere_tells k (command.Reclaim channel) reply apart = other_number channel k (told_by_reclaim reply) apart
elsewhere_tells k (command.Loan size alignment) reply apart = refl
elsewhere_tells k (command.Write name at bytes) reply apart = refl
elsewhere_tells k (command.Read channel name at len) reply apart = refl
elsewhere_tells k (command.Discard name) reply apart = refl
elsewhere_tells k command.Count reply apart = refl

-- the channel's own number
own_number : (k : ℕ) (told : ChannelHistory) → cond (nat_eq k k) told new_history ≡ told
own_number k told = cond-true (nat_eq k k) told new_history (eq-eqb k k refl)

-- the same command and reply tell the same
told_same : (k : ℕ) (asked other : Command) (reply another : Reply) → asked ≡ other → reply ≡ another →
    told_by k asked reply ≡ told_by k other another
told_same k asked other reply another first second =
    ap (λ a. told_by k a reply) first ∙ ap (told_by k other) second

alone_tells : (l : Ledger) (k : ℕ) (asked : Command) (reply : Reply) (c : ChannelHistory) →
    LeavesAlone l k asked reply c → told_by k asked reply ≡ new_history
alone_tells l k asked reply c (Refuses why is refused) = ap (told_by k asked) refused ∙ refused_tells k asked why
alone_tells l k asked reply c (Elsewhere none apart) = elsewhere_tells k asked reply apart
alone_tells l k asked reply c (ReceivesNone is replied empty) =
    told_same k asked (command.Receive k) reply (Received None) is replied ∙ own_number k new_history
alone_tells l k asked reply c (ReclaimsNone is replied empty) =
    told_same k asked (command.Reclaim k) reply (Reclaimed None) is replied ∙ own_number k new_history

move_tells : (l : Ledger) (k : ℕ) (asked : Command) (reply : Reply) (old new : ChannelHistory) →
    Move l k asked reply old new → new ≡ followed_by old (told_by k asked reply)
move_tells l k asked reply old new (Stays alone same) =
    same ∙ sym (nothing_follows old) ∙ ap (followed_by old) (sym (alone_tells l k asked reply old alone))
move_tells l k asked reply old new (BySend m) =
    let told : ChannelHistory = record new_history { sent = m.name ∷ [] } in
    let is = told_same k asked (command.Send k m.name) reply (Sent None) m.asked_is m.replied ∙ own_number k told in
    let here : history_after_send old m.name None ≡ followed_by old told =
    rw (append-nil old.released, append-nil old.reclaimed) refl in
    m.made ∙ here ∙ ap (followed_by old) (sym is)
move_tells l k asked reply old new (ByReplacement m) =
    let told : ChannelHistory = record new_history { sent = m.name ∷ []; departures = ByOverflow m.slot.chunk ∷ [] } in
    let is = told_same k asked (command.Send k m.name) reply (Sent (Some m.slot)) m.asked_is m.replied
    ∙ own_number k told in
    let here : history_after_send old m.name (Some m.slot.chunk) ≡ followed_by old told =
    rw (append-nil old.released, append-nil old.reclaimed) refl in
    m.made ∙ ap (λ n. history_after_send old m.name (Some n)) (sym m.told) ∙ here ∙ ap (followed_by old) (sym is)
move_tells l k asked reply old new (ByReceipt m) =
    let told : ChannelHistory = record new_history { departures = ByReceive m.slot.chunk ∷ [] } in
    let is = told_same k asked (command.Receive k) reply (Received (Some m.slot)) m.asked_is m.replied
    ∙ own_number k told in
    let here : history_after_receive old (Some m.slot.chunk) ≡ followed_by old told =
    rw (append-nil old.sent, append-nil old.released, append-nil old.reclaimed) refl in
    m.made ∙ ap (λ n. history_after_receive old (Some n)) (sym m.told) ∙ here ∙ ap (followed_by old) (sym is)
move_tells l k asked reply old new (ByRelease m) =
    let told : ChannelHistory = record new_history { released = m.name ∷ [] } in
    let is = told_same k asked (command.Release k m.name) reply Released m.asked_is m.replied ∙ own_number k told in
    let here : history_after_release old m.name ≡ followed_by old told =
    rw (append-nil old.sent, append-nil old.departures, append-nil old.reclaimed) refl in
    m.made ∙ here ∙ ap (followed_by old) (sym is)
move_tells l k asked reply old new (ByReclaim m) =
    let told : ChannelHistory = record new_history { reclaimed = m.slot.chunk ∷ [] } in
    let is = told_same k asked (command.Reclaim k) reply (Reclaimed (Some m.slot)) m.asked_is m.replied
    ∙ own_number k told in
    let here : history_after_reclaim old (Some m.slot.chunk) ≡ followed_by old told =
    rw (append-nil old.sent, append-nil old.departures, append-nil old.released) refl in
    m.made ∙ ap (λ n. history_after_reclaim old (Some n)) (sym m.told) ∙ here ∙ ap (followed_by old) (sym is)

-- ---- what a run tells

pub steps_tell : (l : Ledger) (place : ℕ) (commands : List Command) (replies : List Reply) (k : ℕ) →
    IsSoundLedger l place → AreSteps l place commands replies →
    history_on (after_steps l place commands replies) k ≡
    followed_by (history_on l k) (told_history k commands replies)
steps_tell l place commands [] k sound steps = sym (nothing_follows (history_on l k))
steps_tell l place [] (reply ∷ replies) k sound steps = absurd steps
steps_tell l place (asked ∷ commands) (reply ∷ replies) k sound steps =
    let next = after_step l place asked reply in
    let now = move_tells l k asked reply (history_on l k) (history_on next k)
    (each_moves l place asked reply k sound steps.0) in
    let rest = steps_tell next (place + 1) commands replies k (sound_step l place asked reply sound steps.0) steps.1 in
    rest ∙ ap (λ c. followed_by c (told_history k commands replies)) now
    ∙ follows_on (history_on l k) (told_by k asked reply) (told_history k commands replies)

-- a new transport's channels have no history
pub first_history : (s : Settings) (k : ℕ) → history_on (first_ledger s) k ≡ new_history
first_history s k = elim (cases_lt k (clamped_settings s).channels) [
  | inl within ↦ get_or-replicate (clamped_settings s).channels k new_history new_history within
  | inr past ↦ get_or_past (replicate (clamped_settings s).channels new_history) k new_history
      (omega (arith, length-replicate (clamped_settings s).channels new_history))
]

nothing_before : (c : ChannelHistory) → followed_by new_history c ≡ c
nothing_before c = refl

-- the ledger's history of a channel is what commands and replies tell
pub run_tells : (s : Settings) (commands : List Command) (replies : List Reply) (k : ℕ) → create_cause s ≡ None →
    AreSteps (first_ledger s) 1 commands replies →
    history_on (after_steps (first_ledger s) 1 commands replies) k ≡ told_history k commands replies
run_tells s commands replies k none steps =
    steps_tell (first_ledger s) 1 commands replies k (sound_first s none) steps
    ∙ ap (λ c. followed_by c (told_history k commands replies)) (first_history s k)
    ∙ nothing_before (told_history k commands replies)

-- what is told is sound
pub told_sound : (s : Settings) (commands : List Command) (replies : List Reply) (k : ℕ) → create_cause s ≡ None →
    AreSteps (first_ledger s) 1 commands replies →
    IsSoundHistory (clamped_settings s) (told_history k commands replies)
told_sound s commands replies k none steps =
    let last = after_steps (first_ledger s) 1 commands replies in
    subst (IsSoundHistory (clamped_settings s)) (run_tells s commands replies k none steps)
    (subst (λ t. IsSoundHistory t (history_on last k)) (steps_settings (first_ledger s) 1 commands replies)
    (each_sound last (1 + length replies) k (sound_run s commands replies none steps)))
