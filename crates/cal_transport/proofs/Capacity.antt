-- A channel on which the sender keeps up never has a full completion queue.
use Rattle.std.proofs.Common.{ℕ, zero, suc, ◌+◌, ◌<◌, ◌≤◌, ◌≡◌, ◌⊎◌, inl, inr, Bool, true, false, cond, not, nat_le, List, [], ◌∷◌, length, take, Option, Some, None, refl, ap, ◌∙◌, subst, arith, length-append}
use Rattle.std.specs.List.{slice_get}
use Rattle.std.proofs.lemmas.Bool.{leb-true, not-false}
use Rattle.std.proofs.lemmas.List.{append-nil}
use Rattle.std.proofs.lemmas.Option.{same_Some, none-some, slice_get_within}
use Rattle.cal_transport.specs.declared.settings.Settings.{Settings}
use Rattle.cal_transport.specs.declared.command.Command.{Command}
use Rattle.cal_transport.specs.declared.command.Command.TheVariants as command
use Rattle.cal_transport.specs.declared.reply.Reply.{Reply}
use Rattle.cal_transport.specs.declared.reply.Reply.TheVariants.{Sent, Reclaimed, Refused}
use Rattle.cal_transport.specs.declared.reply.Slot.{Slot}
use Rattle.cal_transport.specs.declared.reply.Refusal.{Refusal}
use Rattle.cal_transport.specs.declared.reply.Refusal.TheVariants as refusal
use Rattle.cal_transport.specs.Settings.{create_cause, completion_size}
use Rattle.cal_transport.specs.Ledger.{Ledger, ChannelHistory, queued_names, completed_names, is_borrowed, borrow_count, history_on, first_ledger}
use Rattle.cal_transport.specs.Cause.{cause, is_channel_outside}
use Rattle.cal_transport.specs.Step.{IsStep, IsStepBy, after_step, history_after_send, history_after_receive, history_after_release, history_after_reclaim}
use Rattle.cal_transport.specs.Run.{AreSteps, AreStepsAndTransit, IsRun}
use Rattle.cal_transport.specs.Soundness.{IsSoundHistory, IsSoundLedger, IsOrderly}
use Rattle.cal_transport.specs.Capacity.{IsAnswered, IsAcceptedSend, IsEmptyReclaim, IsReclaimedBetween, HasNoSendBetween, KeepsUp, HasCapacity}
use Rattle.cal_transport.proofs.Names.{queued-sent_on, queued-received_from, borrow_count-received_from, completed-released_on, borrow_count-released_on, fewer_released, completed-reclaimed_from}
use Rattle.cal_transport.proofs.Histories.{history_after_overflow, overflow_then_send, queued-overflowed, received-overflowed, orderly_overflowed}
use Rattle.cal_transport.proofs.Moves.{channel_of, Refuses, Elsewhere, ReceivesNone, ReclaimsNone, Move, Stays, BySend, ByOverflow, ByReceive, ByRelease, ByReclaim}
use Rattle.cal_transport.proofs.EachChannel.{each_moves, each_sound, step_settings}
use Rattle.cal_transport.proofs.Sound.{sound_first, sound_step}
use Rattle.cal_transport.proofs.Telling.{first_history}

-- ---- how many chunks are on their way

abbrev on_way : ChannelHistory → ℕ
on_way c = length (queued_names c) + borrow_count c + length (completed_names c)

way_sent : (c : ChannelHistory) (name : ℕ) → IsOrderly c → on_way (history_after_send c name None) ≡ on_way c + 1
way_sent c name o = rw (queued-sent_on c name o, append-nil c.departures)
    (omega (arith, length-append (queued_names c) (name ∷ [])))

way_overflowed : (c : ChannelHistory) (oldest : ℕ) (rest : List ℕ) → queued_names c ≡ oldest ∷ rest →
    on_way (history_after_overflow c oldest) + 1 ≡ on_way c
way_overflowed c oldest rest e = rw (queued-overflowed c oldest rest e, received-overflowed c oldest)
    (omega (arith, ap length e))

way_received : (c : ChannelHistory) (name : ℕ) (rest : List ℕ) → IsOrderly c → queued_names c ≡ name ∷ rest →
    on_way (history_after_receive c (Some name)) ≡ on_way c
way_received c name rest o e =
    let shorter = ap length (queued-received_from c name rest e) in
    omega (arith, ap length e, shorter, borrow_count-received_from c name o)

way_released : (c : ChannelHistory) (name : ℕ) → IsOrderly c → is_borrowed c name ≡ true →
    on_way (history_after_release c name) ≡ on_way c
way_released c name o borrowed =
    let longer = ap length (completed-released_on c name o) in
    omega (
      arith,
      longer,
      length-append (completed_names c) (name ∷ []),
      borrow_count-released_on c name,
      fewer_released c name o borrowed,
    )

way_reclaimed : (c : ChannelHistory) (name : ℕ) (rest : List ℕ) → completed_names c ≡ name ∷ rest →
    on_way (history_after_reclaim c (Some name)) + 1 ≡ on_way c
way_reclaimed c name rest e =
    let shorter = ap length (completed-reclaimed_from c name rest e) in omega (arith, ap length e, shorter)

-- a chunk was sent, and the queue had room
record Added (k : ℕ) (asked : Command) (reply : Reply) (old new : ChannelHistory) : Type 0 where
  name : ℕ
  asked_is : asked ≡ command.Send k name
  replied : reply ≡ Sent None
  more : on_way new ≡ on_way old + 1

-- a move adds one where a chunk was sent and the queue had room, and none else
way_moved : (l : Ledger) (k : ℕ) (asked : Command) (reply : Reply) (old new : ChannelHistory) →
    Move l k asked reply old new → IsSoundHistory l.settings old →
    (on_way new ≤ on_way old) ⊎ Added k asked reply old new
way_moved l k asked reply old new (Stays alone same) h = inl (let e = ap on_way same in omega arith)
way_moved l k asked reply old new (BySend m) h = inr (record {
  name = m.name;
  asked_is = m.asked_is;
  replied = m.replied;
  more = ap on_way m.made ∙ way_sent old m.name h.orderly;
})
way_moved l k asked reply old new (ByOverflow m) h =
    let between = history_after_overflow old m.oldest in
    let orderly = orderly_overflowed old m.oldest m.rest h.orderly m.front in
    let made = ap on_way (m.made ∙ overflow_then_send old m.name m.oldest) in
    inl (omega (arith, made, way_sent between m.name orderly, way_overflowed old m.oldest m.rest m.front))
way_moved l k asked reply old new (ByReceive m) h =
    inl (omega (arith, ap on_way m.made, way_received old m.name m.rest h.orderly m.front))
way_moved l k asked reply old new (ByRelease m) h =
    inl (omega (arith, ap on_way m.made, way_released old m.name h.orderly m.borrowed))
way_moved l k asked reply old new (ByReclaim m) h =
    inl (omega (arith, ap on_way m.made, way_reclaimed old m.name m.rest m.front))

-- the reply accepts a send on the channel
record AcceptsSend (k : ℕ) (asked : Command) (reply : Reply) : Type 0 where
  name : ℕ
  back : Option Slot
  asked_is : asked ≡ command.Send k name
  replied : reply ≡ Sent back

accepts_or_not : (l : Ledger) (k : ℕ) (asked : Command) (reply : Reply) (old new : ChannelHistory) →
    Move l k asked reply old new → (AcceptsSend k asked reply → ⊥) ⊎ AcceptsSend k asked reply
accepts_or_not l k asked reply old new (Stays (Refuses why is refused) same) = inl (λ a. let e = a.replied in cc)
accepts_or_not l k asked reply old new (Stays (Elsewhere none apart) same) =
    inl (λ a. apart (ap channel_of a.asked_is))
accepts_or_not l k asked reply old new (Stays (ReceivesNone is replied empty) same) =
    inl (λ a. let e = a.asked_is in cc)
accepts_or_not l k asked reply old new (Stays (ReclaimsNone is replied empty) same) =
    inl (λ a. let e = a.asked_is in cc)
accepts_or_not l k asked reply old new (BySend m) =
    inr (record { name = m.name; back = None; asked_is = m.asked_is; replied = m.replied })
accepts_or_not l k asked reply old new (ByOverflow m) =
    inr (record { name = m.name; back = Some m.slot; asked_is = m.asked_is; replied = m.replied })
accepts_or_not l k asked reply old new (ByReceive m) = inl (λ a. let e = m.asked_is in let q = a.asked_is in cc)
accepts_or_not l k asked reply old new (ByRelease m) = inl (λ a. let e = m.asked_is in let q = a.asked_is in cc)
accepts_or_not l k asked reply old new (ByReclaim m) = inl (λ a. let e = m.asked_is in let q = a.asked_is in cc)

-- ---- an empty reclaim

-- a reclaim that finds nothing leaves what is queued and borrowed
emptied : (l : Ledger) (k : ℕ) (asked : Command) (reply : Reply) (old new : ChannelHistory) →
    Move l k asked reply old new → asked ≡ command.Reclaim k → reply ≡ Reclaimed None → completed_names old ≡ []
emptied l k asked reply old new (Stays (Refuses why is refused) same) a r = absurd (cc)
emptied l k asked reply old new (Stays (Elsewhere none apart) same) a r = absurd (apart (ap channel_of a))
emptied l k asked reply old new (Stays (ReceivesNone is replied empty) same) a r = absurd (cc)
emptied l k asked reply old new (Stays (ReclaimsNone is replied empty) same) a r = empty
emptied l k asked reply old new (BySend m) a r = absurd (let e = m.asked_is in cc)
emptied l k asked reply old new (ByOverflow m) a r = absurd (let e = m.asked_is in cc)
emptied l k asked reply old new (ByReceive m) a r = absurd (let e = m.asked_is in cc)
emptied l k asked reply old new (ByRelease m) a r = absurd (let e = m.asked_is in cc)
emptied l k asked reply old new (ByReclaim m) a r = absurd (let e = m.replied in cc)

few_left : (s : Settings) (c : ChannelHistory) → IsSoundHistory s c → completed_names c ≡ [] →
    on_way c ≤ s.buffer + s.borrow
few_left s c h empty =
    let q = h.limits.queued in let b = h.limits.borrowed in omega (arith, ap length empty)

-- ---- a full completion queue

-- a release that is refused so had one more on its way than fit
too_many : (l : Ledger) (place k name : ℕ) →
    IsStep l place (command.Release k name) (Refused refusal.RetrieveBufferFull) →
    IsSoundHistory l.settings (history_on l k) → l.settings.buffer + l.settings.borrow + 2 ≤ on_way (history_on l k)
too_many l place k name step h = go (cause l (command.Release k name)) refl step
  where
    full : Option Refusal
    full = cond (nat_le (completion_size l.settings) (length (completed_names (history_on l k))))
        (Some refusal.RetrieveBufferFull) None

    borrowed_then : Option Refusal
    borrowed_then = cond (not (is_borrowed (history_on l k) name)) (Some refusal.NotBorrowed) full

    by_tests : (a b c : Bool) → is_channel_outside l k ≡ a → not (is_borrowed (history_on l k) name) ≡ b →
        nat_le (completion_size l.settings) (length (completed_names (history_on l k))) ≡ c →
        cond a (Some refusal.OutsideConnection)
        (cond b (Some refusal.NotBorrowed) (cond c (Some refusal.RetrieveBufferFull) None)) ≡
        Some refusal.RetrieveBufferFull →
        l.settings.buffer + l.settings.borrow + 2 ≤ on_way (history_on l k)
    by_tests false false true a b c e =
        let many = leb-true (completion_size l.settings) (length (completed_names (history_on l k))) c in
        let held = not-false (is_borrowed (history_on l k) name) b in
        omega (arith, fewer_released (history_on l k) name h.orderly held)
    by_tests false false false a b c e = absurd (none-some refusal.RetrieveBufferFull e)
    by_tests false true c a b d e = absurd (let q = same_Some refusal.NotBorrowed refusal.RetrieveBufferFull e in cc)
    by_tests true b c a d f e = absurd (let q = same_Some refusal.OutsideConnection refusal.RetrieveBufferFull e in cc)

    go : (o : Option Refusal) → cause l (command.Release k name) ≡ o →
        IsStepBy o l place (command.Release k name) (Refused refusal.RetrieveBufferFull) →
        l.settings.buffer + l.settings.borrow + 2 ≤ on_way (history_on l k)
    go None is owes = absurd (cc)
    go (Some why) is refused =
        let same : why ≡ refusal.RetrieveBufferFull = cc in
        by_tests (is_channel_outside l k) (not (is_borrowed (history_on l k) name))
        (nat_le (completion_size l.settings) (length (completed_names (history_on l k)))) refl refl refl
        (is ∙ ap Some same)

-- ---- along a run

-- the next accepted send comes after an empty reclaim, or fewer are on their way already
abbrev IsMadeRoom : Ledger → ℕ → List Command → List Reply → ℕ → Type 0
IsMadeRoom l k commands replies end = (last : ℕ) → IsAcceptedSend k commands replies last → last < end →
    ((p : ℕ) → p < last → IsAcceptedSend k commands replies p → ⊥) →
    (on_way (history_on l k) ≤ l.settings.buffer + l.settings.borrow) ⊎
    ((place : ℕ) × (place < last) × IsEmptyReclaim k commands replies place)

-- what holds at each place before the release
record IsFollowed (l : Ledger) (k : ℕ) (commands : List Command) (replies : List Reply) (end : ℕ) : Type 0 where
  few : on_way (history_on l k) ≤ l.settings.buffer + l.settings.borrow + 1
  made_room : IsMadeRoom l k commands replies end
  keeps_up : KeepsUp k commands replies end

module _ (k : ℕ) (asked : Command) (reply : Reply) (commands : List Command) (replies : List Reply) where
  -- what stands in the rest stands one place later in the whole
  send_later : (place : ℕ) → IsAcceptedSend k commands replies place →
      IsAcceptedSend k (asked ∷ commands) (reply ∷ replies) (suc place)
  send_later place s = record {
    name = s.name;
    back = s.back;
    answered = record { asked_there = s.answered.asked_there; replied_there = s.answered.replied_there };
  }

  send_earlier : (place : ℕ) → IsAcceptedSend k (asked ∷ commands) (reply ∷ replies) (suc place) →
      IsAcceptedSend k commands replies place
  send_earlier place s = record {
    name = s.name;
    back = s.back;
    answered = record { asked_there = s.answered.asked_there; replied_there = s.answered.replied_there };
  }

  -- the first command is an accepted send
  send_first : AcceptsSend k asked reply → IsAcceptedSend k (asked ∷ commands) (reply ∷ replies) 0
  send_first a = record {
    name = a.name;
    back = a.back;
    answered = record { asked_there = ap Some a.asked_is; replied_there = ap Some a.replied };
  }

  first_send : IsAcceptedSend k (asked ∷ commands) (reply ∷ replies) 0 → AcceptsSend k asked reply
  first_send s = record {
    name = s.name;
    back = s.back;
    asked_is = same_Some asked (command.Send k s.name) s.answered.asked_there;
    replied = same_Some reply (Sent s.back) s.answered.replied_there;
  }

  -- no send before a place of the rest is none between the first command and that place
  none_after_first : (last : ℕ) → ((p : ℕ) → p < last → IsAcceptedSend k commands replies p → ⊥) →
      HasNoSendBetween k (asked ∷ commands) (reply ∷ replies) 0 (suc last)
  none_after_first last none zero after before s = absurd (omega arith)
  none_after_first last none (suc p) after before s = none p (omega arith) (send_earlier p s)

  -- nor one in the whole, where the first command isn't one
  none_before : (last : ℕ) → (AcceptsSend k asked reply → ⊥) →
      ((p : ℕ) → p < last → IsAcceptedSend k commands replies p → ⊥) →
      (p : ℕ) → p < suc last → IsAcceptedSend k (asked ∷ commands) (reply ∷ replies) p → ⊥
  none_before last never none zero before s = never (first_send s)
  none_before last never none (suc p) before s = none p (omega arith) (send_earlier p s)

  none_later : (first last : ℕ) → HasNoSendBetween k commands replies first last →
      HasNoSendBetween k (asked ∷ commands) (reply ∷ replies) (suc first) (suc last)
  none_later first last none zero after before s = absurd (omega arith)
  none_later first last none (suc p) after before s = none p (omega arith) (omega arith) (send_earlier p s)

  reclaim_earlier : (place : ℕ) → IsEmptyReclaim k (asked ∷ commands) (reply ∷ replies) (suc place) →
      IsEmptyReclaim k commands replies place
  reclaim_earlier place r = record {
    answered = record { asked_there = r.answered.asked_there; replied_there = r.answered.replied_there };
  }

  keeps_up_later : (end : ℕ) → KeepsUp k (asked ∷ commands) (reply ∷ replies) (suc end) → KeepsUp k commands replies end
  keeps_up_later end up first last a b below before none =
      let r = up (suc first) (suc last) (send_later first a) (send_later last b) (omega arith) (omega arith)
      (none_later first last none) in
      from r.place r.after r.before r.empty
    where
      from : (place : ℕ) → suc first < place → place < suc last →
          IsEmptyReclaim k (asked ∷ commands) (reply ∷ replies) place →
          IsReclaimedBetween k commands replies first last
      from zero after before empty = absurd (omega arith)
      from (suc place) after before empty = record {
        place = place;
        after = omega arith;
        before = omega arith;
        empty = reclaim_earlier place empty;
      }

-- the first command was sent
module _ (l : Ledger) (place : ℕ) (k : ℕ) (asked : Command) (reply : Reply) (commands : List Command)
    (replies : List Reply) (end : ℕ) (sound : IsSoundLedger l place) (step : IsStep l place asked reply)
    (f : IsFollowed l k (asked ∷ commands) (reply ∷ replies) (suc end)) where
  abbrev then_ledger : Ledger
  then_ledger = after_step l place asked reply

  limit_stays : then_ledger.settings.buffer + then_ledger.settings.borrow ≡ l.settings.buffer + l.settings.borrow
  limit_stays = ap (λ s. s.buffer + s.borrow) (step_settings l place asked reply)

  -- a reclaim between the first command and a place of the rest
  later : (last : ℕ) → IsReclaimedBetween k (asked ∷ commands) (reply ∷ replies) 0 (suc last) →
      (on_way (history_on then_ledger k) ≤ then_ledger.settings.buffer + then_ledger.settings.borrow) ⊎
      ((q : ℕ) × (q < last) × IsEmptyReclaim k commands replies q)
  later last r = from r.place r.after r.before r.empty
    where
      from : (p : ℕ) → 0 < p → p < suc last → IsEmptyReclaim k (asked ∷ commands) (reply ∷ replies) p →
          (on_way (history_on then_ledger k) ≤ then_ledger.settings.buffer + then_ledger.settings.borrow) ⊎
          ((q : ℕ) × (q < last) × IsEmptyReclaim k commands replies q)
      from zero after before empty = absurd (omega arith)
      from (suc p) after before empty =
          inr (p, omega arith, reclaim_earlier k asked reply commands replies p empty)

  after_send : AcceptsSend k asked reply → IsMadeRoom then_ledger k commands replies end
  after_send a last sent before none = later last (f.keeps_up 0 (suc last)
      (send_first k asked reply commands replies a) (send_later k asked reply commands replies last sent) (omega arith)
      (omega arith) (none_after_first k asked reply commands replies last none))

  -- where no more are on their way
  followed_quiet : Move l k asked reply (history_on l k) (history_on then_ledger k) →
      on_way (history_on then_ledger k) ≤ on_way (history_on l k) →
      IsFollowed then_ledger k commands replies end
  followed_quiet move less = record {
    few = (let limit = limit_stays in let few = f.few in omega arith);
    made_room = elim (accepts_or_not l k asked reply (history_on l k) (history_on then_ledger k) move) [
      | inl never ↦ (λ last sent before none. room last (f.made_room (suc last)
          (send_later k asked reply commands replies last sent) (omega arith)
          (none_before k asked reply commands replies last never none)))
      | inr sends ↦ after_send sends
    ];
    keeps_up = keeps_up_later k asked reply commands replies end f.keeps_up;
  }
    where
      fewer : on_way (history_on l k) ≤ l.settings.buffer + l.settings.borrow →
          on_way (history_on then_ledger k) ≤ then_ledger.settings.buffer + then_ledger.settings.borrow
      fewer few = let limit = limit_stays in omega arith

      at_place : (last p : ℕ) → p < suc last → IsEmptyReclaim k (asked ∷ commands) (reply ∷ replies) p →
          (on_way (history_on then_ledger k) ≤ then_ledger.settings.buffer + then_ledger.settings.borrow) ⊎
          ((q : ℕ) × (q < last) × IsEmptyReclaim k commands replies q)
      at_place last zero below empty =
          let a = same_Some asked (command.Reclaim k) empty.answered.asked_there in
          let r = same_Some reply (Reclaimed None) empty.answered.replied_there in
          inl (fewer (few_left l.settings (history_on l k) (each_sound l place k sound)
          (emptied l k asked reply (history_on l k) (history_on then_ledger k) move a r)))
      at_place last (suc p) below empty = inr (p, omega arith, reclaim_earlier k asked reply commands replies p empty)

      room : (last : ℕ) → (on_way (history_on l k) ≤ l.settings.buffer + l.settings.borrow) ⊎
          ((p : ℕ) × (p < suc last) × IsEmptyReclaim k (asked ∷ commands) (reply ∷ replies) p) →
          (on_way (history_on then_ledger k) ≤ then_ledger.settings.buffer + then_ledger.settings.borrow) ⊎
          ((q : ℕ) × (q < last) × IsEmptyReclaim k commands replies q)
      room last (inl few) = inl (fewer few)
      room last (inr made) = at_place last made.0 made.1 made.2

  -- where one more is on its way
  followed_send : Added k asked reply (history_on l k) (history_on then_ledger k) →
      IsFollowed then_ledger k commands replies end
  followed_send added = record {
    few = few (f.made_room 0 (send_first k asked reply commands replies sends) (omega arith)
        (λ p below s. absurd (omega arith)));
    made_room = after_send sends;
    keeps_up = keeps_up_later k asked reply commands replies end f.keeps_up;
  }
    where
      sends : AcceptsSend k asked reply
      sends = record { name = added.name; back = None; asked_is = added.asked_is; replied = added.replied }

      few : (on_way (history_on l k) ≤ l.settings.buffer + l.settings.borrow) ⊎
          ((p : ℕ) × (p < 0) × IsEmptyReclaim k (asked ∷ commands) (reply ∷ replies) p) →
          on_way (history_on then_ledger k) ≤ then_ledger.settings.buffer + then_ledger.settings.borrow + 1
      few (inl room) = let limit = limit_stays in let more = added.more in omega arith
      few (inr made) = let below = made.1 in absurd (omega arith)

  followed_step : IsFollowed then_ledger k commands replies end
  followed_step =
      let move = each_moves l place asked reply k sound step in
      elim (way_moved l k asked reply (history_on l k) (history_on then_ledger k) move (each_sound l place k sound)) [
        | inl less ↦ followed_quiet move less
        | inr added ↦ followed_send added
      ]

never_full : (l : Ledger) (place k name : ℕ) (commands : List Command) (replies : List Reply) (end : ℕ) →
    IsSoundLedger l place → AreSteps l place commands replies → IsFollowed l k commands replies end →
    IsAnswered commands replies end (command.Release k name) (Refused refusal.RetrieveBufferFull) → ⊥
never_full l place k name commands [] end sound steps f full =
    none-some (Refused refusal.RetrieveBufferFull) full.replied_there
never_full l place k name [] (reply ∷ replies) end sound steps f full = steps
never_full l place k name (asked ∷ commands) (reply ∷ replies) zero sound steps f full =
    let a = same_Some asked (command.Release k name) full.asked_there in
    let r = same_Some reply (Refused refusal.RetrieveBufferFull) full.replied_there in
    let step : IsStep l place (command.Release k name) (Refused refusal.RetrieveBufferFull) =
    subst (IsStep l place (command.Release k name)) r (subst (λ x. IsStep l place x reply) a steps.0) in
    let many = too_many l place k name step (each_sound l place k sound) in
    let few = f.few in omega arith
never_full l place k name (asked ∷ commands) (reply ∷ replies) (suc end) sound steps f full =
    never_full (after_step l place asked reply) (place + 1) k name commands replies end
    (sound_step l place asked reply sound steps.0) steps.1
    (followed_step l place k asked reply commands replies end sound steps.0 f)
    (record { asked_there = full.asked_there; replied_there = full.replied_there })

pub steps_have_capacity : (s : Settings) (commands : List Command) (replies : List Reply) → create_cause s ≡ None →
    AreSteps (first_ledger s) 1 commands replies → HasCapacity commands replies
steps_have_capacity s commands replies none steps k end name up full =
    let none_yet = ap on_way (first_history s k) in
    never_full (first_ledger s) 1 k name commands replies end (sound_first s none) steps
    (record { few = omega arith; made_room = λ last sent before free. inl (omega arith); keeps_up = up }) full

-- ---- a whole run

take_stands : {A : Type 0} (n : ℕ) (xs : List A) (i : ℕ) (x : A) → slice_get (take n xs) i ≡ Some x →
    slice_get xs i ≡ Some x
take_stands zero xs i x e = absurd (none-some x e)
take_stands (suc n) [] i x e = absurd (none-some x e)
take_stands (suc n) (y ∷ xs) zero x e = e
take_stands (suc n) (y ∷ xs) (suc i) x e = take_stands n xs i x e

stands_taken : {A : Type 0} (n : ℕ) (xs : List A) (i : ℕ) (x : A) → i < n → slice_get xs i ≡ Some x →
    slice_get (take n xs) i ≡ Some x
stands_taken zero xs i x below e = absurd (omega arith)
stands_taken (suc n) [] i x below e = absurd (none-some x e)
stands_taken (suc n) (y ∷ xs) zero x below e = e
stands_taken (suc n) (y ∷ xs) (suc i) x below e = stands_taken n xs i x (omega arith) e

-- the replies to the commands of a run are steps
pub run_steps : (l : Ledger) (place : ℕ) (commands : List Command) (replies : List Reply) →
    AreStepsAndTransit l place commands replies → AreSteps l place commands (take (length commands) replies)
run_steps l place [] replies run = tt
run_steps l place (asked ∷ commands) [] run = absurd run
run_steps l place (asked ∷ commands) (reply ∷ replies) run =
    (run.0, run_steps (after_step l place asked reply) (place + 1) commands replies run.1)

whole : (commands : List Command) (replies : List Reply) (place : ℕ) (asked : Command) (reply : Reply) →
    IsAnswered commands (take (length commands) replies) place asked reply →
    IsAnswered commands replies place asked reply
whole commands replies place asked reply a = record {
  asked_there = a.asked_there;
  replied_there = take_stands (length commands) replies place reply a.replied_there;
}

front_of : (commands : List Command) (replies : List Reply) (place : ℕ) (asked : Command) (reply : Reply) →
    IsAnswered commands replies place asked reply →
    IsAnswered commands (take (length commands) replies) place asked reply
front_of commands replies place asked reply a = record {
  asked_there = a.asked_there;
  replied_there = stands_taken (length commands) replies place reply
      (slice_get_within commands place asked a.asked_there) a.replied_there;
}

keeps_up_front : (k : ℕ) (commands : List Command) (replies : List Reply) (end : ℕ) → KeepsUp k commands replies end →
    KeepsUp k commands (take (length commands) replies) end
keeps_up_front k commands replies end up first last a b below before none =
    let r = up first last (sent first a) (sent last b) below before
    (λ p after earlier s. none p after earlier (sent_front p s)) in
    record {
      place = r.place;
      after = r.after;
      before = r.before;
      empty = record {
        answered = front_of commands replies r.place (command.Reclaim k) (Reclaimed None) r.empty.answered;
      };
    }
  where
    sent : (place : ℕ) → IsAcceptedSend k commands (take (length commands) replies) place →
        IsAcceptedSend k commands replies place
    sent place s = record {
      name = s.name;
      back = s.back;
      answered = whole commands replies place (command.Send k s.name) (Sent s.back) s.answered;
    }

    sent_front : (place : ℕ) → IsAcceptedSend k commands replies place →
        IsAcceptedSend k commands (take (length commands) replies) place
    sent_front place s = record {
      name = s.name;
      back = s.back;
      answered = front_of commands replies place (command.Send k s.name) (Sent s.back) s.answered;
    }

pub run_has_capacity : (s : Settings) (commands : List Command) (replies : List Reply) → create_cause s ≡ None →
    IsRun s commands replies → HasCapacity commands replies
run_has_capacity s commands replies none run k end name up full =
    steps_have_capacity s commands (take (length commands) replies) none
    (run_steps (first_ledger s) 1 commands replies run) k end name (keeps_up_front k commands replies end up)
    (front_of commands replies end (command.Release k name) (Refused refusal.RetrieveBufferFull) full)
