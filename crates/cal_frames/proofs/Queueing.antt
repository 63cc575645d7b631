-- The queue of the channel, command by command.
use Rattle.std.proofs.Common.{ℕ, suc, ◌+◌, ◌<◌, ◌≤◌, ◌≡◌, inl, inr, Bool, true, false, cond, [], ◌∷◌, ◌++◌, length, drop, set, get_or, Option, Some, None, refl, sym, ap, ◌∙◌, arith}
use Rattle.std.proofs.lemmas.Bool.{cases_lt}
use Rattle.std.proofs.lemmas.List.{get_or-set_same, length-set, length_push, append-nil}
use Rattle.std.proofs.lemmas.Option.{none-some}
use Rattle.cal_transport.specs.Ledger.{Ledger, ChannelHistory, ByReceive, ByOverflow, history_on, new_history, numbers_below, queued_names}
use Rattle.cal_transport.specs.Cause.{is_buffer_full}
use Rattle.cal_transport.specs.Step.{front, name_sent_back, history_after_send, history_after_receive}
use Rattle.cal_frames.specs.Carrying.{HasQueue}
use Rattle.cal_frames.proofs.Numbers.{front_behind, none_behind}

pub queue_same : (l l' : Ledger) (sent left : ℕ) → history_on l' 0 ≡ history_on l 0 →
    length l'.histories ≡ length l.histories → HasQueue l sent left → HasQueue l' sent left
queue_same l l' sent left same long q = record {
  channel = (let some = q.channel in omega arith);
  sent_are = ap (λ h. h.sent) same ∙ q.sent_are;
  left_are = ap (λ h. length h.departures) same ∙ q.left_are;
  few = q.few;
}

-- the history that was written is read again
written_history : (l l' : Ledger) (history : ChannelHistory) → 0 < length l.histories →
    l'.histories ≡ set l.histories 0 history → history_on l' 0 ≡ history
written_history l l' history some written =
    ap (λ hs. get_or hs 0 new_history) written ∙ get_or-set_same l.histories 0 history new_history some

written_length : (l l' : Ledger) (history : ChannelHistory) → l'.histories ≡ set l.histories 0 history →
    length l'.histories ≡ length l.histories
written_length l l' history written = ap (λ hs. length hs) written ∙ length-set l.histories 0 history

-- a change that leaves what was sent and what left
pub queue_kept : (l l' : Ledger) (history : ChannelHistory) (sent left : ℕ) →
    l'.histories ≡ set l.histories 0 history → history.sent ≡ (history_on l 0).sent →
    history.departures ≡ (history_on l 0).departures → HasQueue l sent left → HasQueue l' sent left
queue_kept l l' history sent left written same_sent same_departures q =
    let is = written_history l l' history q.channel written in record {
      channel = (let some = q.channel in let long = written_length l l' history written in omega arith);
      sent_are = ap (λ h. h.sent) is ∙ (same_sent ∙ q.sent_are);
      left_are = ap (λ h. length h.departures) is ∙ (ap (λ ds. length ds) same_departures ∙ q.left_are);
      few = q.few;
    }

-- ---- what stands first

pub queued_are : (l : Ledger) (sent left : ℕ) → HasQueue l sent left →
    queued_names (history_on l 0) ≡ drop left (numbers_below sent)
queued_are l sent left q = ap (λ n. drop n (history_on l 0).sent) q.left_are ∙ ap (λ xs. drop left xs) q.sent_are

pub first_queued : (l : Ledger) (sent left : ℕ) → HasQueue l sent left → left < sent →
    front (queued_names (history_on l 0)) ≡ Some left
first_queued l sent left q some = ap front (queued_are l sent left q) ∙ front_behind sent left some

pub none_queued : (l : Ledger) (sent left : ℕ) → HasQueue l sent left → sent ≤ left →
    front (queued_names (history_on l 0)) ≡ None
none_queued l sent left q none = ap front (queued_are l sent left q) ∙ none_behind sent left none

-- ---- a send

-- one more was sent, and waits
pub record IsQueued (l : Ledger) (sent left : ℕ) : Type 0 where
  pub left_now : ℕ
  pub more : left ≤ left_now
  pub waits : left_now ≤ sent
  pub queue : HasQueue l (sent + 1) left_now

pub queued_next : (l l' : Ledger) (sent left : ℕ) → HasQueue l sent left → l'.histories
    ≡ set l.histories 0 (history_after_send (history_on l 0) sent (name_sent_back l (history_on l 0))) →
    IsQueued l' sent left
queued_next l l' sent left q written = go (name_sent_back l (history_on l 0)) refl
  where
    now : (back : Option ℕ) → name_sent_back l (history_on l 0) ≡ back →
        history_on l' 0 ≡ history_after_send (history_on l 0) sent back
    now back is =
        written_history l l' (history_after_send (history_on l 0) sent (name_sent_back l (history_on l 0))) q.channel
        written ∙ ap (λ b. history_after_send (history_on l 0) sent b) is

    channel : 0 < length l'.histories
    channel =
        let some = q.channel in
        let long = written_length l l'
        (history_after_send (history_on l 0) sent (name_sent_back l (history_on l 0))) written in
        omega arith

    sent_now : (back : Option ℕ) → name_sent_back l (history_on l 0) ≡ back →
        (history_on l' 0).sent ≡ numbers_below (sent + 1)
    sent_now back is =
        let next : suc sent ≡ sent + 1 = omega arith in
        ap (λ h. h.sent) (now back is) ∙ (ap (λ xs. xs ++ sent ∷ []) q.sent_are ∙ ap numbers_below next)

    left_by : (b : Bool) (first : Option ℕ) (name : ℕ) → cond b first None ≡ Some name → first ≡ Some name
    left_by true first name e = e
    left_by false first name e = absurd (none-some name e)

    go : (back : Option ℕ) → name_sent_back l (history_on l 0) ≡ back → IsQueued l' sent left
    go None is = record {
      left_now = left;
      more = omega arith;
      waits = q.few;
      queue = record {
        channel = channel;
        sent_are = sent_now None is;
        left_are = ap (λ h. length h.departures) (now None is)
            ∙ (ap (λ ds. length ds) (append-nil (history_on l 0).departures) ∙ q.left_are);
        few = (let few = q.few in omega arith);
      };
    }
    go (Some name) is =
        let first = left_by (is_buffer_full l (history_on l 0)) (front (queued_names (history_on l 0))) name is in
        let some : left < sent = elim (cases_lt left sent) [
          | inl less ↦ less
          | inr past ↦ absurd (none-some name (sym (none_queued l sent left q past) ∙ first))
        ] in record {
          left_now = left + 1;
          more = omega arith;
          waits = omega arith;
          queue = record {
            channel = channel;
            sent_are = sent_now (Some name) is;
            left_are = ap (λ h. length h.departures) (now (Some name) is)
                ∙ (length_push (history_on l 0).departures (ByOverflow name) ∙ ap (λ n. n + 1) q.left_are);
            few = omega arith;
          };
        }

-- ---- a receive

pub queue_taken : (l l' : Ledger) (sent left : ℕ) → HasQueue l sent left → left < sent →
    l'.histories ≡ set l.histories 0 (history_after_receive (history_on l 0) (front (queued_names (history_on l 0)))) →
    HasQueue l' sent (left + 1)
queue_taken l l' sent left q some written =
    let h = history_on l 0 in
    let is : history_on l' 0 ≡ history_after_receive h (Some left) =
    written_history l l' (history_after_receive h (front (queued_names h))) q.channel written
    ∙ ap (λ taken. history_after_receive h taken) (first_queued l sent left q some) in record {
      channel = (let channel = q.channel in
          let long = written_length l l' (history_after_receive h (front (queued_names h))) written in omega arith);
      sent_are = ap (λ x. x.sent) is ∙ q.sent_are;
      left_are = ap (λ x. length x.departures) is
          ∙ (length_push h.departures (ByReceive left) ∙ ap (λ n. n + 1) q.left_are);
      few = omega arith;
    }

pub queue_not_taken : (l l' : Ledger) (sent left : ℕ) → HasQueue l sent left → sent ≤ left →
    l'.histories ≡ set l.histories 0 (history_after_receive (history_on l 0) (front (queued_names (history_on l 0)))) →
    HasQueue l' sent left
queue_not_taken l l' sent left q none written =
    let h = history_on l 0 in
    let is : history_on l' 0 ≡ history_after_receive h None =
    written_history l l' (history_after_receive h (front (queued_names h))) q.channel written
    ∙ ap (λ taken. history_after_receive h taken) (none_queued l sent left q none) in record {
      channel = (let channel = q.channel in
          let long = written_length l l' (history_after_receive h (front (queued_names h))) written in omega arith);
      sent_are = ap (λ x. x.sent) is ∙ q.sent_are;
      left_are = ap (λ x. length x.departures) is
          ∙ (ap (λ ds. length ds) (append-nil h.departures) ∙ q.left_are);
      few = q.few;
    }
