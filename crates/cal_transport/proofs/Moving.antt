-- Every step moves every channel as `Move` says.
use Rattle.std.proofs.Common.{ℕ, ◌<◌, ◌≡◌, ◌≢◌, inl, inr, Bool, true, false, cond, not, ◌&&◌, ◌||◌, nat_le, nat_lt, List, [], ◌∷◌, ◌++◌, length, set, Option, Some, None, refl, sym, ap, ◌∙◌, subst, arith}
use Rattle.std.specs.List.{slice_get}
use Rattle.std.proofs.lemmas.Option.{same_Some, none-some, get_or_from_slice_get}
use Rattle.std.proofs.lemmas.List.{append-nil}
use Rattle.std.proofs.lemmas.Bool.{or_parts, leb-false, leb-true, ltb-false, not-false}
use Rattle.cal_transport.specs.declared.command.Command.{Command}
use Rattle.cal_transport.specs.declared.command.Command.TheVariants as command
use Rattle.cal_transport.specs.declared.reply.Reply.{Reply}
use Rattle.cal_transport.specs.declared.reply.Reply.TheVariants.{Loaned, Written, Sent, Received, Shown, Released, Reclaimed, Discarded, Counted, Refused, Transit}
use Rattle.cal_transport.specs.declared.reply.Refusal.{Refusal}
use Rattle.cal_transport.specs.declared.reply.Refusal.TheVariants as refusal
use Rattle.cal_transport.specs.Settings.{completion_size}
use Rattle.cal_transport.specs.Ledger.{Ledger, Chunk, ChannelHistory, history_on, new_history, loaned_chunk, occurrences, queued_names, completed_names, is_borrowed, borrow_count, is_in_transit}
use Rattle.cal_transport.specs.LoanCause.{serves, next_segment}
use Rattle.cal_transport.specs.Cause.{cause, current_segment, send_cause, is_channel_outside, is_bucket_outside, is_buffer_full}
use Rattle.cal_transport.specs.Step.{IsStep, IsStepBy, Owes, after_step, after_step_by, after_command, after_loan, grown_ledger, front, slot_named, name_sent_back, history_after_send, history_after_receive, history_after_release, history_after_reclaim}
use Rattle.cal_transport.specs.Soundness.{IsSoundLedger, weight}
use Rattle.cal_transport.proofs.Lists.{same_or_apart, slice_get-set_same, slice_get-set_else}
use Rattle.cal_transport.proofs.Names.{is_in_transit-weight, occurrences_here}
use Rattle.cal_transport.proofs.Chunks.{loaned_stands, sent_slot}
use Rattle.cal_transport.proofs.Moves.{channel_of, IsSendable, Refuses, Elsewhere, ReceivesNone, ReclaimsNone, Move, Stays, BySend, ByOverflow, ByReceive as ByReceipt, ByRelease, ByReclaim}

-- a channel's history after a step, and how it came to be so
pub record MovedTo (l after : Ledger) (k : ℕ) (asked : Command) (reply : Reply) (c : ChannelHistory) : Type 0 where
  pub new : ChannelHistory
  pub stands : slice_get after.histories k ≡ Some new
  pub move : Move l k asked reply c new

-- ---- what stands behind a command without a cause

pub first_no : (a : Bool) (x : Refusal) (rest : Option Refusal) → cond a (Some x) rest ≡ None →
    (a ≡ false) × (rest ≡ None)
first_no false x rest e = (refl, e)
first_no true x rest e = absurd (none-some x (sym e))

-- what is said of a channel by its number holds where it is another, and where it is this one
by_channel : (P : ℕ → Type 0) (channel k : ℕ) → (channel ≢ k → P channel) → P k → P channel
by_channel P channel k else here = elim (same_or_apart channel k) [
  | inl same ↦ subst P (sym same) here
  | inr apart ↦ else apart
]

here_is : (l : Ledger) (k : ℕ) (c : ChannelHistory) → slice_get l.histories k ≡ Some c → history_on l k ≡ c
here_is l k c here = get_or_from_slice_get l.histories k c new_history here

-- the chunk at the front of a list is on its way
pub queued_weighs : (c : ChannelHistory) (name : ℕ) (rest : List ℕ) → queued_names c ≡ name ∷ rest → 0 < weight c name
queued_weighs c name rest e = let first = ap (occurrences name) e ∙ occurrences_here name rest in omega arith

pub completed_weighs : (c : ChannelHistory) (name : ℕ) (rest : List ℕ) → completed_names c ≡ name ∷ rest →
    0 < weight c name
completed_weighs c name rest e = let first = ap (occurrences name) e ∙ occurrences_here name rest in omega arith

-- ---- another channel is left alone

-- a step that writes another channel's history
written_else : (l after : Ledger) (k channel : ℕ) (asked : Command) (reply : Reply) (c new : ChannelHistory) →
    after.histories ≡ set l.histories channel new → cause l asked ≡ None → channel_of asked ≡ Some channel →
    channel ≢ k → slice_get l.histories k ≡ Some c → MovedTo l after k asked reply c
written_else l after k channel asked reply c new made none names apart here = record {
  new = c;
  stands = ap (λ hs. slice_get hs k) made ∙ slice_get-set_else l.histories channel k new (λ q. apart (sym q)) ∙ here;
  move = Stays (Elsewhere none (λ q. apart (same_Some channel k (sym names ∙ q)))) refl;
}

-- a step that writes no history
unwritten : (l after : Ledger) (k : ℕ) (asked : Command) (reply : Reply) (c : ChannelHistory) →
    after.histories ≡ l.histories → cause l asked ≡ None → channel_of asked ≡ None →
    slice_get l.histories k ≡ Some c → MovedTo l after k asked reply c
unwritten l after k asked reply c same none names here = record {
  new = c;
  stands = ap (λ hs. slice_get hs k) same ∙ here;
  move = Stays (Elsewhere none (λ q. none-some k (sym names ∙ q))) refl;
}

-- ---- a send

-- what a send without a cause has seen
record MaySend (l : Ledger) (c : ChannelHistory) (name : ℕ) : Type 0 where
  chunk : IsSendable l name
  new_here : weight c name ≡ 0
  room : (not l.settings.overflow && is_buffer_full l c) ≡ false

may_send_chunk : (l : Ledger) (k : ℕ) (c : ChannelHistory) (name : ℕ) (chunk : Chunk) →
    loaned_chunk l name ≡ Some chunk →
    history_on l k ≡ c → send_cause l k (Some chunk) ≡ None → MaySend l c name
may_send_chunk l k c name chunk is on none =
    let s = loaned_stands l name chunk is in
    let inside = first_no (is_channel_outside l k || is_bucket_outside l chunk) refusal.OutsideConnection
    (cond (is_in_transit (history_on l k) chunk.name) (Some refusal.AlreadyInTransit)
    (cond (not l.settings.overflow && is_buffer_full l (history_on l k)) (Some refusal.ReceiveBufferFull) None)) none in
    let away = first_no (is_in_transit (history_on l k) chunk.name) refusal.AlreadyInTransit
    (cond (not l.settings.overflow && is_buffer_full l (history_on l k)) (Some refusal.ReceiveBufferFull) None)
    inside.1 in
    let room = first_no (not l.settings.overflow && is_buffer_full l (history_on l k)) refusal.ReceiveBufferFull None
    away.1 in
    let bucket = or_parts (nat_le l.settings.segments chunk.segment) (nat_le l.settings.samples chunk.bucket)
    (or_parts (is_channel_outside l k) (is_bucket_outside l chunk) inside.0).1 in
    let quiet : nat_lt 0 (weight c name) ≡ false = sym (is_in_transit-weight c name)
    ∙ ap (is_in_transit c) (sym s.same_name) ∙ ap (λ h. is_in_transit h chunk.name) (sym on) ∙ away.0 in
    record {
      chunk = record {
        index = s.index;
        chunk = chunk;
        stands = s.stands;
        same_name = s.same_name;
        loaned = s.loaned;
        segment = leb-false l.settings.segments chunk.segment bucket.0;
        bucket = leb-false l.settings.samples chunk.bucket bucket.1;
      };
      new_here = (let low = ltb-false 0 (weight c name) quiet in omega arith);
      room = ap (λ h. not l.settings.overflow && is_buffer_full l h) (sym on) ∙ room.0;
    }

may_send : (l : Ledger) (k : ℕ) (c : ChannelHistory) (name : ℕ) → history_on l k ≡ c →
    send_cause l k (loaned_chunk l name) ≡ None → MaySend l c name
may_send l k c name on none = go (loaned_chunk l name) refl none
  where
    go : (o : Option Chunk) → loaned_chunk l name ≡ o → send_cause l k o ≡ None → MaySend l c name
    go None is q = absurd (none-some refusal.NotLoaned (sym q))
    go (Some chunk) is q = may_send_chunk l k c name chunk is on q

overflow_on : (on full : Bool) → (not on && full) ≡ false → full ≡ true → on ≡ true
overflow_on true full e is = refl
overflow_on false full e is = cc

-- the chunk that the send takes back
back_is : (l : Ledger) (c : ChannelHistory) (full : Bool) (names : List ℕ) → is_buffer_full l c ≡ full →
    queued_names c ≡ names → name_sent_back l c ≡ cond full (front names) None
back_is l c full names is queue =
    ap (λ b. cond b (front (queued_names c)) None) is ∙ ap (λ ns. cond full (front ns) None) queue

sends_here : (l : Ledger) (place : ℕ) (reply : Reply) (k : ℕ) (c : ChannelHistory) (name : ℕ) → IsSoundLedger l place →
    slice_get l.histories k ≡ Some c → cause l (command.Send k name) ≡ None → Owes l place (command.Send k name) reply →
    MovedTo l (after_command l place (command.Send k name) reply) k (command.Send k name) reply c
sends_here l place reply k c name sound here none owes =
    go (is_buffer_full l c) (queued_names c) refl refl
  where
    on : history_on l k ≡ c
    on = here_is l k c here

    may : MaySend l c name
    may = may_send l k c name on none

    new : ChannelHistory
    new = history_after_send (history_on l k) name (name_sent_back l (history_on l k))

    made : (back : Option ℕ) → name_sent_back l c ≡ back → new ≡ history_after_send c name back
    made back is = ap (λ h. history_after_send h name (name_sent_back l h)) on ∙ ap (history_after_send c name) is

    replied : (back : Option ℕ) → name_sent_back l c ≡ back → reply ≡ Sent (slot_named l back)
    replied back is = owes ∙ ap (λ h. Sent (slot_named l (name_sent_back l h))) on
        ∙ ap (λ o. Sent (slot_named l o)) is

    there : slice_get (set l.histories k new) k ≡ Some new
    there = slice_get-set_same l.histories k c new here

    go : (full : Bool) (names : List ℕ) → is_buffer_full l c ≡ full → queued_names c ≡ names →
        MovedTo l (after_command l place (command.Send k name) reply) k (command.Send k name) reply c
    go false names is queue =
        let back = back_is l c false names is queue in
        record {
          new = new;
          stands = there;
          move = BySend (record {
            name = name;
            asked_is = refl;
            none = none;
            replied = replied None back;
            chunk = may.chunk;
            new_here = may.new_here;
            room = leb-false l.settings.buffer (length (queued_names c)) is;
            made = made None back;
          });
        }
    go true [] is queue =
        let full = leb-true l.settings.buffer (length (queued_names c)) is in
        let none_queued = ap length queue in let some = sound.room.buffer in absurd (omega arith)
    go true (oldest ∷ rest) is queue =
        let back = back_is l c true (oldest ∷ rest) is queue in
        let slot = sent_slot l place oldest sound.names
        (sound.known k c oldest here (queued_weighs c oldest rest queue))
        in
        record {
          new = new;
          stands = there;
          move = ByOverflow (record {
            name = name;
            oldest = oldest;
            rest = rest;
            slot = slot.slot;
            asked_is = refl;
            none = none;
            replied = replied (Some oldest) back ∙ ap Sent slot.told;
            told = slot.same_name;
            allowed = overflow_on l.settings.overflow (is_buffer_full l c) may.room is;
            chunk = may.chunk;
            new_here = may.new_here;
            front = queue;
            made = made (Some oldest) back;
          });
        }

-- ---- a receive

receives_here : (l : Ledger) (place : ℕ) (reply : Reply) (k : ℕ) (c : ChannelHistory) → IsSoundLedger l place →
    slice_get l.histories k ≡ Some c → cause l (command.Receive k) ≡ None → Owes l place (command.Receive k) reply →
    MovedTo l (after_command l place (command.Receive k) reply) k (command.Receive k) reply c
receives_here l place reply k c sound here none owes = go (queued_names c) refl
  where
    on : history_on l k ≡ c
    on = here_is l k c here

    new : ChannelHistory
    new = history_after_receive (history_on l k) (front (queued_names (history_on l k)))

    made : (names : List ℕ) → queued_names c ≡ names → new ≡ history_after_receive c (front names)
    made names is = ap (λ h. history_after_receive h (front (queued_names h))) on
        ∙ ap (λ ns. history_after_receive c (front ns)) is

    replied : (names : List ℕ) → queued_names c ≡ names → reply ≡ Received (slot_named l (front names))
    replied names is = owes ∙ ap (λ h. Received (slot_named l (front (queued_names h)))) on
        ∙ ap (λ ns. Received (slot_named l (front ns))) is

    there : slice_get (set l.histories k new) k ≡ Some new
    there = slice_get-set_same l.histories k c new here

    room : borrow_count c < l.settings.borrow
    room =
        let inside = first_no (is_channel_outside l k) refusal.OutsideConnection
        (cond (nat_le l.settings.borrow (borrow_count (history_on l k)))
        (Some refusal.ReceiveWouldExceedMaxBorrowValue) None) none in
        let few = first_no (nat_le l.settings.borrow (borrow_count (history_on l k)))
        refusal.ReceiveWouldExceedMaxBorrowValue None inside.1 in
        leb-false l.settings.borrow (borrow_count c)
        (ap (λ h. nat_le l.settings.borrow (borrow_count h)) (sym on) ∙ few.0)

    go : (names : List ℕ) → queued_names c ≡ names →
        MovedTo l (after_command l place (command.Receive k) reply) k (command.Receive k) reply c
    go [] queue = record {
      new = new;
      stands = there;
      move = Stays (ReceivesNone refl (replied [] queue) queue)
          (made [] queue ∙ ap (λ ds. record c { departures = ds }) (append-nil c.departures));
    }
    go (name ∷ rest) queue =
        let slot = sent_slot l place name sound.names (sound.known k c name here (queued_weighs c name rest queue)) in
        record {
          new = new;
          stands = there;
          move = ByReceipt (record {
            name = name;
            rest = rest;
            slot = slot.slot;
            asked_is = refl;
            replied = replied (name ∷ rest) queue ∙ ap Received slot.told;
            told = slot.same_name;
            front = queue;
            room = room;
            made = made (name ∷ rest) queue;
          });
        }

-- ---- a release

releases_here : (l : Ledger) (place : ℕ) (reply : Reply) (k : ℕ) (c : ChannelHistory) (name : ℕ) →
    slice_get l.histories k ≡ Some c → cause l (command.Release k name) ≡ None →
    Owes l place (command.Release k name) reply →
    MovedTo l (after_command l place (command.Release k name) reply) k (command.Release k name) reply c
releases_here l place reply k c name here none owes =
    let on = here_is l k c here in
    let new = history_after_release (history_on l k) name in
    let inside = first_no (is_channel_outside l k) refusal.OutsideConnection
    (cond (not (is_borrowed (history_on l k) name)) (Some refusal.NotBorrowed)
    (cond (nat_le (completion_size l.settings) (length (completed_names (history_on l k))))
    (Some refusal.RetrieveBufferFull) None)) none in
    let held = first_no (not (is_borrowed (history_on l k) name)) refusal.NotBorrowed
    (cond (nat_le (completion_size l.settings) (length (completed_names (history_on l k))))
    (Some refusal.RetrieveBufferFull) None) inside.1 in
    let few = first_no (nat_le (completion_size l.settings) (length (completed_names (history_on l k))))
    refusal.RetrieveBufferFull None held.1 in
    record {
      new = new;
      stands = slice_get-set_same l.histories k c new here;
      move = ByRelease (record {
        name = name;
        asked_is = refl;
        replied = owes;
        borrowed = ap (λ h. is_borrowed h name) (sym on) ∙ not-false (is_borrowed (history_on l k) name) held.0;
        room = leb-false (completion_size l.settings) (length (completed_names c))
            (ap (λ h. nat_le (completion_size l.settings) (length (completed_names h))) (sym on) ∙ few.0);
        made = ap (λ h. history_after_release h name) on;
      });
    }

-- ---- a reclaim

reclaims_here : (l : Ledger) (place : ℕ) (reply : Reply) (k : ℕ) (c : ChannelHistory) → IsSoundLedger l place →
    slice_get l.histories k ≡ Some c → Owes l place (command.Reclaim k) reply →
    MovedTo l (after_command l place (command.Reclaim k) reply) k (command.Reclaim k) reply c
reclaims_here l place reply k c sound here owes = go (completed_names c) refl
  where
    on : history_on l k ≡ c
    on = here_is l k c here

    new : ChannelHistory
    new = history_after_reclaim (history_on l k) (front (completed_names (history_on l k)))

    made : (names : List ℕ) → completed_names c ≡ names → new ≡ history_after_reclaim c (front names)
    made names is = ap (λ h. history_after_reclaim h (front (completed_names h))) on
        ∙ ap (λ ns. history_after_reclaim c (front ns)) is

    replied : (names : List ℕ) → completed_names c ≡ names → reply ≡ Reclaimed (slot_named l (front names))
    replied names is = owes ∙ ap (λ h. Reclaimed (slot_named l (front (completed_names h)))) on
        ∙ ap (λ ns. Reclaimed (slot_named l (front ns))) is

    there : slice_get (set l.histories k new) k ≡ Some new
    there = slice_get-set_same l.histories k c new here

    go : (names : List ℕ) → completed_names c ≡ names →
        MovedTo l (after_command l place (command.Reclaim k) reply) k (command.Reclaim k) reply c
    go [] done = record {
      new = new;
      stands = there;
      move = Stays (ReclaimsNone refl (replied [] done) done)
          (made [] done ∙ ap (λ ns. record c { reclaimed = ns }) (append-nil c.reclaimed));
    }
    go (name ∷ rest) done =
        let slot = sent_slot l place name sound.names (sound.known k c name here (completed_weighs c name rest done)) in
        record {
          new = new;
          stands = there;
          move = ByReclaim (record {
            name = name;
            rest = rest;
            slot = slot.slot;
            asked_is = refl;
            replied = replied (name ∷ rest) done ∙ ap Reclaimed slot.told;
            told = slot.same_name;
            front = done;
            made = made (name ∷ rest) done;
          });
        }

-- ---- a loan

grown_histories : (l : Ledger) (size alignment : ℕ) → (grown_ledger l size alignment).histories ≡ l.histories
grown_histories l size alignment = go (serves (current_segment l) size alignment)
  where
    go : (b : Bool) → (cond b l
        (record l { segments = l.segments ++ next_segment (current_segment l) size alignment ∷ [] })).histories ≡
        l.histories
    go true = refl
    go false = refl

loaned_histories : (l : Ledger) (name : ℕ) (reply : Reply) → (after_loan l name reply).histories ≡ l.histories
loaned_histories l name (Loaned slot) = refl
loaned_histories l name Written = refl
loaned_histories l name (Sent back) = refl
loaned_histories l name (Received taken) = refl
loaned_histories l name (Shown bytes) = refl
loaned_histories l name Released = refl
loaned_histories l name (Reclaimed back) = refl
loaned_histories l name Discarded = refl
loaned_histories l name (Counted count) = refl
loaned_histories l name (Refused refusal) = refl
loaned_histories l name (Transit channel slot) = refl

-- ---- every step

-- what is to be shown of a command on a channel
abbrev pub MovesBy : Ledger → ℕ → Reply → ℕ → ChannelHistory → Command → Type 0
MovesBy l place reply k c asked = cause l asked ≡ None → Owes l place asked reply →
    MovedTo l (after_command l place asked reply) k asked reply c

pub done_moves : (l : Ledger) (place : ℕ) (reply : Reply) (k : ℕ) (c : ChannelHistory) → IsSoundLedger l place →
    slice_get l.histories k ≡ Some c → (asked : Command) → MovesBy l place reply k c asked
done_moves l place reply k c sound here (command.Loan size alignment) none owes =
    unwritten l (after_loan (grown_ledger l size alignment) place reply) k (command.Loan size alignment) reply c
    (loaned_histories (grown_ledger l size alignment) place reply ∙ grown_histories l size alignment) none refl here
done_moves l place reply k c sound here (command.Write name at bytes) none owes =
    unwritten l (after_command l place (command.Write name at bytes) reply) k (command.Write name at bytes) reply c refl
    none refl here
done_moves l place reply k c sound here (command.Send channel name) none owes =
    by_channel (λ n. MovesBy l place reply k c (command.Send n name)) channel k
    (λ apart seen said. written_else l (after_command l place (command.Send channel name) reply) k channel
    (command.Send channel name) reply c
    (history_after_send (history_on l channel) name (name_sent_back l (history_on l channel))) refl seen refl apart
    here)
    (λ seen said. sends_here l place reply k c name sound here seen said) none owes
done_moves l place reply k c sound here (command.Receive channel) none owes =
    by_channel (λ n. MovesBy l place reply k c (command.Receive n)) channel k
    (λ apart seen said. written_else l (after_command l place (command.Receive channel) reply) k channel
    (command.Receive channel) reply c
    (history_after_receive (history_on l channel) (front (queued_names (history_on l channel)))) refl seen refl apart
    here)
    (λ seen said. receives_here l place reply k c sound here seen said) none owes
done_moves l place reply k c sound here (command.Read channel name at len) none owes =
    unwritten l l k (command.Read channel name at len) reply c refl none refl here
done_moves l place reply k c sound here (command.Release channel name) none owes =
    by_channel (λ n. MovesBy l place reply k c (command.Release n name)) channel k
    (λ apart seen said. written_else l (after_command l place (command.Release channel name) reply) k channel
    (command.Release channel name) reply c (history_after_release (history_on l channel) name) refl seen refl apart
    here)
    (λ seen said. releases_here l place reply k c name here seen said) none owes
done_moves l place reply k c sound here (command.Reclaim channel) none owes =
    by_channel (λ n. MovesBy l place reply k c (command.Reclaim n)) channel k
    (λ apart seen said. written_else l (after_command l place (command.Reclaim channel) reply) k channel
    (command.Reclaim channel) reply c
    (history_after_reclaim (history_on l channel) (front (completed_names (history_on l channel)))) refl seen refl
    apart here)
    (λ seen said. reclaims_here l place reply k c sound here said) none owes
done_moves l place reply k c sound here (command.Discard name) none owes =
    unwritten l (after_command l place (command.Discard name) reply) k (command.Discard name) reply c refl none refl
    here
done_moves l place reply k c sound here command.Count none owes =
    unwritten l l k command.Count reply c refl none refl here

pub step_moves : (l : Ledger) (place : ℕ) (asked : Command) (reply : Reply) (k : ℕ) (c : ChannelHistory) →
    IsSoundLedger l place → slice_get l.histories k ≡ Some c → IsStep l place asked reply →
    MovedTo l (after_step l place asked reply) k asked reply c
step_moves l place asked reply k c sound here step = go (cause l asked) refl step
  where
    go : (o : Option Refusal) → cause l asked ≡ o → IsStepBy o l place asked reply →
        MovedTo l (after_step_by o l place asked reply) k asked reply c
    go None none owes = done_moves l place reply k c sound here asked none owes
    go (Some why) is refused =
        record { new = c; stands = here; move = Stays (Refuses why is refused) refl }
