-- What each command does to the frames that a transport carries.
use Rattle.std.proofs.Common.{ℕ, ◌+◌, ◌^◌, ◌<◌, ◌≡◌, inl, inr, true, false, List, [], ◌∷◌, ◌++◌, length, get_or, Option, Some, None, option_map, refl, sym, ap, ◌∙◌, subst, arith}
use Rattle.std.specs.List.{slice_get}
use Rattle.std.proofs.lemmas.Bool.{cases_lt}
use Rattle.std.proofs.lemmas.List.{length_push}
use Rattle.std.proofs.lemmas.Option.{slice_get-get_or}
use Rattle.cal_transport.specs.declared.command.Command.{Command}
use Rattle.cal_transport.specs.declared.command.Command.TheVariants as command
use Rattle.cal_transport.specs.declared.reply.Reply.{Reply}
use Rattle.cal_transport.specs.declared.reply.Reply.TheVariants.{Loaned, Written, Sent, Received, Released, Reclaimed, Discarded}
use Rattle.cal_transport.specs.declared.reply.Slot.{Slot}
use Rattle.cal_transport.specs.Ledger.{Ledger, Chunk, ChannelHistory, new_history, history_on, queued_names, completed_names}
use Rattle.cal_transport.specs.Standing.{StandsFor, Does, DoesAnywhere}
use Rattle.cal_transport.specs.State.{TransportState}
use Rattle.cal_transport.specs.Step.{after_command, after_step, front, slot_of, slot_named, history_after_release, history_after_reclaim}
use Rattle.cal_frames.specs.Carrying.{AreNamedBelow, HasFrames, HasQueue, Carries, packet_of}
use Rattle.cal_frames.specs.Sides.{CarriesNext}
use Rattle.cal_frames.proofs.Done.{IsDone, done}
use Rattle.cal_frames.proofs.Making.{IsMaking, loaned, wrote, made_frame, made_named, frames_same, frames_unchanged, grown_histories}
use Rattle.cal_frames.proofs.Named.{KeepsName, named_same, named_changed, find_named}
use Rattle.cal_frames.proofs.Queueing.{queue_same, queue_kept, queued_next, queue_taken, queue_not_taken, first_queued, none_queued}

-- a transport with frames, and a chunk in the making that begins with these bytes
pub record Makes (t : TransportState) (frames : List (List ℕ)) (left : ℕ) (written : List ℕ) : Type 0 where
  pub ledger : Ledger
  pub stands : StandsFor t ledger
  pub making : IsMaking ledger frames written
  pub queue : HasQueue ledger (length frames) left

-- ---- the sender's side

pub loan_makes : (t t' : TransportState) (frames : List (List ℕ)) (left size alignment : ℕ) (slot : Slot) →
    Does t (length frames) (command.Loan size alignment) (Loaned slot) t' → Carries t frames left →
    Makes t' frames left []
loan_makes t t' frames left size alignment slot does c =
    let l = c.ledger in let asked = command.Loan size alignment in let reply = Loaned slot in
    let step = does l c.stands in
    let d = done l (length frames) asked reply (λ why e. cc) step.0 in
    let l' = after_command l (length frames) asked reply in
    let same = grown_histories l size alignment in record {
      ledger = after_step l (length frames) asked reply;
      stands = step.1;
      making = subst (λ x. IsMaking x frames []) (sym d.after) (loaned l frames size alignment slot c.named c.has);
      queue = subst (λ x. HasQueue x (length frames) left) (sym d.after)
          (queue_same l l' (length frames) left (ap (λ hs. get_or hs 0 new_history) same)
          (ap (λ hs. length hs) same) c.queue);
    }

pub write_makes : (t t' : TransportState) (frames : List (List ℕ)) (left at : ℕ) (written bytes : List ℕ) →
    at ≡ length written → DoesAnywhere t (command.Write (length frames) at bytes) Written t' →
    Makes t frames left written → Makes t' frames left (written ++ bytes)
write_makes t t' frames left at written bytes is does m =
    let l = m.ledger in let asked = command.Write (length frames) at bytes in
    let step = does 0 l m.stands in
    let d = done l 0 asked Written (λ why e. cc) step.0 in
    let l' = after_command l 0 asked Written in record {
      ledger = after_step l 0 asked Written;
      stands = step.1;
      making = subst (λ x. IsMaking x frames (written ++ bytes)) (sym d.after)
          (wrote l frames written bytes 0 at Written is m.making);
      queue = subst (λ x. HasQueue x (length frames) left) (sym d.after)
          (queue_same l l' (length frames) left refl refl m.queue);
    }

pub send_carries : (t t' : TransportState) (frames : List (List ℕ)) (frame : List ℕ) (left : ℕ) (back : Option Slot) →
    length frame < 2 ^ 64 → DoesAnywhere t (command.Send 0 (length frames)) (Sent back) t' →
    Makes t frames left (packet_of frame) → CarriesNext t' frames frame left
send_carries t t' frames frame left back small does m =
    let l = m.ledger in let asked = command.Send 0 (length frames) in let reply = Sent back in
    let step = does 0 l m.stands in
    let d = done l 0 asked reply (λ why e. cc) step.0 in
    let l' = after_command l 0 asked reply in
    let change : Chunk → Chunk = λ chunk. record chunk { sent = true } in
    let keeps : KeepsName change = record { name = λ chunk. refl } in
    let queued = queued_next l l' (length frames) left m.queue refl in record {
      left_now = queued.left_now;
      more = queued.more;
      waits = queued.waits;
      carries = record {
        ledger = after_step l 0 asked reply;
        stands = step.1;
        named = subst (λ x. AreNamedBelow x (length (frames ++ frame ∷ []))) (sym d.after)
            (made_named l' frames frame
            (named_changed l l' change (length frames) (length frames + 1) keeps refl m.making.named));
        has = subst (λ x. HasFrames x (frames ++ frame ∷ [])) (sym d.after)
            (frames_unchanged l l' change (length frames) (frames ++ frame ∷ []) keeps (λ chunk. refl) refl
            (made_frame l frames frame small m.making));
        queue = subst (λ x. HasQueue x (length (frames ++ frame ∷ [])) queued.left_now) (sym d.after)
            (subst (λ n. HasQueue l' n queued.left_now) (sym (length_push frames frame)) queued.queue);
      };
    }

pub discard_carries : (t t' : TransportState) (frames : List (List ℕ)) (left name : ℕ) →
    DoesAnywhere t (command.Discard name) Discarded t' → Carries t frames left → Carries t' frames left
discard_carries t t' frames left name does c =
    let l = c.ledger in let asked = command.Discard name in
    let step = does 0 l c.stands in
    let d = done l 0 asked Discarded (λ why e. cc) step.0 in
    let l' = after_command l 0 asked Discarded in
    let change : Chunk → Chunk = λ chunk. record chunk { loaned = false } in
    let keeps : KeepsName change = record { name = λ chunk. refl } in record {
      ledger = after_step l 0 asked Discarded;
      stands = step.1;
      named = subst (λ x. AreNamedBelow x (length frames)) (sym d.after)
          (named_changed l l' change name (length frames) keeps refl c.named);
      has = subst (λ x. HasFrames x frames) (sym d.after)
          (frames_unchanged l l' change name frames keeps (λ chunk. refl) refl c.has);
      queue = subst (λ x. HasQueue x (length frames) left) (sym d.after)
          (queue_same l l' (length frames) left refl refl c.queue);
    }

pub reclaim_carries : (t t' : TransportState) (frames : List (List ℕ)) (left : ℕ) (back : Option Slot) →
    DoesAnywhere t (command.Reclaim 0) (Reclaimed back) t' → Carries t frames left → Carries t' frames left
reclaim_carries t t' frames left back does c =
    let l = c.ledger in let asked = command.Reclaim 0 in let reply = Reclaimed back in
    let step = does 0 l c.stands in
    let d = done l 0 asked reply (λ why e. cc) step.0 in
    let l' = after_command l 0 asked reply in
    let h = history_on l 0 in
    let now : ChannelHistory = history_after_reclaim h (front (completed_names h)) in record {
      ledger = after_step l 0 asked reply;
      stands = step.1;
      named = subst (λ x. AreNamedBelow x (length frames)) (sym d.after)
          (named_same l l' (length frames) refl c.named);
      has = subst (λ x. HasFrames x frames) (sym d.after) (frames_same l l' frames refl c.has);
      queue = subst (λ x. HasQueue x (length frames) left) (sym d.after)
          (queue_kept l l' now (length frames) left refl refl refl c.queue);
    }

-- ---- the receiver's side

pub release_carries : (t t' : TransportState) (frames : List (List ℕ)) (left name : ℕ) →
    DoesAnywhere t (command.Release 0 name) Released t' → Carries t frames left → Carries t' frames left
release_carries t t' frames left name does c =
    let l = c.ledger in let asked = command.Release 0 name in
    let step = does 0 l c.stands in
    let d = done l 0 asked Released (λ why e. cc) step.0 in
    let l' = after_command l 0 asked Released in
    let now : ChannelHistory = history_after_release (history_on l 0) name in record {
      ledger = after_step l 0 asked Released;
      stands = step.1;
      named = subst (λ x. AreNamedBelow x (length frames)) (sym d.after)
          (named_same l l' (length frames) refl c.named);
      has = subst (λ x. HasFrames x frames) (sym d.after) (frames_same l l' frames refl c.has);
      queue = subst (λ x. HasQueue x (length frames) left) (sym d.after)
          (queue_kept l l' now (length frames) left refl refl refl c.queue);
    }

-- where a frame waits, its chunk is received
pub record Receives (t' : TransportState) (frames : List (List ℕ)) (left : ℕ) (slot : Slot) : Type 0 where
  pub frame : List ℕ
  pub next : slice_get frames left ≡ Some frame
  pub name : slot.chunk ≡ left
  pub carries : Carries t' frames (left + 1)

-- the answer to a receive
abbrev pub ReceivesIf : TransportState → List (List ℕ) → ℕ → Option Slot → Type 0
ReceivesIf t' frames left None = (left ≡ length frames) × Carries t' frames left
ReceivesIf t' frames left (Some slot) = Receives t' frames left slot

pub receive_takes : (t t' : TransportState) (frames : List (List ℕ)) (left : ℕ) (taken : Option Slot) →
    DoesAnywhere t (command.Receive 0) (Received taken) t' → Carries t frames left → ReceivesIf t' frames left taken
receive_takes t t' frames left taken does c = elim (cases_lt left (length frames)) [
  | inl some ↦ (let frame = get_or frames left [] in
      let next : slice_get frames left ≡ Some frame = slice_get-get_or frames left [] some in
      let b = c.has.packets left frame next in
      let is : taken ≡ Some (slot_of l b.chunk) = taken_is
      ∙ (ap (slot_named l) (first_queued l (length frames) left c.queue some) ∙ ap (option_map (slot_of l)) b.named) in
      subst (λ o. ReceivesIf t' frames left o) (sym is) (record {
        frame = frame;
        next = next;
        name = find_named l.chunks left b.chunk b.named;
        carries = now (left + 1) (queue_taken l l' (length frames) left c.queue some refl);
      }))
  | inr past ↦ (let few = c.queue.few in
      let is : taken ≡ None = taken_is ∙ ap (slot_named l) (none_queued l (length frames) left c.queue past) in
      subst (λ o. ReceivesIf t' frames left o) (sym is)
      (omega arith, now left (queue_not_taken l l' (length frames) left c.queue past refl)))
]
  where
    l : Ledger
    l = c.ledger

    asked : Command
    asked = command.Receive 0

    reply : Reply
    reply = Received taken

    l' : Ledger
    l' = after_command l 0 asked reply

    d : IsDone l 0 asked reply
    d = let step = does 0 l c.stands in done l 0 asked reply (λ why e. cc) step.0

    taken_is : taken ≡ slot_named l (front (queued_names (history_on l 0)))
    taken_is = let owes = d.owes in cc

    now : (left_now : ℕ) → HasQueue l' (length frames) left_now → Carries t' frames left_now
    now left_now queue = record {
      ledger = after_step l 0 asked reply;
      stands = (let step = does 0 l c.stands in step.1);
      named = subst (λ x. AreNamedBelow x (length frames)) (sym d.after)
          (named_same l l' (length frames) refl c.named);
      has = subst (λ x. HasFrames x frames) (sym d.after) (frames_same l l' frames refl c.has);
      queue = subst (λ x. HasQueue x (length frames) left_now) (sym d.after) queue;
    }
