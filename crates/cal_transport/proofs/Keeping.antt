-- Chunks stay where they are, with their names; the bytes of one that was sent stay as they are.
use Rattle.std.proofs.Common.{ℕ, ◌+◌, ◌-◌, ◌*◌, ◌/◌, ◌%◌, ◌≡◌, Bool, true, false, cond, nat_eq, nat_lt, List, [], ◌∷◌, ◌++◌, length, take, drop, Option, Some, None, option_map, refl, sym, ap, ◌∙◌, arith, length-append}
use Rattle.std.specs.List.{slice_get}
use Rattle.std.proofs.Math.Nat.{mul-div_cancel}
use Rattle.std.proofs.lemmas.Bool.{cond-true, eq-eqb}
use Rattle.std.proofs.lemmas.Option.{none-some, slice_get-map, slice_get-get_or}
use Rattle.cal_alloc.specs.Growth.{SegmentLayout}
use Rattle.cal_transport.specs.declared.command.Command.{Command}
use Rattle.cal_transport.specs.declared.command.Command.TheVariants as command
use Rattle.cal_transport.specs.declared.reply.Reply.{Reply}
use Rattle.cal_transport.specs.declared.reply.Reply.TheVariants.{Loaned, Written, Sent, Received, Shown, Released, Reclaimed, Discarded, Counted, Refused, Transit}
use Rattle.cal_transport.specs.declared.reply.Slot.{Slot}
use Rattle.cal_transport.specs.declared.reply.Refusal.{Refusal}
use Rattle.cal_transport.specs.declared.reply.Refusal.TheVariants as refusal
use Rattle.cal_transport.specs.Ledger.{Ledger, Chunk, chunk_named, loaned_chunk, layout_at, current, is_free}
use Rattle.cal_transport.specs.LoanCause.{serves, next_segment}
use Rattle.cal_transport.specs.Cause.{cause, current_segment, send_cause}
use Rattle.cal_transport.specs.Step.{IsStep, IsStepBy, Owes, IsLoan, after_step, after_step_by, after_command, after_loan, grown_ledger, with_bytes, bytes_of_chunk}
use Rattle.cal_transport.specs.Run.{AreSteps, after_steps}
use Rattle.cal_transport.specs.Soundness.{IsSoundLedger}
use Rattle.cal_transport.specs.ChunkLaws.{HasNoLiveChunk, IsReadAfterSend}
use Rattle.cal_transport.proofs.Lists.{slice_get-append_old}
use Rattle.cal_transport.proofs.Chunks.{loaned_stands, chunk_of_name}
use Rattle.cal_transport.proofs.Following.{KeptAs}
use Rattle.cal_transport.proofs.Lending.{not_free, free_parts}
use Rattle.cal_transport.proofs.Sound.{stays, same_chunks, changed_chunks, changed_if, marked_sent, may_write, keeps_written, keeps_sent, keeps_discarded, sound_step, sound_steps}

-- ---- each step

grown_chunks : (l : Ledger) (size alignment : ℕ) → (grown_ledger l size alignment).chunks ≡ l.chunks
grown_chunks l size alignment = go (serves (current_segment l) size alignment)
  where
    go : (b : Bool) → (cond b l
        (record l { segments = l.segments ++ next_segment (current_segment l) size alignment ∷ [] })).chunks ≡ l.chunks
    go true = refl
    go false = refl

-- a loan adds a chunk at the end, or nothing
kept_by_loan : (l : Ledger) (place : ℕ) (reply : Reply) (i : ℕ) (c : Chunk) → slice_get l.chunks i ≡ Some c →
    slice_get (after_loan l place reply).chunks i ≡ Some c
kept_by_loan l place (Loaned slot) i c stands = slice_get-append_old l.chunks _ i c stands
kept_by_loan l place Written i c stands = stands
kept_by_loan l place (Sent back) i c stands = stands
kept_by_loan l place (Received taken) i c stands = stands
kept_by_loan l place (Shown bytes) i c stands = stands
kept_by_loan l place Released i c stands = stands
kept_by_loan l place (Reclaimed back) i c stands = stands
kept_by_loan l place Discarded i c stands = stands
kept_by_loan l place (Counted count) i c stands = stands
kept_by_loan l place (Refused why) i c stands = stands
kept_by_loan l place (Transit channel slot) i c stands = stands

kept_by_command : (l : Ledger) (place : ℕ) (reply : Reply) (i : ℕ) (c : Chunk) → IsSoundLedger l place →
    slice_get l.chunks i ≡ Some c → (asked : Command) → cause l asked ≡ None →
    KeptAs (after_command l place asked reply).chunks i c
kept_by_command l place reply i c sound stands (command.Loan size alignment) none = record {
  after = c;
  stands = kept_by_loan (grown_ledger l size alignment) place reply i c
      (ap (λ cs. slice_get cs i) (grown_chunks l size alignment) ∙ stands);
  keeps = stays c;
}
kept_by_command l place reply i c sound stands (command.Write name at bytes) none =
    (changed_chunks l.chunks name (λ x. record x { bytes = with_bytes x.bytes at bytes })
    (λ j x there named. keeps_written x at bytes (may_write l place name at bytes j x sound none there named))).to i c
    stands
kept_by_command l place reply i c sound stands (command.Send channel name) none =
    (changed_chunks l.chunks name marked_sent (λ j x there named. keeps_sent x)).to i c stands
kept_by_command l place reply i c sound stands (command.Receive channel) none = (same_chunks l.chunks).to i c stands
kept_by_command l place reply i c sound stands (command.Read channel name at len) none =
    (same_chunks l.chunks).to i c stands
kept_by_command l place reply i c sound stands (command.Release channel name) none =
    (same_chunks l.chunks).to i c stands
kept_by_command l place reply i c sound stands (command.Reclaim channel) none = (same_chunks l.chunks).to i c stands
kept_by_command l place reply i c sound stands (command.Discard name) none =
    (changed_chunks l.chunks name (λ x. record x { loaned = false }) (λ j x there named. keeps_discarded x)).to i c
    stands
kept_by_command l place reply i c sound stands command.Count none = (same_chunks l.chunks).to i c stands

pub kept_by_step : (l : Ledger) (place : ℕ) (asked : Command) (reply : Reply) (i : ℕ) (c : Chunk) →
    IsSoundLedger l place → slice_get l.chunks i ≡ Some c → KeptAs (after_step l place asked reply).chunks i c
kept_by_step l place asked reply i c sound stands = go (cause l asked) refl
  where
    go : (o : Option Refusal) → cause l asked ≡ o → KeptAs (after_step_by o l place asked reply).chunks i c
    go None none = kept_by_command l place reply i c sound stands asked none
    go (Some why) is = record { after = c; stands = stands; keeps = stays c }

-- ---- a chunk that was sent

-- a chunk that was sent stands there still, with the same bytes
pub record StaysSent (chunks : List Chunk) (i : ℕ) (c : Chunk) : Type 0 where
  pub after : Chunk
  pub stands : slice_get chunks i ≡ Some after
  pub name : after.name ≡ c.name
  pub bytes : after.bytes ≡ c.bytes
  pub sent : after.sent ≡ true

pub sent_stays : (l : Ledger) (place : ℕ) (commands : List Command) (replies : List Reply) (i : ℕ) (c : Chunk) →
    IsSoundLedger l place → AreSteps l place commands replies → slice_get l.chunks i ≡ Some c → c.sent ≡ true →
    StaysSent (after_steps l place commands replies).chunks i c
sent_stays l place commands [] i c sound steps stands sent =
    record { after = c; stands = stands; name = refl; bytes = refl; sent = sent }
sent_stays l place [] (reply ∷ replies) i c sound steps stands sent = absurd steps
sent_stays l place (asked ∷ commands) (reply ∷ replies) i c sound steps stands sent =
    let next = after_step l place asked reply in
    let kept = kept_by_step l place asked reply i c sound stands in
    let rest = sent_stays next (place + 1) commands replies i kept.after
    (sound_step l place asked reply sound steps.0) steps.1 kept.stands (kept.keeps.sent sent) in
    record {
      after = rest.after;
      stands = rest.stands;
      name = rest.name ∙ kept.keeps.name;
      bytes = rest.bytes ∙ kept.keeps.fixed sent;
      sent = rest.sent;
    }

-- what a step without a refusal has seen
not_refused : (l : Ledger) (place : ℕ) (asked : Command) (reply : Reply) → IsStep l place asked reply →
    ((why : Refusal) → reply ≡ Refused why → ⊥) → (cause l asked ≡ None) × Owes l place asked reply
not_refused l place asked reply step never = go (cause l asked) refl step
  where
    go : (o : Option Refusal) → cause l asked ≡ o → IsStepBy o l place asked reply →
        (cause l asked ≡ None) × Owes l place asked reply
    go None is owes = (is, owes)
    go (Some why) is refused = absurd (never why refused)

after_without_cause : (l : Ledger) (place : ℕ) (asked : Command) (reply : Reply) → cause l asked ≡ None →
    after_step l place asked reply ≡ after_command l place asked reply
after_without_cause l place asked reply none = ap (λ o. after_step_by o l place asked reply) none

sent_loaned : (l : Ledger) (k name : ℕ) → cause l (command.Send k name) ≡ None →
    (c : Chunk) × (loaned_chunk l name ≡ Some c)
sent_loaned l k name none = go (loaned_chunk l name) refl none
  where
    go : (o : Option Chunk) → loaned_chunk l name ≡ o → send_cause l k o ≡ None →
        (c : Chunk) × (loaned_chunk l name ≡ Some c)
    go None is q = absurd (none-some refusal.NotLoaned (sym q))
    go (Some c) is q = (c, is)

-- what a read shows is what the bytes were when the chunk was sent
pub read_shows_sent : (l : Ledger) (place name at long : ℕ) (bytes : List ℕ) → IsSoundLedger l place →
    IsReadAfterSend l place name at long bytes → bytes ≡ bytes_of_chunk (chunk_named l name) at long
read_shows_sent l place name at long bytes sound r =
    let send : Command = command.Send r.sent_on name in
    let seen = not_refused l place send (Sent r.back) r.sent (λ why e. cc) in
    let found = sent_loaned l r.sent_on name seen.0 in
    let c = found.0 in
    let loaned = loaned_stands l name c found.1 in
    let next = after_step l place send (Sent r.back) in
    let last = after_steps next (place + 1) r.commands r.replies in
    let marked : slice_get next.chunks loaned.index ≡ Some (marked_sent c) =
    ap (λ m. slice_get m.chunks loaned.index) (after_without_cause l place send (Sent r.back) seen.0)
    ∙ slice_get-map (changed_if marked_sent name) l.chunks loaned.index
    ∙ ap (option_map (changed_if marked_sent name)) loaned.stands
    ∙ ap Some (cond-true (nat_eq c.name name) (marked_sent c) c (eq-eqb c.name name loaned.same_name)) in
    let after = sound_step l place send (Sent r.back) sound r.sent in
    let still = sent_stays next (place + 1) r.commands r.replies loaned.index (marked_sent c) after r.between marked
    refl
    in
    let end = sound_steps next (place + 1) r.commands r.replies after r.between in
    let then = chunk_of_name last (place + 1 + length r.replies) loaned.index still.after name end.names still.stands
    (still.name ∙ loaned.same_name) in
    let before = chunk_of_name l place loaned.index c name sound.names loaned.stands loaned.same_name in
    let read = not_refused last (place + 1 + length r.replies) (command.Read r.read_on name at long) (Shown bytes)
    r.read
    (λ why e. cc) in
    let shown : Shown bytes ≡ Shown (bytes_of_chunk (chunk_named last name) at long) = read.1 in
    let same : bytes ≡ bytes_of_chunk (chunk_named last name) at long = cc in
    same ∙ ap (λ o. bytes_of_chunk o at long) then ∙ ap (λ b. take long (drop at b)) still.bytes
    ∙ ap (λ o. bytes_of_chunk o at long) (sym before)

-- ---- where a loan lies

-- a loan takes no live chunk's bucket
lent_elsewhere : (l : Ledger) (place : ℕ) (slot : Slot) → IsSoundLedger l place → IsLoan l place (Loaned slot) →
    HasNoLiveChunk l slot
lent_elsewhere l place slot sound is i a stands alive same there =
    let buckets = layout_at l (current l) in
    let bucket = slot.place / buckets.size in
    let free = free_parts (nat_eq (slot.place % buckets.size) 0) (nat_lt bucket buckets.count)
    (is_free l (current l) bucket) is.2 in
    let segment : a.segment ≡ current l = same ∙ is.1 in
    let none : SegmentLayout = record { size = 0; alignment = 0; count = 0 } in
    let some = sound.segments.some in
    let sizes = sound.segments.sizes (current l) buckets
    (slice_get-get_or l.segments (current l) none (omega arith)) in
    let at : slot.place ≡ a.bucket * buckets.size = sym there ∙ ap (λ n. a.bucket * (layout_at l n).size) segment in
    let bucket_is : a.bucket ≡ bucket = sym (ap (λ n. n / buckets.size) at
    ∙ mul-div_cancel a.bucket sizes.not_empty) in
    not_free l (current l) bucket i a free.1 stands alive segment bucket_is

pub loan_takes_free : (l : Ledger) (place size alignment : ℕ) (slot : Slot) → IsSoundLedger l place →
    IsStep l place (command.Loan size alignment) (Loaned slot) → HasNoLiveChunk l slot
loan_takes_free l place size alignment slot sound step i a stands alive same there =
    go (serves (current_segment l) size alignment)
    (not_refused l place (command.Loan size alignment) (Loaned slot) step (λ why e. cc)).1
  where
    next : SegmentLayout
    next = next_segment (current_segment l) size alignment

    go : (b : Bool) → IsLoan (cond b l (record l { segments = l.segments ++ next ∷ [] })) place (Loaned slot) → ⊥
    go true is = lent_elsewhere l place slot sound is i a stands alive same there
    go false is = (
        let within = (sound.within i a stands).segment in
        let last : a.segment ≡ length (l.segments ++ next ∷ []) - 1 = same ∙ is.1 in
        absurd (omega (arith, length-append l.segments (next ∷ []))))
