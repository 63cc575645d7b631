-- Every ledger that a run reaches is sound: the first one is, and each step keeps it.
use Rattle.std.proofs.Common.{ℕ, zero, suc, ◌+◌, ◌<◌, ◌≤◌, ◌≡◌, inl, inr, Bool, true, false, cond, nat_eq, List, [], ◌∷◌, length, map, replicate, Option, Some, None, option_map, refl, sym, ap, ◌∙◌, subst, arith, length-append, length-drop}
use Rattle.std.specs.List.{slice_get}
use Rattle.std.proofs.lemmas.Bool.{true≢false, ltb-false, cond-true, eq-eqb}
use Rattle.std.proofs.lemmas.Bool.Decides.{eqb_tells}
use Rattle.std.proofs.lemmas.List.{length-set, length-take, length-replicate}
use Rattle.std.proofs.lemmas.Option.{same_Some, none-some, slice_get-map}
use Rattle.cal_alloc.specs.Growth.{SegmentLayout}
use Rattle.cal_transport.specs.declared.settings.Settings.{Settings}
use Rattle.cal_transport.specs.declared.command.Command.{Command}
use Rattle.cal_transport.specs.declared.command.Command.TheVariants as command
use Rattle.cal_transport.specs.declared.reply.Reply.{Reply}
use Rattle.cal_transport.specs.declared.reply.Refusal.{Refusal}
use Rattle.cal_transport.specs.declared.reply.Refusal.TheVariants as refusal
use Rattle.cal_transport.specs.Settings.{clamped_settings, create_cause, first_layout}
use Rattle.cal_transport.specs.Ledger.{Ledger, Chunk, ChannelHistory, new_history, first_ledger, history_on, chunk_named, loaned_chunk, layout_at, is_mapped, queued_names, completed_names}
use Rattle.cal_transport.specs.Cause.{cause, write_cause, exceeds_bucket}
use Rattle.cal_transport.specs.Step.{IsStep, IsStepBy, Owes, after_step, after_step_by, after_command, front, name_sent_back, history_after_send, history_after_receive, history_after_release, history_after_reclaim, with_bytes, with_changed_chunk, grown_ledger, opened_after_receive, chunk_to_receive}
use Rattle.cal_transport.specs.Run.{AreSteps, after_steps}
use Rattle.cal_transport.specs.Soundness.{HasSizes, IsSoundHistory, IsSentChunk, IsSoundLedger, weight}
use Rattle.cal_transport.proofs.Opening.{can_make}
use Rattle.cal_transport.proofs.Steps.{find_stands}
use Rattle.cal_transport.proofs.Chunks.{same_place, loaned_stands}
use Rattle.cal_transport.proofs.Moving.{first_no, done_moves}
use Rattle.cal_transport.proofs.Moved.{WasSent}
use Rattle.cal_transport.proofs.Following.{Keeps, KeptFrom, KeepChunks, sound_then}
use Rattle.cal_transport.proofs.Growing.{padded_whole, sound_grown}
use Rattle.cal_transport.proofs.Lending.{sound_loan}

-- ---- chunks that keep their places

pub stays : (c : Chunk) → Keeps c c
stays c = record {
  name = refl;
  segment = refl;
  bucket = refl;
  bytes = refl;
  loaned = λ e. e;
  sent = λ e. e;
  fixed = λ e. refl;
}

pub same_chunks : (chunks : List Chunk) → KeepChunks chunks chunks
same_chunks chunks = record {
  from = λ i after stands. record { before = after; stands = stands; keeps = stays after };
  to = λ i before stands. record { after = before; stands = stands; keeps = stays before };
}

-- one name's chunk is changed, and keeps its name and bucket
abbrev pub changed_if : (Chunk → Chunk) → ℕ → Chunk → Chunk
changed_if change name chunk = cond (nat_eq chunk.name name) (change chunk) chunk

keeps_changed : (change : Chunk → Chunk) (name : ℕ) (c : Chunk) → (c.name ≡ name → Keeps c (change c)) →
    Keeps c (changed_if change name c)
keeps_changed change name c here = elim (eqb_tells c.name name) [
  | inl same ↦ subst (λ b. Keeps c (cond b (change c) c)) (sym same.0) (here same.1)
  | inr apart ↦ subst (λ b. Keeps c (cond b (change c) c)) (sym apart.0) (stays c)
]

pub changed_chunks : (chunks : List Chunk) (name : ℕ) (change : Chunk → Chunk) →
    ((i : ℕ) (c : Chunk) → slice_get chunks i ≡ Some c → c.name ≡ name → Keeps c (change c)) →
    KeepChunks chunks (with_changed_chunk change name chunks)
changed_chunks chunks name change keeps = record {
  from = λ i after stands. from chunks i after stands (λ c there. keeps_changed change name c (keeps i c there));
  to = λ i before stands. record {
    after = changed_if change name before;
    stands = slice_get-map (changed_if change name) chunks i ∙ ap (option_map (changed_if change name)) stands;
    keeps = keeps_changed change name before (keeps i before stands);
  };
}
  where
    from : (cs : List Chunk) (i : ℕ) (after : Chunk) → slice_get (map (changed_if change name) cs) i ≡ Some after →
        ((c : Chunk) → slice_get cs i ≡ Some c → Keeps c (changed_if change name c)) → KeptFrom cs i after
    from [] i after stands kept = absurd (none-some after stands)
    from (c ∷ cs) zero after stands kept = record {
      before = c;
      stands = refl;
      keeps = subst (Keeps c) (same_Some (changed_if change name c) after stands) (kept c refl);
    }
    from (c ∷ cs) (suc i) after stands kept =
        let rest = from cs i after stands kept in
        record { before = rest.before; stands = rest.stands; keeps = rest.keeps }

-- ---- what writes and sends make of a chunk

long_as_before : (bytes : List ℕ) (at : ℕ) (others : List ℕ) → at + length others ≤ length bytes →
    length (with_bytes bytes at others) ≡ length bytes
long_as_before bytes at others within = simp (length-append, length-take, length-drop) (omega arith)

-- the chunk wasn't sent, and the bytes that are written lie in it
pub record IsWritable (c : Chunk) (at : ℕ) (bytes : List ℕ) : Type 0 where
  pub unsent : c.sent ≡ false
  pub within : at + length bytes ≤ length c.bytes

pub may_write : (l : Ledger) (place name at : ℕ) (bytes : List ℕ) (i : ℕ) (c : Chunk) → IsSoundLedger l place →
    write_cause l (loaned_chunk l name) at (length bytes) ≡ None → slice_get l.chunks i ≡ Some c → c.name ≡ name →
    IsWritable c at bytes
may_write l place name at bytes i c sound none stands named = go (loaned_chunk l name) refl none
  where
    go : (o : Option Chunk) → loaned_chunk l name ≡ o → write_cause l o at (length bytes) ≡ None →
        IsWritable c at bytes
    go None is q = absurd (none-some refusal.NotLoaned (sym q))
    go (Some found) is q =
        let s = loaned_stands l name found is in
        let there = same_place l.chunks place s.index i found c sound.names s.stands stands
        (s.same_name ∙ sym named) in
        let same = same_Some found c (sym s.stands ∙ ap (slice_get l.chunks) there ∙ stands) in
        let unsent = first_no found.sent refusal.WriteAfterSend
        (cond (exceeds_bucket l found at (length bytes)) (Some refusal.OutsideChunk) None) q in
        let inside = first_no (exceeds_bucket l found at (length bytes)) refusal.OutsideChunk None unsent.1 in
        let fits = ltb-false (layout_at l found.segment).size (at + length bytes) inside.0 in
        let size = ap (λ x. (layout_at l x.segment).size) same in
        let long = (sound.within i c stands).bytes in
        record { unsent = ap (λ x. x.sent) (sym same) ∙ unsent.0; within = omega arith }

pub keeps_written : (c : Chunk) (at : ℕ) (bytes : List ℕ) → IsWritable c at bytes →
    Keeps c (record c { bytes = with_bytes c.bytes at bytes })
keeps_written c at bytes may = record {
  name = refl;
  segment = refl;
  bucket = refl;
  bytes = long_as_before c.bytes at bytes may.within;
  loaned = λ e. e;
  sent = λ e. e;
  fixed = λ e. absurd (true≢false (sym e ∙ may.unsent));
}

pub keeps_sent : (c : Chunk) → Keeps c (record c { sent = true })
keeps_sent c = record {
  name = refl;
  segment = refl;
  bucket = refl;
  bytes = refl;
  loaned = λ e. e;
  sent = λ e. refl;
  fixed = λ e. refl;
}

pub keeps_discarded : (c : Chunk) → Keeps c (record c { loaned = false })
keeps_discarded c = record {
  name = refl;
  segment = refl;
  bucket = refl;
  bytes = refl;
  loaned = λ e. absurd (true≢false (sym e));
  sent = λ e. e;
  fixed = λ e. refl;
}

abbrev pub marked_sent : Chunk → Chunk
marked_sent c = record c { sent = true }

same_send : (channel k name other : ℕ) → command.Send channel name ≡ command.Send k other → name ≡ other
same_send channel k name other e = cc

-- the chunk that was sent is marked so
sent_marked : (l after : Ledger) (k channel name other : ℕ) → after.settings ≡ l.settings →
    after.chunks ≡ with_changed_chunk marked_sent name l.chunks →
    WasSent l k (command.Send channel name) other → IsSentChunk after other
sent_marked l after k channel name other settings made sent =
    let s = sent.chunk in
    let same = same_send channel k name other sent.asked_is in
    let here = cond-true (nat_eq s.chunk.name name) (marked_sent s.chunk) s.chunk
    (eq-eqb s.chunk.name name (s.same_name ∙ sym same)) in
    let segments = ap (λ t. t.segments) settings in let samples = ap (λ t. t.samples) settings in
    let below = s.segment in let within = s.bucket in
    record {
      index = s.index;
      chunk = marked_sent s.chunk;
      stands = ap (λ cs. slice_get cs s.index) made
          ∙ slice_get-map (changed_if marked_sent name) l.chunks s.index
          ∙ ap (option_map (changed_if marked_sent name)) s.stands ∙ ap Some here;
      same_name = s.same_name;
      sent = refl;
      segment = omega arith;
      bucket = omega arith;
    }

-- the segment that a receive opens is one of the memory's
opened_received : (l : Ledger) (place : ℕ) (taken : Option ℕ) (segment : ℕ) → IsSoundLedger l place →
    opened_after_receive l (chunk_to_receive l taken) ≡ Some segment → segment < length l.segments
opened_received l place None segment sound is = sound.opened segment is
opened_received l place (Some name) segment sound is = from (chunk_named l name) refl is
  where
    either : (chunk : Chunk) (b : Bool) → chunk_named l name ≡ Some chunk →
        cond b l.opened_last (Some chunk.segment) ≡ Some segment → segment < length l.segments
    either chunk true found e = sound.opened segment e
    either chunk false found e =
        let s = find_stands l.chunks name chunk found in
        subst (λ n. n < length l.segments) (same_Some chunk.segment segment e) (sound.within s.0 chunk s.1).segment

    from : (found : Option Chunk) → chunk_named l name ≡ found → opened_after_receive l found ≡ Some segment →
        segment < length l.segments
    from None found e = sound.opened segment e
    from (Some chunk) found e = either chunk (is_mapped l chunk.segment) found e

-- ---- each command

-- what is to be shown of a command without a cause
abbrev KeepsSound : Ledger → ℕ → Reply → Command → Type 0
KeepsSound l place reply asked = cause l asked ≡ None → Owes l place asked reply →
    IsSoundLedger (after_command l place asked reply) (place + 1)

-- a command after which the chunks keep their places
kept_sound : (l : Ledger) (place : ℕ) (asked : Command) (reply : Reply) → IsSoundLedger l place →
    cause l asked ≡ None → Owes l place asked reply →
    (after_command l place asked reply).settings ≡ l.settings →
    (after_command l place asked reply).segments ≡ l.segments →
    KeepChunks l.chunks (after_command l place asked reply).chunks →
    length (after_command l place asked reply).histories ≡ length l.histories →
    ((k name : ℕ) → WasSent l k asked name → IsSentChunk (after_command l place asked reply) name) →
    ((segment : ℕ) → (after_command l place asked reply).opened_last ≡ Some segment → segment < length l.segments) →
    IsSoundLedger (after_command l place asked reply) (place + 1)
kept_sound l place asked reply sound none owes settings segments chunks channels marks opened =
    sound_then l (after_command l place asked reply) place asked reply sound (record {
      settings = settings;
      segments = segments;
      chunks = chunks;
      channels = channels;
      moves = λ k c here. done_moves l place reply k c sound here asked none owes;
      marks = marks;
      opened = opened;
    })

done_sound : (l : Ledger) (place : ℕ) (reply : Reply) → IsSoundLedger l place → (asked : Command) →
    KeepsSound l place reply asked
done_sound l place reply sound (command.Loan size alignment) none owes =
    sound_loan (grown_ledger l size alignment) place reply (sound_grown l place size alignment sound none) owes
done_sound l place reply sound (command.Write name at bytes) none owes =
    kept_sound l place (command.Write name at bytes) reply sound none owes refl refl
    (changed_chunks l.chunks name (λ c. record c { bytes = with_bytes c.bytes at bytes })
    (λ i c stands named. keeps_written c at bytes (may_write l place name at bytes i c sound none stands named)))
    refl (λ k other sent. absurd (let e = sent.asked_is in cc)) sound.opened
done_sound l place reply sound (command.Send channel name) none owes =
    let history = history_on l channel in
    kept_sound l place (command.Send channel name) reply sound none owes refl refl
    (changed_chunks l.chunks name marked_sent (λ i c stands named. keeps_sent c))
    (length-set l.histories channel (history_after_send history name (name_sent_back l history)))
    (λ k other sent. sent_marked l (after_command l place (command.Send channel name) reply) k channel name other refl
    refl sent) sound.opened
done_sound l place reply sound (command.Receive channel) none owes =
    let history = history_on l channel in
    kept_sound l place (command.Receive channel) reply sound none owes refl refl (same_chunks l.chunks)
    (length-set l.histories channel (history_after_receive history (front (queued_names history))))
    (λ k other sent. absurd (let e = sent.asked_is in cc))
    (λ segment is. opened_received l place (front (queued_names history)) segment sound is)
done_sound l place reply sound (command.Read channel name at len) none owes =
    kept_sound l place (command.Read channel name at len) reply sound none owes refl refl (same_chunks l.chunks) refl
    (λ k other sent. absurd (let e = sent.asked_is in cc)) sound.opened
done_sound l place reply sound (command.Release channel name) none owes =
    kept_sound l place (command.Release channel name) reply sound none owes refl refl (same_chunks l.chunks)
    (length-set l.histories channel (history_after_release (history_on l channel) name))
    (λ k other sent. absurd (let e = sent.asked_is in cc)) sound.opened
done_sound l place reply sound (command.Reclaim channel) none owes =
    let history = history_on l channel in
    kept_sound l place (command.Reclaim channel) reply sound none owes refl refl (same_chunks l.chunks)
    (length-set l.histories channel (history_after_reclaim history (front (completed_names history))))
    (λ k other sent. absurd (let e = sent.asked_is in cc)) sound.opened
done_sound l place reply sound (command.Discard name) none owes =
    kept_sound l place (command.Discard name) reply sound none owes refl refl
    (changed_chunks l.chunks name (λ c. record c { loaned = false }) (λ i c stands named. keeps_discarded c)) refl
    (λ k other sent. absurd (let e = sent.asked_is in cc)) sound.opened
done_sound l place reply sound command.Count none owes =
    kept_sound l place command.Count reply sound none owes refl refl (same_chunks l.chunks) refl
    (λ k other sent. absurd (let e = sent.asked_is in cc)) sound.opened

-- ---- every step

-- a refused command changes nothing
refused_sound : (l : Ledger) (place : ℕ) → IsSoundLedger l place → IsSoundLedger l (place + 1)
refused_sound l place sound = record {
  room = sound.room;
  segments = sound.segments;
  names = record {
    rising = sound.names.rising;
    before = λ i a stands. (let lt = sound.names.before i a stands in omega arith);
  };
  within = sound.within;
  apart = sound.apart;
  channels = sound.channels;
  histories = sound.histories;
  known = sound.known;
  opened = sound.opened;
}

pub sound_step : (l : Ledger) (place : ℕ) (asked : Command) (reply : Reply) → IsSoundLedger l place →
    IsStep l place asked reply → IsSoundLedger (after_step l place asked reply) (place + 1)
sound_step l place asked reply sound step = go (cause l asked) refl step
  where
    go : (o : Option Refusal) → cause l asked ≡ o → IsStepBy o l place asked reply →
        IsSoundLedger (after_step_by o l place asked reply) (place + 1)
    go None none owes = done_sound l place reply sound asked none owes
    go (Some why) is refused = refused_sound l place sound

pub sound_steps : (l : Ledger) (place : ℕ) (commands : List Command) (replies : List Reply) → IsSoundLedger l place →
    AreSteps l place commands replies → IsSoundLedger (after_steps l place commands replies) (place + length replies)
sound_steps l place commands [] sound steps =
    let same : place ≡ place + 0 = omega arith in subst (IsSoundLedger l) same sound
sound_steps l place [] (reply ∷ replies) sound steps = absurd steps
sound_steps l place (asked ∷ commands) (reply ∷ replies) sound steps =
    let next = after_step l place asked reply in
    let same : place + 1 + length replies ≡ place + length (reply ∷ replies) = omega arith in
    subst (IsSoundLedger (after_steps next (place + 1) commands replies)) same
    (sound_steps next (place + 1) commands replies (sound_step l place asked reply sound steps.0) steps.1)

-- ---- the first ledger

pub new_sound : (s : Settings) → IsSoundHistory s new_history
new_sound s = record {
  orderly = record {
    left_sent = omega arith;
    released_received = omega arith;
    reclaimed_released = omega arith;
    named = λ name. omega arith;
    once = λ name. omega arith;
  };
  in_order = record { departures = refl; reclaims = refl };
  limits = record { queued = omega arith; borrowed = omega arith; completed = omega arith };
}

all_new : (n k : ℕ) (c : ChannelHistory) → slice_get (replicate n new_history) k ≡ Some c → c ≡ new_history
all_new zero k c stands = absurd (none-some c stands)
all_new (suc n) zero c stands = sym (same_Some new_history c stands)
all_new (suc n) (suc k) c stands = all_new n k c stands

pub first_sizes : (s : Settings) → create_cause s ≡ None → HasSizes (first_layout s)
first_sizes s none =
    let m = can_make s none in
    let aligned = m.aligned in let size = m.size in
    record {
      power = m.alignment;
      supported = m.supported;
      padded = padded_whole s.size s.alignment (omega arith);
      not_empty = omega arith;
      payload = m.payload;
      count = m.few;
    }

one_layout : (first : SegmentLayout) (i : ℕ) (buckets : SegmentLayout) → HasSizes first →
    slice_get (first ∷ []) i ≡ Some buckets → HasSizes buckets
one_layout first zero buckets sizes stands = subst HasSizes (same_Some first buckets stands) sizes
one_layout first (suc i) buckets sizes stands = absurd (none-some buckets stands)

pub sound_first : (s : Settings) → create_cause s ≡ None → IsSoundLedger (first_ledger s) 1
sound_first s none = record {
  room = record {
    buffer = omega arith;
    borrow = omega arith;
    samples = omega arith;
    segments = omega arith;
    channels = omega arith;
  };
  segments = record {
    some = omega arith;
    few = omega arith;
    sizes = λ i buckets stands. one_layout (first_layout s) i buckets (first_sizes s none) stands;
  };
  names = record {
    rising = λ i j a b first second below. absurd (none-some a first);
    before = λ i a stands. absurd (none-some a stands);
  };
  within = λ i a stands. absurd (none-some a stands);
  apart = λ i j a b first second alive living share. absurd (none-some a first);
  channels = length-replicate (clamped_settings s).channels new_history;
  histories = λ k c stands. subst (IsSoundHistory (clamped_settings s))
      (sym (all_new (clamped_settings s).channels k c stands)) (new_sound (clamped_settings s));
  known = λ k c name stands some. absurd (
      let e = ap (λ h. weight h name) (all_new (clamped_settings s).channels k c stands) in omega arith);
  opened = λ segment is. absurd (none-some segment is);
}

pub sound_run : (s : Settings) (commands : List Command) (replies : List Reply) → create_cause s ≡ None →
    AreSteps (first_ledger s) 1 commands replies →
    IsSoundLedger (after_steps (first_ledger s) 1 commands replies) (1 + length replies)
sound_run s commands replies none steps =
    sound_steps (first_ledger s) 1 commands replies (sound_first s none) steps
