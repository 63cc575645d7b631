-- How a chunk with a frame is made, command by command: what the ledger has of chunks.
use Rattle.std.proofs.Common.{ℕ, zero, suc, ◌+◌, ◌/◌, ◌^◌, ◌<◌, ◌≡◌, Bool, true, false, cond, List, [], ◌∷◌, ◌++◌, length, drop, Some, refl, sym, ap, ◌∙◌, subst, arith}
use Rattle.std.specs.List.{slice_get}
use Rattle.std.proofs.lemmas.List.{take_at, length_push}
use Rattle.std.proofs.lemmas.Option.{same_Some, none-some, slice_get_within}
use Rattle.cal_transport.specs.declared.command.Command.TheVariants as command
use Rattle.cal_transport.specs.declared.reply.Reply.{Reply}
use Rattle.cal_transport.specs.declared.reply.Reply.TheVariants.{Loaned}
use Rattle.cal_transport.specs.declared.reply.Slot.{Slot}
use Rattle.cal_transport.specs.Ledger.{Ledger, Chunk, layout_at, current}
use Rattle.cal_transport.specs.LoanCause.{serves, next_segment}
use Rattle.cal_transport.specs.Cause.{current_segment}
use Rattle.cal_transport.specs.Step.{after_command, after_loan, grown_ledger, new_chunk, with_bytes, with_changed_chunk}
use Rattle.cal_frames.specs.Carrying.{BeginsWith, AreNamedBelow, HasFrames, packet_of}
use Rattle.cal_frames.proofs.Named.{KeepsName, begins_same, named_added, begins_added, begins_new, named_changed, begins_elsewhere, begins_unchanged, begins_changed}

-- ---- the same chunks

pub frames_same : (l l' : Ledger) (frames : List (List ℕ)) → l'.chunks ≡ l.chunks → HasFrames l frames →
    HasFrames l' frames
frames_same l l' frames same has = record {
  packets = λ i frame stands. begins_same l l' i (packet_of frame) same (has.packets i frame stands);
  sizes = has.sizes;
}

-- a change that leaves names and bytes leaves the frames
pub frames_unchanged : (l l' : Ledger) (change : Chunk → Chunk) (name : ℕ) (frames : List (List ℕ)) →
    KeepsName change → ((chunk : Chunk) → (change chunk).bytes ≡ chunk.bytes) →
    l'.chunks ≡ with_changed_chunk change name l.chunks → HasFrames l frames → HasFrames l' frames
frames_unchanged l l' change name frames keeps same_bytes changed has = record {
  packets = λ i frame stands.
      begins_unchanged l l' change name i (packet_of frame) keeps same_bytes changed (has.packets i frame stands);
  sizes = has.sizes;
}

-- ---- a chunk in the making

-- the frames' chunks, and one chunk more, which begins with these bytes
pub record IsMaking (l : Ledger) (frames : List (List ℕ)) (written : List ℕ) : Type 0 where
  pub named : AreNamedBelow l (length frames + 1)
  pub has : HasFrames l frames
  pub made : BeginsWith l (length frames) written

-- growth leaves chunks and channels
grown_chunks : (l : Ledger) (size alignment : ℕ) → (grown_ledger l size alignment).chunks ≡ l.chunks
grown_chunks l size alignment = go (serves (current_segment l) size alignment)
  where
    go : (b : Bool) → (cond b l (record l
        { segments = l.segments ++ next_segment (current_segment l) size alignment ∷ [] })).chunks ≡ l.chunks
    go true = refl
    go false = refl

pub grown_histories : (l : Ledger) (size alignment : ℕ) → (grown_ledger l size alignment).histories ≡ l.histories
grown_histories l size alignment = go (serves (current_segment l) size alignment)
  where
    go : (b : Bool) → (cond b l (record l
        { segments = l.segments ++ next_segment (current_segment l) size alignment ∷ [] })).histories ≡ l.histories
    go true = refl
    go false = refl

pub loaned : (l : Ledger) (frames : List (List ℕ)) (size alignment : ℕ) (slot : Slot) →
    AreNamedBelow l (length frames) → HasFrames l frames →
    IsMaking (after_command l (length frames) (command.Loan size alignment) (Loaned slot)) frames []
loaned l frames size alignment slot below has =
    let grown = grown_ledger l size alignment in
    let l' = after_loan grown (length frames) (Loaned slot) in
    let buckets = (layout_at grown (current grown)).size in
    let new : Chunk = new_chunk (length frames) (current grown) (slot.place / buckets) buckets in
    let added : l'.chunks ≡ l.chunks ++ new ∷ [] = ap (λ cs. cs ++ new ∷ []) (grown_chunks l size alignment) in
    record {
      named = named_added l l' new added below;
      has = record {
        packets = λ i frame stands. begins_added l l' new i (packet_of frame) added (has.packets i frame stands);
        sizes = has.sizes;
      };
      made = begins_new l l' new added below;
    }

-- bytes are written behind those that the chunk begins with
behind : (written rest bytes : List ℕ) (at : ℕ) → at ≡ length written →
    with_bytes (written ++ rest) at bytes ≡ (written ++ bytes) ++ drop (at + length bytes) (written ++ rest)
behind written rest bytes at is =
    ap (λ front. front ++ bytes ++ drop (at + length bytes) (written ++ rest)) (take_at written rest at (sym is))

pub wrote : (l : Ledger) (frames : List (List ℕ)) (written bytes : List ℕ) (place at : ℕ) (reply : Reply) →
    at ≡ length written → IsMaking l frames written →
    IsMaking (after_command l place (command.Write (length frames) at bytes) reply) frames (written ++ bytes)
wrote l frames written bytes place at reply is making =
    let l' = after_command l place (command.Write (length frames) at bytes) reply in
    let change : Chunk → Chunk = λ chunk. record chunk { bytes = with_bytes chunk.bytes at bytes } in
    let keeps : KeepsName change = record { name = λ chunk. refl } in
    let b = making.made in
    record {
      named = named_changed l l' change (length frames) (length frames + 1) keeps refl making.named;
      has = record {
        packets = λ i frame stands.
            (let within = slice_get_within frames i frame stands in
            begins_elsewhere l l' change (length frames) i (packet_of frame) keeps refl (λ e. absurd (omega arith))
            (making.has.packets i frame stands));
        sizes = making.has.sizes;
      };
      made = begins_changed l l' change (length frames) written (written ++ bytes)
          (drop (at + length bytes) (written ++ b.rest)) keeps refl b
          (ap (λ all. with_bytes all at bytes) b.bytes_are ∙ behind written b.rest bytes at is);
    }

-- a frame that was made is one of the frames
at_push : (frames : List (List ℕ)) (frame other : List ℕ) (i : ℕ) → slice_get (frames ++ frame ∷ []) i ≡ Some other →
    (P : ℕ → List ℕ → Type 0) → ((x : List ℕ) → slice_get frames i ≡ Some x → P i x) → P (length frames) frame →
    P i other
at_push [] frame other zero e P old new = subst (λ f. P 0 f) (same_Some frame other e) new
at_push [] frame other (suc i) e P old new = absurd (none-some other e)
at_push (x ∷ frames) frame other zero e P old new = old other e
at_push (x ∷ frames) frame other (suc i) e P old new =
    at_push frames frame other i e (λ j f. P (suc j) f) old new

pub made_frame : (l : Ledger) (frames : List (List ℕ)) (frame : List ℕ) → length frame < 2 ^ 64 →
    IsMaking l frames (packet_of frame) → HasFrames l (frames ++ frame ∷ [])
made_frame l frames frame small making = record {
  packets = λ i other stands. at_push frames frame other i stands (λ j f. BeginsWith l j (packet_of f))
      (making.has.packets i) making.made;
  sizes = λ i other stands. at_push frames frame other i stands (λ j f. length f < 2 ^ 64) (making.has.sizes i) small;
}

pub made_named : (l : Ledger) (frames : List (List ℕ)) (frame : List ℕ) → AreNamedBelow l (length frames + 1) →
    AreNamedBelow l (length (frames ++ frame ∷ []))
made_named l frames frame below = subst (λ n. AreNamedBelow l n) (sym (length_push frames frame)) below
