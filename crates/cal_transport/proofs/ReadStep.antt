-- A read is a step, and changes nothing.
use Rattle.std.proofs.Common.{ℕ, ◌+◌, ◌<◌, ◌≤◌, ◌≡◌, true, false, cond, not, nat_lt, List, take, drop, Option, Some, None, refl, sym, ap, ◌∙◌, subst, arith}
use Rattle.std.proofs.lemmas.Bool.{le-leb, lt-ltb}
use Rattle.std.proofs.lemmas.Bool.Decides.{nat_tests}
use Rattle.cal_transport.specs.declared.command.Command.TheVariants as command
use Rattle.cal_transport.specs.declared.reply.Reply.TheVariants.{Shown, Refused}
use Rattle.cal_transport.specs.declared.reply.Refusal.TheVariants as refusal
use Rattle.cal_transport.specs.Ledger.{Ledger, Chunk, ChannelHistory, layout_at, history_on, chunk_named, is_borrowed}
use Rattle.cal_transport.specs.Cause.{read_cause, is_channel_outside, exceeds_bucket}
use Rattle.cal_transport.specs.Step.{bytes_of_chunk}
use Rattle.cal_transport.specs.Core.{Core}
use Rattle.cal_transport.specs.Shown.{Shows, Tracks}
use Rattle.cal_transport.proofs.Changing.{le_false}
use Rattle.cal_transport.proofs.Stands.{Steps, refused, done}

pub read_outside : (p : Core) (l : Ledger) (place k name at len : ℕ) → Shows p l → Tracks p l →
    p.settings.channels ≤ k → Steps p l place (command.Read k name at len) (Refused refusal.OutsideConnection)
read_outside p l place k name at len shows tracks past =
    refused p l place (command.Read k name at len) refusal.OutsideConnection shows tracks
    (go (chunk_named l name))
  where
    outside : is_channel_outside l k ≡ true
    outside = le-leb l.settings.channels k (subst (λ t. t.channels ≤ k) shows.settings past)

    go : (o : Option Chunk) → read_cause l k o at len ≡ Some refusal.OutsideConnection
    go None = ap (λ b. cond b (Some refusal.OutsideConnection) (Some refusal.NotBorrowed)) outside
    go (Some chunk) =
        ap (λ b. cond b (Some refusal.OutsideConnection) (cond (not (is_borrowed (history_on l k) chunk.name))
        (Some refusal.NotBorrowed) (cond (exceeds_bucket l chunk at len) (Some refusal.OutsideChunk) None))) outside

pub read_unnamed : (p : Core) (l : Ledger) (place k name at len : ℕ) → Shows p l → Tracks p l →
    k < l.settings.channels → chunk_named l name ≡ None →
    Steps p l place (command.Read k name at len) (Refused refusal.NotBorrowed)
read_unnamed p l place k name at len shows tracks inside none =
    refused p l place (command.Read k name at len) refusal.NotBorrowed shows tracks
    (ap (λ o. read_cause l k o at len) none
    ∙ ap (λ b. cond b (Some refusal.OutsideConnection) (Some refusal.NotBorrowed))
    (le_false l.settings.channels k inside))

-- of a chunk of a channel that is there
read_decides : (l : Ledger) (k name at len : ℕ) (h : ChannelHistory) (chunk : Chunk) → k < l.settings.channels →
    history_on l k ≡ h → chunk_named l name ≡ Some chunk → read_cause l k (chunk_named l name) at len
    ≡ cond (not (is_borrowed h chunk.name)) (Some refusal.NotBorrowed)
    (cond (exceeds_bucket l chunk at len) (Some refusal.OutsideChunk) None)
read_decides l k name at len h chunk inside on named =
    ap (λ o. read_cause l k o at len) named
    ∙ ap (λ b. cond b (Some refusal.OutsideConnection) (cond (not (is_borrowed (history_on l k) chunk.name))
    (Some refusal.NotBorrowed) (cond (exceeds_bucket l chunk at len) (Some refusal.OutsideChunk) None)))
    (le_false l.settings.channels k inside)
    ∙ ap (λ e. cond (not (is_borrowed e chunk.name)) (Some refusal.NotBorrowed)
    (cond (exceeds_bucket l chunk at len) (Some refusal.OutsideChunk) None)) on

pub read_unborrowed : (p : Core) (l : Ledger) (place k name at len : ℕ) (h : ChannelHistory) (chunk : Chunk) →
    Shows p l → Tracks p l → k < l.settings.channels → history_on l k ≡ h → chunk_named l name ≡ Some chunk →
    is_borrowed h chunk.name ≡ false → Steps p l place (command.Read k name at len) (Refused refusal.NotBorrowed)
read_unborrowed p l place k name at len h chunk shows tracks inside on named not_there =
    refused p l place (command.Read k name at len) refusal.NotBorrowed shows tracks
    (read_decides l k name at len h chunk inside on named
    ∙ ap (λ b. cond (not b) (Some refusal.NotBorrowed)
    (cond (exceeds_bucket l chunk at len) (Some refusal.OutsideChunk) None)) not_there)

read_borrowed : (l : Ledger) (k name at len : ℕ) (h : ChannelHistory) (chunk : Chunk) → k < l.settings.channels →
    history_on l k ≡ h → chunk_named l name ≡ Some chunk → is_borrowed h chunk.name ≡ true →
    read_cause l k (chunk_named l name) at len ≡ cond (exceeds_bucket l chunk at len) (Some refusal.OutsideChunk) None
read_borrowed l k name at len h chunk inside on named borrowed =
    read_decides l k name at len h chunk inside on named
    ∙ ap (λ b. cond (not b) (Some refusal.NotBorrowed)
    (cond (exceeds_bucket l chunk at len) (Some refusal.OutsideChunk) None)) borrowed

pub read_past : (p : Core) (l : Ledger) (place k name at len : ℕ) (h : ChannelHistory) (chunk : Chunk) → Shows p l →
    Tracks p l → k < l.settings.channels → history_on l k ≡ h → chunk_named l name ≡ Some chunk →
    is_borrowed h chunk.name ≡ true → (layout_at l chunk.segment).size < at + len →
    Steps p l place (command.Read k name at len) (Refused refusal.OutsideChunk)
read_past p l place k name at len h chunk shows tracks inside on named borrowed past =
    refused p l place (command.Read k name at len) refusal.OutsideChunk shows tracks
    (read_borrowed l k name at len h chunk inside on named borrowed
    ∙ ap (λ b. cond b (Some refusal.OutsideChunk) None) (lt-ltb (layout_at l chunk.segment).size (at + len) past))

pub reads : (p : Core) (l : Ledger) (place k name at len : ℕ) (h : ChannelHistory) (chunk : Chunk) (bytes : List ℕ) →
    Shows p l → Tracks p l → k < l.settings.channels → history_on l k ≡ h → chunk_named l name ≡ Some chunk →
    is_borrowed h chunk.name ≡ true → at + len ≤ (layout_at l chunk.segment).size →
    bytes ≡ take len (drop at chunk.bytes) → Steps p l place (command.Read k name at len) (Shown bytes)
reads p l place k name at len h chunk bytes shows tracks inside on named borrowed within is =
    done p l l place (command.Read k name at len) (Shown bytes)
    (read_borrowed l k name at len h chunk inside on named borrowed
    ∙ ap (λ b. cond b (Some refusal.OutsideChunk) None)
    (lt_false (layout_at l chunk.segment).size (at + len) within))
    (ap Shown (is ∙ ap (λ o. bytes_of_chunk o at len) (sym named))) refl shows tracks
  where
    lt_false : (a b : ℕ) → b ≤ a → nat_lt a b ≡ false
    lt_false a b h = grind (arith, nat_tests)
