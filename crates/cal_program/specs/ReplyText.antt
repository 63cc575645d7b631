-- The text of replies: a line for each.
use Rattle.std.specs.Prelude.{ℕ, List, [], ◌∷◌, ◌++◌, Some, None, decimal, codes}
use Rattle.std.specs.List.{flat_map}
use Rattle.cal_transport.specs.declared.reply.Slot.{Slot}
use Rattle.cal_transport.specs.declared.reply.Count as declared_count
use Rattle.cal_transport.specs.declared.reply.Refusal.{Refusal}
use Rattle.cal_transport.specs.declared.reply.Refusal.TheVariants.{BadLayout, ExceedsMaxSupportedAlignment, SizeTooLarge, OutOfMemory, MaxReallocationsReached, SizeOutOfRange, InternalError, NotLoaned, WriteAfterSend, OutsideChunk, OutsideConnection, AlreadyInTransit, ReceiveBufferFull, ReceiveWouldExceedMaxBorrowValue, NotBorrowed, RetrieveBufferFull}
use Rattle.cal_transport.specs.declared.reply.Reply.{Reply}
use Rattle.cal_transport.specs.declared.reply.Reply.TheVariants.{Loaned, Written, Sent, Received, Shown, Released, Reclaimed, Discarded, Counted, Refused, Transit}
use Rattle.cal_program.specs.Spelling.{spaced_words, hex}

-- the chunk, and its segment and place with a colon between
abbrev pub slot_text : Slot → List ℕ
slot_text slot = decimal slot.chunk ++ codes " " ++ decimal slot.segment ++ codes ":" ++ decimal slot.place

abbrev pub count_text : declared_count.Count → List ℕ
count_text c = spaced_words
    (decimal c.active ∷ decimal c.mapped ∷ decimal c.current ∷ decimal c.size ∷ decimal c.buckets ∷ [])

abbrev pub refusal_name : Refusal → List ℕ
refusal_name BadLayout = codes "BadLayout"
refusal_name ExceedsMaxSupportedAlignment = codes "ExceedsMaxSupportedAlignment"
refusal_name SizeTooLarge = codes "SizeTooLarge"
refusal_name OutOfMemory = codes "OutOfMemory"
refusal_name MaxReallocationsReached = codes "MaxReallocationsReached"
refusal_name SizeOutOfRange = codes "SizeOutOfRange"
refusal_name InternalError = codes "InternalError"
refusal_name NotLoaned = codes "NotLoaned"
refusal_name WriteAfterSend = codes "WriteAfterSend"
refusal_name OutsideChunk = codes "OutsideChunk"
refusal_name OutsideConnection = codes "OutsideConnection"
refusal_name AlreadyInTransit = codes "AlreadyInTransit"
refusal_name ReceiveBufferFull = codes "ReceiveBufferFull"
refusal_name ReceiveWouldExceedMaxBorrowValue = codes "ReceiveWouldExceedMaxBorrowValue"
refusal_name NotBorrowed = codes "NotBorrowed"
refusal_name RetrieveBufferFull = codes "RetrieveBufferFull"

abbrev pub reply_text : Reply → List ℕ
reply_text (Loaned slot) = codes "loaned " ++ slot_text slot
reply_text Written = codes "written"
reply_text (Sent None) = codes "sent"
reply_text (Sent (Some slot)) = codes "sent back " ++ slot_text slot
reply_text (Received None) = codes "received none"
reply_text (Received (Some slot)) = codes "received " ++ slot_text slot
reply_text (Shown bytes) = codes "bytes " ++ hex bytes
reply_text Released = codes "released"
reply_text (Reclaimed None) = codes "reclaimed none"
reply_text (Reclaimed (Some slot)) = codes "reclaimed " ++ slot_text slot
reply_text Discarded = codes "discarded"
reply_text (Counted count) = codes "counted " ++ count_text count
reply_text (Refused refusal) = codes "refused " ++ refusal_name refusal
reply_text (Transit channel slot) = codes "transit " ++ decimal channel ++ codes " " ++ slot_text slot

-- a text, and a line feed
abbrev pub line : List ℕ → List ℕ
line text = text ++ 10 ∷ []

-- the lines of these replies
abbrev pub reply_lines : List Reply → List ℕ
reply_lines = flat_map (λ reply. line (reply_text reply))
