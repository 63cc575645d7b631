-- Sums over lists, and what is counted of a ledger's chunks and channels.
use Rattle.std.specs.Prelude.{ℕ, ◌+◌, Bool, ◌&&◌, ◌==◌, List, [], ◌∷◌, if◌then◌else◌}
use Rattle.std.specs.List.{list_any}
use Rattle.cal_transport.specs.Ledger.{Ledger, Chunk, ChannelHistory, is_in_transit, is_borrowed, is_live}

-- the sum of what the elements of a list weigh
abbrev pub total : {A : Type 0} → (A → ℕ) → List A → ℕ
total weight [] = 0
total weight (x ∷ xs) = weight x + total weight xs

abbrev pub one_if : Bool → ℕ
one_if passes = if passes then 1 else 0

-- on how many channels a chunk is in transit, and on how many it is borrowed
abbrev pub transits : List ChannelHistory → ℕ → ℕ
transits histories name = total (λ history. one_if (is_in_transit history name)) histories

abbrev pub borrows : List ChannelHistory → ℕ → ℕ
borrows histories name = total (λ history. one_if (is_borrowed history name)) histories

-- a chunk lies in this bucket
abbrev pub lies_in : ℕ → ℕ → Chunk → Bool
lies_in segment bucket chunk = chunk.segment == segment && chunk.bucket == bucket

-- some chunk of the bucket passes a test
abbrev pub holds : (Chunk → Bool) → List Chunk → ℕ → ℕ → Bool
holds test chunks segment bucket = list_any (λ chunk. lies_in segment bucket chunk && test chunk) chunks

-- how many chunks of a segment are live
abbrev pub live_in : Ledger → ℕ → ℕ
live_in l segment = total (λ chunk. one_if (chunk.segment == segment && is_live l chunk)) l.chunks

-- how many chunks of a segment are borrowed, each counted once for each channel
abbrev pub borrowed_in : Ledger → ℕ → ℕ
borrowed_in l segment =
    total (λ chunk. if chunk.segment == segment then borrows l.histories chunk.name else 0) l.chunks

-- how many chunks are in transit on a channel, and on all of them, each counted once for each channel
abbrev pub transits_on : ChannelHistory → List Chunk → ℕ
transits_on history chunks = total (λ chunk. one_if (is_in_transit history chunk.name)) chunks

abbrev pub transits_in : Ledger → ℕ
transits_in l = total (λ chunk. transits l.histories chunk.name) l.chunks
