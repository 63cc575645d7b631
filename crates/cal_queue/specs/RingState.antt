-- The two rings of a channel by what happened on them. Values are sent into the submission ring, and each leaves it by
-- being received, or by overflowing back to the sender. What was received is later released into the completion ring,
-- and reclaimed from it. No words of memory are spoken of here: a ring's rule says which state its words represent.
use Rattle.std.specs.Prelude.{◌≡◌, ℕ, ◌+◌, ◌-◌, ◌<◌, ◌≤◌, Bool, true, false, List, [], ◌∷◌, ◌++◌, length, if◌then◌else◌}

-- how a value left the submission ring
pub data Tag : Type 0 where
  received : Tag
  overflowed : Tag

pub record RingState : Type 0 where
  -- the values sent, the first one first; a value's index in this list is its position
  pub sent : List ℕ
  -- how the values at the first positions left the submission ring; the values at the other positions are queued
  pub tags : List Tag
  -- the values released, the first one first
  pub released : List ℕ
  -- how many of these were reclaimed
  pub reclaimed : ℕ

-- the state in which nothing has happened
abbrev pub unused_state : RingState
unused_state = record { sent = []; tags = []; released = []; reclaimed = 0 }

-- how many values are queued, and how many are released and not reclaimed
abbrev pub queued_count : RingState → ℕ
queued_count c = length c.sent - length c.tags

abbrev pub unreclaimed_count : RingState → ℕ
unreclaimed_count c = length c.released - c.reclaimed

pub data Event : Type 0 where
  sends : ℕ → Event
  overflows : Event
  receives : Event
  releases : ℕ → Event
  reclaims : Event

-- how many values may be queued between two calls, and how many may be released and not reclaimed
pub record Bounds : Type 0 where
  pub buffer : ℕ
  pub completion : ℕ

-- when each event may happen. Between a send and the overflow that it causes, one value more than the buffer holds is
-- queued
abbrev pub MayHappen : Bounds → RingState → Event → Type 0
MayHappen b c (sends value) = queued_count c ≤ b.buffer
MayHappen b c overflows = queued_count c ≡ b.buffer + 1
MayHappen b c receives = 1 ≤ queued_count c
MayHappen b c (releases value) = unreclaimed_count c < b.completion
MayHappen b c reclaims = 1 ≤ unreclaimed_count c

-- the state after an event
abbrev pub after_event : RingState → Event → RingState
after_event c (sends value) = record c { sent = c.sent ++ value ∷ [] }
after_event c overflows = record c { tags = c.tags ++ overflowed ∷ [] }
after_event c receives = record c { tags = c.tags ++ received ∷ [] }
after_event c (releases value) = record c { released = c.released ++ value ∷ [] }
after_event c reclaims = record c { reclaimed = c.reclaimed + 1 }

-- these events lead from one state to another, each allowed where it happens
abbrev pub IsSchedule : Bounds → RingState → List Event → RingState → Type 0
IsSchedule b c [] d = c ≡ d
IsSchedule b c (e ∷ es) d = MayHappen b c e × IsSchedule b (after_event c e) es d

-- some schedule leads from the unused state to this one
abbrev pub IsReached : Bounds → RingState → Type 0
IsReached b c = (events : List Event) × IsSchedule b unused_state events c

abbrev pub is_same_tag : Tag → Tag → Bool
is_same_tag received received = true
is_same_tag received overflowed = false
is_same_tag overflowed received = false
is_same_tag overflowed overflowed = true

-- the positions with this tag, each with the value that was sent there; `first` is the position of the first tag
abbrev pub tagged_positions : Tag → ℕ → List Tag → List ℕ → List (ℕ × ℕ)
tagged_positions tag first [] values = []
tagged_positions tag first (t ∷ ts) [] = []
tagged_positions tag first (t ∷ ts) (v ∷ vs) =
    if is_same_tag t tag
    then (first, v) ∷ tagged_positions tag (first + 1) ts vs
    else tagged_positions tag (first + 1) ts vs

-- the state with these values sent, these tags, and these values released, of which so many were reclaimed
abbrev pub ring_state : List ℕ → List Tag → List ℕ → ℕ → RingState
ring_state sent tags released reclaimed =
    record { sent = sent; tags = tags; released = released; reclaimed = reclaimed }

-- some schedule leads to these values and tags, whatever room there is for released values
abbrev pub IsSubmitted : ℕ → List ℕ → List Tag → Type 0
IsSubmitted buffer sent tags =
    (completion : ℕ) → IsReached (record { buffer = buffer; completion = completion }) (ring_state sent tags [] 0)

-- after whatever was submitted, some schedule releases these values and reclaims so many of them
abbrev pub IsCompleted : ℕ → List ℕ → ℕ → Type 0
IsCompleted completion released reclaimed =
    (buffer : ℕ) (sent : List ℕ) (tags : List Tag)
    → IsReached (record { buffer = buffer; completion = completion }) (ring_state sent tags [] 0)
    → IsReached (record { buffer = buffer; completion = completion }) (ring_state sent tags released reclaimed)

-- so one schedule of the channel leads to what both rings say
pub IsReached-both : (b : Bounds) (sent : List ℕ) (tags : List Tag) (released : List ℕ) (reclaimed : ℕ)
    → IsSubmitted b.buffer sent tags → IsCompleted b.completion released reclaimed
    → IsReached b (ring_state sent tags released reclaimed)
IsReached-both b sent tags released reclaimed submitted completed =
    completed b.buffer sent tags (submitted b.completion)
