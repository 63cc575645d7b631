-- What the sender's side and the receiver's side do with frames.
use Rattle.std.specs.Prelude.{ℕ, ◌+◌, ◌^◌, ◌<◌, ◌≤◌, ◌≡◌, Bool, true, false, List, [], ◌∷◌, ◌++◌, length, Option, Some, None, slice_get}
use Rattle.cal_transport.specs.Ledger.{Ledger}
use Rattle.cal_transport.specs.Standing.{StandsFor}
use Rattle.cal_transport.specs.State.{TransportState}
use Rattle.cal_frames.specs.Carrying.{BeginsWith, Carries, packet_of}

-- one more frame was handed over, which waits in the queue; older ones may have left it
pub record CarriesNext (new : TransportState) (frames : List (List ℕ)) (frame : List ℕ) (left : ℕ) : Type 0 where
  pub left_now : ℕ
  pub more : left ≤ left_now
  pub waits : left_now ≤ length frames
  pub carries : Carries new (frames ++ frame ∷ []) left_now

-- a frame is handed over in a chunk of this name, whatever was handed over before
abbrev pub HandsOver : TransportState → ℕ → List ℕ → TransportState → Type 0
HandsOver old name frame new = (frames : List (List ℕ)) (left : ℕ) → Carries old frames left →
    length frames ≡ name → CarriesNext new frames frame left

-- the oldest frame that waits is taken, if there is one
abbrev pub Takes : TransportState → Option (List ℕ) → TransportState → Type 0
Takes old None new = (frames : List (List ℕ)) (left : ℕ) → Carries old frames left →
    (left ≡ length frames) × Carries new frames left
Takes old (Some frame) new = (frames : List (List ℕ)) (left : ℕ) → Carries old frames left →
    (slice_get frames left ≡ Some frame) × Carries new frames (left + 1)

-- the bytes are the frame that the chunk of that name begins with
abbrev pub Reads : TransportState → ℕ → List ℕ → Type 0
Reads t name bytes = (l : Ledger) (frame : List ℕ) → StandsFor t l → BeginsWith l name (packet_of frame) →
    length frame < 2 ^ 64 → bytes ≡ frame

-- the oldest frame that waits is shown behind the others, if there is one
abbrev pub Shows : TransportState → List (List ℕ) → Bool → TransportState → List (List ℕ) → Type 0
Shows old shown true new now = (frame : List ℕ) × Takes old (Some frame) new × (now ≡ shown ++ frame ∷ [])
Shows old shown false new now = Takes old None new × (now ≡ shown)
