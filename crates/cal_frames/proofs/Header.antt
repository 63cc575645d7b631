-- The bytes of a frame's length.
use Rattle.std.proofs.Common.{ℕ, ◌^◌, ◌<◌, ◌≡◌, List, ◌++◌, length, take, drop, refl, ap, ◌∙◌}
use Rattle.std.specs.Int.{w64, to_le_bytes, from_le_bytes}
use Rattle.std.proofs.lemmas.List.{append_assoc, take_at, drop_at}
use Rattle.std.proofs.lemmas.Nat.{from_le_bytes-to_le_bytes_8}
use Rattle.cal_frames.specs.Carrying.{header_of, packet_of}

pub header_is : (n : ℕ) → header_of n ≡ to_le_bytes w64 n
unfolding header_of
header_is n = refl

pub length-header : (n : ℕ) → length (header_of n) ≡ 8
unfolding header_of
length-header n = refl

pub header_gives : (n : ℕ) → n < 2 ^ 64 → from_le_bytes w64 (header_of n) ≡ n
unfolding header_of
header_gives n small = from_le_bytes-to_le_bytes_8 n small

-- a packet's first eight bytes
pub packet_header : (frame rest : List ℕ) → take 8 (packet_of frame ++ rest) ≡ header_of (length frame)
packet_header frame rest =
    ap (λ all. take 8 all) (append_assoc (header_of (length frame)) frame rest)
    ∙ take_at (header_of (length frame)) (frame ++ rest) 8 (length-header (length frame))

-- and what is behind them
pub packet_frame : (frame rest : List ℕ) → take (length frame) (drop 8 (packet_of frame ++ rest)) ≡ frame
packet_frame frame rest =
    ap (λ all. take (length frame) (drop 8 all)) (append_assoc (header_of (length frame)) frame rest)
    ∙ (ap (λ all. take (length frame) all)
    (drop_at (header_of (length frame)) (frame ++ rest) 8 (length-header (length frame)))
    ∙ take_at frame rest (length frame) refl)
