-- A segment has no more live chunks than there are chunks, so one more can be counted.
use Rattle.std.proofs.Common.{◌-◌, ◌^◌, ◌<◌, ◌≤◌, Bool, true, false, ◌&&◌, nat_eq, List, [], ◌∷◌, length, ap, ◌∙◌, arith}
use Rattle.std.proofs.lemmas.List.{length-map}
use Rattle.cal_resizable.specs.Slots.{count_at}
use Rattle.cal_transport.specs.Ledger.{Ledger, Chunk, current, is_live}
use Rattle.cal_transport.specs.Shown.{entry_of}
use Rattle.cal_transport.specs.State.{TransportState, Represents}
use Rattle.cal_transport.specs.Weights.{one_if, total}
use Rattle.cal_transport.proofs.LoanCauses.{has_current}
use Rattle.cal_transport.proofs.Settled.{settled}

one_few : (b : Bool) → one_if b ≤ 1
one_few true = omega arith
one_few false = omega arith

total_few : (test : Chunk → Bool) (chunks : List Chunk) → total (λ d. one_if (test d)) chunks ≤ length chunks
total_few test [] = omega arith
total_few test (chunk ∷ chunks) =
    let one = one_few (test chunk) in let rest = total_few test chunks in omega arith

pub room_for_one : (t : TransportState) (l : Ledger) → Represents t l → length t.entries < 2 ^ 64 - 1 →
    count_at t.memory.slots t.memory.current < 2 ^ 64 - 1
room_for_one t l r few =
    let live = (has_current t l (settled l r.place r.sound) r.shows).was.chunks in
    let most = total_few (λ d. nat_eq d.segment (current l) && is_live l d) l.chunks in
    let long = ap length r.shows.entries ∙ length-map l.chunks (entry_of l.histories) in omega arith
