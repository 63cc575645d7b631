-- What a transport that carries frames shows.
use Rattle.std.proofs.Common.{ℕ, zero, suc, ◌+◌, ◌≡◌, List, [], ◌∷◌, length, map, Some, refl, sym, ap, ◌∙◌, arith}
use Rattle.std.specs.List.{slice_get}
use Rattle.std.proofs.lemmas.List.{length-map, length-drop}
use Rattle.std.proofs.lemmas.Option.{same_Some, none-some, slice_get-get_or}
use Rattle.cal_transport.specs.ChunkEntry.{AreBelow}
use Rattle.cal_transport.specs.Ledger.{new_history, history_on, numbers_below, queued_names}
use Rattle.cal_transport.specs.Shown.{entry_of, pointer_named}
use Rattle.cal_transport.specs.State.{TransportState, core_of}
use Rattle.cal_frames.specs.Carrying.{Carries}
use Rattle.cal_frames.proofs.Numbers.{length-numbers_below}
use Rattle.cal_frames.proofs.Queueing.{queued_are}

-- a list that maps to an element at a place has one there
stands_under : {A B : Type 0} (f : A → B) (xs : List A) (i : ℕ) (y : B) → slice_get (map f xs) i ≡ Some y →
    (x : A) × (slice_get xs i ≡ Some x) × (y ≡ f x)
stands_under f [] i y e = absurd (none-some y e)
stands_under f (x ∷ xs) zero y e = (x, refl, sym (same_Some (f x) y e))
stands_under f (x ∷ xs) (suc i) y e = stands_under f xs i y e

-- the number of the frames is a name for the next chunk
pub names_below : (t : TransportState) (frames : List (List ℕ)) (left : ℕ) → Carries t frames left →
    AreBelow t.entries (length frames)
names_below t frames left c = λ i entry stands.
    let l = c.ledger in
    let entries = c.stands.shows.entries in
    let chunk = stands_under (entry_of l.histories) l.chunks i entry
    (ap (λ es. slice_get es i) (sym entries) ∙ stands) in
    let below = c.named i chunk.0 chunk.1 in
    let name_is = ap (λ e. e.name) chunk.2 in omega arith

-- how many frames wait in the queue
abbrev pub waiting : TransportState → ℕ
waiting t = length ((core_of t).channel 0).submission.values

pub waiting_are : (t : TransportState) (frames : List (List ℕ)) (left : ℕ) → Carries t frames left →
    waiting t + left ≡ length frames
waiting_are t frames left c =
    let l = c.ledger in
    let h = history_on l 0 in
    let stands = slice_get-get_or l.histories 0 new_history c.queue.channel in
    let shown = c.stands.shows.channels 0 h stands in
    let long = ap (λ xs. length xs) shown.queued ∙ length-map (queued_names h) (pointer_named l) in
    let queued = ap (λ xs. length xs) (queued_are l (length frames) left c.queue)
    ∙ length-drop left (numbers_below (length frames)) in
    let all = length-numbers_below (length frames) in
    let few = c.queue.few in omega arith
