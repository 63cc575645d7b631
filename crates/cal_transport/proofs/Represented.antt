-- A transport stands for the ledger after a command, where its parts show it.
use Rattle.std.proofs.Common.{ℕ, zero, suc, ◌+◌, ◌<◌, ◌≤◌, ◌≡◌, Bool, true, false, nat_eq, cond, List, [], ◌∷◌, Option, Some, refl, ap, ◌∙◌, subst, arith}
use Rattle.std.specs.List.{slice_get}
use Rattle.std.proofs.lemmas.Option.{same_Some, none-some}
use Rattle.cal_storage.specs.Contents.{Contents}
use Rattle.cal_connection.specs.Port.{PortEntry, ReceiverEnd}
use Rattle.cal_transport.specs.declared.command.Command.{Command}
use Rattle.cal_transport.specs.declared.reply.Reply.{Reply}
use Rattle.cal_transport.specs.declared.reply.Refusal.{Refusal}
use Rattle.cal_transport.specs.Ledger.{Ledger, Chunk, ChannelHistory, is_in_transit, is_borrowed}
use Rattle.cal_transport.specs.Soundness.{IsSoundLedger}
use Rattle.cal_transport.specs.Cause.{cause}
use Rattle.cal_transport.specs.Step.{IsStep, after_step, after_step_by}
use Rattle.cal_transport.specs.Weights.{total, one_if, transits, borrows, borrowed_in, transits_in}
use Rattle.cal_transport.specs.State.{TransportState, core_of, Represents}
use Rattle.cal_transport.proofs.Sound.{sound_step}
use Rattle.cal_transport.proofs.Changed.{borrowed_transits}
use Rattle.cal_transport.proofs.Stands.{Steps}
use Rattle.cal_transport.proofs.Totals.{total_fewer}

-- the ledger after a command doesn't depend on the command's place
abbrev pub IsPlaceless : Ledger → Command → Reply → Type 0
IsPlaceless l asked reply = (o : Option Refusal) (a b : ℕ) → after_step_by o l a asked reply ≡ after_step_by o l b
    asked reply

pub stands : (new : TransportState) (l : Ledger) (asked : Command) (reply : Reply) (at place : ℕ) →
    IsSoundLedger l at → IsPlaceless l asked reply → ((any : ℕ) → Steps (core_of new) l any asked reply) →
    IsStep l place asked reply × Represents new (after_step l place asked reply)
stands new l asked reply at place sound placeless steps = (
  (steps place).step,
  record {
    place = at + 1;
    sound = subst (λ m. IsSoundLedger m (at + 1)) (placeless (cause l asked) at place)
        (sound_step l at asked reply sound (steps at).step);
    shows = (steps place).shows;
    tracks = (steps place).tracks;
  },
)

-- ---- parts that are the same

module _ (t : TransportState) (registry : Contents PortEntry) (receiver : ReceiverEnd)
    (same_registry : registry ≡ t.connection_registry) (same_receiver : receiver ≡ t.receiver) where
  pub state_same : record t { connection_registry = registry; receiver = receiver } ≡ t
  state_same =
      ap (λ r. record t { connection_registry = r; receiver = receiver }) same_registry
      ∙ ap (λ e. record t { receiver = e }) same_receiver

-- ---- room in the view

-- where one weighs less, all weigh less
total_strict : {A : Type 0} (f g : A → ℕ) (xs : List A) (i : ℕ) (x : A) → ((y : A) → f y ≤ g y) →
    slice_get xs i ≡ Some x → f x < g x → total f xs < total g xs
total_strict f g [] i x le there lt = absurd (none-some x there)
total_strict f g (y ∷ xs) zero x le there lt =
    let here = same_Some y x there in
    let a = ap f here in let b = ap g here in let rest = total_fewer f g xs le in omega arith
total_strict f g (y ∷ xs) (suc i) x le there lt =
    let first = le y in let rest = total_strict f g xs i x le there lt in omega arith

borrowed_fewer : (h : ChannelHistory) (name : ℕ) → one_if (is_borrowed h name) ≤ one_if (is_in_transit h name)
borrowed_fewer h name = go (is_borrowed h name) refl
  where
    go : (b : Bool) → is_borrowed h name ≡ b → one_if (is_borrowed h name) ≤ one_if (is_in_transit h name)
    go true is =
        let a = ap one_if is in let b = ap one_if (borrowed_transits h name is) in omega arith
    go false is = let a = ap one_if is in omega arith

-- a chunk that is in transit on a channel and not borrowed there leaves room to borrow it
pub room_to_borrow : (l : Ledger) (segment k i : ℕ) (h : ChannelHistory) (chunk : Chunk) →
    slice_get l.histories k ≡ Some h → slice_get l.chunks i ≡ Some chunk → is_in_transit h chunk.name ≡ true →
    is_borrowed h chunk.name ≡ false → borrowed_in l segment < transits_in l
room_to_borrow l segment k i h chunk here there transit unborrowed =
    total_strict (λ d. cond (nat_eq d.segment segment) (borrows l.histories d.name) 0)
    (λ d. transits l.histories d.name) l.chunks i chunk (λ d. each d (nat_eq d.segment segment)) there
    (own (nat_eq chunk.segment segment))
  where
    fewer : (name : ℕ) → borrows l.histories name ≤ transits l.histories name
    fewer name = total_fewer (λ e. one_if (is_borrowed e name)) (λ e. one_if (is_in_transit e name)) l.histories
        (λ e. borrowed_fewer e name)

    each : (d : Chunk) (b : Bool) → cond b (borrows l.histories d.name) 0 ≤ transits l.histories d.name
    each d true = fewer d.name
    each d false = omega arith

    strict : borrows l.histories chunk.name < transits l.histories chunk.name
    strict = total_strict (λ e. one_if (is_borrowed e chunk.name)) (λ e. one_if (is_in_transit e chunk.name))
        l.histories k h (λ e. borrowed_fewer e chunk.name) here
        (let a = ap one_if transit in let b = ap one_if unborrowed in omega arith)

    own : (b : Bool) → cond b (borrows l.histories chunk.name) 0 < transits l.histories chunk.name
    own true = strict
    own false = let s = strict in omega arith
