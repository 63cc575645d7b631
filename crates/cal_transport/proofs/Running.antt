-- Whole runs: the names of chunks are below the next place, and how steps make a run.
use Rattle.std.proofs.Common.{ℕ, zero, suc, ◌+◌, ◌-◌, ◌<◌, ◌≤◌, ◌≡◌, inl, inr, Bool, true, false, cond, List, [], ◌∷◌, ◌++◌, length, drop, Option, Some, None, refl, sym, ap, ◌∙◌, subst, arith}
use Rattle.std.specs.List.{slice_get}
use Rattle.std.proofs.lemmas.Option.{same_Some, none-some}
use Rattle.std.proofs.lemmas.Bool.Decides.{eqb_tells}
use Rattle.cal_transport.specs.declared.command.Command.{Command}
use Rattle.cal_transport.specs.declared.command.Command.TheVariants as command
use Rattle.cal_transport.specs.declared.reply.Reply.{Reply}
use Rattle.cal_transport.specs.declared.reply.Reply.TheVariants.{Loaned, Written, Sent, Received, Shown as Bytes, Released, Reclaimed, Discarded, Counted, Refused, Transit}
use Rattle.cal_transport.specs.declared.reply.Refusal.{Refusal}
use Rattle.cal_transport.specs.declared.settings.Settings.{Settings}
use Rattle.cal_transport.specs.Ledger.{Ledger, Chunk, first_ledger}
use Rattle.cal_transport.specs.LoanCause.{serves, next_segment}
use Rattle.cal_transport.specs.Cause.{cause, current_segment}
use Rattle.cal_transport.specs.Step.{IsStep, after_step, after_step_by, after_command, with_changed_chunk, after_loan, grown_ledger, bytes_of_chunk}
use Rattle.cal_transport.specs.Run.{AreSteps, after_steps, AreStepsAndTransit, StopsAt, transit_list}
use Rattle.std.proofs.lemmas.List.{length-take}
use Rattle.cal_transport.proofs.Lists.{old_or_new}

-- ---- settings stay

grown_settings : (l : Ledger) (size alignment : ℕ) → (grown_ledger l size alignment).settings ≡ l.settings
grown_settings l size alignment = go (serves (current_segment l) size alignment)
  where
    go : (b : Bool) → (cond b l
        (record l { segments = l.segments ++ next_segment (current_segment l) size alignment ∷ [] })).settings ≡
        l.settings
    go true = refl
    go false = refl

loan_settings : (l : Ledger) (name : ℕ) (reply : Reply) → (after_loan l name reply).settings ≡ l.settings
loan_settings l name (Loaned slot) = refl
loan_settings l name Written = refl
loan_settings l name (Sent back) = refl
loan_settings l name (Received taken) = refl
loan_settings l name (Bytes bytes) = refl
loan_settings l name Released = refl
loan_settings l name (Reclaimed back) = refl
loan_settings l name Discarded = refl
loan_settings l name (Counted count) = refl
loan_settings l name (Refused refusal) = refl
loan_settings l name (Transit channel slot) = refl

changed_settings : (l : Ledger) (place : ℕ) (asked : Command) (reply : Reply) →
    (after_command l place asked reply).settings ≡ l.settings
changed_settings l place (command.Loan size alignment) reply = loan_settings (grown_ledger l size alignment) place reply
    ∙ grown_settings l size alignment
changed_settings l place (command.Write name at bytes) reply = refl
changed_settings l place (command.Send channel name) reply = refl
changed_settings l place (command.Receive channel) reply = refl
changed_settings l place (command.Read channel name at len) reply = refl
changed_settings l place (command.Release channel name) reply = refl
changed_settings l place (command.Reclaim channel) reply = refl
changed_settings l place (command.Discard name) reply = refl
changed_settings l place command.Count reply = refl

after_settings : (l : Ledger) (place : ℕ) (asked : Command) (reply : Reply) →
    (after_step l place asked reply).settings ≡ l.settings
after_settings l place asked reply = go (cause l asked)
  where
    go : (o : Option Refusal) → (after_step_by o l place asked reply).settings ≡ l.settings
    go None = changed_settings l place asked reply
    go (Some refusal) = refl

pub steps_settings : (l : Ledger) (place : ℕ) (commands : List Command) (replies : List Reply) →
    (after_steps l place commands replies).settings ≡ l.settings
steps_settings l place commands [] = refl
steps_settings l place [] (reply ∷ replies) = refl
steps_settings l place (asked ∷ commands) (reply ∷ replies) =
    steps_settings (after_step l place asked reply) (place + 1) commands replies ∙ after_settings l place asked reply

-- ---- names rise

unfoldable pub NamesBelow : Ledger → ℕ → Type 0
NamesBelow l n = (i : ℕ) (chunk : Chunk) → slice_get l.chunks i ≡ Some chunk → chunk.name < n

below_more : (l : Ledger) (n : ℕ) → NamesBelow l n → NamesBelow l (n + 1)
unfolding NamesBelow
below_more l n below i chunk e = let b = below i chunk e in omega arith

-- a change that keeps names keeps them below
change_below : (change : Chunk → Chunk) (name n : ℕ) (chunks : List Chunk) → ((x : Chunk) → (change x).name ≡ x.name) →
    ((i : ℕ) (chunk : Chunk) → slice_get chunks i ≡ Some chunk → chunk.name < n) →
    (i : ℕ) (chunk : Chunk) → slice_get (with_changed_chunk change name chunks) i ≡ Some chunk → chunk.name < n
change_below change name n [] keeps below i chunk e = absurd (none-some chunk e)
change_below change name n (x ∷ chunks) keeps below zero chunk e =
    let b = below 0 x refl in
    let same : chunk.name ≡ x.name = elim (eqb_tells x.name name) [
      | inl here ↦ ap (λ y. y.name) (sym (same_Some _ chunk (sym (ap (λ k. Some (cond k (change x) x)) here.0) ∙ e)))
          ∙ keeps x
      | inr else ↦ ap (λ y. y.name) (sym (same_Some _ chunk (sym (ap (λ k. Some (cond k (change x) x)) else.0) ∙ e)))
    ] in
    omega arith
change_below change name n (x ∷ chunks) keeps below (suc i) chunk e =
    change_below change name n chunks keeps (λ j y f. below (suc j) y f) i chunk e

grown_chunks : (l : Ledger) (size alignment : ℕ) → (grown_ledger l size alignment).chunks ≡ l.chunks
grown_chunks l size alignment = go (serves (current_segment l) size alignment)
  where
    go : (b : Bool) → (cond b l
        (record l { segments = l.segments ++ next_segment (current_segment l) size alignment ∷ [] })).chunks ≡ l.chunks
    go true = refl
    go false = refl

loan_below : (l : Ledger) (name : ℕ) (reply : Reply) → NamesBelow l name →
    NamesBelow (after_loan l name reply) (name + 1)
unfolding NamesBelow
loan_below l name (Loaned slot) below i chunk e = elim (old_or_new l.chunks _ i chunk e) [
  | inl old ↦ (let b = below i chunk old in omega arith)
  | inr new ↦ (let n = ap (λ x. x.name) new.1 in omega arith)
]
loan_below l name Written below i chunk e = let b = below i chunk e in omega arith
loan_below l name (Sent back) below i chunk e = let b = below i chunk e in omega arith
loan_below l name (Received taken) below i chunk e = let b = below i chunk e in omega arith
loan_below l name (Bytes bytes) below i chunk e = let b = below i chunk e in omega arith
loan_below l name Released below i chunk e = let b = below i chunk e in omega arith
loan_below l name (Reclaimed back) below i chunk e = let b = below i chunk e in omega arith
loan_below l name Discarded below i chunk e = let b = below i chunk e in omega arith
loan_below l name (Counted count) below i chunk e = let b = below i chunk e in omega arith
loan_below l name (Refused refusal) below i chunk e = let b = below i chunk e in omega arith
loan_below l name (Transit channel slot) below i chunk e = let b = below i chunk e in omega arith

changed_below : (l : Ledger) (place : ℕ) (asked : Command) (reply : Reply) → NamesBelow l place →
    NamesBelow (after_command l place asked reply) (place + 1)
unfolding NamesBelow
changed_below l place (command.Loan size alignment) reply below i chunk e =
    loan_below (grown_ledger l size alignment) place reply
    (λ j x f. below j x (sym (ap (λ cs. slice_get cs j) (grown_chunks l size alignment)) ∙ f)) i chunk e
changed_below l place (command.Write name at bytes) reply below i chunk e = let b = change_below _ name place l.chunks
    (λ x. refl) below i chunk e in omega arith
changed_below l place (command.Send channel name) reply below i chunk e = let b = change_below _ name place l.chunks
    (λ x. refl) below i chunk e in omega arith
changed_below l place (command.Receive channel) reply below i chunk e = let b = below i chunk e in omega arith
changed_below l place (command.Read channel name at len) reply below i chunk e = let b = below i chunk e in omega arith
changed_below l place (command.Release channel name) reply below i chunk e = let b = below i chunk e in omega arith
changed_below l place (command.Reclaim channel) reply below i chunk e = let b = below i chunk e in omega arith
changed_below l place (command.Discard name) reply below i chunk e = let b = change_below _ name place l.chunks
    (λ x. refl) below i chunk e in omega arith
changed_below l place command.Count reply below i chunk e = let b = below i chunk e in omega arith

after_below : (l : Ledger) (place : ℕ) (asked : Command) (reply : Reply) → NamesBelow l place →
    NamesBelow (after_step l place asked reply) (place + 1)
after_below l place asked reply below = go (cause l asked)
  where
    go : (o : Option Refusal) → NamesBelow (after_step_by o l place asked reply) (place + 1)
    go None = changed_below l place asked reply below
    go (Some refusal) = below_more l place below

pub steps_below : (l : Ledger) (place : ℕ) (commands : List Command) (replies : List Reply) → NamesBelow l place →
    NamesBelow (after_steps l place commands replies) (place + length replies)
unfolding NamesBelow
steps_below l place commands [] below i chunk e = let b = below i chunk e in omega arith
steps_below l place [] (reply ∷ replies) below i chunk e = let b = below i chunk e in omega arith
steps_below l place (asked ∷ commands) (reply ∷ replies) below i chunk e =
    let b = steps_below (after_step l place asked reply) (place + 1) commands replies
    (after_below l place asked reply below) i chunk e in omega arith

pub first_below : (s : Settings) → NamesBelow (first_ledger s) 1
unfolding NamesBelow
first_below s i chunk e = absurd (none-some chunk e)

-- ---- steps, one more at a time

pub steps_more : (l : Ledger) (place : ℕ) (commands : List Command) (replies : List Reply) (asked : Command)
    (reply : Reply) →
    AreSteps l place commands replies → slice_get commands (length replies) ≡ Some asked →
    IsStep (after_steps l place commands replies) (place + length replies) asked reply →
    AreSteps l place commands (replies ++ reply ∷ [])
steps_more l place [] [] asked reply steps next answers = absurd (none-some asked next)
steps_more l place (first ∷ commands) [] asked reply steps next answers =
    let same = same_Some first asked next in (
      subst (λ a. IsStep l place a reply) (sym same)
          (subst (λ n. IsStep l n asked reply) (let e : place + 0 ≡ place = omega arith in e) answers),
      tt,
    )
steps_more l place [] (other ∷ replies) asked reply steps next answers = absurd steps
steps_more l place (first ∷ commands) (other ∷ replies) asked reply steps next answers = (
  steps.0,
  steps_more (after_step l place first other) (place + 1) commands replies asked reply steps.1 next
      (subst (λ n. IsStep (after_steps (after_step l place first other) (place + 1) commands replies) n asked reply)
      (let e : place + suc (length replies) ≡ place + 1 + length replies = omega arith in e) answers),
)

pub after_steps-more : (l : Ledger) (place : ℕ) (commands : List Command) (replies : List Reply) (asked : Command)
    (reply : Reply) →
    AreSteps l place commands replies → slice_get commands (length replies) ≡ Some asked →
    after_steps l place commands (replies ++ reply ∷ []) ≡ after_step (after_steps l place commands replies)
    (place + length replies) asked reply
after_steps-more l place [] [] asked reply steps next = absurd (none-some asked next)
after_steps-more l place (first ∷ commands) [] asked reply steps next =
    let same = same_Some first asked next in
    ap (λ a. after_step l place a reply) same ∙ ap
    (λ n. after_step l n asked reply) (let e : place ≡ place + 0 = omega arith in e)
after_steps-more l place [] (other ∷ replies) asked reply steps next = absurd steps
after_steps-more l place (first ∷ commands) (other ∷ replies) asked reply steps next =
    after_steps-more (after_step l place first other) (place + 1) commands replies asked reply steps.1 next
    ∙ ap (λ n. after_step (after_steps (after_step l place first other) (place + 1) commands replies) n asked reply)
    (let e : place + 1 + length replies ≡ place + suc (length replies) = omega arith in e)

-- steps for every command, and then the chunks in transit, are a run
pub steps_transit : (l : Ledger) (place : ℕ) (commands : List Command) (replies : List Reply) →
    AreSteps l place commands replies →
    length replies ≡ length commands →
    AreStepsAndTransit l place commands (replies ++ transit_list (after_steps l place commands replies))
steps_transit l place [] [] steps all = refl
steps_transit l place (asked ∷ commands) [] steps all = absurd (omega arith)
steps_transit l place [] (reply ∷ replies) steps all = absurd steps
steps_transit l place (asked ∷ commands) (reply ∷ replies) steps all =
    (steps.0, steps_transit (after_step l place asked reply) (place + 1) commands replies steps.1 (omega arith))

-- steps stop at the next command, where it meets a condition
pub stops_at : (P : Ledger → Command → Type 0) (l : Ledger) (place : ℕ) (commands : List Command) (replies : List Reply)
    (asked : Command) →
    AreSteps l place commands replies → slice_get commands (length replies) ≡ Some asked →
    P (after_steps l place commands replies) asked →
    StopsAt P l place commands replies
stops_at P l place [] [] asked steps next met = absurd (none-some asked next)
stops_at P l place (first ∷ commands) [] asked steps next met = subst (P l) (sym (same_Some first asked next)) met
stops_at P l place [] (reply ∷ replies) asked steps next met = absurd steps
stops_at P l place (first ∷ commands) (reply ∷ replies) asked steps next met =
    (steps.0, stops_at P (after_step l place first reply) (place + 1) commands replies asked steps.1 next met)

-- ---- a read that finds no memory

pub shown_short : (o : Option Chunk) (at len : ℕ) → length (bytes_of_chunk o at len) ≤ len
shown_short None at len = omega arith
shown_short (Some chunk) at len = let e = length-take len (drop at chunk.bytes) in omega arith
