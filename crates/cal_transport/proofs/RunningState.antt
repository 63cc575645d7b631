-- Whole runs over a transport: what each answer keeps, and how steps make a run.
use Rattle.std.proofs.Common.{ℕ, zero, suc, ◌+◌, ◌-◌, ◌<◌, ◌≤◌, ◌≡◌, List, [], ◌∷◌, ◌++◌, length, map, Option, Some, None, refl, sym, ap, ◌∙◌, subst, arith, length-append}
use Rattle.std.specs.List.{slice_get}
use Rattle.std.proofs.lemmas.Option.{same_Some, none-some}
use Rattle.cal_transport.specs.declared.command.Command.{Command}
use Rattle.cal_transport.specs.declared.reply.Reply.{Reply}
use Rattle.cal_transport.specs.declared.settings.Settings.{Settings}
use Rattle.cal_transport.specs.declared.transport.chunk_entry.ChunkEntry.{ChunkEntry}
use Rattle.cal_transport.specs.ChunkEntry.{AreBelow}
use Rattle.cal_transport.specs.declared.command.Command.TheVariants as command
use Rattle.cal_transport.specs.declared.reply.Reply.TheVariants.{Shown as Bytes}
use Rattle.cal_transport.specs.declared.reply.Refusal.{Refusal}
use Rattle.cal_transport.specs.Cause.{cause}
use Rattle.cal_transport.specs.Ledger.{Ledger, Chunk, ChannelHistory, first_ledger, chunk_named}
use Rattle.cal_transport.specs.Step.{IsStep, IsStepBy, after_step, bytes_of_chunk}
use Rattle.cal_transport.specs.Replies.{ReplyList}
use Rattle.cal_transport.specs.Room.{TakesRoomOfOne}
use Rattle.cal_transport.specs.Run.{AreSteps, after_steps, AreStepsAndTransit, StopsAt, transit_list, IsRun, TakesMemory, StopsForMemory}
use Rattle.cal_transport.specs.Served.{RunsOut, StandsAfter, IsLeft}
use Rattle.cal_transport.specs.Shown.{entry_of}
use Rattle.cal_transport.specs.Standing.{StandsFor, Does, DoesAnywhere}
use Rattle.cal_transport.specs.State.{TransportState}
use Rattle.cal_transport.proofs.Running.{shown_short, NamesBelow, steps_below, first_below, steps_more, after_steps-more, steps_transit, stops_at}

-- the entries' names are those of the chunks
entries_below : (t : TransportState) (l : Ledger) (n : ℕ) → StandsFor t l → NamesBelow l n → AreBelow t.entries n
unfolding NamesBelow
entries_below t l n stands below i entry e =
    go l.chunks i entry (sym (ap (λ es. slice_get es i) stands.shows.entries) ∙ e) below
  where
    go : (chunks : List Chunk) (i : ℕ) (entry : ChunkEntry) →
        slice_get (map (entry_of l.histories) chunks) i ≡ Some entry →
        ((j : ℕ) (chunk : Chunk) → slice_get chunks j ≡ Some chunk → chunk.name < n) → entry.name < n
    go [] i entry e below = absurd (none-some entry e)
    go (x ∷ chunks) zero entry e below =
        (let b = below 0 x refl in let same = ap (λ (y : ChunkEntry). y.name) (same_Some _ entry e) in omega arith)
    go (x ∷ chunks) (suc i) entry e below = go chunks i entry e (λ j chunk f. below (suc j) chunk f)

-- the replies so far are steps, the transport stands for the ledger after them, and there is room for what is left
pub record IsRunning (settings : Settings) (commands : List Command) (t : TransportState) (replies : ReplyList Reply)
    (index room : ℕ) : Type 0 where
  pub steps : AreSteps (first_ledger settings) 1 commands replies.items
  pub stands : StandsAfter settings commands replies.items t
  pub turns : length replies.items ≡ index
  pub entries_room : length commands ≤ t.spare + index
  pub in_transit : t.in_transit ≤ index
  pub spare : room ≤ replies.spare + index

-- nothing is asked yet
pub starts : (settings : Settings) (commands : List Command) (t : TransportState) (replies : ReplyList Reply)
    (room : ℕ) → StandsFor t (first_ledger settings) → replies.items ≡ [] → length commands ≤ t.spare →
    t.in_transit ≡ 0 → room ≤ replies.spare → IsRunning settings commands t replies 0 room
starts settings commands t replies room stands none entries transits spare = record {
  steps = subst (AreSteps (first_ledger settings) 1 commands) (sym none) tt;
  stands = subst (λ rs. StandsAfter settings commands rs t) (sym none) stands;
  turns = ap length none;
  entries_room = omega (arith, entries);
  in_transit = omega (arith, transits);
  spare = omega (arith, spare);
}

-- the names so far are below the next place
pub running_below : (settings : Settings) (commands : List Command) (t : TransportState) (replies : ReplyList Reply)
    (index room : ℕ) → IsRunning settings commands t replies index room → AreBelow t.entries (index + 1)
running_below settings commands t replies index room r =
    let below = steps_below (first_ledger settings) 1 commands replies.items (first_below settings) in
    subst (AreBelow t.entries) (let told = r.turns in let e : 1 + length replies.items ≡ index + 1 = omega arith in e)
    (entries_below t (after_steps (first_ledger settings) 1 commands replies.items) (1 + length replies.items) r.stands
    below)

-- one more answer
pub runs_on : (settings : Settings) (commands : List Command) (old new : TransportState)
    (before after' : ReplyList Reply) (index room : ℕ) (asked : Command) (reply : Reply) →
    IsRunning settings commands old before index room → slice_get commands index ≡ Some asked →
    Does old (index + 1) asked reply new → TakesRoomOfOne old new → after'.items ≡ before.items ++ reply ∷ [] →
    after'.spare ≡ before.spare - 1 → 0 < before.spare → IsRunning settings commands new after' (index + 1) room
runs_on settings commands old new before after' index room asked reply r next does takes pushed less some =
    let next' : slice_get commands (length before.items) ≡ Some asked = ap (slice_get commands) r.turns ∙ next in
    let place : index + 1 ≡ 1 + length before.items = (let told = r.turns in omega arith) in
    let d : Does old (1 + length before.items) asked reply new = subst (λ n. Does old n asked reply new) place does in
    let both = d (after_steps (first_ledger settings) 1 commands before.items) r.stands in
    let more = after_steps-more (first_ledger settings) 1 commands before.items asked reply r.steps next' in
    let told = r.turns in let entries = r.entries_room in let transits = r.in_transit in let spare = r.spare in
    let one = takes.spare in let once = takes.in_transit in
    let long = ap length pushed ∙ length-append before.items (reply ∷ []) in
    record {
      steps = subst (AreSteps (first_ledger settings) 1 commands) (sym pushed)
          (steps_more (first_ledger settings) 1 commands before.items asked reply r.steps next' both.0);
      stands = subst (λ rs. StandsAfter settings commands rs new) (sym pushed)
          (subst (StandsFor new) (sym more) both.1);
      turns = omega arith;
      entries_room = omega arith;
      in_transit = omega arith;
      spare = omega arith;
    }

-- a run that went through
pub ran : (settings : Settings) (commands : List Command) (t : TransportState) (replies : ReplyList Reply)
    (all : List Reply) (index room : ℕ) → IsRunning settings commands t replies index room →
    index ≡ length commands → ((l : Ledger) → StandsFor t l → all ≡ replies.items ++ transit_list l) →
    IsRun settings commands all
ran settings commands t replies all index room r whole listed =
    let l = after_steps (first_ledger settings) 1 commands replies.items in
    subst (IsRun settings commands) (sym (listed l r.stands))
    (steps_transit (first_ledger settings) 1 commands replies.items r.steps (r.turns ∙ whole))

-- what follows the answers to all commands changes nothing
after_all : (l : Ledger) (place : ℕ) (commands : List Command) (replies others : List Reply) →
    AreSteps l place commands replies → length replies ≡ length commands →
    after_steps l place commands (replies ++ others) ≡ after_steps l place commands replies
after_all l place [] [] [] steps all = refl
after_all l place [] [] (other ∷ others) steps all = refl
after_all l place (asked ∷ commands) [] others steps all = absurd (omega arith)
after_all l place [] (reply ∷ replies) others steps all = absurd steps
after_all l place (asked ∷ commands) (reply ∷ replies) others steps all =
    after_all (after_step l place asked reply) (place + 1) commands replies others steps.1 (omega arith)

-- and the transport stands for the ledger after them
pub ended : (settings : Settings) (commands : List Command) (t : TransportState) (replies : ReplyList Reply)
    (all : List Reply) (index room : ℕ) → IsRunning settings commands t replies index room →
    index ≡ length commands → ((l : Ledger) → StandsFor t l → all ≡ replies.items ++ transit_list l) →
    StandsAfter settings commands all t
ended settings commands t replies all index room r whole listed =
    let l = after_steps (first_ledger settings) 1 commands replies.items in
    subst (λ rs. StandsAfter settings commands rs t) (sym (listed l r.stands))
    (subst (StandsFor t)
    (sym (after_all (first_ledger settings) 1 commands replies.items (transit_list l) r.steps (r.turns ∙ whole)))
    r.stands)

-- a run that ran out of memory at a command
pub ran_out : (settings : Settings) (commands : List Command) (t : TransportState) (replies : ReplyList Reply)
    (index room : ℕ) (asked : Command) → IsRunning settings commands t replies index room →
    slice_get commands index ≡ Some asked → RunsOut t asked → StopsForMemory settings commands replies.items
ran_out settings commands t replies index room asked r next out =
    go replies.items (stops_at TakesMemory (first_ledger settings) 1 commands replies.items asked r.steps
    (ap (slice_get commands) r.turns ∙ next)
    (out (after_steps (first_ledger settings) 1 commands replies.items) r.stands))
  where
    go : (rs : List Reply) → StopsAt TakesMemory (first_ledger settings) 1 commands rs →
        StopsForMemory settings commands rs
    go [] stops = tt
    go (reply ∷ rs) stops = stops

-- a run that found no memory after a reply leaves the transport that gave the replies
pub left_answered : (settings : Settings) (commands : List Command) (t : TransportState) (replies : List Reply) →
    0 < length replies → StandsAfter settings commands replies t → IsLeft settings commands replies (Some t)
left_answered settings commands t [] some stands = absurd (omega arith)
left_answered settings commands t (reply ∷ replies) some stands = stands

-- and before any reply it leaves none
pub left_unanswered : (settings : Settings) (commands : List Command) (replies : List Reply)
    (end : Option TransportState) → length replies ≡ 0 → end ≡ None → IsLeft settings commands replies end
left_unanswered settings commands [] end none is = is
left_unanswered settings commands (reply ∷ replies) end none is = absurd (omega arith)

-- where bytes were lent, the command had no cause, and asked for as many
pub read_ran_out : (t : TransportState) (channel name at len : ℕ) (bytes : List ℕ) →
    DoesAnywhere t (command.Read channel name at len) (Bytes bytes) t → 0 < length bytes →
    RunsOut t (command.Read channel name at len)
read_ran_out t channel name at len bytes does some l stands = go (cause l (command.Read channel name at len)) refl
    ((does 0 l stands).0)
  where
    go : (o : Option Refusal) → cause l (command.Read channel name at len) ≡ o →
        IsStepBy o l 0 (command.Read channel name at len) (Bytes bytes) →
        (0 < len) × (cause l (command.Read channel name at len) ≡ None)
    go None e owes = (
      let same : bytes ≡ bytes_of_chunk (chunk_named l name) at len = cc in
          let long = ap length same in let short = shown_short (chunk_named l name) at len in omega arith,
      e,
    )
    go (Some refusal) e refused = cc
