-- From what a run of the program owes to when each status comes.
use Rattle.std.proofs.Common.{◌≡◌, ◌≢◌, ℕ, ◌<◌, ◌≤◌, ◌⊎◌, inl, inr, List, [], ◌∷◌, ◌++◌, length, Option, Some, None, Result, Ok, refl, sym, ap, subst, ◌∙◌, arith}
use Rattle.std.specs.Prelude.{IfSome}
use Rattle.std.specs.Io.KnownBytes.{Consumes, IsAtEnd}
use Rattle.std.proofs.lemmas.Bool.{lt-ltb, le-ltb}
use Rattle.std.proofs.lemmas.List.{append-nil, length-append}
use Rattle.cal_transport.specs.declared.settings.CreateCause.{CreateCause}
use Rattle.cal_transport.specs.declared.reply.Reply.{Reply}
use Rattle.cal_transport.specs.Settings.{create_cause}
use Rattle.cal_transport.specs.State.{TransportState}
use Rattle.cal_program.specs.declared.request.Request.{Request}
use Rattle.cal_program.specs.declared.request.Request.TheVariants.{Run, Make}
use Rattle.cal_program.specs.declared.status.Status.{Status}
use Rattle.cal_program.specs.declared.status.Status.TheVariants.{Done, BadScript, NotCreated, ReadFault, WriteFault, NoMemory, Usage, TooLong}
use Rattle.cal_program.specs.Script.{ParsedScript, script_of}
use Rattle.cal_program.specs.MadeScript.{made_settings, made_script}
use Rattle.cal_program.specs.Streams.{SourceState, SinkState, Rose, PutsAll}
use Rattle.cal_program.specs.ReadAll.{script_limit, ReadsAll}
use Rattle.cal_program.specs.Outcome.{run_text, status_text, script_status, due_status, IsOutcomeOfScript, IsOutcomeOfBytes, IsDueOfRun, IsDue, IsWritten, EndsDue, IsDueOrExcused, IsExact, AreRepliesTo, AreDueReplies}
use Rattle.cal_program.proofs.MadeLemmas.{made_settings-fine}

-- ---- the bytes that were read are those that the source told

whole-told : (left now : Option (List ℕ)) (xs bytes : List ℕ) → left ≡ Some xs → Consumes left now bytes → IsAtEnd now →
    xs ≡ bytes
whole-told None now xs bytes e c end = absurd cc
whole-told (Some ys) None xs bytes e c end = absurd c
whole-told (Some ys) (Some zs) xs bytes e c end =
    let same : ys ≡ xs = cc in
    sym same ∙ c ∙ ap (λ (rest : List ℕ). bytes ++ rest) end ∙ append-nil bytes

front-told : (left now : Option (List ℕ)) (xs bytes : List ℕ) → left ≡ Some xs → Consumes left now bytes →
    length bytes ≤ length xs
front-told None now xs bytes e c = absurd cc
front-told (Some ys) None xs bytes e c = absurd c
front-told (Some ys) (Some zs) xs bytes e c =
    let same : ys ≡ xs = cc in
    omega (arith, ap length same, ap length c, length-append bytes zs)

-- ---- the due status of bytes that aren't too many

due_status-script : (bytes : List ℕ) → length bytes ≤ script_limit →
    due_status bytes ≡ script_status (script_of bytes)
due_status-script bytes within = rw (le-ltb script_limit (length bytes) within) refl

due_status-long : (bytes : List ℕ) → script_limit < length bytes → due_status bytes ≡ TooLong
due_status-long bytes long = rw (lt-ltb script_limit (length bytes) long) refl

-- ---- what was judged of bytes that were read

-- the status is that of the script, or it comes for want of memory
abbrev IsFair : Status → Result ParsedScript ℕ → Type 0
IsFair status found = (status ≡ script_status found) ⊎ (status ≡ NoMemory)

answer-fair : (script : ParsedScript) (status : Status) (replies : List Reply) (end : Option TransportState) →
    IsOutcomeOfScript script status replies end → IsFair status (Ok script)
answer-fair script Done replies end h = inl (rw h.0 refl)
answer-fair script (BadScript number) replies end h = absurd h
answer-fair script (NotCreated cause) replies end h = inl (rw h.0 refl)
answer-fair script ReadFault replies end h = absurd h
answer-fair script WriteFault replies end h = absurd h
answer-fair script NoMemory replies end h = inr refl
answer-fair script Usage replies end h = absurd h
answer-fair script TooLong replies end h = absurd h

script-fair : (bytes : List ℕ) (status : Status) (replies : List Reply) (end : Option TransportState) →
    ((script : ParsedScript) × (script_of bytes ≡ Ok script) × IsOutcomeOfScript script status replies end) →
    IsFair status (script_of bytes)
script-fair bytes status replies end h = subst
    (λ (found : Result ParsedScript ℕ). IsFair status found) (sym h.1) (answer-fair h.0 status replies end h.2)

verdict-fair : (bytes : List ℕ) (status : Status) (replies : List Reply) (end : Option TransportState) →
    IsOutcomeOfBytes bytes status replies end →
    IsFair status (script_of bytes)
verdict-fair bytes (BadScript number) replies end h = inl (rw h.0 refl)
verdict-fair bytes NoMemory replies end h = inr refl
verdict-fair bytes Done replies end h = script-fair bytes Done replies end h
verdict-fair bytes (NotCreated cause) replies end h = script-fair bytes (NotCreated cause) replies end h
verdict-fair bytes ReadFault replies end h = script-fair bytes ReadFault replies end h
verdict-fair bytes WriteFault replies end h = script-fair bytes WriteFault replies end h
verdict-fair bytes Usage replies end h = script-fair bytes Usage replies end h
verdict-fair bytes TooLong replies end h = script-fair bytes TooLong replies end h

-- ---- the status that a run is due

-- something was asked for
asked-some : (request : Request) → Some request ≢ None
asked-some request e = absurd cc

excused-right : (bytes : List ℕ) (before now : SourceState) (sink_before sink_now : SinkState)
    (status : Status) → due_status bytes ≡ script_status (script_of bytes) → IsFair status (script_of bytes) →
    IsDueOrExcused (due_status bytes) (Some Run) before now sink_before sink_now status
excused-right bytes before now sink_before sink_now status due fair =
    elim fair [
      | inl e ↦ inl (e ∙ sym due)
      | inr e ↦ subst
          (λ (s : Status). IsDueOrExcused (due_status bytes) (Some Run) before now sink_before sink_now s) (sym e)
          (inr (asked-some Run))
    ]

-- a status that comes after all bytes were read
read-right : (before now : SourceState) (sink_before sink_now : SinkState) (xs : List ℕ)
    (status : Status) (replies : List Reply) (end : Option TransportState) → before.left ≡ Some xs →
    ((bytes : List ℕ) × ReadsAll before now bytes × IsOutcomeOfBytes bytes status replies end) →
    IsDueOrExcused (due_status xs) (Some Run) before now sink_before sink_now status
read-right before now sink_before sink_now xs status replies end tells h =
    let same : xs ≡ h.0 = whole-told before.left now.left xs h.0 tells h.1.taken.front h.1.ended in
    let within : length xs ≤ script_limit = omega (arith, ap length same, h.1.within) in
    excused-right xs before now sink_before sink_now status (due_status-script xs within)
    (subst (λ (bytes : List ℕ). IsFair status (script_of bytes)) (sym same) (verdict-fair h.0 status replies end h.2))

run-right : (before now : SourceState) (sink_before sink_now : SinkState) (xs : List ℕ)
    (status : Status) (replies : List Reply) (end : Option TransportState) → before.left ≡ Some xs →
    IsDueOfRun before now status replies end →
    IsDueOrExcused (due_status xs) (Some Run) before now sink_before sink_now status
run-right before now sink_before sink_now xs ReadFault replies end tells h = inr (refl, h.0.fault)
run-right before now sink_before sink_now xs TooLong replies end tells h =
    inl (sym (due_status-long xs
    (omega (arith, h.0.past, front-told before.left now.left xs h.0.bytes tells h.0.taken.front))))
run-right before now sink_before sink_now xs NoMemory [] end tells h = inr (asked-some Run)
run-right before now sink_before sink_now xs NoMemory (reply ∷ replies) end tells h = inr (asked-some Run)
run-right before now sink_before sink_now xs Done replies end tells h =
    read-right before now sink_before sink_now xs Done replies end tells h
run-right before now sink_before sink_now xs (BadScript number) replies end tells h =
    read-right before now sink_before sink_now xs (BadScript number) replies end tells h
run-right before now sink_before sink_now xs (NotCreated cause) replies end tells h =
    read-right before now sink_before sink_now xs (NotCreated cause) replies end tells h
run-right before now sink_before sink_now xs WriteFault replies end tells h =
    read-right before now sink_before sink_now xs WriteFault replies end tells h
run-right before now sink_before sink_now xs Usage replies end tells h =
    read-right before now sink_before sink_now xs Usage replies end tells h

-- ---- the status that a made run is due

-- its settings have no cause
made-created : (cause : CreateCause) → create_cause made_settings ≢ Some cause
made-created cause e = absurd (let none : None ≡ Some cause = sym made_settings-fine ∙ e in cc)

made-right : (number rounds : ℕ) (before now : SourceState) (sink_before sink_now : SinkState)
    (status : Status) (replies : List Reply) (end : Option TransportState) →
    IsOutcomeOfScript (made_script number rounds) status replies end →
    IsDueOrExcused Done (Some (Make number rounds)) before now sink_before sink_now status
made-right number rounds before now sink_before sink_now Done replies end h = inl refl
made-right number rounds before now sink_before sink_now (BadScript line) replies end h = absurd h
made-right number rounds before now sink_before sink_now (NotCreated cause) replies end h =
    absurd (made-created cause h.0)
made-right number rounds before now sink_before sink_now ReadFault replies end h = absurd h
made-right number rounds before now sink_before sink_now WriteFault replies end h = absurd h
made-right number rounds before now sink_before sink_now NoMemory replies end h =
    inr (asked-some (Make number rounds))
made-right number rounds before now sink_before sink_now Usage replies end h = absurd h
made-right number rounds before now sink_before sink_now TooLong replies end h = absurd h

-- ---- words without a form

none-right : (before now : SourceState) (status : Status) (replies : List Reply) (end : Option TransportState) →
    IsDue None before now status replies end → status ≡ Usage
none-right before now Usage replies end h = refl
none-right before now Done replies end h = absurd h
none-right before now (BadScript number) replies end h = absurd h
none-right before now (NotCreated cause) replies end h = absurd h
none-right before now ReadFault replies end h = absurd h
none-right before now WriteFault replies end h = absurd h
none-right before now NoMemory replies end h = absurd h
none-right before now TooLong replies end h = absurd h

-- ---- the status that the program ends with

written-status : (before now : SinkState) (text : List ℕ) (due status : Status) → IsWritten before now text due status →
    ((status ≡ WriteFault) × Rose before.faults now.faults) ⊎ ((status ≡ due) × PutsAll before now text)
written-status before now text due WriteFault h = inl (refl, h.puts.fault)
written-status before now text due Done h = inr (h.1, h.0)
written-status before now text due (BadScript number) h = inr (h.1, h.0)
written-status before now text due (NotCreated cause) h = inr (h.1, h.0)
written-status before now text due ReadFault h = inr (h.1, h.0)
written-status before now text due NoMemory h = inr (h.1, h.0)
written-status before now text due Usage h = inr (h.1, h.0)
written-status before now text due TooLong h = inr (h.1, h.0)

-- what is due comes, or the sink failed
ends-right : (request : Option Request) (right : Status) (before now : SourceState) (sink_before sink_now : SinkState)
    (due status : Status) (text : List ℕ) → IsWritten sink_before sink_now text due status →
    IsDueOrExcused right request before now sink_before sink_now due →
    IsDueOrExcused right request before now sink_before sink_now status
ends-right request right before now sink_before sink_now due status text written fair =
    elim (written-status sink_before sink_now text due status written) [
      | inl p ↦ subst (λ (s : Status). IsDueOrExcused right request before now sink_before sink_now s) (sym p.0)
          (inr p.1)
      | inr p ↦ subst (λ (s : Status). IsDueOrExcused right request before now sink_before sink_now s) (sym p.0) fair
    ]

-- a fact of the bytes that are told, if they are
if-told : (left : Option (List ℕ)) (P : List ℕ → Type 0) → ((xs : List ℕ) → left ≡ Some xs → P xs) → IfSome left P
if-told None P f = tt
if-told (Some xs) P f = f xs refl

-- what was asked for by another name
pub EndsDue-same : (asked request : Option Request) → asked ≡ request → (before now : SourceState)
    (sink_before sink_now : SinkState) (status : Status) (replies : List Reply) (end : Option TransportState) →
    EndsDue asked before now sink_before sink_now status replies end →
    EndsDue request before now sink_before sink_now status replies end
EndsDue-same asked request same before now sink_before sink_now status replies end h = subst
    (λ (r : Option Request). EndsDue r before now sink_before sink_now status replies end) same h

pub EndsDue-right : (request : Option Request) (before now : SourceState) (sink_before sink_now : SinkState)
    (status : Status) (replies : List Reply) (end : Option TransportState) →
    EndsDue request before now sink_before sink_now status replies end →
    IsExact request before now sink_before sink_now status
EndsDue-right None before now sink_before sink_now status replies end h =
    ends-right None Usage before now sink_before sink_now h.0 status (status_text None h.0 replies) h.2
    (inl (none-right before now h.0 replies end h.1))
EndsDue-right (Some Run) before now sink_before sink_now status replies end h =
    if-told before.left
    (λ bytes. IsDueOrExcused (due_status bytes) (Some Run) before now sink_before sink_now status)
    (λ xs tells. ends-right (Some Run) (due_status xs) before now sink_before sink_now h.0 status
    (status_text (Some Run) h.0 replies) h.2
    (run-right before now sink_before sink_now xs h.0 replies end tells h.1))
EndsDue-right (Some (Make number rounds)) before now sink_before sink_now status replies end h =
    ends-right (Some (Make number rounds)) Done before now sink_before sink_now h.0 status
    (status_text (Some (Make number rounds)) h.0 replies) h.2
    (made-right number rounds before now sink_before sink_now h.0 replies end h.1.1)

-- ---- the source of anything but a run

none-unread : (before now : SourceState) (due : Status) (replies : List Reply) (end : Option TransportState) →
    IsDue None before now due replies end → now ≡ before
none-unread before now Usage replies end h = h.0
none-unread before now Done replies end h = absurd h
none-unread before now (BadScript number) replies end h = absurd h
none-unread before now (NotCreated cause) replies end h = absurd h
none-unread before now ReadFault replies end h = absurd h
none-unread before now WriteFault replies end h = absurd h
none-unread before now NoMemory replies end h = absurd h
none-unread before now TooLong replies end h = absurd h

pub EndsDue-unread : (request : Option Request) (before now : SourceState) (sink_before sink_now : SinkState)
    (status : Status) (replies : List Reply) (end : Option TransportState) →
    EndsDue request before now sink_before sink_now status replies end → request ≢ Some Run → now ≡ before
EndsDue-unread None before now sink_before sink_now status replies end h other =
    none-unread before now h.0 replies end h.1
EndsDue-unread (Some Run) before now sink_before sink_now status replies end h other = absurd (other refl)
EndsDue-unread (Some (Make number rounds)) before now sink_before sink_now status replies end h other = h.1.0

-- ---- a run that is done

-- some status was due, and it is that with which the program ends
done-due : (request : Option Request) (before now : SourceState) (sink_before sink_now : SinkState) (status : Status)
    (replies : List Reply) (end : Option TransportState) → status ≡ Done →
    EndsDue request before now sink_before sink_now status replies end →
    IsDue request before now Done replies end × PutsAll sink_before sink_now (run_text request replies)
done-due request before now sink_before sink_now status replies end done h =
    elim (written-status sink_before sink_now (status_text request h.0 replies) h.0 status h.2) [
      | inl p ↦ absurd (let e : WriteFault ≡ Done = sym p.0 ∙ done in cc)
      | inr p ↦ let same : h.0 ≡ Done = sym p.0 ∙ done in (
        subst (λ (s : Status). IsDue request before now s replies end) same h.1,
        subst (λ (s : Status). PutsAll sink_before sink_now (status_text request s replies)) same p.1,
      )
    ]

pub EndsDue-written : (request : Option Request) (before now : SourceState) (sink_before sink_now : SinkState)
    (status : Status) (replies : List Reply) (end : Option TransportState) →
    EndsDue request before now sink_before sink_now status replies end →
    status ≡ Done → PutsAll sink_before sink_now (run_text request replies)
EndsDue-written request before now sink_before sink_now status replies end h done =
    (done-due request before now sink_before sink_now status replies end done h).1

done-told : (before now : SourceState) (replies : List Reply) (end : Option TransportState)
    (xs : List ℕ) → before.left ≡ Some xs → IsDueOfRun before now Done replies end → AreRepliesTo xs replies end
done-told before now replies end xs tells h =
    let same : xs ≡ h.0 = whole-told before.left now.left xs h.0 tells h.1.taken.front h.1.ended in
    subst (λ (bytes : List ℕ). AreRepliesTo bytes replies end) (sym same) (h.2.0, h.2.1, h.2.2.1, h.2.2.2)

due-replies : (request : Option Request) (before now : SourceState) (replies : List Reply)
    (end : Option TransportState) → IsDue request before now Done replies end →
    AreDueReplies request before.left replies end
due-replies None before now replies end h = absurd h
due-replies (Some Run) before now replies end h =
    if-told before.left (λ bytes. AreRepliesTo bytes replies end)
    (λ xs tells. done-told before now replies end xs tells h)
due-replies (Some (Make number rounds)) before now replies end h = (h.1.1, h.1.2)

pub EndsDue-done : (request : Option Request) (before now : SourceState) (sink_before sink_now : SinkState)
    (status : Status) (replies : List Reply) (end : Option TransportState) →
    EndsDue request before now sink_before sink_now status replies end →
    status ≡ Done → AreDueReplies request before.left replies end
EndsDue-done request before now sink_before sink_now status replies end h done =
    due-replies request before now replies end
    (done-due request before now sink_before sink_now status replies end done h).0
