-- What a run of the program owes: the status, the replies that it hands out, and the text that it writes.
use Rattle.std.specs.Prelude.{ℕ, ◌≡◌, ◌≢◌, ◌<◌, ◌^◌, nat_lt, if◌then◌else◌, ◌⊎◌, IfSome, IsSomeAnd, List, [], ◌++◌, length, Option, Some, None, Result, Ok, Err, decimal, codes}
use Rattle.cal_transport.specs.declared.settings.CreateCause.{CreateCause}
use Rattle.cal_transport.specs.declared.settings.CreateCause.TheVariants.{BadLayout, SizeOutOfRange, SizeIsZero, InternalError}
use Rattle.cal_transport.specs.declared.reply.Reply.{Reply}
use Rattle.cal_transport.specs.Settings.{create_cause}
use Rattle.cal_transport.specs.Run.{IsRun, StopsForMemory}
use Rattle.cal_transport.specs.Served.{StandsAfter, IsLeft}
use Rattle.cal_transport.specs.State.{TransportState}
use Rattle.cal_program.specs.declared.status.Status.{Status}
use Rattle.cal_program.specs.declared.status.Status.TheVariants.{Done, BadScript, NotCreated, ReadFault, WriteFault, NoMemory, Usage, TooLong}
use Rattle.cal_program.specs.declared.request.Request.{Request}
use Rattle.cal_program.specs.declared.request.Request.TheVariants.{Run, Make}
use Rattle.cal_program.specs.Script.{ParsedScript, script_of}
use Rattle.cal_program.specs.MadeScript.{made_script}
use Rattle.cal_program.specs.Summary.{shown_count, summary_line}
use Rattle.cal_program.specs.ReplyText.{line, reply_lines}
use Rattle.cal_program.specs.Streams.{SourceState, SinkState, Rose, PutsAll, FailsWithin}
use Rattle.cal_program.specs.ReadAll.{script_limit, ReadsAll, ReadsSome, ReadsTooMany, FailsReading}

-- ---- text

abbrev pub cause_name : CreateCause → List ℕ
cause_name BadLayout = codes "BadLayout"
cause_name SizeOutOfRange = codes "SizeOutOfRange"
cause_name SizeIsZero = codes "SizeIsZero"
cause_name InternalError = codes "InternalError"

-- the exit status
abbrev pub status_code : Status → ℕ
status_code Done = 0
status_code (BadScript number) = 1
status_code (NotCreated cause) = 2
status_code ReadFault = 3
status_code WriteFault = 4
status_code NoMemory = 5
status_code Usage = 6
status_code TooLong = 7

-- what a run that is done has written: a made one what its replies come to, and any other its replies
abbrev pub run_text : Option Request → List Reply → List ℕ
run_text (Some (Make number rounds)) replies = summary_line replies
run_text request replies = reply_lines replies

-- what a status has written, with the replies that it hands out
abbrev pub status_text : Option Request → Status → List Reply → List ℕ
status_text request Done replies = run_text request replies
status_text request (BadScript number) replies = line (codes "line " ++ decimal number)
status_text request (NotCreated cause) replies = line (codes "create " ++ cause_name cause)
status_text request ReadFault replies = []
status_text request WriteFault replies = []
status_text request NoMemory replies = []
status_text request Usage replies = line (codes "usage: run, make NUMBER ROUNDS, relay BUFFER COUNT")
status_text request TooLong replies = line (codes "too long")

-- a made run that is done shows so few bytes that their sum can be told
abbrev pub CanBeTold : Option Request → Status → List Reply → Type 0
CanBeTold (Some (Make number rounds)) Done replies = shown_count replies < 2 ^ 32
CanBeTold request status replies = Unit {0}

-- ---- the status that the bytes of a run are due, where nothing fails

-- why no transport can be made with a script's settings; else the run is done
abbrev pub settings_status : Option CreateCause → Status
settings_status (Some cause) = NotCreated cause
settings_status None = Done

abbrev pub script_status : Result ParsedScript ℕ → Status
script_status (Err number) = BadScript number
script_status (Ok script) = settings_status (create_cause script.settings)

abbrev pub due_status : List ℕ → Status
due_status bytes = if nat_lt script_limit (length bytes) then TooLong else script_status (script_of bytes)

-- ---- what is due for each status

-- The transport answered a script so, and it is left where it answered: it stands for the ledger after the replies.
abbrev pub IsOutcomeOfScript : ParsedScript → Status → List Reply → Option TransportState → Type 0
IsOutcomeOfScript script Done replies end =
    (create_cause script.settings ≡ None) × IsRun script.settings script.commands replies ×
    IsSomeAnd end (StandsAfter script.settings script.commands replies)
IsOutcomeOfScript script (NotCreated cause) replies end =
    (create_cause script.settings ≡ Some cause) × (replies ≡ []) × (end ≡ None)
IsOutcomeOfScript script NoMemory replies end =
    (create_cause script.settings ≡ None) × StopsForMemory script.settings script.commands replies ×
    IsLeft script.settings script.commands replies end
IsOutcomeOfScript script other replies end = ⊥

-- These bytes were read to their end, and judged so.
abbrev pub IsOutcomeOfBytes : List ℕ → Status → List Reply → Option TransportState → Type 0
IsOutcomeOfBytes bytes (BadScript number) replies end =
    (script_of bytes ≡ Err number) × (replies ≡ []) × (end ≡ None)
IsOutcomeOfBytes bytes NoMemory [] end = end ≡ None
IsOutcomeOfBytes bytes status replies end = (script : ParsedScript) × (script_of bytes ≡ Ok script) ×
    IsOutcomeOfScript script status replies end

-- This status is due where the source is to be read, with these replies and what is left of the transport.
abbrev pub IsDueOfRun : SourceState → SourceState → Status → List Reply → Option TransportState → Type 0
IsDueOfRun before now ReadFault replies end = FailsReading before now × (replies ≡ []) × (end ≡ None)
IsDueOfRun before now TooLong replies end = ReadsTooMany before now × (replies ≡ []) × (end ≡ None)
IsDueOfRun before now NoMemory [] end = ReadsSome before now × (end ≡ None)
IsDueOfRun before now status replies end =
    (bytes : List ℕ) × ReadsAll before now bytes × IsOutcomeOfBytes bytes status replies end

-- This status is due, with these replies and what is left of the transport: before anything is written. Only a run
-- touches the source.
abbrev pub IsDue : Option Request → SourceState → SourceState → Status → List Reply → Option TransportState → Type 0
IsDue None before now Usage replies end = (now ≡ before) × (replies ≡ []) × (end ≡ None)
IsDue None before now status replies end = ⊥
IsDue (Some Run) before now status replies end = IsDueOfRun before now status replies end
IsDue (Some (Make number rounds)) before now status replies end =
    (now ≡ before) × IsOutcomeOfScript (made_script number rounds) status replies end

-- The text of the status that was due was put into the sink, and that status stays; or the sink failed within it.
abbrev pub IsWritten : SinkState → SinkState → List ℕ → Status → Status → Type 0
IsWritten before now text due WriteFault = FailsWithin before now text
IsWritten before now text due status = PutsAll before now text × (status ≡ due)

-- The program ended so: some status was due, and its text was written.
abbrev pub EndsDue : Option Request → SourceState → SourceState → SinkState → SinkState → Status → List Reply →
    Option TransportState → Type 0
EndsDue request source_before source_now sink_before sink_now status replies end =
    (due : Status) × IsDue request source_before source_now due replies end × IsWritten sink_before sink_now
    (status_text request due replies) due status

-- ---- when each status comes

-- A status may come in place of the due one: a fault, where the count of faults rose, and out of memory, where
-- something was to be run.
abbrev pub IsExcused : Option Request → SourceState → SourceState → SinkState → SinkState → Status → Type 0
IsExcused request source_before source_now sink_before sink_now ReadFault =
    (request ≡ Some Run) × Rose source_before.faults source_now.faults
IsExcused request source_before source_now sink_before sink_now WriteFault =
    Rose sink_before.faults sink_now.faults
IsExcused request source_before source_now sink_before sink_now NoMemory = request ≢ None
IsExcused request source_before source_now sink_before sink_now status = ⊥

-- The status is the due one, or it is excused.
abbrev pub IsDueOrExcused : Status → Option Request → SourceState → SourceState → SinkState → SinkState → Status →
    Type 0
IsDueOrExcused due request source_before source_now sink_before sink_now status =
    (status ≡ due) ⊎ IsExcused request source_before source_now sink_before sink_now status

-- What is due for a run is known where the source tells its bytes, and for all else at once: words without a form are
-- so, and a made run is done.
abbrev pub IsExact : Option Request → SourceState → SourceState → SinkState → SinkState → Status → Type 0
IsExact None source_before source_now sink_before sink_now status =
    IsDueOrExcused Usage None source_before source_now sink_before sink_now status
IsExact (Some Run) source_before source_now sink_before sink_now status = IfSome source_before.left
    (λ bytes. IsDueOrExcused (due_status bytes) (Some Run) source_before source_now sink_before sink_now status)
IsExact (Some (Make number rounds)) source_before source_now sink_before sink_now status =
    IsDueOrExcused Done (Some (Make number rounds)) source_before source_now sink_before sink_now status

-- The replies are a run of the script that the bytes are, and the transport that is left stands for the ledger to which
-- they lead.
abbrev pub AreRepliesTo : List ℕ → List Reply → Option TransportState → Type 0
AreRepliesTo bytes replies end =
    (script : ParsedScript) × (script_of bytes ≡ Ok script) × IsRun script.settings script.commands replies ×
    IsSomeAnd end (StandsAfter script.settings script.commands replies)

-- The same of a script that was made.
abbrev pub AreRepliesToScript : ParsedScript → List Reply → Option TransportState → Type 0
AreRepliesToScript script replies end = IsRun script.settings script.commands replies ×
    IsSomeAnd end (StandsAfter script.settings script.commands replies)

-- The replies are a run of what was asked for, where the source tells its bytes or isn't to be read.
abbrev pub AreDueReplies : Option Request → Option (List ℕ) → List Reply → Option TransportState → Type 0
AreDueReplies None left replies end = ⊥
AreDueReplies (Some Run) left replies end = IfSome left (λ bytes. AreRepliesTo bytes replies end)
AreDueReplies (Some (Make number rounds)) left replies end = AreRepliesToScript (made_script number rounds) replies end
