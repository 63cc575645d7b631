-- The one spelling of each settings line and each command line.
use Rattle.std.specs.Prelude.{ℕ, ◌+◌, ◌/◌, ◌%◌, ◌<◌, ◌^◌, Bool, true, false, nat_lt, if◌then◌else◌, List, [], ◌∷◌, decimal, codes}
use Rattle.std.specs.List.{flat_map, join_with_byte, AllByRecursion}
use Rattle.cal_alloc.specs.declared.allocation_strategy.AllocationStrategy.{AllocationStrategy}
use Rattle.cal_alloc.specs.declared.allocation_strategy.AllocationStrategy.TheVariants.{BestFit, PowerOfTwo, Static}
use Rattle.cal_transport.specs.declared.settings.Settings.{Settings}
use Rattle.cal_transport.specs.declared.command.Command.{Command}
use Rattle.cal_transport.specs.declared.command.Command.TheVariants.{Loan, Write, Send, Receive, Read, Release, Reclaim, Discard, Count}

-- ---- bytes in hexadecimal

-- the letter of half a byte
abbrev pub hex_letter : ℕ → ℕ
hex_letter half = if nat_lt half 10 then 48 + half else 87 + half

-- the high half first
abbrev pub hex_pair : ℕ → List ℕ
hex_pair byte = hex_letter (byte / 16) ∷ hex_letter (byte % 16) ∷ []

-- two letters for each byte, and a dash for no bytes
abbrev pub hex : List ℕ → List ℕ
hex [] = codes "-"
hex (byte ∷ bytes) = flat_map hex_pair (byte ∷ bytes)

-- ---- lines

-- words, one space apart
abbrev pub spaced_words : List (List ℕ) → List ℕ
spaced_words = join_with_byte 32

abbrev pub strategy_word : AllocationStrategy → List ℕ
strategy_word BestFit = codes "best"
strategy_word PowerOfTwo = codes "power"
strategy_word Static = codes "static"

abbrev pub switch_word : Bool → List ℕ
switch_word true = codes "on"
switch_word false = codes "off"

-- the settings line
abbrev pub settings_line : Settings → List ℕ
settings_line s = spaced_words
    (codes "transport" ∷ decimal s.size ∷ decimal s.alignment ∷ decimal s.count ∷ strategy_word s.strategy
    ∷ decimal s.buffer ∷ decimal s.borrow ∷ switch_word s.overflow ∷ decimal s.samples ∷ decimal s.segments ∷ decimal
    s.channels ∷ [])

-- the command line
abbrev pub command_line : Command → List ℕ
command_line (Loan size alignment) = spaced_words (codes "loan" ∷ decimal size ∷ decimal alignment ∷ [])
command_line (Write chunk at bytes) = spaced_words (codes "write" ∷ decimal chunk ∷ decimal at ∷ hex bytes ∷ [])
command_line (Send channel chunk) = spaced_words (codes "send" ∷ decimal channel ∷ decimal chunk ∷ [])
command_line (Receive channel) = spaced_words (codes "receive" ∷ decimal channel ∷ [])
command_line (Read channel chunk at length) =
    spaced_words (codes "read" ∷ decimal channel ∷ decimal chunk ∷ decimal at ∷ decimal length ∷ [])
command_line (Release channel chunk) = spaced_words (codes "release" ∷ decimal channel ∷ decimal chunk ∷ [])
command_line (Reclaim channel) = spaced_words (codes "reclaim" ∷ decimal channel ∷ [])
command_line (Discard chunk) = spaced_words (codes "discard" ∷ decimal chunk ∷ [])
command_line Count = codes "count"

-- ---- what has a spelling: numbers of 64 bits and bytes of 8, as every value that the program holds

abbrev pub IsWord : ℕ → Type 0
IsWord n = n < 2 ^ 64

abbrev pub HasSettingsSpelling : Settings → Type 0
HasSettingsSpelling s = IsWord s.size × IsWord s.alignment × IsWord s.count × IsWord s.buffer × IsWord s.borrow ×
    IsWord s.samples
    × (s.segments < 2 ^ 8) × IsWord s.channels

abbrev pub HasSpelling : Command → Type 0
HasSpelling (Loan size alignment) = IsWord size × IsWord alignment
HasSpelling (Write chunk at bytes) = IsWord chunk × IsWord at × AllByRecursion (λ byte. byte < 2 ^ 8) bytes
HasSpelling (Send channel chunk) = IsWord channel × IsWord chunk
HasSpelling (Receive channel) = IsWord channel
HasSpelling (Read channel chunk at length) = IsWord channel × IsWord chunk × IsWord at × IsWord length
HasSpelling (Release channel chunk) = IsWord channel × IsWord chunk
HasSpelling (Reclaim channel) = IsWord channel
HasSpelling (Discard chunk) = IsWord chunk
HasSpelling Count = Unit {0}
