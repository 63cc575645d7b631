-- Texts for the worked examples.
use Rattle.std.specs.Prelude.{ℕ, false, List, [], ◌∷◌, codes}
use Rattle.std.specs.List.{join_with_byte}
use Rattle.cal_alloc.specs.declared.allocation_strategy.AllocationStrategy.TheVariants.{Static}
use Rattle.cal_transport.specs.declared.settings.Settings.{Settings}
use Rattle.cal_transport.specs.declared.reply.Slot.{Slot}
use Rattle.cal_transport.specs.declared.command.Command.{Command}
use Rattle.cal_transport.specs.declared.command.Command.TheVariants.{Loan, Write, Send, Receive, Read, Release, Reclaim, Discard}
use Rattle.cal_transport.specs.declared.reply.Reply.{Reply}
use Rattle.cal_transport.specs.declared.reply.Reply.TheVariants.{Shown, Refused, Transit}
use Rattle.cal_transport.specs.declared.reply.Refusal.TheVariants.{NotLoaned}

-- one chunk, from its loan to its bytes on the other side
abbrev pub one_chunk : List ℕ
one_chunk = join_with_byte 10 (codes "transport 8 8 1 static 1 1 off 1 1 1"
    ∷ codes "loan 8 8"
    ∷ codes "write 1 0 7b00"
    ∷ codes "send 0 1"
    ∷ codes "receive 0"
    ∷ codes "read 0 1 0 2" ∷ [])

abbrev pub small_settings : Settings
small_settings = record {
  size = 8;
  alignment = 8;
  count = 1;
  strategy = Static;
  buffer = 1;
  borrow = 1;
  overflow = false;
  samples = 1;
  segments = 1;
  channels = 1;
}

abbrev pub one_chunk_commands : List Command
one_chunk_commands = Loan 8 8 ∷ Write 1 0 (123 ∷ 0 ∷ []) ∷ Send 0 1 ∷ Receive 0 ∷ Read 0 1 0 2 ∷ []

-- its third line is no command
abbrev pub bad_third_line : List ℕ
bad_third_line = join_with_byte 10 (codes "transport 8 8 1 static 1 1 off 1 1 1" ∷ codes "count" ∷ codes "bogus" ∷ [])

abbrev pub one_slot : Slot
one_slot = record {
  chunk = 14;
  segment = 2;
  place = 16;
}

-- the commands of `make 1 1`
abbrev pub round_of_one : List Command
round_of_one = Loan 23 1 ∷ Write 1 0 (223 ∷ []) ∷ Send 0 1 ∷ Discard 1 ∷ Receive 0 ∷ Read 0 1 0 1 ∷ Release 0 1
    ∷ Reclaim 0 ∷ []

-- bytes that were read, a refusal, and a chunk in transit
abbrev pub some_replies : List Reply
some_replies = Shown (255 ∷ 0 ∷ 5 ∷ []) ∷ Refused NotLoaned ∷ Transit 1 one_slot ∷ []
