-- Worked examples of calls of both ports: closed values that the definitions compute.
use Rattle.std.specs.Prelude.{false, List, [], ◌∷◌, Some, None}
use Rattle.cal_connection.specs.declared.port_call.PortCall.{PortCall}
use Rattle.cal_connection.specs.declared.port_call.PortCall.TheVariants.{Send, Receive, Release, Reclaim}
use Rattle.cal_connection.specs.declared.port_reply.PortReply.{PortReply}
use Rattle.cal_connection.specs.declared.port_reply.PortReply.TheVariants.{Sent, Received, Released, Reclaimed, Corrupted, Unsuited}
use Rattle.cal_connection.specs.declared.settings.ConnectionSettings.{ConnectionSettings}
use Rattle.cal_connection.specs.Calls.{BothEnds}
use Rattle.cal_connection.specs.Port.{new_port}

-- two channels with a queue of one offset, one segment of two samples, and one offset to be borrowed
abbrev pub two_channel_settings : ConnectionSettings
two_channel_settings = record {
  buffer_size = 1;
  enable_safe_overflow = false;
  max_borrowed_samples = 1;
  number_of_samples = 2;
  number_of_segments = 1;
  number_of_channels = 2;
}

-- both ends of a new connection
abbrev pub new_ends : BothEnds
new_ends = record { port = new_port two_channel_settings 3 0; borrow_counts = 0 ∷ 0 ∷ [] }

-- The receiver gives something else back than it got. The sample stays in use on its channel, and another channel is
-- served as ever.
abbrev pub foreign_return : List PortCall
foreign_return =
    Send 0 0 8 ∷ Receive 0 ∷ Release 0 7 ∷ Reclaim 0 ∷ Reclaim 0 ∷ Send 0 0 8 ∷ Send 1 0 8 ∷ Release 0 0 ∷ []

abbrev pub foreign_return_replies : List PortReply
foreign_return_replies =
    Sent None ∷ Received (Some 0) ∷ Released ∷ Corrupted ∷ Reclaimed None ∷ Unsuited ∷ Sent None ∷ Unsuited ∷ []

-- The receiver gives the first sample back twice, and the second one not at all.
abbrev pub double_return : List PortCall
double_return =
    Send 0 0 8 ∷ Receive 0 ∷ Send 0 2048 8 ∷ Release 0 0 ∷ Receive 0 ∷ Release 0 0 ∷ Reclaim 0 ∷ Reclaim 0 ∷ []

abbrev pub double_return_replies : List PortReply
double_return_replies =
    Sent None ∷ Received (Some 0) ∷ Sent None ∷ Released ∷ Received (Some 2048) ∷ Released ∷ Reclaimed (Some 0)
    ∷ Corrupted ∷ []
