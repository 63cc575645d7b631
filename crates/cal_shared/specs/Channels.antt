-- What each port has of a channel: what it has done at the two rings, and what it alone keeps.
use Rattle.std.specs.Prelude.{◌≡◌, ℕ, ◌-◌, ◌≤◌, List, length, map, replicate}
use Rattle.atomic_table.specs.Seated.{TableId}
use Rattle.cal_queue.specs.declared.completion_ring.pass.GetPass.{GetPass}
use Rattle.cal_queue.specs.declared.completion_ring.pass.PutPass.{PutPass}
use Rattle.cal_queue.specs.declared.submission_ring.pass.SendPass.{SendPass}
use Rattle.cal_queue.specs.declared.submission_ring.pass.TakePass.{TakePass}
use Rattle.cal_connection.specs.Channel.{samples_of}
use Rattle.cal_connection.specs.Settings.{completion_size}
use Rattle.cal_connection.specs.declared.segment_details.SegmentDetails.{SegmentDetails}
use Rattle.cal_connection.specs.declared.settings.ConnectionSettings.{ConnectionSettings}

-- which two rings a channel has
pub record Rings : Type 0 where
  pub submission : TableId
  pub completion : TableId

-- what a sender has of a channel. The samples in use and their sizes, by the numbers of the segments, are its alone
pub record SendingChannel : Type 0 where
  pub rings : Rings
  pub submission : SendPass
  pub completion : GetPass
  pub segments : List SegmentDetails

-- what a receiver has of a channel
pub record ReceivingChannel : Type 0 where
  pub rings : Rings
  pub submission : TakePass
  pub completion : PutPass

-- how many offsets are received and not released: the receiver's alone
abbrev pub borrow_count : ReceivingChannel → ℕ
borrow_count channel = length channel.submission.received - length channel.completion.put

-- a channel has the room that the settings give it
pub record FitsSender (settings : ConnectionSettings) (channel : SendingChannel) : Type 0 where
  pub buffer : channel.submission.buffer ≡ settings.buffer_size
  pub completion : channel.completion.capacity ≡ completion_size settings
  pub samples : map samples_of channel.segments ≡ replicate settings.number_of_segments settings.number_of_samples

-- and no more is released than was received, nor more borrowed than may be
pub record FitsReceiver (settings : ConnectionSettings) (channel : ReceivingChannel) : Type 0 where
  pub buffer : channel.submission.buffer ≡ settings.buffer_size
  pub completion : channel.completion.capacity ≡ completion_size settings
  pub received_first : length channel.completion.put ≤ length channel.submission.received
  pub within : borrow_count channel ≤ settings.max_borrowed_samples

-- the same rings, with as much room
pub record KeepsSendingRoom (before after : SendingChannel) : Type 0 where
  pub rings : after.rings ≡ before.rings
  pub buffer : after.submission.buffer ≡ before.submission.buffer
  pub completion : after.completion.capacity ≡ before.completion.capacity
  pub samples : map samples_of after.segments ≡ map samples_of before.segments

pub record KeepsReceivingRoom (before after : ReceivingChannel) : Type 0 where
  pub rings : after.rings ≡ before.rings
  pub buffer : after.submission.buffer ≡ before.submission.buffer
  pub completion : after.completion.capacity ≡ before.completion.capacity
