-- A frame is taken by a receive, two reads and a release.
use Rattle.std.proofs.Common.{ℕ, ◌+◌, ◌≡◌, List, Some, None, sym, ap, ◌∙◌, subst}
use Rattle.cal_transport.specs.declared.command.Command.TheVariants as command
use Rattle.cal_transport.specs.declared.reply.Reply.TheVariants.{Received, Released}
use Rattle.cal_transport.specs.declared.reply.Slot.{Slot}
use Rattle.cal_transport.specs.Standing.{DoesAnywhere}
use Rattle.cal_transport.specs.State.{TransportState}
use Rattle.cal_frames.specs.Carrying.{BeginsWith, packet_of}
use Rattle.cal_frames.specs.Sides.{Reads, Takes}
use Rattle.cal_frames.proofs.Commands.{receive_takes, release_carries}

pub takes_none : (old new : TransportState) → DoesAnywhere old (command.Receive 0) (Received None) new →
    Takes old None new
takes_none old new does = λ frames left carries. receive_takes old new frames left None does carries

pub takes_some : (old received new : TransportState) (slot : Slot) (bytes : List ℕ) →
    DoesAnywhere old (command.Receive 0) (Received (Some slot)) received → Reads received slot.chunk bytes →
    DoesAnywhere received (command.Release 0 slot.chunk) Released new → Takes old (Some bytes) new
takes_some old received new slot bytes does reads releases = λ frames left carries.
    let r = receive_takes old received frames left (Some slot) does carries in
    let held = r.carries in
    let packet = subst (λ n. BeginsWith held.ledger n (packet_of r.frame)) (sym r.name)
    (held.has.packets left r.frame r.next) in
    let is : bytes ≡ r.frame = reads held.ledger r.frame held.stands packet (held.has.sizes left r.frame r.next) in (
      r.next ∙ ap Some (sym is),
      release_carries received new frames (left + 1) slot.chunk releases held,
    )
