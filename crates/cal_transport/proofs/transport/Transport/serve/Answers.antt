use Rattle.std.proofs.Common.{refl, subst}
use Rattle.cal_transport.specs.CommandsDo.{WriteDoes}
use Rattle.cal_transport.specs.declared.command.Command.TheVariants as command
use Rattle.cal_transport.specs.declared.reply.Reply.TheVariants.{Counted}
use Rattle.cal_transport.proofs.Serving.{told_by, write_served, send_served, receive_served, release_served, reclaim_served, discard_served}
use Rattle.cal_transport.proofs.transport.Transport.serve.Goals as goal

pub returns-in-Write-clause-served : goal.returns-in-Write-clause-served
returns-in-Write-clause-served c =
    write_served c.args.self.now c.write.new.self c.args.place c.args.command.now c.in-Write.chunk c.in-Write.at
    c.in-Write.bytes c.write.result c.reply_at_end.result c.in-Write.is
    (subst (λ bytes. WriteDoes c.args.self.now c.in-Write.chunk c.in-Write.at bytes c.write.result c.write.new.self)
    c.as_slice.ensures.value c.write.ensures.step)
    c.reply_at_end.ensures.value

pub returns-in-Send-clause-served : goal.returns-in-Send-clause-served
returns-in-Send-clause-served c =
    send_served c.args.self.now c.send.new.self c.args.place c.args.command.now c.in-Send.channel c.in-Send.chunk
    c.send.result c.map.result c.reply_to.result c.in-Send.is c.send.ensures.step
    c.map.ensures.cases c.reply_to.ensures.value

pub returns-in-Receive-clause-served : goal.returns-in-Receive-clause-served
returns-in-Receive-clause-served c =
    receive_served c.args.self.now c.receive.new.self c.args.place c.args.command.now c.in-Receive.channel
    c.receive.result c.map-in-Receive.result c.reply_to-in-Receive.result c.in-Receive.is c.receive.ensures.step
    c.map-in-Receive.ensures.cases c.reply_to-in-Receive.ensures.value

pub returns-in-Release-clause-served : goal.returns-in-Release-clause-served
returns-in-Release-clause-served c =
    release_served c.args.self.now c.release.new.self c.args.place c.args.command.now c.in-Release.channel
    c.in-Release.chunk
    c.release.result c.reply_at_end-in-Release.result c.in-Release.is c.release.ensures.step
    c.reply_at_end-in-Release.ensures.value

pub returns-in-Reclaim-clause-served : goal.returns-in-Reclaim-clause-served
returns-in-Reclaim-clause-served c =
    reclaim_served c.args.self.now c.reclaim.new.self c.args.place c.args.command.now c.in-Reclaim.channel
    c.reclaim.result c.map-in-Reclaim.result c.reply_to-in-Reclaim.result c.in-Reclaim.is c.reclaim.ensures.step
    c.map-in-Reclaim.ensures.cases c.reply_to-in-Reclaim.ensures.value

pub returns-in-Discard-clause-served : goal.returns-in-Discard-clause-served
returns-in-Discard-clause-served c =
    discard_served c.args.self.now c.discard.new.self c.args.place c.args.command.now c.in-Discard.chunk
    c.discard.result c.reply_at_end-in-Discard.result c.in-Discard.is c.discard.ensures.step
    c.reply_at_end-in-Discard.ensures.value

pub returns-in-Count-clause-served : goal.returns-in-Count-clause-served
returns-in-Count-clause-served c =
    told_by c.args.self.now c.args.self.now c.args.place c.args.command.now command.Count (Counted c.count.result)
    (Counted c.count.result) c.in-Count.is refl c.count.ensures.step
