use Rattle.std.proofs.Common.{◌-◌, ◌∙◌, length, set, ap, arith}
use Rattle.std.proofs.lemmas.List.{length-set}
use Rattle.cal_transport.proofs.transport.taking_back.take_place.Goals as goal

pub leave_channel-requires-clause-index : goal.leave_channel-requires-clause-index
leave_channel-requires-clause-index c =
    let long = ap length c.enter_channel.ensures.written ∙ length-set c.args.entries.now.items c.args.joining.index _ in
    omega (arith, c.requires.leaving, c.args.entries.now.ok.0, c.enter_channel.new.entries.ok.0)

pub returns-clause-written : goal.returns-clause-written
returns-clause-written c =
    c.leave_channel.ensures.written
    ∙ ap (λ es. set es c.args.leaving.index (record c.args.leaving.entry {
      transits = c.args.leaving.entry.transits - 1;
    })) c.enter_channel.ensures.written
