use Rattle.std.proofs.Common.{◌≡◌, sym, ap, ◌∙◌, subst}
use Rattle.cal_connection.specs.declared.settings.ConnectionSettings.{ConnectionSettings}
use Rattle.cal_shared.specs.Channels.{FitsReceiver, FitsSender}
use Rattle.cal_shared.specs.Port.{IsSoundPort, Pair, ReceivingPort, SendingPort}
use Rattle.cal_shared.proofs.OnlyChannel.{IsOneSchedule-only, only_element}
use Rattle.cal_shared.proofs.resting.rest.Goals as goal

pub returns-clause-one_schedule : goal.returns-clause-one_schedule
returns-clause-one_schedule c =
    let same : c.args.receiver.settings ≡ c.args.sender.settings = sym (ap (λ (p : Pair). p.settings) c.requires.pair) in
    let one : c.sender.inside.settings.number_of_channels ≡ 1 =
    ap (λ (p : SendingPort). p.settings.number_of_channels) c.sender.view_is ∙ c.requires.one_channel in
    let other : c.receiver.inside.settings.number_of_channels ≡ 1 =
    ap (λ (p : ReceivingPort). p.settings.number_of_channels) c.receiver.view_is
    ∙ ap (λ (s : ConnectionSettings). s.number_of_channels) same ∙ c.requires.one_channel in
    IsOneSchedule-only c.args.sender c.args.receiver c.in-Some.sending c.in-Some-pop.receiving c.rest_of_channel.result
    (subst (IsSoundPort FitsSender) c.sender.view_is c.sender.invariant)
    (subst (IsSoundPort FitsReceiver) c.receiver.view_is c.receiver.invariant) same
    (ap (λ (p : SendingPort). p.channels) (sym c.sender.view_is)
    ∙ only_element c.sender.inside.channels.items c.pop.new.self.items c.in-Some.sending c.in-Some.ensures.items
    (c.sender.invariant.count ∙ one))
    (ap (λ (p : ReceivingPort). p.channels) (sym c.receiver.view_is)
    ∙ only_element c.receiver.inside.channels.items c.pop-2.new.self.items c.in-Some-pop.receiving
    c.in-Some-pop.ensures.items (c.receiver.invariant.count ∙ other)) c.rest_of_channel.ensures.counted
