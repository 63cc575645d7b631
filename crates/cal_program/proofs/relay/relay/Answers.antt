use Rattle.std.proofs.Common.{ℕ, ◌<◌, ap, ◌∙◌, length, subst, sym, arith}
use Rattle.cal_shared.specs.New.{IsNewReceivingChannel, IsNewSendingChannel}
use Rattle.cal_shared.specs.Rest.{IsOneSchedule, bounds_of, overflowed_at, received_at, released_at, sent_at}
use Rattle.cal_program.specs.Relay.{relay_settings}
use Rattle.cal_program.specs.Workers.{open_state}
use Rattle.cal_program.proofs.NewRelay.{HasGivenBackAll-new, HasSent-new, IsNewPort-relayed}
use Rattle.cal_program.proofs.RelaySending.{length-relayed_offsets, sent-ended, settings-kept}
use Rattle.cal_program.proofs.relay.relay.Goals as goal

pub join-receiver-requires-after_bounds : goal.join-receiver-requires-after_bounds
join-receiver-requires-after_bounds g c κs within =
    let form = c.args.form in
    let sender = c.in_ok-sender.sender in
    let receiver = c.in_ok-sender.receiver in
    let new_sender = IsNewPort-relayed IsNewSendingChannel form c.port_settings.result sender
    c.port_settings.ensures.value c.in_ok-sender.ensures.sender in
    let new_receiver = IsNewPort-relayed IsNewReceivingChannel form c.port_settings.result receiver
    c.port_settings.ensures.value c.in_ok-sender.ensures.receiver in (
      (
        (subst (λ s. 0 < s.number_of_channels) (sym new_receiver.same_settings) (omega arith)),
        (
          ap (λ s. s.max_borrowed_samples) new_receiver.same_settings,
          HasGivenBackAll-new (relay_settings form) open_state receiver (omega arith) new_receiver,
        ),
      ),
      (
        new_sender.same_settings,
        (
          omega (arith, c.requires.form.count),
          HasSent-new (relay_settings form) open_state sender (omega arith) new_sender,
        ),
      ),
    )

pub returns-clause-relayed : goal.returns-clause-relayed
returns-clause-relayed g c =
    let form = c.args.form in
    let sender = c.join-receiver.result.1 in
    let receiver = c.join-receiver.result.0 in
    let first = c.join-receiver.ensures.first in
    let second = c.join-receiver.ensures.second in
    let new_sender = IsNewPort-relayed IsNewSendingChannel form c.port_settings.result c.in_ok-sender.sender
    c.port_settings.ensures.value c.in_ok-sender.ensures.sender in
    record {
      sender = sender;
      receiver = receiver;
      pair = second.1 ∙ c.in_ok-sender.ensures.pair ∙ sym first.1.1;
      settings = settings-kept c.in_ok-sender.sender sender second.1 ∙ new_sender.same_settings;
      all_sent = sent-ended form.count sender second.0;
      ended = second.0;
      given_back = first.0;
      seen_end = first.1.0;
      sent_count = c.rest.ensures.sent ∙ ap length (sent-ended form.count sender second.0) ∙ length-relayed_offsets form.count;
      received_count = c.rest.ensures.received;
      returned_count = c.rest.ensures.returned;
      adds_up = c.rest.ensures.adds_up;
      partition = c.rest.ensures.partition;
      one_schedule =
          subst (λ (n : ℕ). IsOneSchedule (bounds_of sender.settings) (sent_at sender 0) (overflowed_at sender 0)
          (received_at receiver 0) (released_at receiver 0) n) c.rest.ensures.reclaimed c.rest.ensures.one_schedule;
    }
