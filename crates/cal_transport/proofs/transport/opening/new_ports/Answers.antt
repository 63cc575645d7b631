use Rattle.std.proofs.Common.{◌≡◌, ◌∙◌, false, Some, ◌⊎◌, replicate, ap, subst}
use Rattle.cal_connection.specs.Creation.{early_refusal, found_refusal, new_end, after_connecting}
use Rattle.cal_connection.specs.Plan.{ConnectionPlan}
use Rattle.cal_connection.specs.Words.{sender_bit, receiver_bit}
use Rattle.cal_connection.specs.declared.errors.ZeroCopyCreationError.TheVariants.{NoMemory}
use Rattle.cal_transport.specs.Opening.{connection_plan}
use Rattle.cal_transport.proofs.NewPorts.{sender_error, receiver_error, ports_made}
use Rattle.cal_transport.proofs.transport.opening.new_ports.Goals as goal

pub port_error-requires : goal.port_error-requires
port_error-requires c = record {
  memory = sender_error c.args.settings.now c.requires.can false c.args.reg.now c.in-Err.error c.requires.new
      (subst (λ plan. (early_refusal false c.args.reg.now plan ≡ Some c.in-Err.error)
      ⊎ ((found_refusal c.args.reg.now plan sender_bit ≡ Some c.in-Err.error) ⊎ (c.in-Err.error ≡ NoMemory)))
      c.port_builder.ensures.plan c.in-Err.ensures.error);
}

pub port_error-requires-in-Err-create_receiver : goal.port_error-requires-in-Err-create_receiver
port_error-requires-in-Err-create_receiver c =
    let s = c.args.settings.now in
    let first = c.create_sender.new.reg in
    record {
      memory = receiver_error s c.requires.can first c.in-Err-create_receiver.error
          (subst (λ plan. first ≡ after_connecting c.args.reg.now plan sender_bit) c.port_builder.ensures.plan
          c.in-Ok.ensures.connected
          ∙ ap (λ old. after_connecting old (connection_plan s) sender_bit) c.requires.new)
          (subst (λ plan. (early_refusal false first plan ≡ Some c.in-Err-create_receiver.error)
          ⊎ ((found_refusal first plan receiver_bit ≡ Some c.in-Err-create_receiver.error)
          ⊎ (c.in-Err-create_receiver.error ≡ NoMemory)))
          c.port_builder-2.ensures.plan c.in-Err-create_receiver.ensures.error);
    }

pub returns-in-Ok-create_receiver : goal.returns-in-Ok-create_receiver
returns-in-Ok-create_receiver c =
    let s = c.args.settings.now in
    let old = c.args.reg.now in
    let first = c.create_sender.new.reg in
    let last = c.create_receiver.new.reg in
    let sender = c.in-Ok.sender in
    let receiver = c.in-Ok-create_receiver.receiver in
    record {
      made = ports_made s c.requires.can old first last sender receiver c.requires.new
          (subst (λ plan. first ≡ after_connecting old plan sender_bit) c.port_builder.ensures.plan
          c.in-Ok.ensures.connected)
          (subst (λ plan. sender.handle ≡ new_end old plan) c.port_builder.ensures.plan c.in-Ok.ensures.handle)
          (c.in-Ok.ensures.name ∙ ap (λ (plan : ConnectionPlan). plan.name) c.port_builder.ensures.plan)
          (subst (λ plan. last ≡ after_connecting first plan receiver_bit) c.port_builder-2.ensures.plan
          c.in-Ok-create_receiver.ensures.connected)
          (subst (λ (plan : ConnectionPlan). receiver ≡ (record {
            name = plan.name;
            handle = new_end first plan;
            borrow_counts = replicate plan.options.settings.number_of_channels 0;
          })) c.port_builder-2.ensures.plan c.in-Ok-create_receiver.ensures.end);
    }
