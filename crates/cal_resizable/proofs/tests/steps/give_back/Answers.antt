use Rattle.cal_resizable.proofs.tests.steps.give_back.Goals as goal

pub returns-clause-together : goal.returns-clause-together
returns-clause-together g c =
    c.a_memory_stays_with_its_view.ensures.returned c.args.reg.now c.deallocate.new.reg c.args.memory.now
    c.deallocate.new.self c.args.view.now c.args.offset c.requires.chunks c.deallocate.ensures.freed
    c.deallocate.ensures.own c.deallocate.ensures.spares c.requires.together

pub returns-clause-shown : goal.returns-clause-shown
returns-clause-shown g c = λ pointer count.
    c.a_view_keeps_its_bytes.ensures.returned c.args.reg.now c.deallocate.new.reg c.args.memory.now
    c.deallocate.new.self c.args.view.now c.args.offset pointer count c.deallocate.ensures.freed c.requires.together
