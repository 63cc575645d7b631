use Rattle.std.proofs.Common.{Ok, Some, None, arith}
use Rattle.cal_program.proofs.RelayReceiving.{Borrows-received, HasGivenBackAll-looked, HasGivenBackAll-none, HasGivenBackAll-returned, HasSeenEnd-none, Looks-first, Receives-first}
use Rattle.cal_program.proofs.workers.take_turn.Goals as goal

pub give_back-requires-clause-borrowed : goal.give_back-requires-clause-borrowed
give_back-requires-clause-borrowed g c =
    let looked = c.is_channel_closed-is_closed.new.self in
    let after = c.receive.new.self in
    let limit = looked.settings.max_borrowed_samples in
    let look = Looks-first c.args.receiver.now looked c.is_channel_closed-is_closed.result c.new.result
    c.new.ensures.value c.is_channel_closed-is_closed.ensures.loaded in
    let on = Receives-first limit c.receive.result (Ok (Some c.in-Ok-Some.ptr)) looked after c.new-2.result
    c.new-2.ensures.value (cc) c.receive.ensures.received in
    let given_back = HasGivenBackAll-looked c.args.receiver.now looked c.is_channel_closed-is_closed.result look
    c.requires.given_back in
    omega (arith, (Borrows-received limit looked after c.in-Ok-Some.ptr on).borrowed given_back)

pub returns-in-Ok-Some-clause-given_back : goal.returns-in-Ok-Some-clause-given_back
returns-in-Ok-Some-clause-given_back g c =
    let looked = c.is_channel_closed-is_closed.new.self in
    let after = c.receive.new.self in
    let limit = looked.settings.max_borrowed_samples in
    let look = Looks-first c.args.receiver.now looked c.is_channel_closed-is_closed.result c.new.result
    c.new.ensures.value c.is_channel_closed-is_closed.ensures.loaded in
    let on = Receives-first limit c.receive.result (Ok (Some c.in-Ok-Some.ptr)) looked after c.new-2.result
    c.new-2.ensures.value (cc) c.receive.ensures.received in
    HasGivenBackAll-returned limit looked after c.in-Ok-Some.ptr c.give_back.new.receiver
    (Borrows-received limit looked after c.in-Ok-Some.ptr on) c.give_back.ensures.received c.give_back.ensures.released
    (HasGivenBackAll-looked c.args.receiver.now looked c.is_channel_closed-is_closed.result look c.requires.given_back)

pub returns-in-Ok-None-clause-given_back : goal.returns-in-Ok-None-clause-given_back
returns-in-Ok-None-clause-given_back g c =
    let looked = c.is_channel_closed-is_closed.new.self in
    let after = c.receive.new.self in
    let limit = looked.settings.max_borrowed_samples in
    let look = Looks-first c.args.receiver.now looked c.is_channel_closed-is_closed.result c.new.result
    c.new.ensures.value c.is_channel_closed-is_closed.ensures.loaded in
    let on = Receives-first limit c.receive.result (Ok None) looked after c.new-2.result
    c.new-2.ensures.value (cc) c.receive.ensures.received in
    HasGivenBackAll-none limit looked after on
    (HasGivenBackAll-looked c.args.receiver.now looked c.is_channel_closed-is_closed.result look c.requires.given_back)

pub returns-in-Ok-None-clause-end : goal.returns-in-Ok-None-clause-end
returns-in-Ok-None-clause-end g c is =
    let looked = c.is_channel_closed-is_closed.new.self in
    let after = c.receive.new.self in
    let limit = looked.settings.max_borrowed_samples in
    let look = Looks-first c.args.receiver.now looked c.is_channel_closed-is_closed.result c.new.result
    c.new.ensures.value c.is_channel_closed-is_closed.ensures.loaded in
    let on = Receives-first limit c.receive.result (Ok None) looked after c.new-2.result
    c.new-2.ensures.value (cc) c.receive.ensures.received in
    HasSeenEnd-none c.args.receiver.now looked c.is_channel_closed-is_closed.result look after is on
