use Rattle.std.proofs.Common.{◌≡◌, Some, sym, ap, ◌∙◌}
use Rattle.std.specs.Prelude.{slice_get, option_copied}
use Rattle.cal_program.proofs.BufferLemmas.{shows-same, reply-parts}
use Rattle.cal_program.proofs.print.print_replies.Goals as goal

pub loop-place-preserved : goal.loop-place-preserved
loop-place-preserved g c from shown h =
    let found : slice_get c.args.replies.now.items c.loop-place.place ≡ Some c.unwrap-reply.result.now =
    sym c.get.ensures.reply ∙ ap option_copied c.unwrap-reply.ensures
    in
    shows-same from c.text.new.self (g.S.Sink.state c.text.new.sink) _ _
    (reply-parts shown c.args.replies.now.items c.loop-place.place c.unwrap-reply.result.now found)
    (c.text.ensures.text from _ (c.print_reply.ensures from _ (c.loop-place.invariant from shown h)))
