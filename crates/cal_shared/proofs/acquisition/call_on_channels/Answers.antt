use Rattle.std.proofs.Common.{◌≡◌, ◌+◌, ◌∙◌, ◌∷◌, suc, ap, sym, subst, drop, length, refl, arith}
use Rattle.std.proofs.Math.Seq.{drop-cons}
use Rattle.std.proofs.lemmas.Option.{slice_get_read}
use Rattle.cal_connection.specs.Acquisition.{used_in_segments}
use Rattle.cal_shared.specs.Acquiring.{used_on_channels}
use Rattle.cal_shared.proofs.Owed.{IsOwed, IsOwed-ran}
use Rattle.cal_shared.proofs.acquisition.call_on_channels.Goals as goal

pub call_on_used-callback-requires-clause-numbered : goal.call_on_used-callback-requires-clause-numbered
call_on_used-callback-requires-clause-numbered g c =
    c.requires.fits.numbered c.loop-channel.channel c.index-channels-channel.result
    (slice_get_read c.args.channels.now (length c.args.channels.now) c.loop-channel.channel
    c.index-channels-channel.result refl (omega arith) c.index-channels-channel.is)

pub call_on_used-callback-requires-clause-fits : goal.call_on_used-callback-requires-clause-fits
call_on_used-callback-requires-clause-fits g c =
    c.requires.fits.fits c.loop-channel.channel c.index-channels-channel.result
    (slice_get_read c.args.channels.now (length c.args.channels.now) c.loop-channel.channel
    c.index-channels-channel.result refl (omega arith) c.index-channels-channel.is)

pub loop-channel-preserved : goal.loop-channel-preserved
loop-channel-preserved g c =
    let one_more : suc c.loop-channel.channel ≡ c.loop-channel.channel + 1 = omega arith in
    let split : drop c.loop-channel.channel c.args.channels.now
    ≡ c.index-channels-channel.result ∷ drop (c.loop-channel.channel + 1) c.args.channels.now =
    drop-cons c.args.channels.now c.loop-channel.channel c.index-channels-channel.result (omega arith)
    ∙ ap (λ x. x ∷ drop (suc c.loop-channel.channel) c.args.channels.now) (sym c.index-channels-channel.is)
    ∙ ap (λ n. c.index-channels-channel.result ∷ drop n c.args.channels.now) one_more in
    record {
      count = c.loop-channel.invariant.count;
      within = omega arith;
      owed = IsOwed-ran g.F.FnMut c.args.callback (used_on_channels c.args.channels.now) c.loop-channel.callback
          c.call_on_used-callback.result
          (used_in_segments 0 c.index-channels-channel.result.segments)
          (used_on_channels (drop (c.loop-channel.channel + 1) c.args.channels.now))
          (subst (λ xs. IsOwed g.F.FnMut c.args.callback (used_on_channels c.args.channels.now)
          c.loop-channel.callback xs)
          (ap used_on_channels split) c.loop-channel.invariant.owed)
          c.call_on_used-callback.ensures.called;
    }
