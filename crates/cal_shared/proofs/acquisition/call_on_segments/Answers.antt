use Rattle.std.proofs.Common.{◌≡◌, ◌+◌, ◌∙◌, ◌∷◌, suc, ap, sym, subst, drop, arith}
use Rattle.std.proofs.Math.Seq.{drop-cons}
use Rattle.std.proofs.lemmas.List.{get_or_default}
use Rattle.cal_queue.specs.Callback.{LeadsTo}
use Rattle.cal_connection.specs.Acquisition.{FitsSegment, used_in_segment, used_in_segments}
use Rattle.cal_connection.specs.Channel.{no_segment, segment_at}
use Rattle.cal_shared.proofs.Owed.{IsOwed, IsOwed-ran}
use Rattle.cal_shared.proofs.acquisition.call_on_segments.Goals as goal

pub call_on_segment-callback-requires-clause-fits : goal.call_on_segment-callback-requires-clause-fits
call_on_segment-callback-requires-clause-fits g c =
    let is : c.index-segments-segment.result ≡ segment_at c.args.segments.now c.loop-segment.segment =
    c.index-segments-segment.is
    ∙ get_or_default c.args.segments.now c.loop-segment.segment c.index-segments-segment.result no_segment
    (omega arith) in
    subst FitsSegment (sym is)
    (record { below = λ index used. c.requires.fits.below c.loop-segment.segment index used })

pub loop-segment-preserved : goal.loop-segment-preserved
loop-segment-preserved g c =
    let one_more : suc c.loop-segment.segment ≡ c.loop-segment.segment + 1 = omega arith in
    let split : drop c.loop-segment.segment c.args.segments.now
    ≡ c.index-segments-segment.result ∷ drop (c.loop-segment.segment + 1) c.args.segments.now =
    drop-cons c.args.segments.now c.loop-segment.segment c.index-segments-segment.result (omega arith)
    ∙ ap (λ x. x ∷ drop (suc c.loop-segment.segment) c.args.segments.now) (sym c.index-segments-segment.is)
    ∙ ap (λ n. c.index-segments-segment.result ∷ drop n c.args.segments.now) one_more in
    record {
      count = c.loop-segment.invariant.count;
      within = omega arith;
      owed = IsOwed-ran g.F.FnMut c.args.callback (used_in_segments 0 c.args.segments.now) c.loop-segment.callback
          c.call_on_segment-callback.result
          (used_in_segment c.loop-segment.segment c.index-segments-segment.result)
          (used_in_segments (c.loop-segment.segment + 1)
          (drop (c.loop-segment.segment + 1) c.args.segments.now))
          (subst (λ xs. IsOwed g.F.FnMut c.args.callback (used_in_segments 0 c.args.segments.now)
          c.loop-segment.callback xs)
          (ap (used_in_segments c.loop-segment.segment) split) c.loop-segment.invariant.owed)
          (subst (λ n. LeadsTo g.F.FnMut c.loop-segment.callback
          (used_in_segment n c.index-segments-segment.result) c.call_on_segment-callback.result)
          c.new-segment_id.ensures.value c.call_on_segment-callback.ensures.called);
    }
