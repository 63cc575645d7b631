use Rattle.std.proofs.Common.{◌≡◌, List, length, refl, ap, ◌∙◌, arith}
use Rattle.std.specs.Prelude.{map}
use Rattle.std.specs.Vec.{with_items}
use Rattle.std.proofs.lemmas.List.{with_items_is}
use Rattle.cal_connection.specs.Channel.{after_return, return_answer, samples_of}
use Rattle.cal_connection.specs.ShapeLemmas.{samples-after_return}
use Rattle.cal_connection.specs.declared.errors.ZeroCopyReclaimError.TheVariants.{ReceiverReturnedCorruptedPointerOffset}
use Rattle.cal_connection.specs.declared.segment_details.SegmentDetails.{SegmentDetails}
use Rattle.cal_shared.proofs.SameRings.{same_rings}
use Rattle.cal_shared.proofs.SendingSteps.{FitsSender-kept, Reclaims-popped}
use Rattle.cal_shared.proofs.sending_end.SendingEnd.reclaim.Goals as goal

pub returns-clause-reclaimed : goal.returns-clause-reclaimed
returns-clause-reclaimed c =
    let before : length c.deref_mut.result.now ≡ length c.self.inside.segments.items =
    ap length c.deref_mut.ensures.value in
    let as_long : length c.judge.new.segments ≡ c.self.inside.segments.len =
    omega (arith, before, c.judge.auto.segments, c.self.inside.segments.ok.0) in
    rw (← c.self.view_is) (Reclaims-popped _ _
    (same_rings _ _ _ _ refl c.pop-returned.ensures.same_end.0) _ c.pop-returned.result
    c.pop-returned.ensures.is_pop c.pop-returned.ensures.same_end.1
    (c.judge.ensures.answer
    ∙ ap (λ (s : List SegmentDetails). return_answer ReceiverReturnedCorruptedPointerOffset s c.pop-returned.result)
    c.deref_mut.ensures.value)
    (with_items_is c.self.inside.segments c.judge.new.segments as_long
    ∙ c.judge.ensures.used
    ∙ ap (λ (s : List SegmentDetails). after_return s c.pop-returned.result)
    c.deref_mut.ensures.value) refl)

pub returns-clause-kept : goal.returns-clause-kept
returns-clause-kept c =
    let before : length c.deref_mut.result.now ≡ length c.self.inside.segments.items =
    ap length c.deref_mut.ensures.value in
    let as_long : length c.judge.new.segments ≡ c.self.inside.segments.len =
    omega (arith, before, c.judge.auto.segments, c.self.inside.segments.ok.0) in
    let samples : map samples_of (with_items c.self.inside.segments c.judge.new.segments).items
    ≡ map samples_of c.self.inside.segments.items =
    ap (map samples_of) (with_items_is c.self.inside.segments c.judge.new.segments as_long ∙ c.judge.ensures.used)
    ∙ samples-after_return c.deref_mut.result.now c.pop-returned.result
    ∙ ap (map samples_of) c.deref_mut.ensures.value in
    rw (← c.self.view_is) (λ settings fits. FitsSender-kept settings _ _ (record {
      rings = same_rings _ _ _ _ refl c.pop-returned.ensures.same_end.0;
      buffer = refl;
      completion = c.pop-returned.ensures.same_end.1;
      samples = samples;
    }) fits)
