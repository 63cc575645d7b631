use Rattle.std.proofs.Common.{◌≡◌, ℕ, List, length, refl, ap, ◌∙◌, subst, arith}
use Rattle.std.specs.Prelude.{map, Ok, Err}
use Rattle.std.specs.Vec.{with_items}
use Rattle.std.proofs.lemmas.List.{with_items_is}
use Rattle.cal_queue.specs.SubmissionCalls.{IsPush, send_pass}
use Rattle.cal_connection.specs.Channel.{samples_of, with_entry}
use Rattle.cal_connection.specs.ShapeLemmas.{samples-after_return, samples-with_entry}
use Rattle.cal_connection.specs.declared.segment_details.SegmentDetails.{SegmentDetails}
use Rattle.cal_shared.proofs.SameRings.{same_rings}
use Rattle.cal_shared.proofs.SendingSteps.{FitsSender-kept, TriesToSend-refused, TriesToSend-sent}
use Rattle.cal_shared.proofs.sending_end.SendingEnd.try_send.Goals as goal

pub returns-in-Err-clause-sent : goal.returns-in-Err-clause-sent
returns-in-Err-clause-sent c = rw (← c.self.view_is) (TriesToSend-refused _ _
    (same_rings _ _ _ _ c.in-Err.ensures.same_end.0 refl) c.in-Err.ensures.same_end.1 refl c.args.overflow c.args.ptr
    c.args.sample_size _ c.in-Err.refusal
    (subst
    (λ (v : ℕ).
    IsPush c.args.overflow v (Err c.in-Err.refusal) (send_pass c.self.inside.submission) (send_pass c.push.new.self))
    c.as_value.ensures.value c.in-Err.ensures.is_push) c.in-Err.ensures.used_up
    (ap Err c.send_error.ensures.value) refl)

pub returns-clause-sent : goal.returns-clause-sent
returns-clause-sent c =
    let before : length c.deref_mut.result.now ≡ length c.self.inside.segments.items =
    ap length c.deref_mut.ensures.value in
    let as_long : length c.enter.new.segments ≡ c.self.inside.segments.len =
    omega (arith, before, c.enter.auto.segments, c.self.inside.segments.ok.0) in
    let written : (with_items c.self.inside.segments c.enter.new.segments).items ≡ c.enter.new.segments =
    with_items_is c.self.inside.segments c.enter.new.segments as_long in
    let between : length c.deref_mut-2.result.now ≡ length c.enter.new.segments =
    ap length (c.deref_mut-2.ensures.value ∙ written) in
    let still : length c.judge.new.segments ≡ c.self.inside.segments.len =
    omega (arith, between, as_long, c.judge.auto.segments) in
    let judged : (with_items (with_items c.self.inside.segments c.enter.new.segments) c.judge.new.segments).items
    ≡ c.judge.new.segments =
    with_items_is (with_items c.self.inside.segments c.enter.new.segments) c.judge.new.segments still in
    let entered : c.deref_mut-2.result.now
    ≡ with_entry c.self.inside.segments.items c.args.ptr c.args.sample_size =
    c.deref_mut-2.ensures.value ∙ written ∙ c.enter.ensures.entered
    ∙ ap (λ (s : List SegmentDetails). with_entry s c.args.ptr c.args.sample_size) c.deref_mut.ensures.value in
    rw (← c.self.view_is) (TriesToSend-sent _ _
    (same_rings _ _ _ _ c.in-Ok.ensures.same_end.0 refl) c.in-Ok.ensures.same_end.1 refl c.args.overflow c.args.ptr
    c.args.sample_size _ c.in-Ok.back c.deref_mut-2.result.now
    (subst
    (λ (v : ℕ).
    IsPush c.args.overflow v (Ok c.in-Ok.back) (send_pass c.self.inside.submission) (send_pass c.push.new.self))
    c.as_value.ensures.value c.in-Ok.ensures.is_push) c.in-Ok.ensures.used_up entered c.judge.ensures.answer
    (judged ∙ c.judge.ensures.used))

pub returns-clause-kept : goal.returns-clause-kept
returns-clause-kept c =
    let before : length c.deref_mut.result.now ≡ length c.self.inside.segments.items =
    ap length c.deref_mut.ensures.value in
    let as_long : length c.enter.new.segments ≡ c.self.inside.segments.len =
    omega (arith, before, c.enter.auto.segments, c.self.inside.segments.ok.0) in
    let written : (with_items c.self.inside.segments c.enter.new.segments).items ≡ c.enter.new.segments =
    with_items_is c.self.inside.segments c.enter.new.segments as_long in
    let between : length c.deref_mut-2.result.now ≡ length c.enter.new.segments =
    ap length (c.deref_mut-2.ensures.value ∙ written) in
    let still : length c.judge.new.segments ≡ c.self.inside.segments.len =
    omega (arith, between, as_long, c.judge.auto.segments) in
    let judged : (with_items (with_items c.self.inside.segments c.enter.new.segments) c.judge.new.segments).items
    ≡ c.judge.new.segments =
    with_items_is (with_items c.self.inside.segments c.enter.new.segments) c.judge.new.segments still in
    let entered : c.deref_mut-2.result.now
    ≡ with_entry c.self.inside.segments.items c.args.ptr c.args.sample_size =
    c.deref_mut-2.ensures.value ∙ written ∙ c.enter.ensures.entered
    ∙ ap (λ (s : List SegmentDetails). with_entry s c.args.ptr c.args.sample_size) c.deref_mut.ensures.value in
    let samples : map samples_of
    (with_items (with_items c.self.inside.segments c.enter.new.segments) c.judge.new.segments).items
    ≡ map samples_of c.self.inside.segments.items =
    ap (map samples_of) (judged ∙ c.judge.ensures.used)
    ∙ samples-after_return c.deref_mut-2.result.now c.in-Ok.back
    ∙ ap (map samples_of) entered
    ∙ samples-with_entry c.self.inside.segments.items c.args.ptr c.args.sample_size in
    rw (← c.self.view_is) (λ settings fits. FitsSender-kept settings _ _ (record {
      rings = same_rings _ _ _ _ c.in-Ok.ensures.same_end.0 refl;
      buffer = c.in-Ok.ensures.same_end.1;
      completion = refl;
      samples = samples;
    }) fits)
