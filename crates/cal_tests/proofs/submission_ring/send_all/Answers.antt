use Rattle.std.proofs.Common.{ℕ, [], ◌∷◌, ◌++◌, List, length, ap, sym, ◌∙◌, refl, arith}
use Rattle.std.proofs.lemmas.Bool.{false≢true}
use Rattle.std.proofs.lemmas.List.FromFn.{length-range_with_len}
use Rattle.std.specs.Option.{option_to_list}
use Rattle.cal_tests.proofs.OverflowedValues.{overflowed-more}
use Rattle.cal_tests.proofs.RisingValues.{range-more}
use Rattle.cal_tests.proofs.submission_ring.send_all.Goals as goal

pub unreachable-requires : goal.unreachable-requires
unreachable-requires c =
    let value = c.loop-value.value in
    let sent = ap length c.loop-value.invariant.sent ∙ length-range_with_len 0 value in
    let counts = c.requires.counts in
    absurd (false≢true (c.in_default.ensures.taken_with_overflow refl (omega arith)))

pub loop-value-preserved : goal.loop-value-preserved
loop-value-preserved c =
    let so_far = c.loop-value.invariant in
    let end = c.push.ensures.same_end in
    let value = c.loop-value.value in record {
      same_ring = (end.0 ∙ so_far.same_ring.0, end.1 ∙ so_far.same_ring.1);
      sent = c.in-Ok.ensures.appended ∙ ap (λ (l : List ℕ). l ++ value ∷ []) so_far.sent ∙ sym (range-more value);
      returned = c.in_ok-keep.ensures.kept ∙ ap (λ (l : List ℕ). l ++ option_to_list c.in-Ok.back) so_far.returned
          ∙ sym (overflowed-more value c.in-Ok.back _ _ c.in-Ok.ensures.is_push);
    }
