use Rattle.std.proofs.Common.{◌≡◌, ◌+◌, ◌∙◌, ◌∷◌, ap, sym, subst, map, arith}
use Rattle.cal_queue.specs.Callback.{MayRunOver}
use Rattle.cal_queue.specs.UsedChunkMembers.{members_from-start, members_from-first, members_from-none}
use Rattle.cal_connection.specs.Acquisition.{offset_at, used_in_segment, used_from}
use Rattle.cal_shared.proofs.Owed.{IsOwed, IsOwed-at_start, IsOwed-called, LeadsTo-at_end, pre-from_MayRunOver}
use Rattle.cal_shared.proofs.acquisition.call_on_segment.Goals as goal

pub used-init : goal.used-init
used-init g c =
    let whole : used_in_segment c.args.segment_id c.args.details.now
    ≡ used_from c.args.segment_id c.args.details.now 0 =
    ap (map (offset_at c.args.segment_id c.args.details.now)) (members_from-start c.args.details.now.used.marks) in
    record {
      size = c.capacity-capacity.ensures.capacity;
      within = omega arith;
      owed = subst (λ rest. IsOwed g.F.FnMut c.args.callback (used_in_segment c.args.segment_id c.args.details.now)
          c.args.callback rest) whole
          (IsOwed-at_start g.F.FnMut c.args.callback _ c.requires.callable);
    }

-- the offset is the first that is owed a call
pub callback-requires : goal.callback-requires
callback-requires g c =
    let next : used_from c.args.segment_id c.args.details.now c.used.from
    ≡ c.from_offset_and_segment_id.result ∷ used_from c.args.segment_id c.args.details.now (c.in-Some.index + 1) =
    ap (map (offset_at c.args.segment_id c.args.details.now))
    (members_from-first c.args.details.now.used.marks c.used.from c.in-Some.index c.in-Some.ensures.first)
    ∙ ap (λ x. x ∷ used_from c.args.segment_id c.args.details.now (c.in-Some.index + 1))
    (sym c.from_offset_and_segment_id.ensures.value) in
    pre-from_MayRunOver g.F.FnMut c.used.callback c.from_offset_and_segment_id.result _
    (subst (λ xs. MayRunOver g.F.FnMut c.used.callback xs) next c.used.invariant.owed.callable)

pub used-preserved : goal.used-preserved
used-preserved g c =
    let next : used_from c.args.segment_id c.args.details.now c.used.from
    ≡ c.from_offset_and_segment_id.result ∷ used_from c.args.segment_id c.args.details.now (c.in-Some.index + 1) =
    ap (map (offset_at c.args.segment_id c.args.details.now))
    (members_from-first c.args.details.now.used.marks c.used.from c.in-Some.index c.in-Some.ensures.first)
    ∙ ap (λ x. x ∷ used_from c.args.segment_id c.args.details.now (c.in-Some.index + 1))
    (sym c.from_offset_and_segment_id.ensures.value) in
    record {
      size = c.used.invariant.size;
      within = omega arith;
      owed = IsOwed-called g.F.FnMut c.args.callback (used_in_segment c.args.segment_id c.args.details.now)
          c.used.callback _ c.from_offset_and_segment_id.result
          (used_from c.args.segment_id c.args.details.now (c.in-Some.index + 1))
          (subst (λ xs. IsOwed g.F.FnMut c.args.callback (used_in_segment c.args.segment_id c.args.details.now)
          c.used.callback xs) next c.used.invariant.owed) c.callback.ensures;
    }

-- none is left
pub returns : goal.returns
returns g c = record {
  called = LeadsTo-at_end g.F.FnMut c.args.callback (used_in_segment c.args.segment_id c.args.details.now)
      c.used.callback (used_from c.args.segment_id c.args.details.now c.used.from)
      (ap (map (offset_at c.args.segment_id c.args.details.now))
      (members_from-none c.args.details.now.used.marks c.used.from c.in_default.ensures.first))
      c.used.invariant.owed;
}
