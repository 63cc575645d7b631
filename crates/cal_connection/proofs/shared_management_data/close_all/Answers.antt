use Rattle.std.proofs.Common.{◌+◌, ◌∙◌, slice_set, sym, ap, subst, arith}
use Rattle.std.proofs.lemmas.List.{length-set}
use Rattle.std.proofs.Math.Seq.{map-set_same}
use Rattle.cal_connection.specs.Closing.{closed_channel}
use Rattle.cal_connection.proofs.Closed.{AreClosedBelow, AreClosedBelow-set, all_closed}
use Rattle.cal_connection.proofs.shared_management_data.close_all.Goals as goal

pub loop-index-preserved : goal.loop-index-preserved
loop-index-preserved c = record {
  same =
      map-set_same closed_channel c.loop-index.channels.items c.loop-index.index c.set_word.new.self
      c.index_mut.result.now
      (ap closed_channel c.set_word.ensures.set ∙ ap closed_channel c.index_mut.ensures.value)
      ∙ c.loop-index.invariant.same;
  below = subst (λ channel. AreClosedBelow (slice_set c.loop-index.channels.items c.loop-index.index channel)
      (c.loop-index.index + 1))
      (sym c.set_word.ensures.set)
      (AreClosedBelow-set c.loop-index.channels.items c.loop-index.index c.index_mut.result.now (omega arith)
      c.loop-index.invariant.below);
  count = omega (arith, length-set c.loop-index.channels.items c.loop-index.index c.set_word.new.self);
  within = omega arith;
}

pub returns : goal.returns
returns c = record {
  closed =
      all_closed c.loop-index.channels.items c.loop-index.index (omega arith) c.loop-index.invariant.below
      ∙ c.loop-index.invariant.same;
}
