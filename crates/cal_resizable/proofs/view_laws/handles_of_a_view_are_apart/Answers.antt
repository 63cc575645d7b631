use Rattle.cal_resizable.proofs.ViewLemmas.{view-ids, view-management}
use Rattle.cal_resizable.proofs.ViewSlotLemmas.{HasPaths-view}
use Rattle.cal_resizable.proofs.view_laws.handles_of_a_view_are_apart.Goals as goal

pub returns : goal.returns
returns g c = record {
  apart = λ contents view first second one other is has differ at_first at_second.
      view-ids contents view (HasPaths-view view is) has first second one other at_first at_second differ;
  management = λ contents view number held is has there.
      view-management contents view (HasPaths-view view is) has number held there;
}
