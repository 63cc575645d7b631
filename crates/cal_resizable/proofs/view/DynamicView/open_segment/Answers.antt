use Rattle.std.proofs.Common.{arith, refl, sym, ap, ◌∙◌, subst}
use Rattle.std.specs.Prelude.{IsSome}
use Rattle.cal_resizable.specs.SegmentNames.{segment_name}
use Rattle.cal_resizable.specs.SegmentNameLemmas.{segment_name_fits}
use Rattle.cal_resizable.proofs.view.DynamicView.open_segment.Goals as goal

pub unwrap-name-requires : goal.unwrap-name-requires
unwrap-name-requires g c = subst IsSome
    (sym (c.segment_name.ensures.name ∙ ap (segment_name c.self.inside.name) c.new.ensures.value
    ∙ segment_name_fits c.self.inside.name c.args.number c.self.invariant.name c.self.invariant.managed (omega arith)))
    refl
