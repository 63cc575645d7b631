use Rattle.std.proofs.Common.{◌<◌, ◌+◌, IsSome, refl, sym, ap, subst, ◌∙◌, arith}
use Rattle.cal_resizable.specs.Memory.{MemoryState}
use Rattle.cal_resizable.specs.SegmentNameLemmas.{segment_name_fits}
use Rattle.cal_resizable.specs.SegmentNames.{segment_name}
use Rattle.cal_resizable.proofs.memory.DynamicMemory.next_name.Goals as goal

pub unwrap-requires : goal.unwrap-requires
unwrap-requires g c =
    let below : c.self.inside.current < 255 =
    subst (λ (m : MemoryState). m.current < 255) (sym c.self.view_is) c.requires in
    subst IsSome
    (sym (c.segment_name.ensures.name ∙ ap (segment_name c.self.inside.name) c.new.ensures.value
    ∙ segment_name_fits c.self.inside.name (c.self.inside.current + 1) c.as_bytes-bytes.ensures.rule
    c.self.invariant.name (omega arith)))
    refl
