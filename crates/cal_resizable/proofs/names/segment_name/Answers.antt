-- The digits that are joined are those of the number in decimal.
use Rattle.std.proofs.Common.{◌++◌, ◌∙◌, arith, ap, sym}
use Rattle.std.specs.Prelude.{codes}
use Rattle.cal_names.specs.FileName.{as_file_name}
use Rattle.cal_resizable.specs.SegmentNames.{segment_name}
use Rattle.cal_resizable.specs.SegmentNameLemmas.{decimal-small, decimal-two, decimal-three}
use Rattle.cal_resizable.proofs.names.segment_name.Goals as goal

pub returns-then-number-lt10 : goal.returns-then-number-lt10
returns-then-number-lt10 c = record {
  name = c.joined.ensures.value
      ∙ ap (λ ds. as_file_name (c.args.base.now ++ (codes "__" ++ ds)))
      (sym (decimal-small c.value-number.result c.if-number-lt10.true))
      ∙ ap (segment_name c.args.base.now) c.value-number.ensures.value;
}

pub returns-then-number-lt100 : goal.returns-then-number-lt100
returns-then-number-lt100 c = record {
  name = c.joined-then-number-lt100.ensures.value
      ∙ ap (λ ds. as_file_name (c.args.base.now ++ (codes "__" ++ ds)))
      (sym (decimal-two c.value-number.result c.if-number-lt10.false c.if-number-lt100.true))
      ∙ ap (segment_name c.args.base.now) c.value-number.ensures.value;
}

pub returns-else-number-lt100 : goal.returns-else-number-lt100
returns-else-number-lt100 c = record {
  name = c.joined-else-number-lt100.ensures.value
      ∙ ap (λ ds. as_file_name (c.args.base.now ++ (codes "__" ++ ds)))
      (sym (decimal-three c.value-number.result c.if-number-lt100.false (omega arith)))
      ∙ ap (segment_name c.args.base.now) c.value-number.ensures.value;
}
