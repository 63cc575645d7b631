use Rattle.std.proofs.Common.{rules, tests}
use Rattle.std.proofs.lemmas.Iterator.{cases_from_all}
use Rattle.std.proofs.lemmas.Iterator.Splits.{YieldsList-from_slice_split}
use Rattle.cal_names.specs.FileName.{IsFileName}
use Rattle.cal_names.proofs.PathLemmas.{told_by_parts}
use Rattle.cal_names.proofs.path.are_joined_file_names.Goals as goal

pub returns-else-is_empty : goal.returns-else-is_empty
returns-else-is_empty c =
    told_by_parts c.args.value.now (search rules) c.all.result
    (cases_from_all _ _ c.all.result IsFileName (λ x. ¬ IsFileName x) c.all.ensures.ran
    (YieldsList-from_slice_split _ _ c.args.value.now c.split.ensures.rest c.split.ensures.done c.split.ensures.closure
    (λ x b q k. search (rules, tests)))
    (λ x q k. search (rules, tests)) (λ x q k. search (rules, tests)))
