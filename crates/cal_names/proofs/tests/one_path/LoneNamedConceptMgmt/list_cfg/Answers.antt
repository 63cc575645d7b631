use Rattle.std.proofs.Common.{ℕ, List, Option, Some, None, nat_cmp}
use Rattle.std.specs.Option.{option_to_list}
use Rattle.std.specs.Cmp.Lexicographic.{slice_cmp}
use Rattle.std.specs.List.Sorted.{IsStrictlySortedBy}
use Rattle.cal_names.proofs.tests.one_path.LoneNamedConceptMgmt.list_cfg.Goals as goal

one_is_sorted : (path : Option (List ℕ)) → IsStrictlySortedBy (slice_cmp nat_cmp) (option_to_list path)
unfolding IsStrictlySortedBy
one_is_sorted None = tt
one_is_sorted (Some path) = (tt, tt)

pub returns-in_err-map_err-clause-ordered : goal.returns-in_err-map_err-clause-ordered
returns-in_err-map_err-clause-ordered c = one_is_sorted c.args.reg.now

pub returns-clause-ordered : goal.returns-clause-ordered
returns-clause-ordered c = one_is_sorted c.args.reg.now
