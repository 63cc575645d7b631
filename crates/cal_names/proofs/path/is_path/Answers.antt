use Rattle.std.proofs.Common.{rules, [], ◌∷◌, Some}
use Rattle.std.proofs.lemmas.Bool.Decides.{Decides-eqb}
use Rattle.std.proofs.lemmas.Slice.Eq.{strip_prefix_is}
use Rattle.cal_names.specs.Path.{slash}
use Rattle.cal_names.proofs.PathLemmas.{path_behind_slash}
use Rattle.cal_names.proofs.path.is_path.Goals as goal

pub returns-in-Some : goal.returns-in-Some
returns-in-Some c =
    let first = strip_prefix_is Decides-eqb c.args.value.now (slash ∷ []) (Some c.in-Some.rest)
    c.in-Some.ensures.cases in
    path_behind_slash c.args.value.now c.in-Some.rest.now c.are_joined_file_names.result (search rules) first
    c.are_joined_file_names.ensures
