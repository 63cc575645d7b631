use Rattle.std.proofs.Common.{◌≡◌, rules, ap, ◌∙◌}
use Rattle.cal_names.specs.FilePath.{file_path_of, path_part, file_name_part}
use Rattle.cal_names.proofs.FilePathLemmas.{path_part_of, file_name_part_of}
use Rattle.cal_names.proofs.file_path.FilePath.from_parts.Goals as goal

pub returns-clause-path : goal.returns-clause-path
returns-clause-path c =
    let joined : c.append-2.new.self ≡ file_path_of c.args.path.now c.args.file.now = search rules in
    ap path_part joined ∙ path_part_of c.args.path.now c.args.file.now c.as_bytes-3.ensures.rule

pub returns-clause-file_name : goal.returns-clause-file_name
returns-clause-file_name c =
    let joined : c.append-2.new.self ≡ file_path_of c.args.path.now c.args.file.now = search rules in
    ap file_name_part joined ∙ file_name_part_of c.args.path.now c.args.file.now c.as_bytes-3.ensures.rule
