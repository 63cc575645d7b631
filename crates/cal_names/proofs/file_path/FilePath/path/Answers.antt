use Rattle.std.proofs.Common.{◌≡◌, rules, sym, subst}
use Rattle.cal_names.specs.Path.{IsPath}
use Rattle.cal_names.specs.FilePath.{path_part}
use Rattle.cal_names.proofs.FilePathLemmas.{parts}
use Rattle.cal_names.proofs.file_path.FilePath.path.Goals as goal

pub unwrap-requires : goal.unwrap-requires
unwrap-requires c =
    let at : c.path_of.result.now ≡ path_part c.args.self.now = search rules in
    c.new.ensures.rule.1 (subst IsPath (sym at) (parts c.args.self.now c.as_bytes.ensures.rule).is_path)

pub returns-clause-back : goal.returns-clause-back
returns-clause-back c = (parts c.args.self.now c.as_bytes.ensures.rule).joined
