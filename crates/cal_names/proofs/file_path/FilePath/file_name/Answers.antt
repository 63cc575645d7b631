use Rattle.std.proofs.Common.{rules}
use Rattle.cal_names.proofs.FilePathLemmas.{parts}
use Rattle.cal_names.proofs.file_path.FilePath.file_name.Goals as goal

pub unwrap-requires : goal.unwrap-requires
unwrap-requires c =
    let known = parts c.args.self.now c.as_bytes.ensures.rule in search rules

pub returns-clause-back : goal.returns-clause-back
returns-clause-back c = (parts c.args.self.now c.as_bytes.ensures.rule).joined
