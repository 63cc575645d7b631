use Rattle.std.proofs.Common.{rules}
use Rattle.cal_names.proofs.FilePathLemmas.{parts}
use Rattle.cal_names.proofs.file_path.FilePath.new.Goals as goal

pub returns-in_err-path-clause-rule : goal.returns-in_err-path-clause-rule
returns-in_err-path-clause-rule c =
    ((λ some. search rules), (λ rule. let known = parts c.args.value.now rule in search rules))

pub returns-in_err-file-clause-rule : goal.returns-in_err-file-clause-rule
returns-in_err-file-clause-rule c =
    ((λ some. search rules), (λ rule. let known = parts c.args.value.now rule in search rules))

pub returns-else-eq-clause-rule : goal.returns-else-eq-clause-rule
returns-else-eq-clause-rule c =
    ((λ some. search rules), (λ rule. let known = parts c.args.value.now rule in search rules))
