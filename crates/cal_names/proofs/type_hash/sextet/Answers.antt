use Rattle.std.proofs.Common.{◌≡◌, ◌+◌, ◌*◌, ◌/◌, get_or, rules}
use Rattle.cal_names.proofs.TypeHashLemmas.{sextet_of_pair}
use Rattle.cal_names.proofs.type_hash.sextet.Goals as goal

pub returns : goal.returns
returns c =
    let known = sextet_of_pair c.args.hash.now c.args.index (search rules) (search rules) c.requires in
    let high : c.from-high.result ≡ get_or c.args.hash.now (6 * c.args.index / 8) 0 = search rules in
    let low : c.from-low.result ≡ get_or c.args.hash.now (6 * c.args.index / 8 + 1) 0 = search rules in
    rw (high, low) known
