use Rattle.std.proofs.Common.{arith}
use Rattle.cal_queue.proofs.BitSets.{none_in_word, first_in_word-IsFirst, first_in_word-within}
use Rattle.cal_queue.proofs.bit_set.first_in_word.Goals as goal

pub returns-then-rest-eq0-clause-first : goal.returns-then-rest-eq0-clause-first
returns-then-rest-eq0-clause-first c = none_in_word c.args.word c.args.from (omega arith)

pub returns : goal.returns
returns c =
    let first = first_in_word-IsFirst c.args.word c.args.from c.ranges.word.fits (λ none. c.if-rest-eq0.false none) in
    record {
      within = first_in_word-within c.args.word c.args.from _ c.ranges.word.fits first;
      first = first;
    }
