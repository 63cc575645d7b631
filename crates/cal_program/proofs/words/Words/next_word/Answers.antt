use Rattle.std.proofs.Common.{sym, ◌∙◌, arith}
use Rattle.cal_program.proofs.PieceLemmas.{pieces-next, words-last}
use Rattle.cal_program.proofs.words.Words.next_word.Goals as goal

pub returns-then-place-bytes : goal.returns-then-place-bytes
returns-then-place-bytes c = record {
  next = sym (rw c.in_ok-bytes.was at c.self.view_is)
      ∙ words-last c.in_ok-bytes.bytes.now c.place_of-place.result c.if-place-bytes.true
      c.place_of-place.ensures.before;
}

pub returns : goal.returns
returns c = record {
  next = sym (rw c.in_ok-bytes.was at c.self.view_is)
      ∙ pieces-next 32 _ c.in_ok-bytes.bytes.now c.place_of-place.result
      (omega (arith, c.if-place-bytes.false, c.place_of-place.ensures.within)) c.place_of-place.ensures.before
      (c.place_of-place.ensures.found (omega (arith, c.if-place-bytes.false, c.place_of-place.ensures.within)));
}
