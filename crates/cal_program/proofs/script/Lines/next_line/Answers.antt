use Rattle.std.proofs.Common.{length, sym, ◌∙◌, arith}
use Rattle.std.proofs.lemmas.Bool.{eqb-false}
use Rattle.cal_program.proofs.PieceLemmas.{pieces-next, lines-last}
use Rattle.cal_program.proofs.script.Lines.next_line.Goals as goal

pub returns-then-place-bytes : goal.returns-then-place-bytes
returns-then-place-bytes c =
    sym c.self.view_is ∙ lines-last c.self.inside.rest.now c.place_of-place.result
    (omega (arith, eqb-false (length c.self.inside.rest.now) 0 (sym c.if-is_empty.ensures))) c.if-place-bytes.true
    c.place_of-place.ensures.before

pub returns : goal.returns
returns c =
    sym c.self.view_is
    ∙ pieces-next 10 _ c.self.inside.rest.now c.place_of-place.result
    (omega (arith, c.if-place-bytes.false, c.place_of-place.ensures.within))
    c.place_of-place.ensures.before
    (c.place_of-place.ensures.found (omega (arith, c.if-place-bytes.false, c.place_of-place.ensures.within)))
