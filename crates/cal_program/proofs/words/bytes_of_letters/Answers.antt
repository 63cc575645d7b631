use Rattle.std.proofs.Common.{◌≡◌, ◌+◌, List, ℕ, drop, sym, subst, arith}
use Rattle.cal_program.specs.Words.{bytes_of_letters}
use Rattle.cal_program.proofs.WordLemmas.{with_front, letters-more, letters-odd}
use Rattle.cal_program.proofs.words.bytes_of_letters.Goals as goal

pub loop-place-preserved : goal.loop-place-preserved
loop-place-preserved c =
    let letters = c.args.letters.now in
    let place = c.loop-place.place in
    record {
      within = omega (arith, c.loop-place-test.true);
      rest = subst (λ (items : List ℕ). with_front items (bytes_of_letters (drop (place + 2) letters)) ≡
          bytes_of_letters letters)
          (sym c.in_ok-push.ensures.items)
          (letters-more c.loop-place.bytes.items letters place c.in-Some.byte _ c.loop-place-test.true
          (sym c.in-Some.ensures) c.loop-place.invariant.rest);
    }

pub returns-then-place-letters : goal.returns-then-place-letters
returns-then-place-letters c =
    letters-odd _ c.args.letters.now c.loop-place.place _ c.if-place-letters.true
    (omega (arith, c.loop-place-test.false)) c.loop-place.invariant.rest
