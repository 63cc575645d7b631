use Rattle.std.proofs.Common.{◌<◌, length, take, arith}
use Rattle.std.proofs.lemmas.List.{length-take}
use Rattle.cal_program.proofs.BufferLemmas.{Follows-put, Follows-failed}
use Rattle.cal_program.proofs.output_buffer.OutputBuffer.flush.Goals as goal

pub returns-in_default-clause-text : goal.returns-in_default-clause-text
returns-in_default-clause-text g c =
    let buffer = c.self.inside in
    let some : 0 < length (take buffer.held buffer.bytes) =
    omega (
      arith,
      length-take buffer.held buffer.bytes,
      c.self.invariant.0,
      c.self.invariant.1,
      c.if-self-eq0.false,
    ) in
    Follows-failed _ (take buffer.held buffer.bytes) buffer.failed _ _ c.self.view_is c.if-self.false
    c.in_default.ensures.failed some

pub returns-clause-text : goal.returns-clause-text
returns-clause-text g c =
    let buffer = c.self.inside in
    let some : 0 < length (take buffer.held buffer.bytes) =
    omega (
      arith,
      length-take buffer.held buffer.bytes,
      c.self.invariant.0,
      c.self.invariant.1,
      c.if-self-eq0.false,
    ) in
    Follows-put _ (take buffer.held buffer.bytes) buffer.failed _ _ c.self.view_is c.if-self.false c.in-Ok.ensures.put
    some
