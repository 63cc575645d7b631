use Rattle.std.proofs.Common.{◌++◌, take, ℕ, subst}
use Rattle.std.specs.Io.KnownBytes.{Appends}
use Rattle.cal_program.proofs.StreamLemmas.{Appends-then, AppendsFront-kept, AppendsFront-none}
use Rattle.cal_program.proofs.PieceLemmas.{sent-more}
use Rattle.cal_program.proofs.std_streams.write_all.Goals as goal

pub loop-rest-preserved : goal.loop-rest-preserved
loop-rest-preserved g c =
    let before = c.loop-rest.invariant in
    let rest = c.loop-rest.rest.now in (
      before.0 ++ take c.in-Ok.count rest,
      sent-more before.0 rest c.args.bytes.now c.in-Ok.count before.1,
      Appends-then (g.W.Write.contents c.args.writer.now) (g.W.Write.contents c.loop-rest.writer)
          (g.W.Write.contents c.write.new.self)
          before.0 (take c.in-Ok.count rest) before.2 c.in-Ok.ensures.bytes,
    )

pub returns-in_default-clause-front : goal.returns-in_default-clause-front
returns-in_default-clause-front g c =
    let before = c.loop-rest.invariant in
    AppendsFront-kept (g.W.Write.contents c.args.writer.now) (g.W.Write.contents c.loop-rest.writer)
    (g.W.Write.contents c.write.new.self) before.0 c.loop-rest.rest.now c.args.bytes.now before.1 before.2
    c.in_default.ensures.bytes

pub returns-then-count-eq0-clause-front : goal.returns-then-count-eq0-clause-front
returns-then-count-eq0-clause-front g c =
    let before = c.loop-rest.invariant in
    AppendsFront-none (g.W.Write.contents c.args.writer.now) (g.W.Write.contents c.loop-rest.writer)
    (g.W.Write.contents c.write.new.self) before.0 c.loop-rest.rest.now c.args.bytes.now before.1 before.2
    (subst (λ (n : ℕ). Appends (g.W.Write.contents c.loop-rest.writer) (g.W.Write.contents c.write.new.self)
    (take n c.loop-rest.rest.now)) c.if-count-eq0.true c.in-Ok.ensures.bytes)
