-- The copy has the bytes that were read.
use Rattle.std.proofs.Common.{sym, ap, ◌∙◌, subst}
use Rattle.std.specs.Int.{w64, from_le_bytes}
use Rattle.cal_frames.specs.Sides.{Reads}
use Rattle.cal_frames.proofs.Reading.{reads_frame}
use Rattle.cal_frames.proofs.screen.read_frame.Goals as goal

pub returns : goal.returns
returns c = record {
  read = subst (λ bytes. Reads c.args.transport.now c.args.chunk bytes) (sym c.in_ok-new.ensures.copied)
      (reads_frame c.args.transport.now c.args.chunk c.from_le_bytes-length.result c.in_ok-header.header.now
      c.in_ok-frame.frame.now c.in_ok-header.ensures.step
      (c.from_le_bytes-length.ensures ∙ ap (λ bytes. from_le_bytes w64 bytes) c.in-Ok.ensures.1.same)
      c.in_ok-frame.ensures.step);
}
