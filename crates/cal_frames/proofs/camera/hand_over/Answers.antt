-- The six commands hand the frame over.
use Rattle.std.proofs.Common.{◌+◌, ◌^◌, ◌<◌, length, arith}
use Rattle.cal_frames.proofs.Sending.{handed_over}
use Rattle.cal_frames.proofs.camera.hand_over.Goals as goal

pub returns-clause-handed : goal.returns-clause-handed
returns-clause-handed c =
    let small : length c.args.frame.now < 2 ^ 64 = omega arith in
    handed_over c.args.transport.now c.args.name c.args.frame.now c.reclaim.new.self small (record {
      loaned_state = c.loan.new.self;
      begun_state = c.write.new.self;
      written_state = c.write-2.new.self;
      sent_state = c.send.new.self;
      discarded_state = c.discard.new.self;
      size = 8 + length c.args.frame.now;
      alignment = 8;
      slot = c.in_ok-loan.field-0;
      header = c.to_le_bytes.result;
      back = c.in_ok-send.field-0;
      returned = c.in_ok-reclaim.field-0;
      loan = c.in_ok-loan.ensures.step;
      header_is = c.to_le_bytes.ensures;
      write_header = c.in_ok-write.ensures.step;
      write_frame = c.in_ok-write-2.ensures.step;
      send = c.in_ok-send.ensures.step;
      discard = c.in_ok-discard.ensures.step;
      reclaim = c.in_ok-reclaim.ensures.step;
    })
