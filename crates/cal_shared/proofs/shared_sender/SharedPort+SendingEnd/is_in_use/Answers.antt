use Rattle.std.proofs.Common.{◌/◌, List, sym, ap, ◌∙◌}
use Rattle.cal_alloc.specs.PointerOffset.{offset_of, segment_of}
use Rattle.cal_queue.specs.StateSeats.{pass}
use Rattle.cal_connection.specs.Channel.{is_used}
use Rattle.cal_connection.specs.declared.segment_details.SegmentDetails.{SegmentDetails}
use Rattle.cal_shared.specs.Channels.{FitsSender}
use Rattle.cal_shared.proofs.FittingChannels.{segments_at-there}
use Rattle.cal_shared.proofs.FoundChannel.{Found, there}
use Rattle.cal_shared.proofs.NamedSamples.{sample-named, segment-named}
use Rattle.cal_shared.proofs.shared_sender.SharedPort+SendingEnd.is_in_use.Goals as goal

pub is_used-requires-clause-segment : goal.is_used-requires-clause-segment
is_used-requires-clause-segment c =
    let f : Found FitsSender c.args.self.now c.args.channel_id = record {
      port = record {
        settings = c.self.inside.settings;
        words = c.self.inside.states.seat.table_id;
        states = pass c.self.inside.states;
        channels = c.self.inside.channels.items;
      };
      same = c.self.view_is;
      sound = c.self.invariant;
      index = c.value.result;
      at = c.value.ensures.value;
      within = c.requires.within.there;
      found = c.index.result.now;
      is = c.index.ensures;
    } in
    segment-named _ _ f c.args.ptr c.args.sample_size c.requires.within

pub is_used-requires-clause-index : goal.is_used-requires-clause-index
is_used-requires-clause-index c =
    let f : Found FitsSender c.args.self.now c.args.channel_id = record {
      port = record {
        settings = c.self.inside.settings;
        words = c.self.inside.states.seat.table_id;
        states = pass c.self.inside.states;
        channels = c.self.inside.channels.items;
      };
      same = c.self.view_is;
      sound = c.self.invariant;
      index = c.value.result;
      at = c.value.ensures.value;
      within = c.requires.within.there;
      found = c.index.result.now;
      is = c.index.ensures;
    } in
    sample-named _ _ f c.args.ptr c.args.sample_size c.requires.within

pub returns : goal.returns
returns c =
    let f : Found FitsSender c.args.self.now c.args.channel_id = record {
      port = record {
        settings = c.self.inside.settings;
        words = c.self.inside.states.seat.table_id;
        states = pass c.self.inside.states;
        channels = c.self.inside.channels.items;
      };
      same = c.self.view_is;
      sound = c.self.invariant;
      index = c.value.result;
      at = c.value.ensures.value;
      within = c.requires.within.there;
      found = c.index.result.now;
      is = c.index.ensures;
    } in
    record {
      value =
          c.is_used.ensures.value
          ∙ ap (λ (s : List SegmentDetails).
          is_used s (segment_of c.args.ptr) (offset_of c.args.ptr / c.args.sample_size))
          (sym (segments_at-there c.args.self.now c.args.channel_id c.index.result.now (there f)));
    }
