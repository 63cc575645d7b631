use Rattle.std.proofs.Common.{map, string_bytes}
use Rattle.cal_program.specs.Request.{request_of}
use Rattle.cal_program.proofs.OutcomeLemmas.{EndsDue-same, EndsDue-right, EndsDue-done, EndsDue-written, EndsDue-unread}
use Rattle.cal_program.proofs.RequestLemmas.{request_of-few}
use Rattle.cal_program.proofs.run_program.run_program.Goals as goal

pub run_and_print-requires : goal.run_and_print-requires
run_and_print-requires g c = record {
  few = request_of-few c.request_of-request.result (map string_bytes c.args.words.now)
      c.request_of-request.ensures.value;
}

pub returns-clause-outcome : goal.returns-clause-outcome
returns-clause-outcome g c =
    EndsDue-same c.request_of-request.result (request_of (map string_bytes c.args.words.now))
    c.request_of-request.ensures.value (g.R.Source.state c.args.source.now)
    (g.R.Source.state c.run_and_print.new.source)
    (g.W.Sink.state c.args.sink.now) (g.W.Sink.state c.run_and_print.new.sink) c.run_and_print.result.status
    c.run_and_print.result.replies.items c.run_and_print.result.end c.run_and_print.ensures.ends

pub returns-clause-done : goal.returns-clause-done
returns-clause-done g c =
    let asked = c.request_of-request.result in
    let request = request_of (map string_bytes c.args.words.now) in
    let before = g.R.Source.state c.args.source.now in
    let now = g.R.Source.state c.run_and_print.new.source in
    let sink_before = g.W.Sink.state c.args.sink.now in
    let sink_now = g.W.Sink.state c.run_and_print.new.sink in
    let due = c.run_and_print.result in
    EndsDue-done request before now sink_before sink_now due.status due.replies.items due.end
    (EndsDue-same asked request c.request_of-request.ensures.value before now sink_before sink_now due.status
    due.replies.items due.end c.run_and_print.ensures.ends)

pub returns-clause-written : goal.returns-clause-written
returns-clause-written g c =
    let asked = c.request_of-request.result in
    let request = request_of (map string_bytes c.args.words.now) in
    let before = g.R.Source.state c.args.source.now in
    let now = g.R.Source.state c.run_and_print.new.source in
    let sink_before = g.W.Sink.state c.args.sink.now in
    let sink_now = g.W.Sink.state c.run_and_print.new.sink in
    let due = c.run_and_print.result in
    EndsDue-written request before now sink_before sink_now due.status due.replies.items due.end
    (EndsDue-same asked request c.request_of-request.ensures.value before now sink_before sink_now due.status
    due.replies.items due.end c.run_and_print.ensures.ends)

pub returns-clause-unread : goal.returns-clause-unread
returns-clause-unread g c =
    let asked = c.request_of-request.result in
    let request = request_of (map string_bytes c.args.words.now) in
    let before = g.R.Source.state c.args.source.now in
    let now = g.R.Source.state c.run_and_print.new.source in
    let sink_before = g.W.Sink.state c.args.sink.now in
    let sink_now = g.W.Sink.state c.run_and_print.new.sink in
    let due = c.run_and_print.result in
    EndsDue-unread request before now sink_before sink_now due.status due.replies.items due.end
    (EndsDue-same asked request c.request_of-request.ensures.value before now sink_before sink_now due.status
    due.replies.items due.end c.run_and_print.ensures.ends)

pub returns-clause-exact : goal.returns-clause-exact
returns-clause-exact g c =
    let asked = c.request_of-request.result in
    let request = request_of (map string_bytes c.args.words.now) in
    let before = g.R.Source.state c.args.source.now in
    let now = g.R.Source.state c.run_and_print.new.source in
    let sink_before = g.W.Sink.state c.args.sink.now in
    let sink_now = g.W.Sink.state c.run_and_print.new.sink in
    let due = c.run_and_print.result in
    EndsDue-right request before now sink_before sink_now due.status due.replies.items due.end
    (EndsDue-same asked request c.request_of-request.ensures.value before now sink_before sink_now due.status
    due.replies.items due.end c.run_and_print.ensures.ends)
