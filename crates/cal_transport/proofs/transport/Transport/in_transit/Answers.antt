use Rattle.std.proofs.Common.{◌∙◌, ap, sym, subst}
use Rattle.cal_transport.specs.State.{TransportState}
use Rattle.cal_transport.proofs.Standing.{inside_now}
use Rattle.cal_transport.proofs.transport.Transport.in_transit.Goals as goal

pub returns-clause-counted : goal.returns-clause-counted
returns-clause-counted c = λ l stands.
    ap (λ (t : TransportState). t.in_transit) c.self.view_is
    ∙ (inside_now c.self.inside c.self.invariant c.args.self.now c.self.view_is l stands).tracks.in_transit
