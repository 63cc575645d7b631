use Rattle.std.proofs.Common.{◌≡◌, ◌∙◌, sym, ap, subst, replicate, arith}
use Rattle.cal_connection.specs.Channel.{new_channel}
use Rattle.cal_connection.specs.Port.{IsSoundPort}
use Rattle.cal_connection.specs.PortLemmas.{IsSoundPort-new}
use Rattle.cal_connection.proofs.shared_management_data.SharedManagementData.new.Goals as goal

pub invariant_of-result : goal.invariant_of-result
invariant_of-result c =
    let all : c.loop.counter ≡ c.args.settings.now.number_of_channels = omega arith in
    subst (λ channels. IsSoundPort (record {
      settings = c.args.settings.now;
      word = c.args.word;
      channels = channels;
    })) (sym (c.loop.invariant.0 ∙ ap (λ n. replicate n (new_channel c.args.settings.now c.args.state)) all))
    (IsSoundPort-new c.args.settings.now c.args.word c.args.state c.requires.clamped c.requires.fits c.requires.word)
