use Rattle.std.proofs.Common.{◌≡◌, ◌-◌, ◌*◌, ◌/◌, ◌%◌, ◌^◌, ◌<◌, slice_index, rules, arith, ap, ◌∙◌}
use Rattle.std.specs.Int.Digits.{number_from_digits}
use Rattle.sha1.specs.Sha1.{sha1}
use Rattle.cal_names.specs.TypeHash.{hash_letters}
use Rattle.cal_names.proofs.TypeHashLemmas.{type_hash_from_letters}
use Rattle.cal_names.proofs.type_hash.type_hash.Goals as goal

pub returns : goal.returns
returns c =
    let hash : c.digest-hash.result ≡ sha1 c.args.name.now = search rules in
    record {
      letters =
          type_hash_from_letters c.args.name.now c.loop-index.text c.loop-index.invariant.length (λ k below.
          let within : k < c.loop-index.index = omega arith in
          c.loop-index.invariant.letters k within ∙ ap
          (λ h. slice_index hash_letters (number_from_digits 256 h * 4 / 2 ^ (6 * (26 - k)) % 64)) hash);
    }
