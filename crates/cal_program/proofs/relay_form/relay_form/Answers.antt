use Rattle.std.proofs.Common.{◌<◌, map, string_bytes, subst, sym}
use Rattle.std.proofs.lemmas.List.{length-map}
use Rattle.cal_program.proofs.RelayForms.{relay_form-few}
use Rattle.cal_program.proofs.relay_form.relay_form.Goals as goal

pub returns-in_default-clause-value : goal.returns-in_default-clause-value
returns-in_default-clause-value c =
    relay_form-few (map string_bytes c.args.words.now)
    (subst (λ n. n < 3) (sym (length-map c.args.words.now string_bytes)) c.in_default.len_below)
