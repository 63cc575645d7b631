use Rattle.cal_resizable.proofs.TogetherLemmas.{not_refused, found-active, same_segment}
use Rattle.cal_resizable.proofs.together_laws.an_arrival_of_what_is_out_is_not_refused.Goals as goal

pub returns : goal.returns
returns g c = record {
  not_refused = not_refused;
  found = found-active;
  same = λ contents memory view number both active mapped.
      same_segment contents memory view number both active mapped;
}
