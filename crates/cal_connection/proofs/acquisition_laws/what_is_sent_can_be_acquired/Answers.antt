use Rattle.cal_connection.specs.AcquirableLemmas.{IsAcquirable-new, IsAcquirable-sent, IsAcquirable-reclaimed, IsAcquirable-left, segments-after_receive, segments-after_release}
use Rattle.cal_connection.specs.Channel.{after_receive, after_release}
use Rattle.cal_connection.specs.Port.{channel_at}
use Rattle.cal_connection.proofs.acquisition_laws.what_is_sent_can_be_acquired.Goals as goal

pub returns : goal.returns
returns c = record {
  new = IsAcquirable-new;
  sent = λ port channel overflow pointer sample_size acquirable.
      IsAcquirable-sent port channel acquirable overflow pointer sample_size;
  received = λ port channel limit count acquirable.
      IsAcquirable-left port channel acquirable (after_receive limit count (channel_at port channel))
      (segments-after_receive limit count (channel_at port channel));
  released = λ port channel pointer acquirable.
      IsAcquirable-left port channel acquirable (after_release (channel_at port channel) pointer)
      (segments-after_release (channel_at port channel) pointer);
  reclaimed = λ port channel acquirable. IsAcquirable-reclaimed port channel acquirable;
  others = λ port channel changed acquirable same. IsAcquirable-left port channel acquirable changed same;
}
