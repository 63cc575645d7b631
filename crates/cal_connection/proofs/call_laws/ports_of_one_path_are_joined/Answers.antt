use Rattle.cal_connection.specs.Words.{sender_bit, receiver_bit}
use Rattle.cal_connection.specs.JoinedLemmas.{path-new_end, AreJoined-receiver, AreJoined-sender}
use Rattle.cal_connection.proofs.call_laws.ports_of_one_path_are_joined.Goals as goal

pub returns : goal.returns
returns c = record {
  path = path-new_end;
  receiver = λ contents new sender receiver plan.
      AreJoined-receiver contents new sender receiver plan receiver_bit;
  sender = λ contents new sender receiver plan.
      AreJoined-sender contents new sender receiver plan sender_bit;
}
