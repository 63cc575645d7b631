-- The reply to a command, by its answer.
use Rattle.std.specs.Prelude.{Result, Ok, Err}
use Rattle.cal_transport.specs.declared.reply.Reply.{Reply}
use Rattle.cal_transport.specs.declared.reply.Reply.TheVariants.{Refused}
use Rattle.cal_transport.specs.declared.reply.Refusal.{Refusal}

-- a refusal is a reply, too
abbrev pub reply_to : Result Reply Refusal → Reply
reply_to (Ok reply) = reply
reply_to (Err refusal) = Refused refusal

-- where a command tells nothing but that it was done
abbrev pub reply_at_end : Result (Unit {0}) Refusal → Reply → Reply
reply_at_end (Ok done) reply = reply
reply_at_end (Err refusal) reply = Refused refusal
