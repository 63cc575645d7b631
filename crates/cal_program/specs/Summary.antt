-- What the replies of a run come to in numbers, and the line that tells it.
use Rattle.std.specs.Prelude.{ℕ, List, [], ◌++◌, length, sum, decimal, codes}
use Rattle.std.specs.List.{sum_by}
use Rattle.cal_transport.specs.declared.reply.Reply.{Reply}
use Rattle.cal_transport.specs.declared.reply.Reply.TheVariants.{Shown, Refused, Transit}
use Rattle.cal_program.specs.declared.summary.Summary.{Summary}
use Rattle.cal_program.specs.ReplyText.{line}

-- ---- what one reply counts for

-- a reply that tells a chunk in transit answers no command
abbrev pub answer_count : Reply → ℕ
answer_count (Transit channel slot) = 0
answer_count reply = 1

abbrev pub refusal_count : Reply → ℕ
refusal_count (Refused refusal) = 1
refusal_count reply = 0

abbrev pub transit_count : Reply → ℕ
transit_count (Transit channel slot) = 1
transit_count reply = 0

-- the bytes that a read is answered with
abbrev pub shown_bytes : Reply → List ℕ
shown_bytes (Shown bytes) = bytes
shown_bytes reply = []

-- ---- all replies

-- how many bytes they show
abbrev pub shown_count : List Reply → ℕ
shown_count = sum_by (λ reply. length (shown_bytes reply))

-- the answers to commands, the refusals among them, the chunks in transit, and the sum of all bytes that are shown
abbrev pub summary_of : List Reply → Summary
summary_of replies = record {
  answered = sum_by answer_count replies;
  refused = sum_by refusal_count replies;
  transit = sum_by transit_count replies;
  sum = sum_by (λ reply. sum (shown_bytes reply)) replies;
}

-- ---- the line

abbrev pub summary_text : Summary → List ℕ
summary_text s = codes "replies " ++ decimal s.answered ++ codes " refused " ++ decimal s.refused ++ codes " transit "
    ++ decimal s.transit ++ codes " sum " ++ decimal s.sum

-- the one line of a made run
abbrev pub summary_line : List Reply → List ℕ
summary_line replies = line (summary_text (summary_of replies))
