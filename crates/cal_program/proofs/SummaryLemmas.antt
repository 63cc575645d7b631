-- One reply more, in the numbers to which replies come.
use Rattle.std.proofs.Common.{◌≡◌, ℕ, ◌+◌, ◌≤◌, Some, List, length, take, ap, ◌∙◌, subst, arith}
use Rattle.std.specs.Prelude.{slice_get, sum}
use Rattle.std.specs.List.{sum_by}
use Rattle.std.proofs.lemmas.List.{take_all}
use Rattle.std.proofs.lemmas.List.Sums.{sum_by_more, sum_by_more_le}
use Rattle.std.proofs.lemmas.Option.{slice_get_within, get_or_from_slice_get}
use Rattle.cal_transport.specs.declared.reply.Reply.{Reply}
use Rattle.cal_transport.specs.declared.reply.Reply.TheVariants.{Loaned, Written, Sent, Received, Shown, Released, Reclaimed, Discarded, Counted, Refused, Transit}
use Rattle.cal_program.specs.declared.summary.Summary.{Summary}
use Rattle.cal_program.specs.Summary.{answer_count, refusal_count, transit_count, shown_bytes, summary_of}

-- a sum over the replies so far, and the next one
pub sum_by-next : (f : Reply → ℕ) (replies : List Reply) (place : ℕ) (reply : Reply) →
    slice_get replies place ≡ Some reply →
    sum_by f (take (place + 1) replies) ≡ sum_by f (take place replies) + f reply
sum_by-next f replies place reply found =
    sum_by_more f replies place reply (slice_get_within replies place reply found)
    ∙ ap (λ (next : Reply). sum_by f (take place replies) + f next)
    (get_or_from_slice_get replies place reply reply found)

-- both are within the whole
pub sum_by-within : (f : Reply → ℕ) (replies : List Reply) (place : ℕ) (reply : Reply) →
    slice_get replies place ≡ Some reply → sum_by f (take place replies) + f reply ≤ sum_by f replies
sum_by-within f replies place reply found =
    subst (λ (next : Reply). sum_by f (take place replies) + f next ≤ sum_by f replies)
    (get_or_from_slice_get replies place reply reply found)
    (sum_by_more_le f replies place reply (slice_get_within replies place reply found))

-- a reply counts once at most
pub answer_count-few : (reply : Reply) → answer_count reply ≤ 1
answer_count-few (Transit channel slot) = omega arith
answer_count-few (Loaned slot) = omega arith
answer_count-few Written = omega arith
answer_count-few (Sent back) = omega arith
answer_count-few (Received slot) = omega arith
answer_count-few (Shown bytes) = omega arith
answer_count-few Released = omega arith
answer_count-few (Reclaimed back) = omega arith
answer_count-few Discarded = omega arith
answer_count-few (Counted count) = omega arith
answer_count-few (Refused refusal) = omega arith

pub refusal_count-few : (reply : Reply) → refusal_count reply ≤ 1
refusal_count-few (Refused refusal) = omega arith
refusal_count-few (Loaned slot) = omega arith
refusal_count-few Written = omega arith
refusal_count-few (Sent back) = omega arith
refusal_count-few (Received slot) = omega arith
refusal_count-few (Shown bytes) = omega arith
refusal_count-few Released = omega arith
refusal_count-few (Reclaimed back) = omega arith
refusal_count-few Discarded = omega arith
refusal_count-few (Counted count) = omega arith
refusal_count-few (Transit channel slot) = omega arith

pub transit_count-few : (reply : Reply) → transit_count reply ≤ 1
transit_count-few (Transit channel slot) = omega arith
transit_count-few (Loaned slot) = omega arith
transit_count-few Written = omega arith
transit_count-few (Sent back) = omega arith
transit_count-few (Received slot) = omega arith
transit_count-few (Shown bytes) = omega arith
transit_count-few Released = omega arith
transit_count-few (Reclaimed back) = omega arith
transit_count-few Discarded = omega arith
transit_count-few (Counted count) = omega arith
transit_count-few (Refused refusal) = omega arith

-- ---- all replies

abbrev summary : ℕ → ℕ → ℕ → ℕ → Summary
summary answered refused transit total =
    record { answered = answered; refused = refused; transit = transit; sum = total }

-- what the replies up to the last come to is what all come to
pub summary_of-all : (s : Summary) (replies : List Reply) (place : ℕ) → length replies ≤ place →
    s.answered ≡ sum_by answer_count (take place replies) → s.refused ≡ sum_by refusal_count (take place replies) →
    s.transit ≡ sum_by transit_count (take place replies) →
    s.sum ≡ sum_by (λ reply. sum (shown_bytes reply)) (take place replies) → s ≡ summary_of replies
summary_of-all s replies place past answered refused transit total =
    let whole : take place replies ≡ replies = take_all place replies past in
    ap (λ (n : ℕ). summary n s.refused s.transit s.sum) (answered ∙ ap (sum_by answer_count) whole)
    ∙ ap (λ (n : ℕ). summary (sum_by answer_count replies) n s.transit s.sum)
    (refused ∙ ap (sum_by refusal_count) whole)
    ∙ ap (λ (n : ℕ). summary (sum_by answer_count replies) (sum_by refusal_count replies) n s.sum)
    (transit ∙ ap (sum_by transit_count) whole)
    ∙ ap (λ (n : ℕ). summary (sum_by answer_count replies) (sum_by refusal_count replies)
    (sum_by transit_count replies) n)
    (total ∙ ap (sum_by (λ reply. sum (shown_bytes reply))) whole)
