-- The values that overflowed, where a push with overflow gives one back or none.
use Rattle.std.proofs.Common.{◌≡◌, ℕ, true, List, [], ◌∷◌, ◌++◌, map, Option, Some, None, ap, ◌∙◌, sym, ⊎_elim}
use Rattle.std.proofs.lemmas.List.{append-nil, map-append}
use Rattle.std.specs.Option.{option_to_list}
use Rattle.cal_queue.specs.SubmissionCalls.{IsSend}
use Rattle.cal_queue.specs.declared.submission_ring.pass.SendPass.{SendPass}

abbrev pub values_of : List (ℕ × ℕ) → List ℕ
values_of = map (λ (entry : ℕ × ℕ). entry.1)

same-values : (before after : SendPass) → after.overflowed ≡ before.overflowed
    → values_of after.overflowed ≡ values_of before.overflowed ++ []
same-values before after same = ap values_of same ∙ sym (append-nil (values_of before.overflowed))

pub overflowed-more : (value : ℕ) (back : Option ℕ) (before after : SendPass) → IsSend true value back before after
    → values_of after.overflowed ≡ values_of before.overflowed ++ option_to_list back
overflowed-more value None before after sent = ⊎_elim
    (λ sends. same-values before after (ap (λ (p : SendPass). p.overflowed) sends.steps))
    (λ loses. same-values before after (ap (λ (p : SendPass). p.overflowed) loses.1.steps))
    sent
overflowed-more value (Some oldest) before after sent =
    ap values_of sent.1.overflowed_last ∙ map-append
    (λ (entry : ℕ × ℕ). entry.1) before.overflowed ((sent.1.position, oldest) ∷ [])
