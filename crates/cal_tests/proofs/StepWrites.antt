-- How many steps wrote, where one step more is taken.
use Rattle.std.proofs.Common.{◌≡◌, ℕ, ◌+◌, ◌<◌, List, [], ◌∷◌, ◌++◌, is_some, if◌then◌else◌, ◌%◌, ◌^◌, All, refl, sym, ap, ◌∙◌, subst, arith, rules}
use Rattle.std.proofs.lemmas.List.Elements.{All-append}
use Rattle.cal_queue.specs.declared.state_table.pass.StatePass.{StatePass}
use Rattle.cal_queue.specs.declared.state_table.pass.StateStep.{StateStep}
use Rattle.cal_queue.specs.StateTable.{after_step, channel_index, load_step, write_step}
use Rattle.cal_tests.specs.Writes.{AddsOne, writes}

pub writes-more : (steps : List StateStep) (s : StateStep) → writes (steps ++ s ∷ [])
    ≡ writes steps + (if is_some s.written then 1 else 0)
writes-more [] s = let n : ℕ = if is_some s.written then 1 else 0 in let e : n + 0 ≡ 0 + n = omega arith in e
writes-more (x ∷ xs) s =
    let n : ℕ = if is_some s.written then 1 else 0 in
    let m : ℕ = if is_some x.written then 1 else 0 in
    let r : writes (xs ++ s ∷ []) ≡ writes xs + n = writes-more xs s in
    let e : m + writes (xs ++ s ∷ []) ≡ (m + writes xs) + n = omega arith in e

-- after a step that wrote nothing, and after one that wrote
pub writes-looked : (before after : StatePass) (index seen n : ℕ) → after ≡ after_step before (load_step index seen)
    → writes before.steps ≡ n → writes after.steps ≡ n
writes-looked before after index seen n is count =
    let more = ap (λ (p : StatePass). writes p.steps) is
    ∙ writes-more before.steps (load_step index seen) in omega arith

pub writes-wrote : (before after : StatePass) (index seen word n : ℕ) → after
    ≡ after_step before (write_step index seen word) → writes before.steps ≡ n → writes after.steps ≡ n + 1
writes-wrote before after index seen word n is count =
    let more = ap (λ (p : StatePass). writes p.steps) is
    ∙ writes-more before.steps (write_step index seen word) in omega arith

-- a step leaves the number of channels
pub channels-kept : (before after : StatePass) (s : StateStep) → after ≡ after_step before s
    → 0 < before.opening.channels → 0 < after.opening.channels
channels-kept before after s is some = let same = ap (λ (p : StatePass). p.opening.channels) is in omega arith

-- each step so far adds 1, and so does the next one
adds-more : (before after : StatePass) (s : StateStep) → All (AddsOne 0) before.steps → after ≡ after_step before s
    → AddsOne 0 s → All (AddsOne 0) after.steps
adds-more before after s adds is one =
    subst (λ (p : StatePass). All (AddsOne 0) p.steps) (sym is)
    (All-append (AddsOne 0) before.steps (s ∷ []) adds (search (rules, one)))

pub adds-looked : (before after : StatePass) (seen : ℕ) → All (AddsOne 0) before.steps
    → after ≡ after_step before (load_step (channel_index 0) seen) → All (AddsOne 0) after.steps
adds-looked before after seen adds is = adds-more before after _ adds is (record { index = refl; written = tt })

pub adds-wrote : (before after : StatePass) (seen word : ℕ) → All (AddsOne 0) before.steps
    → after ≡ after_step before (write_step (channel_index 0) seen word) → word ≡ (seen + 1) % 2 ^ 64
    → All (AddsOne 0) after.steps
adds-wrote before after seen word adds is more =
    adds-more before after _ adds is (record { index = refl; written = more })
