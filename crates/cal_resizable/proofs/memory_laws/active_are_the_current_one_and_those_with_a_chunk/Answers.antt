use Rattle.std.proofs.Common.{◌≡◌, ◌⊎◌, ◌↔◌, ℕ, ◌<◌, IsSome, sym, subst, inl, inr}
use Rattle.std.proofs.lemmas.Bool.{cases_eq}
use Rattle.cal_resizable.specs.Memory.{MemoryState, IsSoundMemory}
use Rattle.cal_resizable.specs.Slots.{segment_at, count_in, count_at}
use Rattle.cal_resizable.proofs.KeepingLemmas.{some_counted}
use Rattle.cal_resizable.proofs.MemoryLemmas.{some_is, is_some-from}
use Rattle.cal_resizable.proofs.memory_laws.active_are_the_current_one_and_those_with_a_chunk.Goals as goal

active : (memory : MemoryState) (number : ℕ) → IsSoundMemory memory →
    IsSome (segment_at memory.slots number) ↔ ((number ≡ memory.current) ⊎ (0 < count_at memory.slots number))
active memory number sound = (
  λ some. elim (cases_eq number memory.current) [
    | inl same ↦ inl same
    | inr apart ↦
        let held = some_is (segment_at memory.slots number) some in
        let is = sound.active number held.0 held.1 in
        inr (subst (λ slot. 0 < count_in slot) (sym held.1) (is.used apart))
  ],
  λ why. elim why [
    | inl same ↦ subst (λ n. IsSome (segment_at memory.slots n)) (sym same) sound.current
    | inr counted ↦
        let held = some_counted (segment_at memory.slots number) counted in
        is_some-from (segment_at memory.slots number) held.0 held.1
  ],
)

pub returns : goal.returns
returns c = record { active = active }
