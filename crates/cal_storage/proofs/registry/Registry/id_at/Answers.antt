use Rattle.std.proofs.Common.{◌≡◌, ◌<◌, ℕ, length, Option, Some, None, IfSome, IsSomeAnd, List, sym, ◌∙◌}
use Rattle.cal_storage.specs.Contents.{Contents, id_at, entry_of}
use Rattle.cal_storage.specs.Soundness.{IsSound}
use Rattle.cal_storage.proofs.SlotLemmas.{named_within}
use Rattle.cal_storage.proofs.registry.Registry.id_at.Goals as goal

there : {T : Type 0} (contents : Contents T) → IsSound contents → (path : List ℕ) (found : Option ℕ) →
    found ≡ id_at contents path → IfSome found (λ id. id < length contents.slots)
there contents sound path None is = tt
there contents sound path (Some id) is = named_within contents sound path id (sym is)

made : {T : Type 0} (contents : Contents T) → IsSound contents → (path : List ℕ) (found : Option ℕ) →
    found ≡ id_at contents path → IfSome found (λ id. IsSomeAnd (entry_of contents id) (λ entry. entry.path ≡ path))
made contents sound path None is = tt
made contents sound path (Some id) is = sound.named path id (sym is)

pub returns-clause-there : goal.returns-clause-there
returns-clause-there g c =
    rw (← c.self.view_is) (there _ c.self.invariant c.args.path.now c.copied.result
    (c.copied.ensures ∙ c.get.ensures.value))

pub returns-clause-made : goal.returns-clause-made
returns-clause-made g c =
    rw (← c.self.view_is) (made _ c.self.invariant c.args.path.now c.copied.result
    (c.copied.ensures ∙ c.get.ensures.value))
