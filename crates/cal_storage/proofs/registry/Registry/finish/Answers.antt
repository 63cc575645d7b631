use Rattle.std.proofs.Common.{◌∙◌, sym, ap, subst}
use Rattle.cal_storage.specs.Contents.{is_id, Has}
use Rattle.cal_storage.specs.Soundness.{IsSound}
use Rattle.cal_storage.proofs.ChangeLemmas.{after_withdrawal-is}
use Rattle.cal_storage.specs.SoundnessLemmas.{after_finish-IsSound, after_withdrawal-IsSound}
use Rattle.cal_storage.proofs.registry.Registry.finish.Goals as goal

pub invariant_of-self : goal.invariant_of-self
invariant_of-self g c =
    rw (c.finish.ensures.slot, c.if-finish.true, c.slot_mut-slot.ensures.value)
    (after_finish-IsSound _ c.self.invariant c.args.handle.now.id c.finish.ensures.left 9003)

pub invariant_of-self-2 : goal.invariant_of-self-2
invariant_of-self-2 g c =
    rw c.take_name.ensures
    (subst (IsSound {T = g.row.T.Denot})
    (after_withdrawal-is _ c.args.handle.now c.is_id-is_named.result
    (c.is_id-is_named.ensures ∙ ap (λ at. is_id at c.args.handle.now.id) (c.copied.ensures ∙ c.get.ensures.value)))
    (after_withdrawal-IsSound _ c.self.invariant c.args.handle.now
    (subst (λ contents. Has contents c.args.handle.now) (sym c.self.view_is) c.requires.there)))
