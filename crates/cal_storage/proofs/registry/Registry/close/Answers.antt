use Rattle.std.proofs.Common.{◌≡◌, ◌∙◌, ◌&&◌, not, sym, ap, subst}
use Rattle.cal_storage.specs.Contents.{is_id, id_at, Has}
use Rattle.cal_storage.specs.Soundness.{IsSound}
use Rattle.cal_storage.proofs.ChangeLemmas.{after_close-is}
use Rattle.cal_storage.specs.SoundnessLemmas.{after_close-IsSound}
use Rattle.cal_storage.proofs.registry.Registry.close.Goals as goal
use Rattle.cal_storage.proofs.registry.Registry.close.Goals.{then-is_named, else-is_named, then-is_named-2, else-is_named-2}

pub invariant_of-self : goal.invariant_of-self
invariant_of-self g c =
    let goes : c.if-is_named.take_name ≡ (c.is_id-is_named.result && c.args.handle.now.is_owner) =
    elim c.if-is_named.branch [
      | then-is_named w ↦ rw w.if-is_named.true w.take_name-is
      | else-is_named w ↦ rw w.if-is_named.false (w.take_name-is ∙ w.if-is_named.false)
    ]
    in
    let stays : c.if-is_named-2.end_if_left ≡ (c.is_id-is_named.result && not c.args.handle.now.is_owner) =
    elim c.if-is_named-2.branch [
      | then-is_named-2 w ↦ rw w.if-is_named-2.true w.end_if_left-is
      | else-is_named-2 w ↦ rw w.if-is_named-2.false (w.end_if_left-is ∙ w.if-is_named-2.false)
    ]
    in
    rw (c.take_name.ensures, c.end_if_left.ensures, c.let_go.ensures, c.slot_mut-slot.ensures.value, goes, stays)
    (subst (IsSound {T = g.row.T.Denot})
    (after_close-is _ c.args.handle.now c.is_id-is_named.result
    (c.is_id-is_named.ensures ∙ ap
    (λ at. is_id at c.args.handle.now.id)
    (c.id_at.ensures.id ∙ sym (ap (λ contents. id_at contents c.args.handle.now.path) c.self.view_is))))
    (after_close-IsSound _ c.self.invariant c.args.handle.now
    (subst (λ contents. Has contents c.args.handle.now) (sym c.self.view_is) c.requires)))
