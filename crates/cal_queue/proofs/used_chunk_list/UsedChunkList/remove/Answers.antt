use Rattle.std.proofs.Common.{◌≡◌, ℕ, ◌/◌, ◌<◌, ◌==◌, ◌&&◌, not, List, ap, sym, ◌∙◌, subst, length}
use Rattle.std.proofs.lemmas.List.{with_items_is}
use Rattle.cal_queue.specs.BitSet.{has_bit, marks_of, IsBitSet}
use Rattle.cal_queue.proofs.BitMarks.{shown-has_word, shown-contains, shown-removal, removal-IsBitSet}
use Rattle.cal_queue.proofs.used_chunk_list.UsedChunkList.remove.Goals as goal

pub clear_bit-requires : goal.clear_bit-requires
clear_bit-requires c =
    subst (λ words. c.args.value / 64 < length words) (sym c.deref_mut.ensures.value)
    (shown-has_word c.self.inside.words.items _ _ (record { sound = c.self.invariant; is = c.self.view_is })
    c.args.value c.requires.below)

pub invariant_of-self : goal.invariant_of-self
invariant_of-self c =
    let same : length c.clear_bit.new.words ≡ length c.self.inside.words.items = c.clear_bit.auto.words
    ∙ ap length c.deref_mut.ensures.value in
    subst (λ (words : List ℕ). IsBitSet words c.self.inside.capacity)
    (sym (with_items_is c.self.inside.words c.clear_bit.new.words (same ∙ sym c.self.inside.words.ok.0)))
    (removal-IsBitSet c.self.inside.words.items _ _ (record { sound = c.self.invariant; is = c.self.view_is })
    c.clear_bit.new.words
    c.args.value c.requires.below
    (subst (λ words. (k : ℕ) → has_bit c.clear_bit.new.words k ≡ (not (k == c.args.value) && has_bit words k))
    c.deref_mut.ensures.value
    c.clear_bit.ensures.cleared) same)

pub returns-clause-was_present : goal.returns-clause-was_present
returns-clause-was_present c =
    c.clear_bit.ensures.was_set ∙ ap (λ words. has_bit words c.args.value) c.deref_mut.ensures.value
    ∙ shown-contains c.self.inside.words.items _ _ (record { sound = c.self.invariant; is = c.self.view_is })
    c.args.value

pub returns-clause-now_absent : goal.returns-clause-now_absent
returns-clause-now_absent c =
    let same : length c.clear_bit.new.words ≡ length c.self.inside.words.items = c.clear_bit.auto.words
    ∙ ap length c.deref_mut.ensures.value in
    ap (λ (words : List ℕ). record { marks = marks_of words c.self.inside.capacity })
    (with_items_is c.self.inside.words c.clear_bit.new.words (same ∙ sym c.self.inside.words.ok.0))
    ∙ shown-removal c.self.inside.words.items _ _ (record { sound = c.self.invariant; is = c.self.view_is })
    c.clear_bit.new.words
    c.args.value c.requires.below
    (subst (λ words. (k : ℕ) → has_bit c.clear_bit.new.words k ≡ (not (k == c.args.value) && has_bit words k))
    c.deref_mut.ensures.value
    c.clear_bit.ensures.cleared)
