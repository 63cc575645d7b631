use Rattle.std.proofs.Common.{◌≡◌, ℕ, ◌/◌, ◌<◌, ◌==◌, ◌||◌, not, List, ap, sym, ◌∙◌, subst, length}
use Rattle.std.proofs.lemmas.List.{with_items_is}
use Rattle.cal_queue.specs.BitSet.{has_bit, marks_of, IsBitSet}
use Rattle.cal_queue.proofs.BitMarks.{shown-has_word, shown-contains, shown-insertion, insertion-IsBitSet}
use Rattle.cal_queue.proofs.used_chunk_list.UsedChunkList.insert.Goals as goal

pub set_bit-requires : goal.set_bit-requires
set_bit-requires c =
    subst (λ words. c.args.value / 64 < length words) (sym c.deref_mut.ensures.value)
    (shown-has_word c.self.inside.words.items _ _ (record { sound = c.self.invariant; is = c.self.view_is })
    c.args.value c.requires.below)

pub invariant_of-self : goal.invariant_of-self
invariant_of-self c =
    let same : length c.set_bit.new.words ≡ length c.self.inside.words.items = c.set_bit.auto.words
    ∙ ap length c.deref_mut.ensures.value in
    subst (λ (words : List ℕ). IsBitSet words c.self.inside.capacity)
    (sym (with_items_is c.self.inside.words c.set_bit.new.words (same ∙ sym c.self.inside.words.ok.0)))
    (insertion-IsBitSet c.self.inside.words.items _ _ (record { sound = c.self.invariant; is = c.self.view_is })
    c.set_bit.new.words
    c.args.value c.requires.below
    (subst (λ words. (k : ℕ) → has_bit c.set_bit.new.words k ≡ (k == c.args.value || has_bit words k))
    c.deref_mut.ensures.value
    c.set_bit.ensures.set) same)

pub returns-clause-was_absent : goal.returns-clause-was_absent
returns-clause-was_absent c =
    c.set_bit.ensures.was_clear ∙ ap (λ words. not (has_bit words c.args.value)) c.deref_mut.ensures.value
    ∙ ap not (shown-contains c.self.inside.words.items _ _ (record { sound = c.self.invariant; is = c.self.view_is })
    c.args.value)

pub returns-clause-now_present : goal.returns-clause-now_present
returns-clause-now_present c =
    let same : length c.set_bit.new.words ≡ length c.self.inside.words.items = c.set_bit.auto.words
    ∙ ap length c.deref_mut.ensures.value in
    ap (λ (words : List ℕ). record { marks = marks_of words c.self.inside.capacity })
    (with_items_is c.self.inside.words c.set_bit.new.words (same ∙ sym c.self.inside.words.ok.0))
    ∙ shown-insertion c.self.inside.words.items _ _ (record { sound = c.self.invariant; is = c.self.view_is })
    c.set_bit.new.words
    c.args.value c.requires.below
    (subst (λ words. (k : ℕ) → has_bit c.set_bit.new.words k ≡ (k == c.args.value || has_bit words k))
    c.deref_mut.ensures.value
    c.set_bit.ensures.set)
