use Rattle.std.proofs.Common.{◌/◌, ◌<◌, ap, sym, ◌∙◌, subst, length}
use Rattle.cal_queue.specs.BitSet.{has_bit}
use Rattle.cal_queue.proofs.BitMarks.{shown-has_word, shown-contains}
use Rattle.cal_queue.proofs.used_chunk_list.UsedChunkList.contains.Goals as goal

pub has_bit-requires : goal.has_bit-requires
has_bit-requires c =
    subst (λ words. c.args.value / 64 < length words) (sym c.deref.ensures.value)
    (shown-has_word c.self.inside.words.items _ _ (record { sound = c.self.invariant; is = c.self.view_is })
    c.args.value c.requires.below)

pub returns : goal.returns
returns c = record {
  member = c.has_bit.ensures.value ∙ ap (λ words. has_bit words c.args.value) c.deref.ensures.value
      ∙ shown-contains c.self.inside.words.items _ _ (record { sound = c.self.invariant; is = c.self.view_is })
      c.args.value;
}
