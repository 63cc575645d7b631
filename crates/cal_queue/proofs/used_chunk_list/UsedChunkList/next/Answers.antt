use Rattle.std.proofs.Common.{◌≤◌, ◌^◌, sym, subst, length}
use Rattle.cal_queue.specs.BitSet.{has_bit}
use Rattle.cal_queue.specs.FirstFrom.{IsFirstFrom}
use Rattle.cal_queue.proofs.BitMarks.{shown-first, shown-next}
use Rattle.cal_queue.proofs.used_chunk_list.UsedChunkList.next.Goals as goal

pub first_from-requires : goal.first_from-requires
first_from-requires c =
    subst (λ words. length words ≤ 2 ^ 58) (sym c.deref.ensures.value)
    c.self.invariant.few

pub returns-clause-value : goal.returns-clause-value
returns-clause-value c =
    shown-next c.self.inside.words.items _ _ (record { sound = c.self.invariant; is = c.self.view_is }) c.args.from
    c.first_from.result
    (subst (λ words. IsFirstFrom (has_bit words) c.args.from c.first_from.result) c.deref.ensures.value
    c.first_from.ensures.first)

pub returns-clause-first : goal.returns-clause-first
returns-clause-first c =
    shown-first c.self.inside.words.items _ _ (record { sound = c.self.invariant; is = c.self.view_is }) c.args.from
    c.first_from.result
    (subst (λ words. IsFirstFrom (has_bit words) c.args.from c.first_from.result) c.deref.ensures.value
    c.first_from.ensures.first)
