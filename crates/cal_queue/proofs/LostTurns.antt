-- What the turns of a pop that took no value add up to.
use Rattle.std.proofs.Common.{◌≡◌, ℕ, List, [], ◌∷◌, ◌++◌, refl, sym, ap, ◌∙◌}
use Rattle.cal_queue.specs.SubmissionCalls.{LosesTurns, LostTurn, after_lost_turn, after_lost_turns}
use Rattle.cal_queue.specs.SubmissionPass.{after_miss, after_read_look, after_write_look}
use Rattle.cal_queue.specs.declared.submission_ring.pass.TakePass.{TakePass}

turns-more : (turns : List LostTurn) (turn : LostTurn) (p : TakePass)
    → after_lost_turns (turns ++ turn ∷ []) p ≡ after_lost_turn turn (after_lost_turns turns p)
turns-more [] turn p = refl
turns-more (t ∷ turns) turn p = turns-more turns turn (after_lost_turn t p)

-- one turn more is lost
pub LosesTurns-more : (first now looked next : TakePass) (read write : ℕ) → LosesTurns first now
    → looked ≡ after_write_look write (after_read_look read now) → next ≡ after_miss looked → LosesTurns first next
LosesTurns-more first now looked next read write lost look missed =
    let turn : LostTurn = record { read = read; write = write } in record {
      turns = lost.turns ++ turn ∷ [];
      steps = missed ∙ ap after_miss look ∙ ap (after_lost_turn turn) lost.steps
          ∙ sym (turns-more lost.turns turn first);
    }
