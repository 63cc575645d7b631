-- What is said of an offset that comes back from a channel, by its answer.
use Rattle.std.proofs.Common.{ℕ, ◌≡◌, Bool, true, false, cond, List, Option, Some, None, Ok, Err, refl, ◌∙◌}
use Rattle.cal_connection.specs.declared.segment_details.SegmentDetails.{SegmentDetails}
use Rattle.cal_connection.specs.Channel.{names_used_entry, return_answer}

module _ {E : Type 0} (error : E) (segments : List SegmentDetails) where
  -- none came back where the answer is none
  pub none_returned : (o : Option ℕ) → Ok None ≡ return_answer error segments o → o ≡ None
  none_returned None is = refl
  none_returned (Some pointer) is = go (names_used_entry segments pointer) is
    where
      go : (b : Bool) → Ok None ≡ cond b (Ok (Some pointer)) (Err error) → Some pointer ≡ None
      go true q = absurd (let q2 = q in cc)
      go false q = absurd (let q2 = q in cc)

  -- an answer is what came back
  pub some_returned : (o : Option ℕ) (pointer : ℕ) → Ok (Some pointer) ≡ return_answer error segments o →
      o ≡ Some pointer
  some_returned None pointer is = absurd (let q2 = is in cc)
  some_returned (Some other) pointer is = go (names_used_entry segments other) is
    where
      go : (b : Bool) → Ok (Some pointer) ≡ cond b (Ok (Some other)) (Err error) → Some other ≡ Some pointer
      go true q = (let q2 = q in cc)
      go false q = absurd (let q2 = q in cc)

  -- what names a used entry isn't refused
  pub never_refused : (o : Option ℕ) (e : E) → Err e ≡ return_answer error segments o →
      ((pointer : ℕ) → o ≡ Some pointer → return_answer error segments (Some pointer) ≡ Ok (Some pointer)) → ⊥
  never_refused None e is names = let q2 = is in cc
  never_refused (Some pointer) e is names = (let q2 = is ∙ names pointer refl in cc)
