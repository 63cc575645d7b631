-- Answers that are computed from the word that a load showed.
use Rattle.std.specs.Prelude.{◌≡◌, ℕ}
use Rattle.std.proofs.Common.{ap, ◌∙◌}
use Rattle.cal_shared.specs.Port.{AtWords, Port}
use Rattle.cal_shared.specs.Words.{LoadsWord}

-- what is computed from the word is an answer by the same load
pub AtWords-computed : {E A : Type 0} (index word : ℕ) (answer_of : ℕ → A) (answer : A) (before after : Port E)
    → AtWords (LoadsWord index (λ seen. seen) word) before after → answer ≡ answer_of word
    → AtWords (LoadsWord index answer_of answer) before after
AtWords-computed index word answer_of answer before after at is = record {
  changed = at.changed;
  steps = record {
    seen = at.steps.seen;
    step = at.steps.step;
    answers = is ∙ ap answer_of at.steps.answers;
  };
  only = at.only;
}
