-- The settings line: what is read is spelled so, and what is spelled is read again.
use Rattle.std.proofs.Common.{◌≡◌, ℕ, ◌<◌, ◌^◌, inl, inr, Bool, true, false, cond, List, [], ◌∷◌, Option, Some, None, decimal, refl, sym, ap, subst, ◌∙◌, arith}
use Rattle.std.specs.Prelude.{codes, bytes_eq, nat_le, option_and_then}
use Rattle.std.proofs.lemmas.Bool.{le-leb}
use Rattle.std.proofs.lemmas.Option.{cond_some, same_Some}
use Rattle.cal_alloc.specs.declared.allocation_strategy.AllocationStrategy.{AllocationStrategy}
use Rattle.cal_alloc.specs.declared.allocation_strategy.AllocationStrategy.TheVariants.{BestFit, PowerOfTwo, Static}
use Rattle.cal_transport.specs.declared.settings.Settings.{Settings}
use Rattle.cal_program.specs.Words.{words, number_of}
use Rattle.cal_program.specs.Script.{strategy_of, switch_of, small_number_of, settings_of_words, settings_named, settings_of}
use Rattle.cal_program.specs.Spelling.{spaced_words, strategy_word, switch_word, settings_line, HasSettingsSpelling}
use Rattle.cal_program.proofs.SpellingLemmas.{maybe, bytes_eq-true, chosen, spaced-words, words-spaced, lacks_space, number-spelled, number-again, decimal-lacks}

-- ---- the words that are no numbers

-- a word that is one of a table is its text
pick : {A : Type 0} (word text : List ℕ) (here value : A) (later : Option A) (spell : A → List ℕ) → spell here ≡ text →
    (later ≡ Some value → word ≡ spell value) → cond (bytes_eq word text) (Some here) later ≡ Some value →
    word ≡ spell value
pick word text here value later spell is otherwise e =
    elim (chosen (bytes_eq word text) (Some here) later (Some value) e) [
      | inl p ↦ bytes_eq-true word text p.0 ∙ sym is ∙ ap spell (same_Some here value p.1)
      | inr q ↦ otherwise q
    ]

no-value : {A : Type 0} (value : A) (word : List ℕ) (spell : A → List ℕ) → None ≡ Some value → word ≡ spell value
no-value value word spell e = absurd cc

strategy-spelled : (word : List ℕ) (strategy : AllocationStrategy) → strategy_of word ≡ Some strategy →
    word ≡ strategy_word strategy
strategy-spelled word strategy =
    pick word (codes "best") BestFit strategy _ strategy_word refl
    (pick word (codes "power") PowerOfTwo strategy _ strategy_word refl
    (pick word (codes "static") Static strategy _ strategy_word refl (no-value strategy word strategy_word)))

strategy-again : (strategy : AllocationStrategy) →
    (strategy_of (strategy_word strategy) ≡ Some strategy) × (lacks_space (strategy_word strategy) ≡ true)
strategy-again BestFit = (refl, refl)
strategy-again PowerOfTwo = (refl, refl)
strategy-again Static = (refl, refl)

switch-spelled : (word : List ℕ) (switch : Bool) → switch_of word ≡ Some switch → word ≡ switch_word switch
switch-spelled word switch =
    pick word (codes "on") true switch _ switch_word refl
    (pick word (codes "off") false switch _ switch_word refl (no-value switch word switch_word))

switch-again : (switch : Bool) →
    (switch_of (switch_word switch) ≡ Some switch) × (lacks_space (switch_word switch) ≡ true)
switch-again true = (refl, refl)
switch-again false = (refl, refl)

small-parts : (found : Option ℕ) (n : ℕ) → option_and_then (λ x. cond (nat_le x 255) (Some x) None) found ≡ Some n →
    found ≡ Some n
small-parts None n e = absurd cc
small-parts (Some x) n e = ap Some (cond_some (nat_le x 255) x n e).1

small-spelled : (word : List ℕ) (n : ℕ) → small_number_of word ≡ Some n → word ≡ decimal n
small-spelled word n e = number-spelled word n (small-parts (number_of word) n e)

small-again : (n : ℕ) → n < 2 ^ 8 → small_number_of (decimal n) ≡ Some n
small-again n h = rw (number-again n (omega arith), le-leb n 255 (omega arith)) refl

-- ---- the ten words

-- settings of ten values, where each is there
abbrev settings_from : Option ℕ → Option ℕ → Option ℕ → Option AllocationStrategy → Option ℕ → Option ℕ → Option Bool →
    Option ℕ → Option ℕ → Option ℕ → Option Settings
settings_from oa ob oc od oe of og oh oi oj =
    maybe oa (λ a. maybe ob (λ b. maybe oc
    (λ c. maybe od (λ d. maybe oe
    (λ e. maybe of (λ f. maybe og
    (λ g. maybe oh (λ h. maybe oi
    (λ i. maybe oj (λ j. Some
    (record {
      size = a;
      alignment = b;
      count = c;
      strategy = d;
      buffer = e;
      borrow = f;
      overflow = g;
      samples = h;
      segments = i;
      channels = j;
    })))))))))))

-- each of the ten values
record Parts (oa : Option ℕ) (ob : Option ℕ) (oc : Option ℕ) (od : Option AllocationStrategy) (oe : Option ℕ)
    (of : Option ℕ) (og : Option Bool) (oh : Option ℕ) (oi : Option ℕ) (oj : Option ℕ) (s : Settings) : Type 0 where
  size_is : oa ≡ Some s.size
  alignment_is : ob ≡ Some s.alignment
  count_is : oc ≡ Some s.count
  strategy_is : od ≡ Some s.strategy
  buffer_is : oe ≡ Some s.buffer
  borrow_is : of ≡ Some s.borrow
  overflow_is : og ≡ Some s.overflow
  samples_is : oh ≡ Some s.samples
  segments_is : oi ≡ Some s.segments
  channels_is : oj ≡ Some s.channels

settings-same : (s t : Settings) → Some s ≡ Some t → s ≡ t
settings-same s t e = same_Some s t e

parts-from : (oa : Option ℕ) (ob : Option ℕ) (oc : Option ℕ) (od : Option AllocationStrategy) (oe : Option ℕ)
    (of : Option ℕ) (og : Option Bool) (oh : Option ℕ) (oi : Option ℕ) (oj : Option ℕ) (s : Settings) →
    settings_from oa ob oc od oe of og oh oi oj ≡ Some s → Parts oa ob oc od oe of og oh oi oj s
parts-from None ob oc od oe of og oh oi oj s e' = absurd cc
parts-from (Some a) None oc od oe of og oh oi oj s e' = absurd cc
parts-from (Some a) (Some b) None od oe of og oh oi oj s e' = absurd cc
parts-from (Some a) (Some b) (Some c) None oe of og oh oi oj s e' = absurd cc
parts-from (Some a) (Some b) (Some c) (Some d) None of og oh oi oj s e' = absurd cc
parts-from (Some a) (Some b) (Some c) (Some d) (Some e) None og oh oi oj s e' = absurd cc
parts-from (Some a) (Some b) (Some c) (Some d) (Some e) (Some f) None oh oi oj s e' = absurd cc
parts-from (Some a) (Some b) (Some c) (Some d) (Some e) (Some f) (Some g) None oi oj s e' = absurd cc
parts-from (Some a) (Some b) (Some c) (Some d) (Some e) (Some f) (Some g) (Some h) None oj s e' = absurd cc
parts-from (Some a) (Some b) (Some c) (Some d) (Some e) (Some f) (Some g) (Some h) (Some i) None s e' = absurd cc
parts-from (Some a) (Some b) (Some c) (Some d) (Some e) (Some f) (Some g) (Some h) (Some i) (Some j) s e' =
    subst (λ (t : Settings). Parts (Some a) (Some b) (Some c) (Some d) (Some e) (Some f) (Some g) (Some h) (Some i)
    (Some j) t) (same_Some (record {
      size = a;
      alignment = b;
      count = c;
      strategy = d;
      buffer = e;
      borrow = f;
      overflow = g;
      samples = h;
      segments = i;
      channels = j;
    }) s e')
    (record {
      size_is = refl;
      alignment_is = refl;
      count_is = refl;
      strategy_is = refl;
      buffer_is = refl;
      borrow_is = refl;
      overflow_is = refl;
      samples_is = refl;
      segments_is = refl;
      channels_is = refl;
    })

-- ten words that are read spell the settings
ten-spelled : (wa wb wc wd we wf wg wh wi wj : List ℕ) (s : Settings) →
    settings_from (number_of wa) (number_of wb) (number_of wc) (strategy_of wd) (number_of we) (number_of wf)
    (switch_of wg) (number_of wh) (small_number_of wi) (number_of wj) ≡ Some s →
    spaced_words (codes "transport" ∷ wa ∷ wb ∷ wc ∷ wd ∷ we ∷ wf ∷ wg ∷ wh ∷ wi ∷ wj ∷ []) ≡ settings_line s
ten-spelled wa wb wc wd we wf wg wh wi wj s e' =
    let p = parts-from (number_of wa) (number_of wb) (number_of wc) (strategy_of wd) (number_of we) (number_of wf)
    (switch_of wg) (number_of wh) (small_number_of wi) (number_of wj) s e' in
    ap (λ (w : List ℕ). spaced_words (codes "transport" ∷ w ∷ wb ∷ wc ∷ wd ∷ we ∷ wf ∷ wg ∷ wh ∷ wi ∷ wj ∷ []))
    (number-spelled wa s.size p.size_is)
    ∙ ap (λ (w : List ℕ). spaced_words
    (codes "transport" ∷ decimal s.size ∷ w ∷ wc ∷ wd ∷ we ∷ wf ∷ wg ∷ wh ∷ wi ∷ wj ∷ []))
    (number-spelled wb s.alignment p.alignment_is)
    ∙ ap (λ (w : List ℕ). spaced_words
    (codes "transport" ∷ decimal s.size ∷ decimal s.alignment ∷ w ∷ wd ∷ we ∷ wf ∷ wg ∷ wh ∷ wi ∷ wj ∷ []))
    (number-spelled wc s.count p.count_is)
    ∙ ap (λ (w : List ℕ). spaced_words
    (codes "transport" ∷ decimal s.size ∷ decimal s.alignment ∷ decimal s.count ∷ w ∷ we ∷ wf ∷ wg ∷ wh ∷ wi ∷ wj ∷
    [])) (strategy-spelled wd s.strategy p.strategy_is)
    ∙ ap (λ (w : List ℕ). spaced_words
    (codes "transport" ∷ decimal s.size ∷ decimal s.alignment ∷ decimal s.count ∷ strategy_word s.strategy ∷ w ∷ wf
    ∷ wg ∷ wh ∷ wi ∷ wj ∷ [])) (number-spelled we s.buffer p.buffer_is)
    ∙ ap (λ (w : List ℕ). spaced_words
    (codes "transport" ∷ decimal s.size ∷ decimal s.alignment ∷ decimal s.count ∷ strategy_word s.strategy ∷ decimal
    s.buffer ∷ w ∷ wg ∷ wh ∷ wi ∷ wj ∷ [])) (number-spelled wf s.borrow p.borrow_is)
    ∙ ap (λ (w : List ℕ). spaced_words
    (codes "transport" ∷ decimal s.size ∷ decimal s.alignment ∷ decimal s.count ∷ strategy_word s.strategy ∷ decimal
    s.buffer ∷ decimal s.borrow ∷ w ∷ wh ∷ wi ∷ wj ∷ [])) (switch-spelled wg s.overflow p.overflow_is)
    ∙ ap (λ (w : List ℕ). spaced_words
    (codes "transport" ∷ decimal s.size ∷ decimal s.alignment ∷ decimal s.count ∷ strategy_word s.strategy ∷ decimal
    s.buffer ∷ decimal s.borrow ∷ switch_word s.overflow ∷ w ∷ wi ∷ wj ∷ []))
    (number-spelled wh s.samples p.samples_is)
    ∙ ap (λ (w : List ℕ). spaced_words
    (codes "transport" ∷ decimal s.size ∷ decimal s.alignment ∷ decimal s.count ∷ strategy_word s.strategy ∷ decimal
    s.buffer ∷ decimal s.borrow ∷ switch_word s.overflow ∷ decimal s.samples ∷ w ∷ wj ∷ []))
    (small-spelled wi s.segments p.segments_is)
    ∙ ap (λ (w : List ℕ). spaced_words
    (codes "transport" ∷ decimal s.size ∷ decimal s.alignment ∷ decimal s.count ∷ strategy_word s.strategy ∷ decimal
    s.buffer ∷ decimal s.borrow ∷ switch_word s.overflow ∷ decimal s.samples ∷ decimal s.segments ∷ w ∷ []))
    (number-spelled wj s.channels p.channels_is)

words-spelled : (others : List (List ℕ)) (s : Settings) → settings_of_words others ≡ Some s →
    spaced_words (codes "transport" ∷ others) ≡ settings_line s
words-spelled [] s e' = absurd cc
words-spelled (wa ∷ []) s e' = absurd cc
words-spelled (wa ∷ wb ∷ []) s e' = absurd cc
words-spelled (wa ∷ wb ∷ wc ∷ []) s e' = absurd cc
words-spelled (wa ∷ wb ∷ wc ∷ wd ∷ []) s e' = absurd cc
words-spelled (wa ∷ wb ∷ wc ∷ wd ∷ we ∷ []) s e' = absurd cc
words-spelled (wa ∷ wb ∷ wc ∷ wd ∷ we ∷ wf ∷ []) s e' = absurd cc
words-spelled (wa ∷ wb ∷ wc ∷ wd ∷ we ∷ wf ∷ wg ∷ []) s e' = absurd cc
words-spelled (wa ∷ wb ∷ wc ∷ wd ∷ we ∷ wf ∷ wg ∷ wh ∷ []) s e' = absurd cc
words-spelled (wa ∷ wb ∷ wc ∷ wd ∷ we ∷ wf ∷ wg ∷ wh ∷ wi ∷ []) s e' = absurd cc
words-spelled (wa ∷ wb ∷ wc ∷ wd ∷ we ∷ wf ∷ wg ∷ wh ∷ wi ∷ wj ∷ []) s e' =
    ten-spelled wa wb wc wd we wf wg wh wi wj s e'
words-spelled (wa ∷ wb ∷ wc ∷ wd ∷ we ∷ wf ∷ wg ∷ wh ∷ wi ∷ wj ∷ other ∷ others) s e' = absurd cc

named-spelled : (found : List (List ℕ)) (s : Settings) → settings_named found ≡ Some s →
    spaced_words found ≡ settings_line s
named-spelled [] s e = absurd cc
named-spelled (name ∷ others) s e =
    elim (chosen (bytes_eq name (codes "transport")) (settings_of_words others) None (Some s) e) [
      | inl p ↦ ap (λ (w : List ℕ). spaced_words (w ∷ others)) (bytes_eq-true name (codes "transport") p.0)
          ∙ words-spelled others s p.1
      | inr q ↦ absurd cc
    ]

pub settings-spelled : (line : List ℕ) (s : Settings) → settings_of line ≡ Some s → line ≡ settings_line s
settings-spelled line s e = sym (spaced-words line) ∙ named-spelled (words line) s e

pub settings-again : (s : Settings) → HasSettingsSpelling s → settings_of (settings_line s) ≡ Some s
settings-again s h =
    let cut = words-spaced (codes "transport")
    (decimal s.size ∷ decimal s.alignment ∷ decimal s.count ∷ strategy_word s.strategy ∷ decimal s.buffer ∷ decimal
    s.borrow ∷ switch_word s.overflow ∷ decimal s.samples ∷ decimal s.segments ∷ decimal s.channels ∷ []) refl (
      decimal-lacks s.size h.0,
      (
        decimal-lacks s.alignment h.1,
        (
          decimal-lacks s.count h.2,
          (
            (strategy-again s.strategy).1,
            (
              decimal-lacks s.buffer h.3,
              (
                decimal-lacks s.borrow h.4,
                (
                  (switch-again s.overflow).1,
                  (
                    decimal-lacks s.samples h.5,
                    (decimal-lacks s.segments (omega (arith, h.6)), (decimal-lacks s.channels h.7, tt)),
                  ),
                ),
              ),
            ),
          ),
        ),
      ),
    ) in
    ap settings_named cut
    ∙ rw (
      number-again s.size h.0,
      number-again s.alignment h.1,
      number-again s.count h.2,
      (strategy-again s.strategy).0,
      number-again s.buffer h.3,
      number-again s.borrow h.4,
      (switch-again s.overflow).0,
      number-again s.samples h.5,
      small-again s.segments h.6,
      number-again s.channels h.7,
    ) refl
