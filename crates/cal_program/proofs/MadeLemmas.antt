-- Made scripts: a round more, no cause against the settings, and as many bytes asked for as there are rounds.
use Rattle.std.proofs.Common.{◌≡◌, ℕ, zero, suc, ◌+◌, ◌*◌, ◌%◌, ◌^◌, ◌≤◌, List, [], ◌∷◌, ◌++◌, length, None, refl, sym, ap, ◌∙◌, arith, add-one, append_assoc, length-append}
use Rattle.std.specs.List.{sum_by}
use Rattle.std.proofs.lemmas.Grind.{flat_map-append}
use Rattle.std.proofs.lemmas.List.{append-nil}
use Rattle.std.proofs.lemmas.List.Sums.{sum_by-append}
use Rattle.std.proofs.Math.Nat.{mod-add-mod}
use lib.Count.{ones}
use Rattle.cal_transport.specs.declared.command.Command.{Command}
use Rattle.cal_transport.specs.declared.command.Command.TheVariants.{Loan, Write, Send, Discard, Receive, Read, Release, Reclaim}
use Rattle.cal_transport.specs.declared.reply.Reply.{Reply}
use Rattle.cal_transport.specs.Ledger.{numbers_below}
use Rattle.cal_transport.specs.Settings.{create_cause}
use Rattle.cal_transport.specs.Run.{IsRun}
use Rattle.cal_program.specs.declared.made_script.Draw.{Draw}
use Rattle.cal_program.specs.MadeScript.{made_settings, next_state, state_after, draw_of, way_there, way_back, round_of, round_at, made_commands}
use Rattle.cal_program.specs.Summary.{shown_count, summary_of}
use Rattle.cal_program.proofs.ShownLemmas.{asked_count, run-shown, run-answers}

pub made_settings-fine : create_cause made_settings ≡ None
unfolding ones
made_settings-fine = refl

-- a product that wraps, and then a sum that wraps
pub next_state-wrapping : (state : ℕ) →
    (state * 6364136223846793005 % 2 ^ 64 + 1442695040888963407) % 2 ^ 64 ≡ next_state state
next_state-wrapping state = mod-add-mod (state * 6364136223846793005) (2 ^ 64) 1442695040888963407

-- ---- one round more

rounds-next : (number rounds : ℕ) →
    made_commands number (suc rounds) ≡ made_commands number rounds ++ round_at number rounds
rounds-next number rounds =
    flat_map-append (round_at number) (numbers_below rounds) (rounds ∷ [])
    ∙ ap (λ (last : List Command). made_commands number rounds ++ last) (append-nil (round_at number rounds))

-- the state of the next index
pub state_after-next : (number index : ℕ) (state now : ℕ) → state ≡ state_after number index → now ≡ next_state state →
    now ≡ state_after number (index + 1)
state_after-next number index state now before step =
    step ∙ ap next_state before ∙ ap (state_after number) (sym (add-one index))

-- the commands of the next index
pub made_commands-next : (number index state now : ℕ) (draw : Draw) (before later : List Command) →
    state ≡ state_after number index → now ≡ next_state state → draw ≡ draw_of now →
    before ≡ made_commands number index → later ≡ before ++ round_of draw (8 * index + 1) →
    later ≡ made_commands number (index + 1)
made_commands-next number index state now draw before later from step drawn list pushed =
    let same : round_of draw (8 * index + 1) ≡ round_at number index =
    ap (λ (d : Draw). round_of d (8 * index + 1)) (drawn ∙ ap draw_of (step ∙ ap next_state from)) in
    pushed
    ∙ ap (λ (front : List Command). front ++ round_of draw (8 * index + 1)) list
    ∙ ap (λ (last : List Command). made_commands number index ++ last) same
    ∙ sym (rounds-next number index)
    ∙ ap (made_commands number) (sym (add-one index))

-- ---- the bytes that are asked for

made_commands-asked : (number rounds : ℕ) → sum_by asked_count (made_commands number rounds) ≡ rounds
made_commands-asked number zero = refl
made_commands-asked number (suc rounds) =
    let before : sum_by asked_count (made_commands number rounds) ≡ rounds = made_commands-asked number rounds in
    let one : sum_by asked_count (round_at number rounds) ≡ 1 = refl in
    let whole : sum_by asked_count (made_commands number rounds ++ round_at number rounds) ≡
    sum_by asked_count (made_commands number rounds) + sum_by asked_count (round_at number rounds) =
    sum_by-append asked_count (made_commands number rounds) (round_at number rounds) in
    ap (sum_by asked_count) (rounds-next number rounds) ∙ whole
    ∙ omega (arith, before, one, add-one rounds)

-- a made run shows a byte a round at most
pub made-shown : (number rounds : ℕ) (replies : List Reply) →
    IsRun made_settings (made_commands number rounds) replies → shown_count replies ≤ rounds
made-shown number rounds replies run =
    omega (arith, run-shown made_settings (made_commands number rounds) replies run, made_commands-asked number rounds)

-- ---- the answers

made_commands-length : (number rounds : ℕ) → length (made_commands number rounds) ≡ 8 * rounds
made_commands-length number zero = refl
made_commands-length number (suc rounds) =
    let before : length (made_commands number rounds) ≡ 8 * rounds = made_commands-length number rounds in
    let eight : length (round_at number rounds) ≡ 8 = refl in
    ap length (rounds-next number rounds)
    ∙ length-append (made_commands number rounds) (round_at number rounds)
    ∙ omega (arith, before, eight)

-- a made run has eight answers a round
pub made-answers : (number rounds : ℕ) (replies : List Reply) →
    IsRun made_settings (made_commands number rounds) replies → (summary_of replies).answered ≡ 8 * rounds
made-answers number rounds replies run =
    run-answers made_settings (made_commands number rounds) replies run ∙ made_commands-length number rounds

-- ---- four commands, one after another

four-pushed : (before a b c d : List Command) (first second third fourth : Command) →
    a ≡ before ++ first ∷ [] → b ≡ a ++ second ∷ [] → c ≡ b ++ third ∷ [] → d ≡ c ++ fourth ∷ [] →
    d ≡ before ++ (first ∷ second ∷ third ∷ fourth ∷ [])
four-pushed before a b c d first second third fourth is_a is_b is_c is_d =
    is_d
    ∙ ap (λ (front : List Command). front ++ fourth ∷ []) (is_c
    ∙ ap (λ (front : List Command). front ++ third ∷ []) (is_b
    ∙ ap (λ (front : List Command). front ++ second ∷ []) is_a))
    ∙ ap (λ (front : List Command). (front ++ third ∷ []) ++ fourth ∷ [])
    (append_assoc before (first ∷ []) (second ∷ []))
    ∙ ap (λ (front : List Command). front ++ fourth ∷ [])
    (append_assoc before (first ∷ second ∷ []) (third ∷ []))
    ∙ append_assoc before (first ∷ second ∷ third ∷ []) (fourth ∷ [])

pub way_there-pushed : (draw : Draw) (chunk : ℕ) (bytes : List ℕ) (before a b c d : List Command) →
    bytes ≡ draw.byte ∷ [] → a ≡ before ++ Loan draw.size 1 ∷ [] → b ≡ a ++ Write chunk 0 bytes ∷ [] →
    c ≡ b ++ Send draw.channel chunk ∷ [] → d ≡ c ++ Discard chunk ∷ [] → d ≡ before ++ way_there draw chunk
way_there-pushed draw chunk bytes before a b c d copied is_a is_b is_c is_d =
    four-pushed before a b c d (Loan draw.size 1) (Write chunk 0 bytes) (Send draw.channel chunk) (Discard chunk)
    is_a is_b is_c is_d
    ∙ ap (λ (written : List ℕ). before
    ++ (Loan draw.size 1 ∷ Write chunk 0 written ∷ Send draw.channel chunk ∷ Discard chunk ∷ [])) copied

pub way_back-pushed : (draw : Draw) (chunk : ℕ) (before a b c d : List Command) →
    a ≡ before ++ Receive draw.channel ∷ [] → b ≡ a ++ Read draw.channel chunk 0 1 ∷ [] →
    c ≡ b ++ Release draw.channel chunk ∷ [] → d ≡ c ++ Reclaim draw.channel ∷ [] →
    d ≡ before ++ way_back draw chunk
way_back-pushed draw chunk before a b c d is_a is_b is_c is_d =
    four-pushed before a b c d (Receive draw.channel) (Read draw.channel chunk 0 1) (Release draw.channel chunk)
    (Reclaim draw.channel) is_a is_b is_c is_d

-- both halves
pub round_of-pushed : (draw : Draw) (chunk : ℕ) (before between now : List Command) →
    between ≡ before ++ way_there draw chunk → now ≡ between ++ way_back draw chunk →
    now ≡ before ++ round_of draw chunk
round_of-pushed draw chunk before between now there back =
    back ∙ ap (λ (front : List Command). front ++ way_back draw chunk) there
    ∙ append_assoc before (way_there draw chunk) (way_back draw chunk)
