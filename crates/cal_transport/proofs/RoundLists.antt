-- Rounds put together, one after another.
use Rattle.std.proofs.Common.{ℕ, zero, suc, ◌+◌, ◌≡◌, List, [], ◌∷◌, ◌++◌, map, replicate, refl, sym, ap, ◌∙◌, add-one}
use Rattle.std.specs.List.{flat_map}
use Rattle.std.proofs.lemmas.Grind.{flat_map-append}
use Rattle.std.proofs.lemmas.List.{append-nil, append_assoc}
use Rattle.cal_transport.specs.declared.command.Command.{Command}
use Rattle.cal_transport.specs.declared.command.Command.TheVariants as command
use Rattle.cal_transport.specs.declared.fill_list.Round.TheVariants as round
use Rattle.cal_transport.specs.FillList.{names_from, fill_list, send_and_receive, send_and_leave, release_and_receive}
use Rattle.cal_transport.specs.Rounds.{round_of}
use Rattle.cal_transport.proofs.Numbers.{names_from-push}

-- one more round is appended
pub rounds_more : (f : ℕ → List Command) (start now new : List Command) (first k : ℕ) →
    now ≡ start ++ flat_map f (names_from first k) → new ≡ now ++ f (first + k) →
    new ≡ start ++ flat_map f (names_from first (k + 1))
rounds_more f start now new first k before after =
    let split : flat_map f (names_from first (suc k)) ≡ flat_map f (names_from first k) ++ f (first + k) =
    ap (flat_map f) (sym (names_from-push first k)) ∙ flat_map-append f (names_from first k) ((first + k) ∷ [])
    ∙ ap (λ last. flat_map f (names_from first k) ++ last) (append-nil (f (first + k))) in
    after ∙ ap (λ front. front ++ f (first + k)) before
    ∙ append_assoc start (flat_map f (names_from first k)) (f (first + k))
    ∙ ap (λ all. start ++ all) (sym split)
    ∙ ap (λ n. start ++ flat_map f (names_from first n)) (sym (add-one k))

loans_are : (first n : ℕ) → flat_map (round_of round.Loan) (names_from first n) ≡ replicate n (command.Loan 1 1)
loans_are first zero = refl
loans_are first (suc n) = ap (λ rest. command.Loan 1 1 ∷ rest) (loans_are (first + 1) n)

releases_are : (names : List ℕ) → flat_map (round_of round.Release) names ≡ map (λ name. command.Release 0 name) names
releases_are [] = refl
releases_are (name ∷ names) = ap (λ rest. command.Release 0 name ∷ rest) (releases_are names)

-- what is appended one after another is the list
pub put_together : (buffer borrow : ℕ) (a b c d e f g : List Command) → a ≡ [] →
    b ≡ a ++ flat_map (round_of round.Loan) (names_from 1 (buffer + borrow + 1)) →
    c ≡ b ++ flat_map (round_of round.SendAndReceive) (names_from 1 borrow) →
    d ≡ c ++ flat_map (round_of round.SendAndLeave) (names_from (borrow + 1) buffer) →
    e ≡ d ++ (command.Release 0 1 ∷ command.Receive 0 ∷ command.Send 0 (buffer + borrow + 1) ∷ []) →
    f ≡ e ++ flat_map (round_of round.ReleaseAndReceive) (names_from 2 buffer) →
    g ≡ f ++ flat_map (round_of round.Release) (names_from (buffer + 2) borrow) → g ≡ fill_list buffer borrow
put_together buffer borrow a b c d e f g is_a is_b is_c is_d is_e is_f is_g =
    let loans = replicate (buffer + borrow + 1) (command.Loan 1 1) in
    let opening = flat_map send_and_receive (names_from 1 borrow) in
    let leaving = flat_map send_and_leave (names_from (borrow + 1) buffer) in
    let middle = command.Release 0 1 ∷ command.Receive 0 ∷ command.Send 0 (buffer + borrow + 1) ∷ [] in
    let turns = flat_map release_and_receive (names_from 2 buffer) in
    let closing = map (λ name. command.Release 0 name) (names_from (buffer + 2) borrow) in
    let b' : b ≡ loans = is_b ∙ ap (λ x. x ++ flat_map (round_of round.Loan) (names_from 1 (buffer + borrow + 1))) is_a
    ∙ loans_are 1 (buffer + borrow + 1) in
    let g' : g ≡ ((((loans ++ opening) ++ leaving) ++ middle) ++ turns) ++ closing = is_g
    ∙ ap (λ x. x ++ flat_map (round_of round.Release) (names_from (buffer + 2) borrow)) (is_f
    ∙ ap (λ x. x ++ turns) (is_e ∙ ap (λ x. x ++ middle) (is_d ∙ ap (λ x. x ++ leaving) (is_c
    ∙ ap (λ x. x ++ opening) b'))))
    ∙ ap (λ x. ((((loans ++ opening) ++ leaving) ++ middle) ++ turns) ++ x)
    (releases_are (names_from (buffer + 2) borrow))
    in
    g' ∙ append_assoc (((loans ++ opening) ++ leaving) ++ middle) turns closing
    ∙ append_assoc ((loans ++ opening) ++ leaving) middle (turns ++ closing)
    ∙ append_assoc (loans ++ opening) leaving (middle ++ (turns ++ closing))
    ∙ append_assoc loans opening (leaving ++ (middle ++ (turns ++ closing)))
