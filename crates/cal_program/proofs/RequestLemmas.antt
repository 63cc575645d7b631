-- What words may ask for, and that the text of a made run can be told.
use Rattle.std.proofs.Common.{◌≡◌, ℕ, ◌≤◌, Bool, true, false, List, [], ◌∷◌, Option, Some, None, refl, sym, subst, arith}
use Rattle.std.specs.Prelude.{if◌then◌else◌, nat_le, codes, bytes_eq}
use Rattle.std.proofs.lemmas.Bool.{leb-true}
use Rattle.cal_transport.specs.declared.reply.Reply.{Reply}
use Rattle.cal_transport.specs.State.{TransportState}
use Rattle.cal_program.specs.declared.request.Request.{Request}
use Rattle.cal_program.specs.declared.request.Request.TheVariants.{Run, Make}
use Rattle.cal_program.specs.declared.status.Status.{Status}
use Rattle.cal_program.specs.declared.status.Status.TheVariants.{Done, BadScript, NotCreated, ReadFault, WriteFault, NoMemory, Usage, TooLong}
use Rattle.cal_program.specs.Words.{◌>>=◌, number_of, at_most}
use Rattle.cal_program.specs.Request.{rounds_limit, made_request, request_of, HasFewRounds}
use Rattle.cal_program.specs.Streams.{SourceState}
use Rattle.cal_program.specs.Outcome.{IsDue, CanBeTold}
use Rattle.cal_program.proofs.MadeLemmas.{made-shown}

-- ---- the rounds are few

limit-few : (test : Bool) (x y number rounds : ℕ) → test ≡ nat_le y rounds_limit →
    ((if test then Some y else None) >>= (λ few. Some (Make x few))) ≡ Some (Make number rounds) → rounds ≤ 10000
limit-few true x y number rounds within e =
    let same : y ≡ rounds = cc in
    omega (arith, same, leb-true y 10000 (sym within))
limit-few false x y number rounds within e = absurd cc

numbers-few : (first second : Option ℕ) (number rounds : ℕ) →
    (first >>= (λ x. second >>= (λ y. at_most rounds_limit y >>= (λ few. Some (Make x few))))) ≡
    Some (Make number rounds) → rounds ≤ 10000
numbers-few None second number rounds e = absurd cc
numbers-few (Some x) None number rounds e = absurd cc
numbers-few (Some x) (Some y) number rounds e = limit-few (nat_le y rounds_limit) x y number rounds refl e

make-few : (test : Bool) (a b : List ℕ) (number rounds : ℕ) →
    (if test then made_request a b else None) ≡ Some (Make number rounds) → rounds ≤ 10000
make-few true a b number rounds e = numbers-few (number_of a) (number_of b) number rounds e
make-few false a b number rounds e = absurd cc

run-few : (test : Bool) (number rounds : ℕ) → (if test then Some Run else None) ≡ Some (Make number rounds) →
    rounds ≤ 10000
run-few true number rounds e = absurd cc
run-few false number rounds e = absurd cc

words-few : (words : List (List ℕ)) (number rounds : ℕ) → request_of words ≡ Some (Make number rounds) →
    rounds ≤ 10000
words-few [] number rounds e = absurd cc
words-few (a ∷ []) number rounds e = run-few (bytes_eq a (codes "run")) number rounds e
words-few (a ∷ b ∷ []) number rounds e = absurd cc
words-few (a ∷ b ∷ c ∷ []) number rounds e = make-few (bytes_eq a (codes "make")) b c number rounds e
words-few (a ∷ b ∷ c ∷ d ∷ words) number rounds e = absurd cc

few-by : (request : Option Request) →
    ((number rounds : ℕ) → request ≡ Some (Make number rounds) → rounds ≤ 10000) → HasFewRounds request
few-by None few = tt
few-by (Some Run) few = tt
few-by (Some (Make number rounds)) few = few number rounds refl

pub request_of-few : (asked : Option Request) (words : List (List ℕ)) → asked ≡ request_of words → HasFewRounds asked
request_of-few asked words same =
    subst (λ (r : Option Request). HasFewRounds r) (sym same) (few-by (request_of words) (words-few words))

-- ---- the text can be told

pub due-told : (request : Option Request) (before now : SourceState) (status : Status) (replies : List Reply)
    (end : Option TransportState) → HasFewRounds request → IsDue request before now status replies end →
    CanBeTold request status replies
due-told None before now status replies end few h = tt
due-told (Some Run) before now status replies end few h = tt
due-told (Some (Make number rounds)) before now Done replies end few h =
    omega (arith, few, made-shown number rounds replies h.1.1)
due-told (Some (Make number rounds)) before now (BadScript line) replies end few h = tt
due-told (Some (Make number rounds)) before now (NotCreated cause) replies end few h = tt
due-told (Some (Make number rounds)) before now ReadFault replies end few h = tt
due-told (Some (Make number rounds)) before now WriteFault replies end few h = tt
due-told (Some (Make number rounds)) before now NoMemory replies end few h = tt
due-told (Some (Make number rounds)) before now Usage replies end few h = tt
due-told (Some (Make number rounds)) before now TooLong replies end few h = tt
