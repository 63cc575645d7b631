-- The steps of a relay's receiver, and what it has received and given back by them.
use Rattle.std.specs.Prelude.{ℕ, ◌≡◌, ◌<◌, Bool, true, List, [], ◌∷◌, ◌++◌, length, map, Option, Some, None, Result, Ok, Err}
use Rattle.std.proofs.Common.{refl, sym, ap, ◌∙◌, subst, arith}
use Rattle.std.proofs.lemmas.List.{length-append, length-map, map-append}
use Rattle.cal_queue.specs.StateTable.{channel_index}
use Rattle.cal_queue.specs.SubmissionCalls.{IsPop, LostTurn, after_lost_turn, after_lost_turns}
use Rattle.cal_queue.specs.CompletionCalls as completion
use Rattle.cal_queue.specs.declared.completion_ring.pass.PutPass.{PutPass}
use Rattle.cal_queue.specs.declared.push_refusal.PushRefusal.{PushRefusal}
use Rattle.cal_queue.specs.declared.push_refusal.PushRefusal.TheVariants.{Full, PositionsUsedUp}
use Rattle.cal_queue.specs.declared.submission_ring.pass.TakePass.{TakePass}
use Rattle.cal_connection.specs.Words.{is_closed}
use Rattle.cal_connection.specs.declared.errors.ZeroCopyReceiveError.{ZeroCopyReceiveError}
use Rattle.cal_connection.specs.declared.errors.ZeroCopyReleaseError.{ZeroCopyReleaseError}
use Rattle.cal_shared.specs.Channels.{ReceivingChannel, borrow_count}
use Rattle.cal_shared.specs.Port.{AtWords, OnChannel, ReceivingPort, channel_at}
use Rattle.cal_shared.specs.Receiving.{Receives, Releases, borrow_count_at, borrow_count_of, release_answer}
use Rattle.cal_shared.specs.Rest.{received_at, received_of, released_at, released_of}
use Rattle.cal_shared.specs.Words.{LoadsWord}
use Rattle.cal_program.specs.Workers.{HasGivenBackAll, HasSeenEnd}
use Rattle.cal_program.proofs.RelaySending.{set-found}

-- ---- steps of the rings

-- lost turns take nothing
received-lost_turns : (turns : List LostTurn) (p : TakePass) → (after_lost_turns turns p).received ≡ p.received
received-lost_turns [] p = refl
received-lost_turns (turn ∷ turns) p = received-lost_turns turns (after_lost_turn turn p)

-- a value that is received is the last of those received
record Received (value : ℕ) (before after : TakePass) : Type 0 where
  position : ℕ
  last : after.received ≡ before.received ++ (position, value) ∷ []

Received-popped : (value : ℕ) (before after : TakePass) → IsPop (Some value) before after →
    Received value before after
Received-popped value before after pop = record {
  position = pop.read;
  last =
      ap (λ (p : TakePass). p.received) pop.steps
      ∙ ap (λ (entries : List (ℕ × ℕ)). entries ++ (pop.read, value) ∷ []) (received-lost_turns pop.turns before);
}

-- where nothing is received, all stays
received-empty : (before after : TakePass) → IsPop None before after → after.received ≡ before.received
received-empty before after pop =
    ap (λ (p : TakePass). p.received) pop.steps ∙ received-lost_turns pop.turns before

-- a refused push puts nothing
put-refused : (pointer : ℕ) (refusal : PushRefusal) (before after : PutPass) →
    completion.IsPush {A = Unit {0}} pointer (Err refusal) before after → after.put ≡ before.put
put-refused pointer Full before after push = ap (λ (p : PutPass). p.put) push.steps
put-refused pointer PositionsUsedUp before after push = ap (λ (p : PutPass). p.put) push.1

-- the values of the entries that were received
abbrev pub values : List (ℕ × ℕ) → List ℕ
values = map (λ (entry : ℕ × ℕ). entry.1)

-- ---- a call on the channel

module _ (Steps : ReceivingChannel → ReceivingChannel → Type 0) (before after : ReceivingPort)
    (on : OnChannel 0 Steps before after) where
  there-after : channel_at after 0 ≡ Some on.changed
  there-after =
      ap (λ (port : ReceivingPort). channel_at port 0) on.only
      ∙ set-found before.channels 0 on.found on.changed on.there

  -- what was received and released before and after
  received-same : on.changed.submission.received ≡ on.found.submission.received →
      received_at after 0 ≡ received_at before 0
  received-same same = ap received_of there-after ∙ same ∙ sym (ap received_of on.there)

  released-same : on.changed.completion.put ≡ on.found.completion.put → released_at after 0 ≡ released_at before 0
  released-same same = ap released_of there-after ∙ same ∙ sym (ap released_of on.there)

-- what is given back stays where what is received and released does
HasGivenBackAll-same : (before after : ReceivingPort) → received_at after 0 ≡ received_at before 0 →
    released_at after 0 ≡ released_at before 0 → HasGivenBackAll before → HasGivenBackAll after
HasGivenBackAll-same before after received released has = released ∙ has ∙ ap values (sym received)

-- ---- the calls, as they tell their channel and their answer

pub Looks-first : (before looked : ReceivingPort) (is : Bool) (channel : ℕ) → channel ≡ 0 →
    AtWords (LoadsWord (channel_index channel) is_closed is) before looked →
    AtWords (LoadsWord (channel_index 0) is_closed is) before looked
Looks-first before looked is channel first at =
    subst (λ (c : ℕ). AtWords (LoadsWord (channel_index c) is_closed is) before looked) first at

pub Receives-first : (limit : ℕ) (result answer : Result (Option ℕ) ZeroCopyReceiveError)
    (before after : ReceivingPort) (channel : ℕ) → channel ≡ 0 → result ≡ answer →
    OnChannel channel (Receives limit result) before after → OnChannel 0 (Receives limit answer) before after
Receives-first limit result answer before after channel first is on =
    subst (λ (c : ℕ). OnChannel c (Receives limit answer) before after) first
    (subst (λ (r : Result (Option ℕ) ZeroCopyReceiveError). OnChannel channel (Receives limit r) before after) is on)

-- ---- a look at the channel's word

module _ (before looked : ReceivingPort) (is : Bool)
    (at : AtWords (LoadsWord (channel_index 0) is_closed is) before looked) where
  pub HasGivenBackAll-looked : HasGivenBackAll before → HasGivenBackAll looked
  HasGivenBackAll-looked has = subst (λ (port : ReceivingPort). HasGivenBackAll port) (sym at.only) has

  -- nothing was received after it
  pub HasSeenEnd-none : (after : ReceivingPort) → is ≡ true →
      OnChannel 0 (Receives looked.settings.max_borrowed_samples (Ok None)) looked after → HasSeenEnd after
  HasSeenEnd-none after true_is on = record {
    before = before;
    looked = looked;
    closed =
        subst (λ (answer : Bool). AtWords (LoadsWord (channel_index 0) is_closed answer) before looked) true_is at;
    nothing = on;
  }

-- ---- receive

module _ (limit : ℕ) (before after : ReceivingPort) where
  pub HasGivenBackAll-none : OnChannel 0 (Receives limit (Ok None)) before after → HasGivenBackAll before →
      HasGivenBackAll after
  HasGivenBackAll-none on has =
      HasGivenBackAll-same before after
      (received-same (Receives limit (Ok None)) before after on
      (received-empty on.found.submission on.changed.submission on.steps.1.below))
      (released-same (Receives limit (Ok None)) before after on
      (ap (λ (p : PutPass). p.put) on.steps.1.completion))
      has

  pub HasGivenBackAll-refused : (error : ZeroCopyReceiveError) →
      OnChannel 0 (Receives limit (Err error)) before after → HasGivenBackAll before → HasGivenBackAll after
  HasGivenBackAll-refused error on has =
      HasGivenBackAll-same before after
      (received-same (Receives limit (Err error)) before after on
      (ap (λ (c : ReceivingChannel). c.submission.received) on.steps.1))
      (released-same (Receives limit (Err error)) before after on
      (ap (λ (c : ReceivingChannel). c.completion.put) on.steps.1))
      has

  -- one offset more is received, and all but it are given back
  pub record Borrows (value : ℕ) : Type 0 where
    pub position : ℕ
    pub received : received_at after 0 ≡ received_at before 0 ++ (position, value) ∷ []
    pub released : released_at after 0 ≡ released_at before 0
    pub borrowed : HasGivenBackAll before → borrow_count_at after 0 ≡ 1

  pub Borrows-received : (value : ℕ) → OnChannel 0 (Receives limit (Ok (Some value))) before after → Borrows value
  Borrows-received value on =
      let steps = Receives limit (Ok (Some value)) in
      let got = Received-popped value on.found.submission on.changed.submission on.steps.1.below in
      let there = there-after steps before after on in
      let put : on.changed.completion.put ≡ on.found.completion.put =
      ap (λ (p : PutPass). p.put) on.steps.1.completion in
      record {
        position = got.position;
        received =
            ap received_of there ∙ got.last
            ∙ ap (λ (entries : List (ℕ × ℕ)). entries ++ (got.position, value) ∷ []) (sym (ap received_of on.there));
        released = released-same steps before after on put;
        borrowed = λ has.
            let all : on.found.completion.put ≡ values on.found.submission.received =
            sym (ap released_of on.there) ∙ has ∙ ap values (ap received_of on.there) in
            ap borrow_count_of there
            ∙ omega (
              arith,
              ap length got.last,
              ap length put,
              ap length all,
              length-map on.found.submission.received (λ (entry : ℕ × ℕ). entry.1),
              length-append on.found.submission.received ((got.position, value) ∷ []),
            );
      }

  -- and is given back then
  pub HasGivenBackAll-returned : (value : ℕ) (now : ReceivingPort) → Borrows value →
      received_at now 0 ≡ received_at after 0 → released_at now 0 ≡ released_at after 0 ++ value ∷ [] →
      HasGivenBackAll before → HasGivenBackAll now
  HasGivenBackAll-returned value now borrows received released has =
      released
      ∙ ap (λ (offsets : List ℕ). offsets ++ value ∷ []) (borrows.released ∙ has)
      ∙ sym (map-append (λ (entry : ℕ × ℕ). entry.1) (received_at before 0) ((borrows.position, value) ∷ []))
      ∙ ap values (sym borrows.received)
      ∙ ap values (sym received)

-- ---- release

module _ (pointer : ℕ) (before after : ReceivingPort) where
  put-answered : (pushed : Result (Unit {0}) PushRefusal) (error : ZeroCopyReleaseError) (old now : PutPass) →
      Err error ≡ release_answer pushed → completion.IsPush pointer pushed old now → now.put ≡ old.put
  put-answered (Ok done) error old now answers push = absurd cc
  put-answered (Err refusal) error old now answers push = put-refused pointer refusal old now push

  put-done : (pushed : Result (Unit {0}) PushRefusal) (done : Unit {0}) (old now : PutPass) →
      Ok done ≡ release_answer pushed → completion.IsPush pointer pushed old now → now.put ≡ old.put ++ pointer ∷ []
  put-done (Ok done) answered old now answers push = ap (λ (p : PutPass). p.put) push.steps
  put-done (Err refusal) answered old now answers push = absurd cc

  -- a release leaves what was received
  pub received-released : (answer : Result (Unit {0}) ZeroCopyReleaseError) →
      OnChannel 0 (Releases pointer answer) before after → received_at after 0 ≡ received_at before 0
  received-released answer on =
      received-same (Releases pointer answer) before after on
      (ap (λ (p : TakePass). p.received) on.steps.submission)

  -- a refused one leaves what was released, and the borrow count
  pub released-refused : (error : ZeroCopyReleaseError) → OnChannel 0 (Releases pointer (Err error)) before after →
      released_at after 0 ≡ released_at before 0
  released-refused error on =
      released-same (Releases pointer (Err error)) before after on
      (put-answered on.steps.pushed error on.found.completion on.changed.completion on.steps.answers on.steps.push)

  pub released-done : (done : Unit {0}) → OnChannel 0 (Releases pointer (Ok done)) before after →
      released_at after 0 ≡ released_at before 0 ++ pointer ∷ []
  released-done done on =
      ap released_of (there-after (Releases pointer (Ok done)) before after on)
      ∙ put-done on.steps.pushed done on.found.completion on.changed.completion on.steps.answers on.steps.push
      ∙ ap (λ (offsets : List ℕ). offsets ++ pointer ∷ []) (sym (ap released_of on.there))

  pub borrow_count-refused : (error : ZeroCopyReleaseError) →
      OnChannel 0 (Releases pointer (Err error)) before after → 0 < borrow_count_at before 0 →
      0 < borrow_count_at after 0
  borrow_count-refused error on some =
      let steps = Releases pointer (Err error) in
      let before_some : 0 < borrow_count on.found =
      subst (λ (found : Option ReceivingChannel). 0 < borrow_count_of found) on.there some in
      subst (λ (found : Option ReceivingChannel). 0 < borrow_count_of found) (sym (there-after steps before after on))
      (omega (
        arith,
        before_some,
        ap (λ (p : TakePass). length p.received) on.steps.submission,
        ap length (put-answered on.steps.pushed error on.found.completion on.changed.completion on.steps.answers
            on.steps.push),
      ))
