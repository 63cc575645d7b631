-- A ledger whose chunks keep their places and names, and whose channels move, stays sound.
use Rattle.std.proofs.Common.{ℕ, zero, suc, ◌+◌, ◌<◌, ◌≡◌, ◌⊎◌, inl, inr, Bool, true, List, [], ◌∷◌, length, get_or, Some, refl, sym, ap, ◌∙◌, subst, arith}
use Rattle.std.specs.List.{slice_get, list_any}
use Rattle.std.proofs.lemmas.Option.{same_Some, none-some, slice_get_within, slice_get-get_or}
use Rattle.std.proofs.lemmas.Bool.{false≢true, or_cases, or_left, or_right, ltb-true, lt-ltb}
use Rattle.cal_alloc.specs.Growth.{SegmentLayout}
use Rattle.cal_transport.specs.declared.command.Command.{Command}
use Rattle.cal_transport.specs.declared.reply.Reply.{Reply}
use Rattle.cal_transport.specs.Ledger.{Ledger, Chunk, ChannelHistory, new_history, layout_at, is_live, is_in_transit}
use Rattle.cal_transport.specs.Soundness.{HasRoom, HasSoundSegments, LiesWithin, ShareBucket, AreNamed, IsSoundHistory, IsSentChunk, IsSoundLedger, weight}
use Rattle.cal_transport.proofs.Names.{is_in_transit-weight}
use Rattle.cal_transport.proofs.Chunks.{same_place}
use Rattle.cal_transport.proofs.Moving.{MovedTo}
use Rattle.cal_transport.proofs.Moved.{move_sound, WasSent, weighed_before}

-- ---- tests over lists

-- an element of a list that passes the test
pub record Passes {A : Type 0} (f : A → Bool) (xs : List A) : Type 0 where
  pub index : ℕ
  pub element : A
  pub stands : slice_get xs index ≡ Some element
  pub passes : f element ≡ true

pub any_at : {A : Type 0} (f : A → Bool) (xs : List A) → list_any f xs ≡ true → Passes f xs
any_at f [] e = absurd (false≢true e)
any_at f (x ∷ xs) e = elim (or_cases (f x) (list_any f xs) e) [
  | inl here ↦ record { index = 0; element = x; stands = refl; passes = here }
  | inr there ↦ (let r = any_at f xs there in
      record { index = suc r.index; element = r.element; stands = r.stands; passes = r.passes })
]

pub any_from : {A : Type 0} (f : A → Bool) (xs : List A) (i : ℕ) (x : A) → slice_get xs i ≡ Some x → f x ≡ true →
    list_any f xs ≡ true
any_from f [] i x stands passes = absurd (none-some x stands)
any_from f (y ∷ xs) zero x stands passes = or_left (f y) (list_any f xs) (ap f (same_Some y x stands) ∙ passes)
any_from f (y ∷ xs) (suc i) x stands passes = or_right (f y) (list_any f xs) (any_from f xs i x stands passes)

-- ---- what follows a ledger

-- a chunk after a step is the one before, where its bytes and marks may have changed
pub record Keeps (before after : Chunk) : Type 0 where
  pub name : after.name ≡ before.name
  pub segment : after.segment ≡ before.segment
  pub bucket : after.bucket ≡ before.bucket
  pub bytes : length after.bytes ≡ length before.bytes
  pub loaned : after.loaned ≡ true → before.loaned ≡ true
  pub sent : before.sent ≡ true → after.sent ≡ true
  pub fixed : before.sent ≡ true → after.bytes ≡ before.bytes

pub record KeptFrom (old : List Chunk) (i : ℕ) (after : Chunk) : Type 0 where
  pub before : Chunk
  pub stands : slice_get old i ≡ Some before
  pub keeps : Keeps before after

pub record KeptAs (new : List Chunk) (i : ℕ) (before : Chunk) : Type 0 where
  pub after : Chunk
  pub stands : slice_get new i ≡ Some after
  pub keeps : Keeps before after

-- no chunk comes or goes
pub record KeepChunks (old new : List Chunk) : Type 0 where
  pub from : (i : ℕ) (after : Chunk) → slice_get new i ≡ Some after → KeptFrom old i after
  pub to : (i : ℕ) (before : Chunk) → slice_get old i ≡ Some before → KeptAs new i before

pub record Follows (l l' : Ledger) (asked : Command) (reply : Reply) : Type 0 where
  pub settings : l'.settings ≡ l.settings
  pub segments : l'.segments ≡ l.segments
  pub chunks : KeepChunks l.chunks l'.chunks
  pub channels : length l'.histories ≡ length l.histories
  pub moves : (k : ℕ) (c : ChannelHistory) → slice_get l.histories k ≡ Some c → MovedTo l l' k asked reply c
  pub marks : (k name : ℕ) → WasSent l k asked name → IsSentChunk l' name
  pub opened : (segment : ℕ) → l'.opened_last ≡ Some segment → segment < length l.segments

-- a channel of the later ledger, and what it was
pub record MovedFrom (l : Ledger) (l' : Ledger) (k : ℕ) (asked : Command) (reply : Reply) (new : ChannelHistory) : Type
    0 where
  pub old : ChannelHistory
  pub stands : slice_get l.histories k ≡ Some old
  pub moved : MovedTo l l' k asked reply old
  pub same : moved.new ≡ new

pub moved_from : (l l' : Ledger) (asked : Command) (reply : Reply) (k : ℕ) (new : ChannelHistory) →
    Follows l l' asked reply → slice_get l'.histories k ≡ Some new → MovedFrom l l' k asked reply new
moved_from l l' asked reply k new f stands =
    let within = slice_get_within l'.histories k new stands in
    let long = f.channels in
    let here = slice_get-get_or l.histories k new_history (omega arith) in
    let moved = f.moves k (get_or l.histories k new_history) here in
    record {
      old = get_or l.histories k new_history;
      stands = here;
      moved = moved;
      same = same_Some moved.new new (sym moved.stands ∙ stands);
    }

-- what is on its way on a channel was so before, or is just sent
pub on_its_way : (l l' : Ledger) (place : ℕ) (asked : Command) (reply : Reply) (k : ℕ) (new : ChannelHistory)
    (name : ℕ) → IsSoundLedger l place → Follows l l' asked reply → slice_get l'.histories k ≡ Some new →
    0 < weight new name →
    ((c : ChannelHistory) × (slice_get l.histories k ≡ Some c) × (0 < weight c name)) ⊎ WasSent l k asked name
on_its_way l l' place asked reply k new name sound f stands some =
    let m = moved_from l l' asked reply k new f stands in
    elim (weighed_before l k asked reply m.old m.moved.new name m.moved.move (sound.histories k m.old m.stands)
    (subst (λ c. 0 < weight c name) (sym m.same) some)) [
      | inl before ↦ inl (m.old, m.stands, before)
      | inr sent ↦ inr sent
    ]

-- ---- each part of soundness

names_then : (l l' : Ledger) (place : ℕ) → IsSoundLedger l place → KeepChunks l.chunks l'.chunks →
    AreNamed l'.chunks (place + 1)
names_then l l' place sound kept = record {
  rising = λ i j a b first second below. (
      let x = kept.from i a first in let y = kept.from j b second in
      let lt = sound.names.rising i j x.before y.before x.stands y.stands below in
      let p = x.keeps.name in let q = y.keeps.name in omega arith);
  before = λ i a stands. (
      let x = kept.from i a stands in let lt = sound.names.before i x.before x.stands in
      let p = x.keeps.name in omega arith);
}

-- equal segments give equal layouts
pub layout_same : (l l' : Ledger) (n m : ℕ) → l'.segments ≡ l.segments → n ≡ m → layout_at l' n ≡ layout_at l m
layout_same l l' n m segments same =
    let none : SegmentLayout = record { size = 0; alignment = 0; count = 0 } in
    ap (λ ss. get_or ss n none) segments ∙ ap (λ i. get_or l.segments i none) same

lies_then : (l l' : Ledger) (before after : Chunk) → l'.segments ≡ l.segments → Keeps before after →
    LiesWithin l before → LiesWithin l' after
lies_then l l' before after segments keeps lies =
    let layout = layout_same l l' after.segment before.segment segments keeps.segment in
    let count = ap (λ b. b.count) layout in
    record {
      segment = (let p = ap length segments in let q = keeps.segment in let r = lies.segment in omega arith);
      bucket = (let p = keeps.bucket in let r = lies.bucket in omega arith);
      bytes = keeps.bytes ∙ lies.bytes ∙ sym (ap (λ b. b.size) layout);
    }

-- a live chunk was live before
pub lived : (l l' : Ledger) (place : ℕ) (asked : Command) (reply : Reply) (i : ℕ) (before after : Chunk) →
    IsSoundLedger l place → Follows l l' asked reply → slice_get l.chunks i ≡ Some before → Keeps before after →
    is_live l' after ≡ true → is_live l before ≡ true
lived l l' place asked reply i before after sound f stands keeps alive =
    elim (or_cases after.loaned (list_any (λ channel. is_in_transit channel after.name) l'.histories) alive) [
      | inl loaned ↦ or_left before.loaned (list_any (λ channel. is_in_transit channel before.name) l.histories)
          (keeps.loaned loaned)
      | inr transit ↦ in_transit
          (any_at (λ channel. is_in_transit channel after.name) l'.histories transit)
    ]
  where
    was : (k : ℕ) (c : ChannelHistory) → slice_get l.histories k ≡ Some c → 0 < weight c after.name →
        is_live l before ≡ true
    was k c here some = or_right before.loaned (list_any (λ channel. is_in_transit channel before.name) l.histories)
        (any_from (λ channel. is_in_transit channel before.name) l.histories k c here
        (is_in_transit-weight c before.name
        ∙ lt-ltb 0 (weight c before.name) (subst (λ n. 0 < weight c n) keeps.name some)))

    just : (k : ℕ) → WasSent l k asked after.name → is_live l before ≡ true
    just k sent =
        let s = sent.chunk in
        let at = same_place l.chunks place s.index i s.chunk before sound.names s.stands stands
        (s.same_name ∙ keeps.name) in
        let same = same_Some s.chunk before (sym s.stands ∙ ap (slice_get l.chunks) at ∙ stands) in
        or_left before.loaned (list_any (λ channel. is_in_transit channel before.name) l.histories)
        (ap (λ x. x.loaned) (sym same) ∙ s.loaned)

    in_transit : Passes (λ channel. is_in_transit channel after.name) l'.histories → is_live l before ≡ true
    in_transit p = elim (on_its_way l l' place asked reply p.index p.element after.name sound f p.stands
        (ltb-true 0 (weight p.element after.name) (sym (is_in_transit-weight p.element after.name) ∙ p.passes))) [
          | inl old ↦ was p.index old.0 old.1 old.2
          | inr sent ↦ just p.index sent
        ]

known_then : (l l' : Ledger) (place : ℕ) (asked : Command) (reply : Reply) (k : ℕ) (new : ChannelHistory) (name : ℕ) →
    IsSoundLedger l place → Follows l l' asked reply → slice_get l'.histories k ≡ Some new → 0 < weight new name →
    IsSentChunk l' name
known_then l l' place asked reply k new name sound f stands some =
    elim (on_its_way l l' place asked reply k new name sound f stands some) [
      | inl old ↦ kept (sound.known k old.0 name old.1 old.2)
      | inr sent ↦ f.marks k name sent
    ]
  where
    kept : IsSentChunk l name → IsSentChunk l' name
    kept s =
        let x = f.chunks.to s.index s.chunk s.stands in
        let segment = x.keeps.segment in let bucket = x.keeps.bucket in
        let segments = ap (λ t. t.segments) f.settings in let samples = ap (λ t. t.samples) f.settings in
        let below = s.segment in let within = s.bucket in
        record {
          index = s.index;
          chunk = x.after;
          stands = x.stands;
          same_name = x.keeps.name ∙ s.same_name;
          sent = x.keeps.sent s.sent;
          segment = omega arith;
          bucket = omega arith;
        }

history_then : (l l' : Ledger) (place : ℕ) (asked : Command) (reply : Reply) (k : ℕ) (new : ChannelHistory) →
    IsSoundLedger l place → Follows l l' asked reply → slice_get l'.histories k ≡ Some new →
    IsSoundHistory l'.settings new
history_then l l' place asked reply k new sound f stands =
    let m = moved_from l l' asked reply k new f stands in
    subst (λ s. IsSoundHistory s new) (sym f.settings) (subst (IsSoundHistory l.settings) m.same
    (move_sound l k asked reply m.old m.moved.new m.moved.move (sound.histories k m.old m.stands)))

apart_then : (l l' : Ledger) (place : ℕ) (asked : Command) (reply : Reply) (i j : ℕ) (a b : Chunk) →
    IsSoundLedger l place → Follows l l' asked reply → slice_get l'.chunks i ≡ Some a → slice_get l'.chunks j ≡ Some b →
    is_live l' a ≡ true → is_live l' b ≡ true → ShareBucket a b → i ≡ j
apart_then l l' place asked reply i j a b sound f first second alive living share =
    let x = f.chunks.from i a first in
    let y = f.chunks.from j b second in
    sound.apart i j x.before y.before x.stands y.stands
    (lived l l' place asked reply i x.before a sound f x.stands x.keeps alive)
    (lived l l' place asked reply j y.before b sound f y.stands y.keeps living)
    (record {
      segment = sym x.keeps.segment ∙ share.segment ∙ y.keeps.segment;
      bucket = sym x.keeps.bucket ∙ share.bucket ∙ y.keeps.bucket;
    })

segments_then : (l l' : Ledger) → l'.segments ≡ l.segments → HasSoundSegments l → HasSoundSegments l'
segments_then l l' same h = record {
  some = (let p = ap length same in let q = h.some in omega arith);
  few = (let p = ap length same in let q = h.few in omega arith);
  sizes = λ i buckets stands. h.sizes i buckets (ap (λ ss. slice_get ss i) (sym same) ∙ stands);
}

pub sound_then : (l l' : Ledger) (place : ℕ) (asked : Command) (reply : Reply) → IsSoundLedger l place →
    Follows l l' asked reply → IsSoundLedger l' (place + 1)
sound_then l l' place asked reply sound f = record {
  room = subst HasRoom (sym f.settings) sound.room;
  segments = segments_then l l' f.segments sound.segments;
  names = names_then l l' place sound f.chunks;
  within = λ i a stands. (let x = f.chunks.from i a stands in
      lies_then l l' x.before a f.segments x.keeps (sound.within i x.before x.stands));
  apart = λ i j a b first second alive living share. apart_then l l' place asked reply i j a b sound f first second
      alive living share;
  channels = f.channels ∙ sound.channels ∙ sym (ap (λ s. s.channels) f.settings);
  histories = λ k c stands. history_then l l' place asked reply k c sound f stands;
  known = λ k c name stands some. known_then l l' place asked reply k c name sound f stands some;
  opened = λ segment is. (let p = ap length f.segments in let q = f.opened segment is in omega arith);
}
