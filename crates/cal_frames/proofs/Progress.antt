-- What was shown so far, as frames are handed over and taken.
use Rattle.std.proofs.Common.{ℕ, zero, suc, ◌+◌, ◌<◌, ◌≤◌, ◌≡◌, Bool, true, false, List, [], ◌∷◌, ◌++◌, length, take, replicate, get_or, Some, None, refl, sym, ap, ◌∙◌, subst, arith, add-one}
use Rattle.std.specs.List.{slice_get}
use Rattle.std.proofs.lemmas.List.{length-take-le, length-replicate, take_all}
use Rattle.std.proofs.lemmas.Option.{none-some}
use Rattle.cal_transport.specs.declared.settings.Settings.{Settings}
use Rattle.cal_transport.specs.ChunkEntry.{AreBelow}
use Rattle.cal_transport.specs.Ledger.{first_ledger, new_history}
use Rattle.cal_transport.specs.Settings.{clamped_settings}
use Rattle.cal_transport.specs.Standing.{StandsFor}
use Rattle.cal_transport.specs.State.{TransportState}
use Rattle.cal_frames.specs.Carrying.{Carries}
use Rattle.cal_frames.specs.InOrder.{ArePartInOrder, last_of}
use Rattle.cal_frames.specs.Sides.{HandsOver, Takes, Shows}
use Rattle.cal_frames.proofs.Parts.{part_and_next, part_of_front, last_of_more, take_to}
use Rattle.cal_frames.proofs.Standing.{names_below, waiting, waiting_are}

-- so many of the frames were handed over, and these were shown: a part of those that left the queue, and the last of
-- these where no frame waits
pub record IsShowing (t : TransportState) (frames : List (List ℕ)) (sent : ℕ) (shown : List (List ℕ)) : Type 0 where
  pub left : ℕ
  pub within : sent ≤ length frames
  pub carries : Carries t (take sent frames) left
  pub order : ArePartInOrder shown (take left frames)
  pub last : left ≡ sent → last_of shown ≡ last_of (take sent frames)

-- ---- a new transport

read_new : (n : ℕ) → get_or (replicate n new_history) 0 new_history ≡ new_history
read_new zero = refl
read_new (suc n) = refl

pub showing_none : (t : TransportState) (settings : Settings) (frames : List (List ℕ)) →
    StandsFor t (first_ledger settings) → IsShowing t frames 0 []
showing_none t settings frames stands =
    let channels = (clamped_settings settings).channels in
    let new = read_new channels in record {
      left = 0;
      within = omega arith;
      carries = record {
        ledger = first_ledger settings;
        stands = stands;
        named = λ i chunk e. absurd (none-some chunk e);
        has = record {
          packets = λ i frame e. absurd (none-some frame e);
          sizes = λ i frame e. absurd (none-some frame e);
        };
        queue = record {
          channel = (let long = length-replicate channels new_history in omega arith);
          sent_are = ap (λ h. h.sent) new;
          left_are = ap (λ h. length h.departures) new;
          few = omega arith;
        };
      };
      order = tt;
      last = λ _. refl;
    }

-- ---- one more is handed over

pub showing_below : (t : TransportState) (frames shown : List (List ℕ)) (sent : ℕ) → IsShowing t frames sent shown →
    AreBelow t.entries sent
showing_below t frames shown sent s =
    subst (λ n. AreBelow t.entries n) (length-take-le sent frames s.within)
    (names_below t (take sent frames) s.left s.carries)

pub showing_more : (t t' : TransportState) (frames shown : List (List ℕ)) (frame : List ℕ) (sent : ℕ) →
    slice_get frames sent ≡ Some frame → sent < length frames → HandsOver t sent frame t' →
    IsShowing t frames sent shown → IsShowing t' frames (sent + 1) shown
showing_more t t' frames shown frame sent stands below hands s =
    let long = length-take-le sent frames s.within in
    let next = hands (take sent frames) s.left s.carries long in
    let waits = next.waits in
    let more : take sent frames ++ frame ∷ [] ≡ take (sent + 1) frames =
    sym (ap (λ n. take n frames) (add-one sent) ∙ take_to frames sent frame stands) in record {
      left = next.left_now;
      within = omega arith;
      carries = subst (λ fs. Carries t' fs next.left_now) more next.carries;
      order = part_of_front shown frames s.left next.left_now next.more s.order;
      last = λ all. absurd (omega arith);
    }

-- ---- one more is shown

got_within : {A : Type 0} (xs : List A) (n i : ℕ) (x : A) → slice_get (take n xs) i ≡ Some x →
    (i < n) × (slice_get xs i ≡ Some x)
got_within xs zero i x e = absurd (none-some x e)
got_within [] (suc n) i x e = absurd (none-some x e)
got_within (y ∷ xs) (suc n) zero x e = (omega arith, e)
got_within (y ∷ xs) (suc n) (suc i) x e = let rest = got_within xs n i x e in (omega arith, rest.1)

pub showing_next : (t t' : TransportState) (frames shown : List (List ℕ)) (frame : List ℕ) (sent : ℕ) →
    Takes t (Some frame) t' → IsShowing t frames sent shown → IsShowing t' frames sent (shown ++ frame ∷ [])
showing_next t t' frames shown frame sent takes s =
    let took = takes (take sent frames) s.left s.carries in
    let got = got_within frames sent s.left frame took.0 in
    let more : take s.left frames ++ frame ∷ [] ≡ take (s.left + 1) frames =
    sym (ap (λ n. take n frames) (add-one s.left) ∙ take_to frames s.left frame got.1) in record {
      left = s.left + 1;
      within = s.within;
      carries = took.1;
      order = subst (λ fs. ArePartInOrder (shown ++ frame ∷ []) fs) more
          (part_and_next shown (take s.left frames) frame s.order);
      last = λ all. last_of_more shown frame
          ∙ sym (ap (λ n. last_of (take n frames)) (sym all) ∙ (ap last_of (sym more)
          ∙ last_of_more (take s.left frames) frame));
    }

pub showing_same : (t t' : TransportState) (frames shown : List (List ℕ)) (sent : ℕ) → Takes t None t' →
    IsShowing t frames sent shown → IsShowing t' frames sent shown
showing_same t t' frames shown sent takes s =
    let took = takes (take sent frames) s.left s.carries in record {
      left = s.left;
      within = s.within;
      carries = took.1;
      order = s.order;
      last = s.last;
    }

-- ---- a turn of the screen

pub showing_turn : (t t' : TransportState) (frames shown shown' : List (List ℕ)) (sent : ℕ) (some : Bool) →
    Shows t shown some t' shown' → IsShowing t frames sent shown → IsShowing t' frames sent shown'
showing_turn t t' frames shown shown' sent true shows s =
    subst (λ now. IsShowing t' frames sent now) (sym shows.2)
    (showing_next t t' frames shown shows.0 sent shows.1 s)
showing_turn t t' frames shown shown' sent false shows s =
    subst (λ now. IsShowing t' frames sent now) (sym shows.1) (showing_same t t' frames shown sent shows.0 s)

-- fewer frames wait then
pub fewer_wait : (t t' : TransportState) (frames shown shown' : List (List ℕ)) (sent : ℕ) →
    Shows t shown true t' shown' → IsShowing t frames sent shown → waiting t' < waiting t
fewer_wait t t' frames shown shown' sent shows s =
    let took = shows.1 (take sent frames) s.left s.carries in
    let before = waiting_are t (take sent frames) s.left s.carries in
    let after = waiting_are t' (take sent frames) (s.left + 1) took.1 in omega arith

-- ---- the end

-- all frames were handed over, and none waits
pub shown_all : (t t' : TransportState) (frames shown shown' : List (List ℕ)) (sent : ℕ) → sent ≡ length frames →
    Shows t shown false t' shown' → IsShowing t frames sent shown →
    ArePartInOrder shown' frames × (last_of shown' ≡ last_of frames)
shown_all t t' frames shown shown' sent all shows s =
    let took = shows.0 (take sent frames) s.left s.carries in
    let long = length-take-le sent frames s.within in
    let none : s.left ≡ sent = took.0 ∙ long in
    let whole : take sent frames ≡ frames = take_all sent frames (omega arith) in
    let order : ArePartInOrder shown frames =
    subst (λ fs. ArePartInOrder shown fs) (ap (λ n. take n frames) none ∙ whole) s.order in
    let last : last_of shown ≡ last_of frames = s.last none ∙ ap last_of whole in (
      subst (λ now. ArePartInOrder now frames) (sym shows.1) order,
      ap last_of shows.1 ∙ last,
    )
