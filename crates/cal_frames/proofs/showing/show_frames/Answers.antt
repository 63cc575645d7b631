-- What was shown is followed from call to call.
use Rattle.std.proofs.Common.{ℕ, ◌+◌, ◌≡◌, List, length, vec_items, Some, refl, sym, ap, ◌∙◌, subst, arith}
use Rattle.std.specs.List.{slice_get}
use Rattle.std.proofs.lemmas.Option.{slice_get_read}
use Rattle.cal_transport.specs.State.{TransportState}
use Rattle.cal_frames.specs.Sides.{Shows}
use Rattle.cal_frames.proofs.Progress.{IsShowing, showing_below, showing_more, showing_turn, fewer_wait, shown_all, showing_none}
use Rattle.cal_frames.proofs.showing.show_frames.Goals as goal
use Rattle.cal_frames.proofs.showing.show_frames.Goals.{then-number-rhythm-eq0+in_ok-show_next, else-number-rhythm-eq0}

pub loop-number-init : goal.loop-number-init
loop-number-init c =
    let transport = c.in_ok-transport.transport in
    record {
      showing = subst (λ shown. IsShowing transport c.args.frames.now 0 shown) (sym c.new-shown.ensures.items)
          (showing_none transport c.args.settings.now c.args.frames.now c.in_ok-transport.ensures.first);
      room = omega (arith, c.in_ok-transport.ensures.room);
    }

pub hand_over-requires-clause-below : goal.hand_over-requires-clause-below
hand_over-requires-clause-below c =
    showing_below c.loop-number.transport c.args.frames.now c.loop-number.shown.items c.loop-number.number
    c.loop-number.invariant.showing

-- where two ways join, the transport and what was shown are those of the way that was taken
is_as_left : (t t' : TransportState) (frames shown shown' : List (List ℕ)) (sent : ℕ) → t ≡ t' → shown ≡ shown' →
    IsShowing t' frames sent shown' → IsShowing t frames sent shown
is_as_left t t' frames shown shown' sent same same_shown showing =
    subst (λ s. IsShowing t frames sent s) (sym same_shown)
    (subst (λ u. IsShowing u frames sent shown') (sym same) showing)

pub loop-number-preserved : goal.loop-number-preserved
loop-number-preserved c =
    let frames = c.args.frames.now in
    let number = c.loop-number.number in
    let shown = c.loop-number.shown.items in
    let here : slice_get frames number ≡ Some c.as_slice.result.now =
    slice_get_read frames (length frames) number c.index-frames-number.result refl c.loop-number-test.true
    c.index-frames-number.is ∙ ap Some (sym c.as_slice.ensures.value) in
    let handed : IsShowing c.hand_over.new.transport frames (number + 1) shown =
    showing_more c.loop-number.transport c.hand_over.new.transport frames shown c.as_slice.result.now number here
    c.loop-number-test.true c.in_ok-hand_over.ensures.handed c.loop-number.invariant.showing in
    let room = c.loop-number.invariant.room in
    let taken = c.in_ok-hand_over.ensures.room in
    elim c.if-number-rhythm-eq0.branch [
      | then-number-rhythm-eq0+in_ok-show_next w ↦ (let turned =
          showing_turn c.hand_over.new.transport w.show_next.new.transport frames shown w.show_next.new.shown.items
          (number + 1) w.in_ok-show_next.field-0 w.in_ok-show_next.ensures.shown handed in
          let same = ap (λ (t : TransportState). t.spare) w.transport-is in
          let shown_room = w.in_ok-show_next.ensures.room in record {
            showing = is_as_left c.if-number-rhythm-eq0.transport w.show_next.new.transport frames
                c.if-number-rhythm-eq0.shown.items w.show_next.new.shown.items (number + 1) w.transport-is
                (ap vec_items w.shown-is) turned;
            room = omega arith;
          })
      | else-number-rhythm-eq0 w ↦ (let same = ap (λ (t : TransportState). t.spare) w.transport-is in record {
        showing = is_as_left c.if-number-rhythm-eq0.transport c.hand_over.new.transport frames
            c.if-number-rhythm-eq0.shown.items shown (number + 1) w.transport-is (ap vec_items w.shown-is) handed;
        room = omega arith;
      })
    ]

pub loop-shown-init : goal.loop-shown-init
loop-shown-init c =
    let showing = c.loop-number.invariant.showing in
    let within = showing.within in
    let past = c.loop-number-test.false in
    let all : c.loop-number.number ≡ length c.args.frames.now = omega arith in
    subst (λ n. IsShowing c.loop-number.transport c.args.frames.now n c.loop-number.shown.items) all showing

pub loop-shown-smaller : goal.loop-shown-smaller
loop-shown-smaller c =
    fewer_wait c.loop-shown.transport c.show_next-in-loop-shown.new.transport c.args.frames.now c.loop-shown.shown.items
    c.show_next-in-loop-shown.new.shown.items (length c.args.frames.now)
    (subst (λ some. Shows c.loop-shown.transport c.loop-shown.shown.items some
    c.show_next-in-loop-shown.new.transport c.show_next-in-loop-shown.new.shown.items) c.if-branch.true
    c.in_ok-show_next-2.ensures.shown) c.loop-shown.invariant

pub loop-shown-preserved : goal.loop-shown-preserved
loop-shown-preserved c =
    showing_turn c.loop-shown.transport c.show_next-in-loop-shown.new.transport c.args.frames.now
    c.loop-shown.shown.items c.show_next-in-loop-shown.new.shown.items (length c.args.frames.now)
    c.in_ok-show_next-2.field-0 c.in_ok-show_next-2.ensures.shown c.loop-shown.invariant

pub returns-clause-order : goal.returns-clause-order
returns-clause-order c =
    (shown_all c.loop-shown.transport c.show_next-in-loop-shown.new.transport c.args.frames.now
    c.loop-shown.shown.items c.show_next-in-loop-shown.new.shown.items (length c.args.frames.now) refl
    (subst (λ some. Shows c.loop-shown.transport c.loop-shown.shown.items some
    c.show_next-in-loop-shown.new.transport c.show_next-in-loop-shown.new.shown.items) c.if-branch.false
    c.in_ok-show_next-2.ensures.shown) c.loop-shown.invariant).0

pub returns-clause-last : goal.returns-clause-last
returns-clause-last c =
    (shown_all c.loop-shown.transport c.show_next-in-loop-shown.new.transport c.args.frames.now
    c.loop-shown.shown.items c.show_next-in-loop-shown.new.shown.items (length c.args.frames.now) refl
    (subst (λ some. Shows c.loop-shown.transport c.loop-shown.shown.items some
    c.show_next-in-loop-shown.new.transport c.show_next-in-loop-shown.new.shown.items) c.if-branch.false
    c.in_ok-show_next-2.ensures.shown) c.loop-shown.invariant).1
