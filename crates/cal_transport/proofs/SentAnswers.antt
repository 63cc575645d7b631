-- What a channel's answer to a send tells of its queue, and what the send leaves there.
use Rattle.std.proofs.Common.{ℕ, ◌≤◌, ◌≡◌, ◌++◌, ◌∷◌, [], Bool, true, false, cond, List, length, drop, Option, Some, None, Ok, Err, refl, sym, ap, ◌∙◌, arith}
use Rattle.std.specs.List.{slice_get}
use Rattle.std.proofs.lemmas.Bool.{eqb-true}
use Rattle.std.proofs.lemmas.Option.{none-some}
use Rattle.cal_queue.specs.Queue.{Queue, after_pop, after_push, is_full, oldest, overflow_of, with_room}
use Rattle.cal_connection.specs.declared.errors.ZeroCopySendError.{ZeroCopySendError}
use Rattle.cal_connection.specs.declared.errors.ZeroCopySendError.TheVariants as error
use Rattle.cal_connection.specs.Channel.{ChannelEntry, with_entry, after_return, return_answer, is_refused, send_answer, after_send}
use Rattle.cal_transport.proofs.ReturnedCode.{never_refused}

-- ---- what has to leave

full_empty : (q : Queue) → (values : List ℕ) → length values ≡ q.capacity → slice_get values 0 ≡ None →
    q.capacity ≡ 0
full_empty q [] long none = sym long
full_empty q (v ∷ values) long none = absurd (none-some v (sym none))

pub none_leaves : (q : Queue) → 1 ≤ q.capacity → overflow_of q ≡ None → is_full q ≡ false
none_leaves q some none = go (is_full q) refl none
  where
    go : (b : Bool) → is_full q ≡ b → cond b (oldest q) None ≡ None → is_full q ≡ false
    go false e is = e
    go true e is = absurd (let zero = full_empty q q.values (eqb-true (length q.values) q.capacity e) is in omega
        arith)

pub one_leaves : (q : Queue) (back : ℕ) → overflow_of q ≡ Some back →
    (is_full q ≡ true) × (slice_get q.values 0 ≡ Some back)
one_leaves q back is = go (is_full q) refl is
  where
    go : (b : Bool) → is_full q ≡ b → cond b (oldest q) None ≡ Some back →
        (is_full q ≡ true) × (slice_get q.values 0 ≡ Some back)
    go true e first = (e, first)
    go false e first = absurd (none-some back first)

-- the oldest leaves before another joins, or after it
pub leaves_first : (values : List ℕ) (back value : ℕ) → slice_get values 0 ≡ Some back →
    drop 1 values ++ value ∷ [] ≡ drop 1 (values ++ value ∷ [])
leaves_first [] back value first = absurd (none-some back first)
leaves_first (v ∷ values) back value first = refl

-- ---- answers

module _ (overflow : Bool) (ch : ChannelEntry) (pointer size : ℕ) where
  -- it is refused for want of room alone
  pub refused_full : (e : ZeroCopySendError) → Err e ≡ send_answer overflow ch pointer size →
      ((back : ℕ) → overflow_of ch.submission ≡ Some back →
      return_answer error.ConnectionCorrupted (with_entry ch.segments pointer size) (Some back) ≡ Ok (Some back)) →
      is_refused overflow ch ≡ true
  refused_full e is names = go (is_refused overflow ch) refl is
    where
      go : (b : Bool) → is_refused overflow ch ≡ b → Err e ≡ cond b (Err error.ReceiveBufferFull)
          (return_answer error.ConnectionCorrupted (with_entry ch.segments pointer size) (overflow_of ch.submission)) →
          is_refused overflow ch ≡ true
      go true same q = same
      go false same q = absurd (never_refused error.ConnectionCorrupted (with_entry ch.segments pointer size)
          (overflow_of ch.submission) e q names)

  pub accepted : (o : Option ℕ) → Ok o ≡ send_answer overflow ch pointer size → (is_refused overflow ch ≡ false)
      × (Ok o ≡ return_answer error.ConnectionCorrupted (with_entry ch.segments pointer size)
      (overflow_of ch.submission))
  accepted o is = go (is_refused overflow ch) refl is
    where
      go : (b : Bool) → is_refused overflow ch ≡ b → Ok o ≡ cond b (Err error.ReceiveBufferFull)
          (return_answer error.ConnectionCorrupted (with_entry ch.segments pointer size) (overflow_of ch.submission)) →
          (is_refused overflow ch ≡ false) × (Ok o ≡ return_answer error.ConnectionCorrupted
          (with_entry ch.segments pointer size) (overflow_of ch.submission))
      go true same q = absurd (let q2 = q in cc)
      go false same q = (same, q)

  -- ---- what it leaves

  pub refused_stays : is_refused overflow ch ≡ true → after_send overflow ch pointer size ≡ ch
  refused_stays refused = ap (λ b. cond b ch (record ch {
    submission = after_push (with_room ch.submission) pointer;
    segments = after_return (with_entry ch.segments pointer size) (overflow_of ch.submission);
  })) refused

  pub joined_with_room : is_refused overflow ch ≡ false → is_full ch.submission ≡ false →
      after_send overflow ch pointer size ≡ record ch {
        submission = after_push ch.submission pointer;
        segments = with_entry ch.segments pointer size;
      }
  joined_with_room kept room =
      ap (λ b. cond b ch (record ch {
        submission = after_push (with_room ch.submission) pointer;
        segments = after_return (with_entry ch.segments pointer size) (overflow_of ch.submission);
      })) kept
      ∙ ap (λ b. record ch {
        submission = after_push (cond b (after_pop ch.submission) ch.submission) pointer;
        segments = after_return (with_entry ch.segments pointer size) (cond b (oldest ch.submission) None);
      }) room

  pub joined_over : (back : ℕ) → is_refused overflow ch ≡ false → is_full ch.submission ≡ true →
      slice_get ch.submission.values 0 ≡ Some back → after_send overflow ch pointer size ≡ record ch {
        submission = after_push (after_pop ch.submission) pointer;
        segments = after_return (with_entry ch.segments pointer size) (Some back);
      }
  joined_over back kept full first =
      ap (λ b. cond b ch (record ch {
        submission = after_push (with_room ch.submission) pointer;
        segments = after_return (with_entry ch.segments pointer size) (overflow_of ch.submission);
      })) kept
      ∙ ap (λ b. record ch {
        submission = after_push (cond b (after_pop ch.submission) ch.submission) pointer;
        segments = after_return (with_entry ch.segments pointer size) (cond b (oldest ch.submission) None);
      }) full
      ∙ ap (λ o. record ch {
        submission = after_push (after_pop ch.submission) pointer;
        segments = after_return (with_entry ch.segments pointer size) o;
      }) first
