-- Each command of the fill list is served.
use Rattle.std.proofs.Common.{ℕ, suc, ◌+◌, ◌-◌, ◌<◌, ◌≤◌, ◌≡◌, Bool, true, false, cond, not, ◌&&◌, ◌||◌, nat_eq, nat_le, nat_lt, List, [], ◌∷◌, length, get_or, Option, Some, None, option_map, refl, sym, ap, ◌∙◌, subst, arith}
use Rattle.std.specs.List.{slice_get, find}
use Rattle.std.proofs.lemmas.Bool.{true≢false, and_right, or_from, lt-leb, le-ltb, cond-true, cond-false, not_from_true}
use Rattle.std.proofs.lemmas.List.{length-map}
use Rattle.std.proofs.lemmas.Option.{same_Some, slice_get-map, slice_get-get_or}
use Rattle.cal_alloc.specs.Growth.{SegmentLayout}
use Rattle.cal_transport.specs.declared.settings.Settings.{Settings}
use Rattle.cal_transport.specs.declared.command.Command.{Command}
use Rattle.cal_transport.specs.declared.command.Command.TheVariants as command
use Rattle.cal_transport.specs.declared.reply.Reply.{Reply}
use Rattle.cal_transport.specs.declared.reply.Refusal.{Refusal}
use Rattle.cal_transport.specs.declared.reply.Refusal.TheVariants as refusal
use Rattle.cal_transport.specs.Settings.{completion_size}
use Rattle.cal_transport.specs.Ledger.{Ledger, Chunk, ChannelHistory, loaned_chunk, if_loaned, queued_names, completed_names, is_borrowed, borrow_count, is_in_transit, history_on}
use Rattle.cal_transport.specs.LoanCause.{is_static}
use Rattle.cal_transport.specs.Cause.{cause, send_cause, is_bucket_outside, is_buffer_full}
use Rattle.cal_transport.specs.Step.{IsStepBy, Owes, after_step_by, after_command, front, name_sent_back, history_after_send, history_after_receive, with_changed_chunk}
use Rattle.cal_transport.specs.Run.{AreStepsAndTransit, after_steps}
use Rattle.cal_transport.specs.Soundness.{weight}
use Rattle.cal_transport.specs.FillList.{names_from, IsServed, AreServed}
use Rattle.cal_transport.proofs.Names.{is_in_transit-weight}
use Rattle.cal_transport.proofs.Steps.{find_first}
use Rattle.cal_transport.proofs.Following.{KeptFrom}
use Rattle.cal_transport.proofs.Sound.{changed_chunks, keeps_sent, marked_sent}
use Rattle.cal_transport.proofs.Numbers.{counted, counted-queued, counted-queue_length, counted-borrow_count, counted-completed_length, counted-next, counted-borrowed, counted-sent, counted-taken, counted-given}

-- ---- one command, and the rest

-- how many chunks are completed on channel 0
abbrev pub completed_count : Ledger → ℕ
completed_count l = length (completed_names (history_on l 0))

-- whatever the replies to these commands, each is served, and so many chunks are in transit and completed then
abbrev pub Ends : ℕ → Ledger → ℕ → List Command → Type 0
Ends last l place commands = (replies : List Reply) → AreStepsAndTransit l place commands replies →
    AreServed last commands replies × (completed_count (after_steps l place commands replies) ≡ last)

-- where no command is left the ledger stays
pub after_none : (l : Ledger) (place : ℕ) (replies : List Reply) → after_steps l place [] replies ≡ l
after_none l place [] = refl
after_none l place (reply ∷ replies) = refl

pub goes_on : (last : ℕ) (l : Ledger) (place : ℕ) (asked : Command) (commands : List Command) →
    cause l asked ≡ None →
    ((reply : Reply) → Owes l place asked reply →
    IsServed asked reply × Ends last (after_command l place asked reply) (place + 1) commands) →
    Ends last l place (asked ∷ commands)
goes_on last l place asked commands none go [] run = absurd run
goes_on last l place asked commands none go (reply ∷ replies) run =
    let next = go reply (subst (λ o. IsStepBy o l place asked reply) none run.0) in
    let rest = (subst (λ o. Ends last (after_step_by o l place asked reply) (place + 1) commands) (sym none) next.1)
    replies run.1 in
    ((next.0, rest.0), rest.1)

-- ---- the ledger along the list

-- what the settings have
pub record FillSettings (s : Settings) (first : SegmentLayout) (buffer borrow : ℕ) : Type 0 where
  pub static : is_static s.strategy ≡ true
  pub no_overflow : s.overflow ≡ false
  pub one_channel : s.channels ≡ 1
  pub segments : 1 ≤ s.segments
  pub buffer_is : s.buffer ≡ buffer
  pub borrow_is : s.borrow ≡ borrow
  pub buckets : buffer + borrow + 1 ≤ first.count
  pub samples : first.count ≤ s.samples
  pub size : 1 ≤ first.size
  pub alignment : 1 ≤ first.alignment

-- the chunks are named from one on, in the one segment, and loaned
pub record AreFillChunks (first : SegmentLayout) (m : ℕ) (chunks : List Chunk) : Type 0 where
  pub count : length chunks ≡ m
  pub name : (i : ℕ) (c : Chunk) → slice_get chunks i ≡ Some c → c.name ≡ 1 + i
  pub segment : (i : ℕ) (c : Chunk) → slice_get chunks i ≡ Some c → c.segment ≡ 0
  pub bucket : (i : ℕ) (c : Chunk) → slice_get chunks i ≡ Some c → c.bucket < first.count
  pub loaned : (i : ℕ) (c : Chunk) → slice_get chunks i ≡ Some c → c.loaned ≡ true

-- one segment, these chunks, and one channel
abbrev pub filled : Settings → SegmentLayout → List Chunk → Option ℕ → ChannelHistory → Ledger
filled s first chunks opened history = record {
  settings = s;
  segments = first ∷ [];
  chunks = chunks;
  histories = history ∷ [];
  opened_last = opened;
}

-- to mark a chunk as sent keeps them so
marked_chunks : (first : SegmentLayout) (m name : ℕ) (chunks : List Chunk) → AreFillChunks first m chunks →
    AreFillChunks first m (with_changed_chunk marked_sent name chunks)
marked_chunks first m name chunks h = record {
  count = length-map chunks (λ c. cond (nat_eq c.name name) (marked_sent c) c) ∙ h.count;
  name = λ i c stands. (let k = from i c stands in k.keeps.name ∙ h.name i k.before k.stands);
  segment = λ i c stands. (let k = from i c stands in k.keeps.segment ∙ h.segment i k.before k.stands);
  bucket = λ i c stands. (let k = from i c stands in
      let b = h.bucket i k.before k.stands in let e = k.keeps.bucket in omega arith);
  loaned = λ i c stands. loaned_still i c stands;
}
  where
    from : (i : ℕ) (c : Chunk) → slice_get (with_changed_chunk marked_sent name chunks) i ≡ Some c →
        KeptFrom chunks i c
    from i c stands = (changed_chunks chunks name marked_sent (λ j x there named. keeps_sent x)).from i c stands

    mark : (x : Chunk) (b : Bool) → (cond b (marked_sent x) x).loaned ≡ x.loaned
    mark x true = refl
    mark x false = refl

    loaned_still : (i : ℕ) (c : Chunk) → slice_get (with_changed_chunk marked_sent name chunks) i ≡ Some c →
        c.loaned ≡ true
    loaned_still i c stands =
        let k = from i c stands in
        let g : Chunk → Chunk = λ x. cond (nat_eq x.name name) (marked_sent x) x in
        let is : g k.before ≡ c = same_Some (g k.before) c
        (sym (slice_get-map g chunks i ∙ ap (option_map g) k.stands) ∙ stands) in
        ap (λ x. x.loaned) (sym is) ∙ mark k.before (nat_eq k.before.name name) ∙ h.loaned i k.before k.stands

module _ (s : Settings) (first : SegmentLayout) (buffer borrow : ℕ) (f : FillSettings s first buffer borrow) where
  abbrev all_chunks : ℕ
  all_chunks = buffer + borrow + 1

  there : nat_le s.channels 0 ≡ false
  there = let c = f.one_channel in lt-leb s.channels 0 (omega arith)

  -- ---- a send

  -- the chunk of a name
  found : (chunks : List Chunk) (opened : Option ℕ) (history : ChannelHistory) (i : ℕ) →
      AreFillChunks first all_chunks chunks →
      i < all_chunks →
      (c : Chunk) × (slice_get chunks i ≡ Some c) × (c.name ≡ 1 + i) ×
      (loaned_chunk (filled s first chunks opened history) (1 + i) ≡ Some c)
  found chunks opened history i h below =
      let none : Chunk = record { name = 0; segment = 0; bucket = 0; bytes = []; loaned = false; sent = false } in
      let long = h.count in
      let stands = slice_get-get_or chunks i none (omega arith) in
      let c = get_or chunks i none in
      let named = h.name i c stands in
      let is : find (λ x. nat_eq x.name (1 + i)) chunks ≡ Some c =
      subst (λ n. find (λ x. nat_eq x.name n) chunks ≡ Some c) named
      (find_first chunks i c stands (λ j x standing elsewhere same.
      (let q = h.name j x standing in elsewhere (omega arith)))) in
      (c, stands, named, ap if_loaned is ∙ cond-true c.loaned (Some c) None (h.loaned i c stands))

  pub no_cause : (a b d : Bool) (x y z : Refusal) → a ≡ false → b ≡ false → d ≡ false →
      cond a (Some x) (cond b (Some y) (cond d (Some z) None)) ≡ None
  no_cause false false false x y z p q r = refl
  no_cause true b d x y z p q r = absurd (true≢false p)
  no_cause false true d x y z p q r = absurd (true≢false q)
  no_cause false false true x y z p q r = absurd (true≢false r)

  queue_room : (r e n : ℕ) → r ≤ n → n < r + buffer → nat_le s.buffer (length (queued_names (counted n r e))) ≡ false
  queue_room r e n within room =
      let long = counted-queue_length n r e in let b = f.buffer_is in
      lt-leb s.buffer (length (queued_names (counted n r e))) (omega arith)

  send_none : (chunks : List Chunk) (opened : Option ℕ) (n r e : ℕ) → AreFillChunks first all_chunks chunks →
      n < all_chunks → r ≤ n → e ≤ r → n < r + buffer →
      cause (filled s first chunks opened (counted n r e)) (command.Send 0 (1 + n)) ≡ None
  send_none chunks opened n r e h below within given room =
      let l = filled s first chunks opened (counted n r e) in
      let c = found chunks opened (counted n r e) n h below in
      let segment = h.segment n c.0 c.1 in let bucket = h.bucket n c.0 c.1 in
      let segments = f.segments in let samples = f.samples in
      let inside = or_from (nat_le s.segments c.0.segment) (nat_le s.samples c.0.bucket)
      (lt-leb s.segments c.0.segment (omega arith)) (lt-leb s.samples c.0.bucket (omega arith)) in
      let still = counted-next n r e within given in
      let quiet : is_in_transit (counted n r e) c.0.name ≡ false = is_in_transit-weight (counted n r e) c.0.name
      ∙ ap (λ name. nat_lt 0 (weight (counted n r e) name)) c.2
      ∙ le-ltb 0 (weight (counted n r e) (1 + n)) (omega arith) in
      ap (send_cause l 0) c.3
      ∙ no_cause (nat_le s.channels 0 || is_bucket_outside l c.0) (is_in_transit (counted n r e) c.0.name)
      (not s.overflow && is_buffer_full l (counted n r e)) refusal.OutsideConnection refusal.AlreadyInTransit
      refusal.ReceiveBufferFull (or_from (nat_le s.channels 0) (is_bucket_outside l c.0) there inside) quiet
      (and_right (not s.overflow) (is_buffer_full l (counted n r e)) (queue_room r e n within room))

  pub sends_on : (last place : ℕ) (commands : List Command) (chunks : List Chunk) (opened : Option ℕ) (n r e : ℕ) →
      AreFillChunks first all_chunks chunks → n < all_chunks → r ≤ n → e ≤ r → n < r + buffer →
      ((more : List Chunk) → AreFillChunks first all_chunks more →
      Ends last (filled s first more opened (counted (suc n) r e)) (place + 1) commands) →
      Ends last (filled s first chunks opened (counted n r e)) place (command.Send 0 (1 + n) ∷ commands)
  sends_on last place commands chunks opened n r e h below within given room next =
      let l = filled s first chunks opened (counted n r e) in
      let more = with_changed_chunk marked_sent (1 + n) chunks in
      let back : name_sent_back l (counted n r e) ≡ None =
      cond-false (is_buffer_full l (counted n r e)) (front (queued_names (counted n r e))) None
      (queue_room r e n within room) in
      let then : history_after_send (counted n r e) (1 + n) (name_sent_back l (counted n r e)) ≡ counted (suc n) r e =
      ap (history_after_send (counted n r e) (1 + n)) back ∙ counted-sent n r e in
      goes_on last l place (command.Send 0 (1 + n)) commands (send_none chunks opened n r e h below within given room)
      (λ reply owes. (
        record {
          accepted = λ why refused. absurd (let q = owes in cc);
          nothing_back = λ asked. absurd (cc);
        },
        subst (λ c. Ends last (filled s first more opened c) (place + 1) commands) (sym then)
            (next more (marked_chunks first all_chunks (1 + n) chunks h)),
      ))

  -- ---- a receive

  pub receives_on : (last place : ℕ) (commands : List Command) (chunks : List Chunk) (opened : Option ℕ) (n r e : ℕ) →
      r < n → e ≤ r → r < e + borrow →
      ((later : Option ℕ) → Ends last (filled s first chunks later (counted n (suc r) e)) (place + 1) commands) →
      Ends last (filled s first chunks opened (counted n r e)) place (command.Receive 0 ∷ commands)
  receives_on last place commands chunks opened n r e some given room next =
      let l = filled s first chunks opened (counted n r e) in
      let held = counted-borrow_count n r e in
      let limit = f.borrow_is in
      let none : cause l (command.Receive 0) ≡ None = no_cause (nat_le s.channels 0)
      (nat_le s.borrow (borrow_count (counted n r e))) false refusal.OutsideConnection
      refusal.ReceiveWouldExceedMaxBorrowValue refusal.OutsideConnection there
      (lt-leb s.borrow (borrow_count (counted n r e)) (omega arith)) refl in
      let count : n - r ≡ suc (n - r - 1) = omega arith in
      let queue : front (queued_names (counted n r e)) ≡ Some (1 + r) =
      ap front (counted-queued n r e ∙ ap (names_from (1 + r)) count) in
      let then : history_after_receive (counted n r e) (front (queued_names (counted n r e))) ≡ counted n (suc r) e =
      ap (history_after_receive (counted n r e)) queue ∙ counted-taken n r e in
      goes_on last l place (command.Receive 0) commands none (λ reply owes. (
        record {
          accepted = λ why refused. absurd (let q = owes in cc);
          nothing_back = λ asked. absurd (cc);
        },
        subst (λ c. Ends last (filled s first chunks (after_command l place (command.Receive 0) reply).opened_last c)
            (place + 1) commands) (sym then) (next (after_command l place (command.Receive 0) reply).opened_last),
      ))

  -- ---- a release

  pub releases_on : (last place : ℕ) (commands : List Command) (chunks : List Chunk) (opened : Option ℕ) (n r e : ℕ) →
      e < r → e < all_chunks →
      Ends last (filled s first chunks opened (counted n r (suc e))) (place + 1) commands →
      Ends last (filled s first chunks opened (counted n r e)) place (command.Release 0 (1 + e) ∷ commands)
  releases_on last place commands chunks opened n r e held room next =
      let l = filled s first chunks opened (counted n r e) in
      let full = counted-completed_length n r e in
      let buffer_is = f.buffer_is in let borrow_is = f.borrow_is in
      let none : cause l (command.Release 0 (1 + e)) ≡ None = no_cause (nat_le s.channels 0)
      (not (is_borrowed (counted n r e) (1 + e)))
      (nat_le (completion_size s) (length (completed_names (counted n r e)))) refusal.OutsideConnection
      refusal.NotBorrowed refusal.RetrieveBufferFull there
      (not_from_true (is_borrowed (counted n r e) (1 + e)) (counted-borrowed n r e held))
      (lt-leb (completion_size s) (length (completed_names (counted n r e))) (omega arith)) in
      goes_on last l place (command.Release 0 (1 + e)) commands none (λ reply owes. (
        record {
          accepted = λ why refused. absurd (let q = owes in cc);
          nothing_back = λ asked. absurd (cc);
        },
        subst (λ c. Ends last (filled s first chunks opened c) (place + 1) commands) (sym (counted-given n r e)) next,
      ))

  -- ---- a reclaim before any release

  pub reclaims_on : (last place : ℕ) (commands : List Command) (chunks : List Chunk) (opened : Option ℕ) (n r : ℕ) →
      Ends last (filled s first chunks opened (counted n r 0)) (place + 1) commands →
      Ends last (filled s first chunks opened (counted n r 0)) place (command.Reclaim 0 ∷ commands)
  reclaims_on last place commands chunks opened n r next =
      let l = filled s first chunks opened (counted n r 0) in
      let none : cause l (command.Reclaim 0) ≡ None =
      cond-false (nat_le s.channels 0) (Some refusal.OutsideConnection) None there in
      goes_on last l place (command.Reclaim 0) commands none (λ reply owes. (
        record { accepted = λ why refused. absurd (let q = owes in cc); nothing_back = λ asked. owes },
        next,
      ))
