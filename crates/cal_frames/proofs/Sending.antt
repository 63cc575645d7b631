-- A frame is handed over by six commands.
use Rattle.std.proofs.Common.{ℕ, ◌^◌, ◌<◌, ◌≡◌, List, [], ◌∷◌, ◌++◌, length, Option, refl, sym, ◌∙◌, subst}
use Rattle.std.specs.Int.{w64, to_le_bytes}
use Rattle.cal_transport.specs.declared.command.Command.TheVariants as command
use Rattle.cal_transport.specs.declared.reply.Reply.TheVariants.{Loaned, Written, Sent, Reclaimed, Discarded}
use Rattle.cal_transport.specs.declared.reply.Slot.{Slot}
use Rattle.cal_transport.specs.Standing.{Does, DoesAnywhere}
use Rattle.cal_transport.specs.State.{TransportState}
use Rattle.cal_frames.specs.Carrying.{header_of}
use Rattle.cal_frames.specs.Sides.{HandsOver}
use Rattle.cal_frames.proofs.Commands.{loan_makes, write_makes, send_carries, discard_carries, reclaim_carries}
use Rattle.cal_frames.proofs.Header.{header_is, length-header}

-- what each of the commands did
pub record AreDone (old : TransportState) (name : ℕ) (frame : List ℕ) (new : TransportState) : Type 0 where
  pub loaned_state : TransportState
  pub begun_state : TransportState
  pub written_state : TransportState
  pub sent_state : TransportState
  pub discarded_state : TransportState
  pub size : ℕ
  pub alignment : ℕ
  pub slot : Slot
  pub header : List ℕ
  pub back : Option Slot
  pub returned : Option Slot
  pub loan : Does old name (command.Loan size alignment) (Loaned slot) loaned_state
  pub header_is : header ≡ to_le_bytes w64 (length frame)
  pub write_header : DoesAnywhere loaned_state (command.Write name 0 header) Written begun_state
  pub write_frame : DoesAnywhere begun_state (command.Write name 8 frame) Written written_state
  pub send : DoesAnywhere written_state (command.Send 0 name) (Sent back) sent_state
  pub discard : DoesAnywhere sent_state (command.Discard name) Discarded discarded_state
  pub reclaim : DoesAnywhere discarded_state (command.Reclaim 0) (Reclaimed returned) new

pub handed_over : (old : TransportState) (name : ℕ) (frame : List ℕ) (new : TransportState) →
    length frame < 2 ^ 64 → AreDone old name frame new → HandsOver old name frame new
handed_over old name frame new small did = λ frames left carries same.
    let loan = subst (λ n. Does old n (command.Loan did.size did.alignment) (Loaned did.slot) did.loaned_state)
    (sym same) did.loan in
    let is : did.header ≡ header_of (length frame) = did.header_is ∙ sym (header_is (length frame)) in
    let write_header : DoesAnywhere did.loaned_state (command.Write (length frames) 0 (header_of (length frame)))
    Written did.begun_state =
    subst (λ h. DoesAnywhere did.loaned_state (command.Write (length frames) 0 h) Written did.begun_state) is
    (subst (λ n. DoesAnywhere did.loaned_state (command.Write n 0 did.header) Written did.begun_state) (sym same)
    did.write_header) in
    let write_frame = subst (λ n. DoesAnywhere did.begun_state (command.Write n 8 frame) Written did.written_state)
    (sym same) did.write_frame in
    let send = subst (λ n. DoesAnywhere did.written_state (command.Send 0 n) (Sent did.back) did.sent_state) (sym same)
    did.send in
    let made = loan_makes old did.loaned_state frames left did.size did.alignment did.slot loan carries in
    let begun = write_makes did.loaned_state did.begun_state frames left 0 [] (header_of (length frame)) refl
    write_header made in
    let written = write_makes did.begun_state did.written_state frames left 8 (header_of (length frame)) frame
    (sym (length-header (length frame))) write_frame begun in
    let sent = send_carries did.written_state did.sent_state frames frame left did.back small send written in record {
      left_now = sent.left_now;
      more = sent.more;
      waits = sent.waits;
      carries = reclaim_carries did.discarded_state new (frames ++ frame ∷ []) sent.left_now did.returned did.reclaim
          (discard_carries did.sent_state did.discarded_state (frames ++ frame ∷ []) sent.left_now name did.discard
          sent.carries);
    }
