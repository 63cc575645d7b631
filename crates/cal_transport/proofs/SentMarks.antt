-- The used entries of a channel after one was put in.
use Rattle.std.proofs.Common.{ℕ, ◌/◌, ◌<◌, ◌≡◌, ◌≢◌, nat_eq, List, length, set, inl, inr, sym, ap, ◌∙◌}
use Rattle.std.proofs.lemmas.Bool.{true≢false, and_from, eq-eqb}
use Rattle.std.proofs.lemmas.List.{get_or-set_same, get_or-set_other}
use Rattle.cal_alloc.specs.PointerOffset.{offset_of, segment_of}
use Rattle.cal_queue.specs.UsedChunks.{contains, capacity_of}
use Rattle.cal_connection.specs.declared.segment_details.SegmentDetails.{SegmentDetails}
use Rattle.cal_connection.specs.Channel.{segment_at, no_segment, is_used, with_used, with_entry}
use Rattle.cal_connection.specs.ShapeLemmas.{samples-with_entry}
use Rattle.cal_transport.proofs.Changing.{inserted_here, inserted_else}
use Rattle.cal_transport.proofs.Lists.{same_or_apart}
use Rattle.cal_transport.proofs.SendStep.{Marks}

module _ (segments : List SegmentDetails) (pointer segment bucket size : ℕ) (lies : segment_of pointer ≡ segment)
    (at_bucket : offset_of pointer / size ≡ bucket) (within : segment < length segments)
    (room : bucket < capacity_of (segment_at segments segment).used) where
  abbrev details : SegmentDetails
  details = segment_at segments segment

  abbrev marked : List SegmentDetails
  marked = with_entry segments pointer size

  marked_is : marked ≡ set segments segment (with_used details size bucket)
  marked_is =
      ap (λ s. set segments s (with_used (segment_at segments s) size (offset_of pointer / size))) lies
      ∙ ap (λ b. set segments segment (with_used details size b)) at_bucket

  at_here : segment_at marked segment ≡ with_used details size bucket
  at_here =
      ap (λ ss. segment_at ss segment) marked_is
      ∙ get_or-set_same segments segment (with_used details size bucket) no_segment within

  at_else : (other : ℕ) → other ≢ segment → segment_at marked other ≡ segment_at segments other
  at_else other apart =
      ap (λ ss. segment_at ss other) marked_is
      ∙ get_or-set_other segments segment other (with_used details size bucket) no_segment apart

  pub marks : Marks segments marked segment bucket size
  marks = record {
    here = ap (λ (d : SegmentDetails). contains d.used bucket) at_here ∙ inserted_here details.used bucket room;
    else = λ other there outside. elim (same_or_apart other segment) [
      | inl same ↦
          let apart : there ≢ bucket = λ e. true≢false (sym (and_from (nat_eq segment other) (nat_eq bucket there)
          (eq-eqb segment other (sym same)) (eq-eqb bucket there (sym e))) ∙ outside) in
          ap (λ s. is_used marked s there) same
          ∙ ap (λ (d : SegmentDetails). contains d.used there) at_here
          ∙ inserted_else details.used bucket there apart
          ∙ ap (λ s. is_used segments s there) (sym same)
      | inr apart ↦ ap (λ (d : SegmentDetails). contains d.used there) (at_else other apart)
    ];
    size_here = ap (λ (d : SegmentDetails). d.sample_size) at_here;
    size_else = λ other apart. ap (λ (d : SegmentDetails). d.sample_size) (at_else other apart);
    samples = samples-with_entry segments pointer size;
  }
