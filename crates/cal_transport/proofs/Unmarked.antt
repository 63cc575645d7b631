-- The used entries of a channel after one was taken out: an offset whose chunk is in transit names one.
use Rattle.std.proofs.Common.{ℕ, ◌*◌, ◌≤◌, ◌/◌, ◌%◌, ◌<◌, ◌≡◌, ◌≢◌, Bool, true, false, cond, not, ◌&&◌, nat_eq, List, length, map, set, Option, Some, Result, Ok, Err, inl, inr, refl, sym, ap, ◌∙◌, arith}
use Rattle.std.proofs.Math.Nat.{mul-div_cancel, mul-mod_left}
use Rattle.std.proofs.lemmas.Bool.{true≢false, and_from, ne_eqb, eq-eqb, cases_lt}
use Rattle.std.proofs.lemmas.List.{get_or-set_same, get_or-set_other, get_or_past, length-set}
use Rattle.cal_alloc.specs.PointerOffset.{offset_of, segment_of}
use Rattle.cal_queue.specs.UsedChunks.{UsedChunks, contains, after_removal}
use Rattle.cal_connection.specs.declared.segment_details.SegmentDetails.{SegmentDetails}
use Rattle.cal_connection.specs.Channel.{segment_at, no_segment, is_used, names_used, names_used_entry, without_used, without_entry, after_return, return_answer, samples_of}
use Rattle.cal_connection.specs.ShapeLemmas.{samples-after_return}
use Rattle.cal_transport.proofs.Changing.{removed_here, removed_else}
use Rattle.cal_transport.proofs.Lists.{same_or_apart}

-- one entry isn't in use any more, and nothing else of the segments has changed
pub record Unmarks (old new : List SegmentDetails) (segment bucket : ℕ) : Type 0 where
  pub here : is_used new segment bucket ≡ false
  pub else : (other there : ℕ) → (nat_eq segment other && nat_eq bucket there) ≡ false →
      is_used new other there ≡ is_used old other there
  pub sizes : (other : ℕ) → (segment_at new other).sample_size ≡ (segment_at old other).sample_size
  pub samples : map samples_of new ≡ map samples_of old

-- an offset of a used entry, as the stored size tells it
pub record IsUsedEntry (segments : List SegmentDetails) (pointer segment bucket size : ℕ) : Type 0 where
  pub lies : segment_of pointer ≡ segment
  pub offset : offset_of pointer ≡ bucket * size
  pub positive : 1 ≤ size
  pub stored : (segment_at segments segment).sample_size ≡ size
  pub used : is_used segments segment bucket ≡ true

all_three : (a b c : Bool) → a ≡ true → b ≡ true → c ≡ true → (a && b && c) ≡ true
all_three true true true x y z = refl
all_three true true false x y z = absurd (true≢false (sym z))
all_three true false c x y z = absurd (true≢false (sym y))
all_three false b c x y z = absurd (true≢false (sym x))

module _ (segments : List SegmentDetails) (pointer segment bucket size : ℕ)
    (u : IsUsedEntry segments pointer segment bucket size) where
  abbrev details : SegmentDetails
  details = segment_at segments segment

  at_bucket : offset_of pointer / details.sample_size ≡ bucket
  at_bucket =
      ap (λ n. offset_of pointer / n) u.stored ∙ ap (λ n. n / size) u.offset ∙ mul-div_cancel bucket u.positive

  pub names_it : names_used_entry segments pointer ≡ true
  names_it =
      ap (λ s. names_used (segment_at segments s) (offset_of pointer)) u.lies
      ∙ all_three (not (nat_eq details.sample_size 0)) (nat_eq (offset_of pointer % details.sample_size) 0)
      (contains details.used (offset_of pointer / details.sample_size))
      (ap not (ap (λ n. nat_eq n 0) u.stored ∙ ne_eqb size 0 (λ e. (let p = u.positive in absurd (omega arith)))))
      (eq-eqb (offset_of pointer % details.sample_size) 0
      (ap (λ n. offset_of pointer % n) u.stored ∙ ap (λ n. n % size) u.offset ∙ mul-mod_left bucket size))
      (ap (contains details.used) at_bucket ∙ u.used)

  pub returned_is : {E : Type 0} (error : E) → return_answer error segments (Some pointer) ≡ Ok (Some pointer)
  returned_is {E} error =
      ap {B = Result (Option ℕ) E} (λ b. cond b (Ok (Some pointer)) (Err error)) names_it

  within : segment < length segments
  within = elim (cases_lt segment (length segments)) [
    | inl below ↦ below
    | inr past ↦
        let none : details ≡ no_segment = get_or_past segments segment no_segment past in
        absurd (true≢false (sym u.used ∙ ap (λ (d : SegmentDetails). contains d.used bucket) none))
  ]

  abbrev left : List SegmentDetails
  left = after_return segments (Some pointer)

  left_is : left ≡ set segments segment (without_used details (offset_of pointer))
  left_is =
      ap (λ b. cond b (without_entry segments pointer) segments) names_it
      ∙ ap (λ s. set segments s (without_used (segment_at segments s) (offset_of pointer))) u.lies

  at_here : segment_at left segment ≡ without_used details (offset_of pointer)
  at_here =
      ap (λ ss. segment_at ss segment) left_is
      ∙ get_or-set_same segments segment (without_used details (offset_of pointer)) no_segment within

  at_else : (other : ℕ) → other ≢ segment → segment_at left other ≡ segment_at segments other
  at_else other apart =
      ap (λ ss. segment_at ss other) left_is
      ∙ get_or-set_other segments segment other (without_used details (offset_of pointer)) no_segment apart

  used_is : after_removal details.used (offset_of pointer / details.sample_size) ≡ after_removal details.used bucket
  used_is = ap (after_removal details.used) at_bucket

  pub unmarks : Unmarks segments left segment bucket
  unmarks = record {
    here = ap (λ (d : SegmentDetails). contains d.used bucket) at_here ∙ ap (λ used. contains used bucket) used_is
        ∙ cleared details.used bucket;
    else = λ other there outside. elim (same_or_apart other segment) [
      | inl same ↦
          let apart : there ≢ bucket = λ e. true≢false (sym (and_from (nat_eq segment other) (nat_eq bucket there)
          (eq-eqb segment other (sym same)) (eq-eqb bucket there (sym e))) ∙ outside) in
          ap (λ s. is_used left s there) same
          ∙ ap (λ (d : SegmentDetails). contains d.used there) at_here
          ∙ ap (λ used. contains used there) used_is
          ∙ removed_else details.used bucket there apart
          ∙ ap (λ s. is_used segments s there) (sym same)
      | inr apart ↦ ap (λ (d : SegmentDetails). contains d.used there) (at_else other apart)
    ];
    sizes = λ other. elim (same_or_apart other segment) [
      | inl same ↦ ap (λ s. (segment_at left s).sample_size) same
          ∙ ap (λ (d : SegmentDetails). d.sample_size) at_here
          ∙ ap (λ s. (segment_at segments s).sample_size) (sym same)
      | inr apart ↦ ap (λ (d : SegmentDetails). d.sample_size) (at_else other apart)
    ];
    samples = samples-after_return segments (Some pointer);
  }
    where
      cleared : (used : UsedChunks) (n : ℕ) → contains (after_removal used n) n ≡ false
      cleared used n = elim (cases_lt n (length used.marks)) [
        | inl below ↦ removed_here used n below
        | inr past ↦ get_or_past (set used.marks n false) n false (omega (arith, length-set used.marks n false))
      ]
