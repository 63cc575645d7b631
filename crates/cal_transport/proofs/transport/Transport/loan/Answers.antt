use Rattle.std.proofs.Common.{◌≡◌, ◌<◌, ◌≤◌, ◌+◌, ◌-◌, ◌/◌, ◌∙◌, ◌++◌, ◌∷◌, [], length, map, Some, IsSome, Ok, Err, ◌⊎◌, vec_items, vec_len, vec_capacity, sym, ap, subst, refl, arith}
use Rattle.std.proofs.lemmas.Bool.{false_from_ne_true}
use Rattle.std.specs.Int.{is_power_of_two}
use Rattle.cal_alloc.specs.Pool.{Pool}
use Rattle.cal_alloc.specs.PointerOffset.{offset_of, segment_of}
use Rattle.cal_alloc.specs.SizeAndAlignment.{SizeAndAlignment}
use Rattle.cal_shm.specs.Segment.{Segment}
use Rattle.cal_resizable.specs.Chunks.{segment_value}
use Rattle.cal_resizable.specs.Growth.{next_number_of_buckets}
use Rattle.cal_resizable.specs.Slots.{segment_at}
use Rattle.cal_transport.specs.declared.command.Command.TheVariants as command
use Rattle.cal_transport.specs.declared.reply.Reply.TheVariants.{Loaned}
use Rattle.cal_transport.specs.declared.transport.chunk_entry.ChunkEntry.{ChunkEntry}
use Rattle.cal_transport.specs.declared.reply.Refusal.TheVariants as refusal
use Rattle.cal_transport.specs.declared.transport.loaning.LoanError.TheVariants as answer
use Rattle.cal_transport.specs.ChunkEntry.{AreBelow}
use Rattle.cal_transport.specs.Owning.{table_at, tables_in, with_table, with_owner}
use Rattle.cal_transport.specs.Room.{TakesRoomOfOne}
use Rattle.cal_transport.specs.State.{TransportState, IsLinked, Represents, Does}
use Rattle.cal_transport.specs.StateOf.{state_of}
use Rattle.cal_transport.specs.Step.{after_step}
use Rattle.cal_transport.proofs.InsideDoes.{LoanDoes}
use Rattle.cal_transport.proofs.Standing.{refused_stands, outside_loan}
use Rattle.cal_transport.proofs.LiveFew.{room_for_one}
use Rattle.cal_transport.proofs.LoanCalls.{ErrorCall, refusing, is_handed, refused_same}
use Rattle.cal_transport.proofs.LoanCode.{bad_layout_cause, table_runs_out, error_comes, error_does}
use Rattle.cal_transport.proofs.LoanDone.{handed_held, some_size, clears_within, owner_place, loaned_linked, loaned_does}
use Rattle.cal_transport.proofs.LoanLent.{slot_of_entry}
use Rattle.cal_transport.proofs.LoanRoom.{table_room, tables_left}
use Rattle.cal_transport.proofs.NextName.{below_next}
use Rattle.cal_transport.proofs.transport.Transport.loan.Goals as goal

pub returns-in-None-clause-step : goal.returns-in-None-clause-step
returns-in-None-clause-step c = λ l stands.
    refused_stands c.args.self.now l c.args.chunk (command.Loan c.args.size c.args.alignment) refusal.BadLayout
    (bad_layout_cause l c.args.size c.args.alignment
    (false_from_ne_true (is_power_of_two c.args.alignment) c.in-None.ensures.value))
    stands

-- no memory for the table of the next segment's owners
pub returns-in-Err-clause-step : goal.returns-in-Err-clause-step
returns-in-Err-clause-step c =
    let t = state_of c.self.inside in
    outside_loan c.self.inside c.self.invariant c.args.self.now c.self.view_is c.args.chunk c.args.size
    c.args.alignment (Err answer.NoMemory)
    c.args.self.now c.requires.below
    (subst (λ s. LoanDoes s c.args.chunk c.args.size c.args.alignment (Err answer.NoMemory) s) c.self.view_is
    (table_runs_out t c.args.chunk
    (subst (λ (s : TransportState). AreBelow s.entries c.args.chunk) (sym c.self.view_is) c.requires.below)
    c.args.size c.args.alignment c.self.invariant.linked c.in-Some.ensures.value.0
    (λ segment there. subst (λ lay. IsSome (next_number_of_buckets t.memory.strategy t.memory.current lay
    segment.allocator)) c.in-Some.ensures.value.1 (c.in-Err.ensures.table segment there))))

pub allocate-answer-requires-clause-room : goal.allocate-answer-requires-clause-room
allocate-answer-requires-clause-room c =
    let long = c.self.inside.entries.ok in
    let small = c.self.inside.entries.small in
    room_for_one (state_of c.self.inside) c.self.invariant.ledger c.self.invariant.represents (omega arith)

-- the memory's error can be one of a transport
pub loan_error-requires : goal.loan_error-requires
loan_error-requires c =
    let t = state_of c.self.inside in
    let below = subst (λ (s : TransportState). AreBelow s.entries c.args.chunk) (sym c.self.view_is)
    c.requires.below in
    let asked : SizeAndAlignment = record { size = c.args.size; alignment = c.args.alignment } in
    let call : ErrorCall t asked c.allocate-answer.result c.in-Err-answer.error =
    subst (λ lay. ErrorCall t lay c.allocate-answer.result c.in-Err-answer.error) c.in-Some.ensures.value.1 (record {
      is = c.in-Err-answer.is;
      refused = c.allocate-answer.ensures.refused;
      why = c.in-Err-answer.ensures.error;
      serves = c.in-Err-answer.ensures.serves;
    }) in
    record {
      comes = error_comes t c.args.chunk below c.args.size c.args.alignment c.self.invariant.linked
          c.in-Some.ensures.value.0 c.in-Err-answer.error
          (refusing t asked c.allocate-answer.result c.in-Err-answer.error call)
          c.self.invariant.ledger c.self.invariant.represents;
    }

pub invariant_of-self : goal.invariant_of-self
invariant_of-self c =
    let t = state_of c.self.inside in
    let same = refused_same t c.allocate-answer.result c.in-Err-answer.error c.in-Err-answer.is
    c.allocate-answer.new.reg c.allocate-answer.new.self c.allocate-answer.ensures.unchanged
    c.allocate-answer.ensures.same in
    record {
      ledger = c.self.invariant.ledger;
      represents = subst (λ s. Represents s c.self.invariant.ledger) (sym same) c.self.invariant.represents;
      linked = subst IsLinked (sym same) c.self.invariant.linked;
    }

pub returns-in-Err-answer-clause-step : goal.returns-in-Err-answer-clause-step
returns-in-Err-answer-clause-step c =
    let t = state_of c.self.inside in
    let below = subst (λ (s : TransportState). AreBelow s.entries c.args.chunk) (sym c.self.view_is)
    c.requires.below in
    let asked : SizeAndAlignment = record { size = c.args.size; alignment = c.args.alignment } in
    let call : ErrorCall t asked c.allocate-answer.result c.in-Err-answer.error =
    subst (λ lay. ErrorCall t lay c.allocate-answer.result c.in-Err-answer.error) c.in-Some.ensures.value.1 (record {
      is = c.in-Err-answer.is;
      refused = c.allocate-answer.ensures.refused;
      why = c.in-Err-answer.ensures.error;
      serves = c.in-Err-answer.ensures.serves;
    }) in
    let same = refused_same t c.allocate-answer.result c.in-Err-answer.error c.in-Err-answer.is
    c.allocate-answer.new.reg c.allocate-answer.new.self c.allocate-answer.ensures.unchanged
    c.allocate-answer.ensures.same in
    outside_loan c.self.inside c.self.invariant c.args.self.now c.self.view_is c.args.chunk c.args.size
    c.args.alignment (Err c.loan_error.result)
    (record (state_of c.self.inside) {
      memory_registry = c.allocate-answer.new.reg;
      memory = c.allocate-answer.new.self;
    }) c.requires.below
    (subst (λ s. LoanDoes s c.args.chunk c.args.size c.args.alignment (Err c.loan_error.result)
    (record (state_of c.self.inside) {
      memory_registry = c.allocate-answer.new.reg;
      memory = c.allocate-answer.new.self;
    })) c.self.view_is
    (subst (λ s. LoanDoes t c.args.chunk c.args.size c.args.alignment (Err c.loan_error.result) s) (sym same)
    (subst (λ a. LoanDoes t c.args.chunk c.args.size c.args.alignment (Err a) t) (sym c.loan_error.ensures.answer)
    (error_does t c.args.chunk below c.args.size c.args.alignment c.self.invariant.linked c.in-Some.ensures.value.0
    c.in-Err-answer.error (refusing t asked c.allocate-answer.result c.in-Err-answer.error call)
    c.self.invariant.ledger c.self.invariant.represents))))

pub returns-in-Err-answer-clause-room : goal.returns-in-Err-answer-clause-room
returns-in-Err-answer-clause-room c =
    subst (λ s. TakesRoomOfOne s (record (state_of c.self.inside) {
      memory_registry = c.allocate-answer.new.reg;
      memory = c.allocate-answer.new.self;
    })) c.self.view_is (record { spare = omega arith; in_transit = omega arith })

-- a pointer was handed out
pub size_at-bucket_size-requires-clause-has : goal.size_at-bucket_size-requires-clause-has
size_at-bucket_size-requires-clause-has c =
    let t = state_of c.self.inside in
    let linked = c.self.invariant.linked in
    let reg = c.allocate-answer.new.reg in
    let memory = c.allocate-answer.new.self in
    let pointer = c.in-Ok-answer.pointer.offset in
    let h = is_handed t c.args.chunk c.args.size c.args.alignment linked
    (subst (λ (s : TransportState). AreBelow s.entries c.args.chunk) (sym c.self.view_is) c.requires.below)
    c.self.invariant.ledger c.self.invariant.represents c.in-Some.layout c.in-Some.ensures.value.0
    c.in-Some.ensures.value.1 c.allocate-answer.result c.in-Ok-answer.pointer c.in-Ok-answer.is reg memory c.in-Ok.table
    (record {
      refused = c.allocate-answer.ensures.refused;
      allocated = c.allocate-answer.ensures.allocated;
      within = c.allocate-answer.ensures.within;
      own = c.allocate-answer.ensures.own;
      spares = c.allocate-answer.ensures.spares;
    })
    (record {
      growth = λ hint below. c.a_call_changes_one_segment.ensures.grown t.memory_registry t.memory hint
          linked.together.memory_sound linked.together.has_memory below;
      stays = λ place given own spares. c.a_memory_stays_with_its_view.ensures.allocated t.memory_registry reg t.memory
          memory t.view c.in-Some.layout place given own spares linked.together;
    })
    c.in-Ok.ensures.table in
    h.calls.together.has_memory

pub size_at-bucket_size-requires-clause-active : goal.size_at-bucket_size-requires-clause-active
size_at-bucket_size-requires-clause-active c =
    let t = state_of c.self.inside in
    let linked = c.self.invariant.linked in
    let reg = c.allocate-answer.new.reg in
    let memory = c.allocate-answer.new.self in
    let pointer = c.in-Ok-answer.pointer.offset in
    let h = is_handed t c.args.chunk c.args.size c.args.alignment linked
    (subst (λ (s : TransportState). AreBelow s.entries c.args.chunk) (sym c.self.view_is) c.requires.below)
    c.self.invariant.ledger c.self.invariant.represents c.in-Some.layout c.in-Some.ensures.value.0
    c.in-Some.ensures.value.1 c.allocate-answer.result c.in-Ok-answer.pointer c.in-Ok-answer.is reg memory c.in-Ok.table
    (record {
      refused = c.allocate-answer.ensures.refused;
      allocated = c.allocate-answer.ensures.allocated;
      within = c.allocate-answer.ensures.within;
      own = c.allocate-answer.ensures.own;
      spares = c.allocate-answer.ensures.spares;
    })
    (record {
      growth = λ hint below. c.a_call_changes_one_segment.ensures.grown t.memory_registry t.memory hint
          linked.together.memory_sound linked.together.has_memory below;
      stays = λ place given own spares. c.a_memory_stays_with_its_view.ensures.allocated t.memory_registry reg t.memory
          memory t.view c.in-Some.layout place given own spares linked.together;
    })
    c.in-Ok.ensures.table in
    subst (λ n. IsSome (segment_at memory.slots n)) (sym (c.value-segment.ensures.value ∙ c.segment_id.ensures.value))
    (handed_held t linked c.args.chunk c.args.size c.args.alignment h.below pointer reg memory c.in-Ok.table h.between)

pub put_zeros-requires-clause-together : goal.put_zeros-requires-clause-together
put_zeros-requires-clause-together c =
    let t = state_of c.self.inside in
    let linked = c.self.invariant.linked in
    let reg = c.allocate-answer.new.reg in
    let memory = c.allocate-answer.new.self in
    let pointer = c.in-Ok-answer.pointer.offset in
    let h = is_handed t c.args.chunk c.args.size c.args.alignment linked
    (subst (λ (s : TransportState). AreBelow s.entries c.args.chunk) (sym c.self.view_is) c.requires.below)
    c.self.invariant.ledger c.self.invariant.represents c.in-Some.layout c.in-Some.ensures.value.0
    c.in-Some.ensures.value.1 c.allocate-answer.result c.in-Ok-answer.pointer c.in-Ok-answer.is reg memory c.in-Ok.table
    (record {
      refused = c.allocate-answer.ensures.refused;
      allocated = c.allocate-answer.ensures.allocated;
      within = c.allocate-answer.ensures.within;
      own = c.allocate-answer.ensures.own;
      spares = c.allocate-answer.ensures.spares;
    })
    (record {
      growth = λ hint below. c.a_call_changes_one_segment.ensures.grown t.memory_registry t.memory hint
          linked.together.memory_sound linked.together.has_memory below;
      stays = λ place given own spares. c.a_memory_stays_with_its_view.ensures.allocated t.memory_registry reg t.memory
          memory t.view c.in-Some.layout place given own spares linked.together;
    })
    c.in-Ok.ensures.table in
    h.calls.together

pub put_zeros-requires-clause-within : goal.put_zeros-requires-clause-within
put_zeros-requires-clause-within c =
    let t = state_of c.self.inside in
    let linked = c.self.invariant.linked in
    let reg = c.allocate-answer.new.reg in
    let memory = c.allocate-answer.new.self in
    let pointer = c.in-Ok-answer.pointer.offset in
    let h = is_handed t c.args.chunk c.args.size c.args.alignment linked
    (subst (λ (s : TransportState). AreBelow s.entries c.args.chunk) (sym c.self.view_is) c.requires.below)
    c.self.invariant.ledger c.self.invariant.represents c.in-Some.layout c.in-Some.ensures.value.0
    c.in-Some.ensures.value.1 c.allocate-answer.result c.in-Ok-answer.pointer c.in-Ok-answer.is reg memory c.in-Ok.table
    (record {
      refused = c.allocate-answer.ensures.refused;
      allocated = c.allocate-answer.ensures.allocated;
      within = c.allocate-answer.ensures.within;
      own = c.allocate-answer.ensures.own;
      spares = c.allocate-answer.ensures.spares;
    })
    (record {
      growth = λ hint below. c.a_call_changes_one_segment.ensures.grown t.memory_registry t.memory hint
          linked.together.memory_sound linked.together.has_memory below;
      stays = λ place given own spares. c.a_memory_stays_with_its_view.ensures.allocated t.memory_registry reg t.memory
          memory t.view c.in-Some.layout place given own spares linked.together;
    })
    c.in-Ok.ensures.table in
    let size = c.size_at-bucket_size.result in
    let size_is = subst (λ n. (s : Segment Pool) → segment_value reg memory.slots n ≡ Some s →
    size ≡ s.allocator.buckets.size)
    (c.value-segment.ensures.value ∙ c.segment_id.ensures.value) c.size_at-bucket_size.ensures.size in
    clears_within t linked c.args.chunk c.args.size c.args.alignment h.below pointer reg memory c.in-Ok.table h.between
    size size_is h.calls.within

pub new_entry-entry-requires : goal.new_entry-entry-requires
new_entry-entry-requires c =
    let t = state_of c.self.inside in
    let linked = c.self.invariant.linked in
    let reg = c.allocate-answer.new.reg in
    let memory = c.allocate-answer.new.self in
    let pointer = c.in-Ok-answer.pointer.offset in
    let h = is_handed t c.args.chunk c.args.size c.args.alignment linked
    (subst (λ (s : TransportState). AreBelow s.entries c.args.chunk) (sym c.self.view_is) c.requires.below)
    c.self.invariant.ledger c.self.invariant.represents c.in-Some.layout c.in-Some.ensures.value.0
    c.in-Some.ensures.value.1 c.allocate-answer.result c.in-Ok-answer.pointer c.in-Ok-answer.is reg memory c.in-Ok.table
    (record {
      refused = c.allocate-answer.ensures.refused;
      allocated = c.allocate-answer.ensures.allocated;
      within = c.allocate-answer.ensures.within;
      own = c.allocate-answer.ensures.own;
      spares = c.allocate-answer.ensures.spares;
    })
    (record {
      growth = λ hint below. c.a_call_changes_one_segment.ensures.grown t.memory_registry t.memory hint
          linked.together.memory_sound linked.together.has_memory below;
      stays = λ place given own spares. c.a_memory_stays_with_its_view.ensures.allocated t.memory_registry reg t.memory
          memory t.view c.in-Some.layout place given own spares linked.together;
    })
    c.in-Ok.ensures.table in
    let size = c.size_at-bucket_size.result in
    let size_is = subst (λ n. (s : Segment Pool) → segment_value reg memory.slots n ≡ Some s →
    size ≡ s.allocator.buckets.size)
    (c.value-segment.ensures.value ∙ c.segment_id.ensures.value) c.size_at-bucket_size.ensures.size in
    record {
      some = some_size t linked c.args.chunk c.args.size c.args.alignment h.below pointer reg memory c.in-Ok.table
          h.between size size_is;
    }

-- there is room for a further table while there are fewer segments than there may be
pub add_table-requires : goal.add_table-requires
add_table-requires c =
    let t = state_of c.self.inside in
    let linked = c.self.invariant.linked in
    let reg = c.allocate-answer.new.reg in
    let memory = c.allocate-answer.new.self in
    let pointer = c.in-Ok-answer.pointer.offset in
    let h = is_handed t c.args.chunk c.args.size c.args.alignment linked
    (subst (λ (s : TransportState). AreBelow s.entries c.args.chunk) (sym c.self.view_is) c.requires.below)
    c.self.invariant.ledger c.self.invariant.represents c.in-Some.layout c.in-Some.ensures.value.0
    c.in-Some.ensures.value.1 c.allocate-answer.result c.in-Ok-answer.pointer c.in-Ok-answer.is reg memory c.in-Ok.table
    (record {
      refused = c.allocate-answer.ensures.refused;
      allocated = c.allocate-answer.ensures.allocated;
      within = c.allocate-answer.ensures.within;
      own = c.allocate-answer.ensures.own;
      spares = c.allocate-answer.ensures.spares;
    })
    (record {
      growth = λ hint below. c.a_call_changes_one_segment.ensures.grown t.memory_registry t.memory hint
          linked.together.memory_sound linked.together.has_memory below;
      stays = λ place given own spares. c.a_memory_stays_with_its_view.ensures.allocated t.memory_registry reg t.memory
          memory t.view c.in-Some.layout place given own spares linked.together;
    })
    c.in-Ok.ensures.table in
    record { room = table_room c.self.inside.owners (tables_in c.in-Ok.table) linked.tables h.between.few }

pub set_owner-requires : goal.set_owner-requires
set_owner-requires c =
    let t = state_of c.self.inside in
    let linked = c.self.invariant.linked in
    let reg = c.allocate-answer.new.reg in
    let memory = c.allocate-answer.new.self in
    let pointer = c.in-Ok-answer.pointer.offset in
    let h = is_handed t c.args.chunk c.args.size c.args.alignment linked
    (subst (λ (s : TransportState). AreBelow s.entries c.args.chunk) (sym c.self.view_is) c.requires.below)
    c.self.invariant.ledger c.self.invariant.represents c.in-Some.layout c.in-Some.ensures.value.0
    c.in-Some.ensures.value.1 c.allocate-answer.result c.in-Ok-answer.pointer c.in-Ok-answer.is reg memory c.in-Ok.table
    (record {
      refused = c.allocate-answer.ensures.refused;
      allocated = c.allocate-answer.ensures.allocated;
      within = c.allocate-answer.ensures.within;
      own = c.allocate-answer.ensures.own;
      spares = c.allocate-answer.ensures.spares;
    })
    (record {
      growth = λ hint below. c.a_call_changes_one_segment.ensures.grown t.memory_registry t.memory hint
          linked.together.memory_sound linked.together.has_memory below;
      stays = λ place given own spares. c.a_memory_stays_with_its_view.ensures.allocated t.memory_registry reg t.memory
          memory t.view c.in-Some.layout place given own spares linked.together;
    })
    c.in-Ok.ensures.table in
    let size = c.size_at-bucket_size.result in
    let size_is = subst (λ n. (s : Segment Pool) → segment_value reg memory.slots n ≡ Some s →
    size ≡ s.allocator.buckets.size)
    (c.value-segment.ensures.value ∙ c.segment_id.ensures.value) c.size_at-bucket_size.ensures.size in
    record {
      place = subst (λ (e : ChunkEntry). e.bucket < length (table_at (map vec_items c.add_table.new.owners.items)
          e.segment)) (sym c.new_entry-entry.ensures.entry)
          (subst (λ os. offset_of pointer / size < length (table_at os (segment_of pointer)))
          (sym c.add_table.ensures.owners)
          (owner_place t linked c.args.chunk c.args.size c.args.alignment h.below pointer reg memory c.in-Ok.table
          h.between size size_is c.self.invariant.ledger c.self.invariant.represents));
    }

pub push_reserved-requires : goal.push_reserved-requires
push_reserved-requires c =
    let room = subst (λ (s : TransportState). 0 < s.spare) (sym c.self.view_is) c.requires.room in omega arith

-- the transport after a loan
pub invariant_of-self-2 : goal.invariant_of-self-2
invariant_of-self-2 c =
    let t = state_of c.self.inside in
    let linked = c.self.invariant.linked in
    let reg = c.allocate-answer.new.reg in
    let memory = c.allocate-answer.new.self in
    let pointer = c.in-Ok-answer.pointer.offset in
    let h = is_handed t c.args.chunk c.args.size c.args.alignment linked
    (subst (λ (s : TransportState). AreBelow s.entries c.args.chunk) (sym c.self.view_is) c.requires.below)
    c.self.invariant.ledger c.self.invariant.represents c.in-Some.layout c.in-Some.ensures.value.0
    c.in-Some.ensures.value.1 c.allocate-answer.result c.in-Ok-answer.pointer c.in-Ok-answer.is reg memory c.in-Ok.table
    (record {
      refused = c.allocate-answer.ensures.refused;
      allocated = c.allocate-answer.ensures.allocated;
      within = c.allocate-answer.ensures.within;
      own = c.allocate-answer.ensures.own;
      spares = c.allocate-answer.ensures.spares;
    })
    (record {
      growth = λ hint below. c.a_call_changes_one_segment.ensures.grown t.memory_registry t.memory hint
          linked.together.memory_sound linked.together.has_memory below;
      stays = λ place given own spares. c.a_memory_stays_with_its_view.ensures.allocated t.memory_registry reg t.memory
          memory t.view c.in-Some.layout place given own spares linked.together;
    })
    c.in-Ok.ensures.table in
    let size = c.size_at-bucket_size.result in
    let size_is = subst (λ n. (s : Segment Pool) → segment_value reg memory.slots n ≡ Some s →
    size ≡ s.allocator.buckets.size)
    (c.value-segment.ensures.value ∙ c.segment_id.ensures.value) c.size_at-bucket_size.ensures.size in
    let entry = c.new_entry-entry.ensures.entry in
    let entries_are = c.push_reserved.ensures.items ∙ ap (λ e. t.entries ++ e ∷ []) entry in
    let owners_are = c.set_owner.ensures.owners
    ∙ ap (λ os. with_owner os c.new_entry-entry.result.segment c.new_entry-entry.result.bucket c.len.result)
    c.add_table.ensures.owners
    ∙ ap (λ (e : ChunkEntry). with_owner (with_table t.owners c.in-Ok.table) e.segment e.bucket c.len.result) entry
    ∙ ap (λ n. with_owner (with_table t.owners c.in-Ok.table) (segment_of pointer) (offset_of pointer / size) n)
    (c.len.ensures ∙ c.self.inside.entries.ok.0) in
    let spare = vec_capacity c.push_reserved.new.self - vec_len c.push_reserved.new.self in
    let tables = vec_capacity c.set_owner.new.owners - vec_len c.set_owner.new.owners in
    let entries = c.push_reserved.new.self.items in
    let owners = map vec_items c.set_owner.new.owners.items in
    let does = loaned_does t linked c.args.chunk c.args.size c.args.alignment h.below pointer reg memory c.in-Ok.table
    h.between size size_is c.put_zeros.new.reg c.put_zeros.ensures.put spare tables entries entries_are owners
    owners_are
    h.none c.slot_at.result (c.slot_at.ensures.slot ∙ ap (λ (e : ChunkEntry). slot_of_entry e pointer) entry) in
    record {
      ledger = after_step c.self.invariant.ledger c.args.chunk (command.Loan c.args.size c.args.alignment)
          (Loaned c.slot_at.result);
      represents = (does c.self.invariant.ledger c.self.invariant.represents).1;
      linked = loaned_linked t linked c.args.chunk c.args.size c.args.alignment h.below pointer reg memory c.in-Ok.table
          h.between size size_is c.put_zeros.new.reg c.put_zeros.ensures.put spare tables entries entries_are owners
          owners_are
          (tables_left c.self.inside.owners (tables_in c.in-Ok.table) c.set_owner.new.owners
          (table_room c.self.inside.owners (tables_in c.in-Ok.table) linked.tables h.between.few)
          (c.set_owner.ensures.len ∙ c.add_table.ensures.len)
          (c.set_owner.ensures.capacity ∙ c.add_table.ensures.capacity));
    }

pub returns-clause-step : goal.returns-clause-step
returns-clause-step c =
    let t = state_of c.self.inside in
    let linked = c.self.invariant.linked in
    let reg = c.allocate-answer.new.reg in
    let memory = c.allocate-answer.new.self in
    let pointer = c.in-Ok-answer.pointer.offset in
    let h = is_handed t c.args.chunk c.args.size c.args.alignment linked
    (subst (λ (s : TransportState). AreBelow s.entries c.args.chunk) (sym c.self.view_is) c.requires.below)
    c.self.invariant.ledger c.self.invariant.represents c.in-Some.layout c.in-Some.ensures.value.0
    c.in-Some.ensures.value.1 c.allocate-answer.result c.in-Ok-answer.pointer c.in-Ok-answer.is reg memory c.in-Ok.table
    (record {
      refused = c.allocate-answer.ensures.refused;
      allocated = c.allocate-answer.ensures.allocated;
      within = c.allocate-answer.ensures.within;
      own = c.allocate-answer.ensures.own;
      spares = c.allocate-answer.ensures.spares;
    })
    (record {
      growth = λ hint below. c.a_call_changes_one_segment.ensures.grown t.memory_registry t.memory hint
          linked.together.memory_sound linked.together.has_memory below;
      stays = λ place given own spares. c.a_memory_stays_with_its_view.ensures.allocated t.memory_registry reg t.memory
          memory t.view c.in-Some.layout place given own spares linked.together;
    })
    c.in-Ok.ensures.table in
    let size = c.size_at-bucket_size.result in
    let size_is = subst (λ n. (s : Segment Pool) → segment_value reg memory.slots n ≡ Some s →
    size ≡ s.allocator.buckets.size)
    (c.value-segment.ensures.value ∙ c.segment_id.ensures.value) c.size_at-bucket_size.ensures.size in
    let entry = c.new_entry-entry.ensures.entry in
    let entries_are = c.push_reserved.ensures.items ∙ ap (λ e. t.entries ++ e ∷ []) entry in
    let owners_are = c.set_owner.ensures.owners
    ∙ ap (λ os. with_owner os c.new_entry-entry.result.segment c.new_entry-entry.result.bucket c.len.result)
    c.add_table.ensures.owners
    ∙ ap (λ (e : ChunkEntry). with_owner (with_table t.owners c.in-Ok.table) e.segment e.bucket c.len.result) entry
    ∙ ap (λ n. with_owner (with_table t.owners c.in-Ok.table) (segment_of pointer) (offset_of pointer / size) n)
    (c.len.ensures ∙ c.self.inside.entries.ok.0) in
    let spare = vec_capacity c.push_reserved.new.self - vec_len c.push_reserved.new.self in
    let tables = vec_capacity c.set_owner.new.owners - vec_len c.set_owner.new.owners in
    let entries = c.push_reserved.new.self.items in
    let owners = map vec_items c.set_owner.new.owners.items in
    let does = loaned_does t linked c.args.chunk c.args.size c.args.alignment h.below pointer reg memory c.in-Ok.table
    h.between size size_is c.put_zeros.new.reg c.put_zeros.ensures.put spare tables entries entries_are owners
    owners_are
    h.none c.slot_at.result (c.slot_at.ensures.slot ∙ ap (λ (e : ChunkEntry). slot_of_entry e pointer) entry) in
    outside_loan c.self.inside c.self.invariant c.args.self.now c.self.view_is c.args.chunk c.args.size
    c.args.alignment (Ok c.slot_at.result)
    (record (state_of c.self.inside) {
      memory_registry = c.put_zeros.new.reg;
      memory = c.allocate-answer.new.self;
      entries = c.push_reserved.new.self.items;
      owners = map vec_items c.set_owner.new.owners.items;
      spare = vec_capacity c.push_reserved.new.self - vec_len c.push_reserved.new.self;
      spare_tables = vec_capacity c.set_owner.new.owners - vec_len c.set_owner.new.owners;
    }) c.requires.below
    (subst (λ s. Does s c.args.chunk (command.Loan c.args.size c.args.alignment) (Loaned c.slot_at.result)
    (record (state_of c.self.inside) {
      memory_registry = c.put_zeros.new.reg;
      memory = c.allocate-answer.new.self;
      entries = c.push_reserved.new.self.items;
      owners = map vec_items c.set_owner.new.owners.items;
      spare = vec_capacity c.push_reserved.new.self - vec_len c.push_reserved.new.self;
      spare_tables = vec_capacity c.set_owner.new.owners - vec_len c.set_owner.new.owners;
    })) c.self.view_is does)

pub returns-clause-room : goal.returns-clause-room
returns-clause-room c =
    subst (λ s. TakesRoomOfOne s
    (record (state_of c.self.inside) {
      memory_registry = c.put_zeros.new.reg;
      memory = c.allocate-answer.new.self;
      entries = c.push_reserved.new.self.items;
      owners = map vec_items c.set_owner.new.owners.items;
      spare = vec_capacity c.push_reserved.new.self - vec_len c.push_reserved.new.self;
      spare_tables = vec_capacity c.set_owner.new.owners - vec_len c.set_owner.new.owners;
    })) c.self.view_is
    (let len = c.push_reserved.ensures.len in let capacity = c.push_reserved.ensures.capacity in
    record { spare = omega arith; in_transit = omega arith })

pub returns-clause-below : goal.returns-clause-below
returns-clause-below c =
    subst (λ entries. AreBelow entries (c.args.chunk + 1)) (sym c.push_reserved.ensures.items)
    (below_next c.self.inside.entries.items c.new_entry-entry.result c.args.chunk
    (subst (λ (s : TransportState). AreBelow s.entries c.args.chunk) (sym c.self.view_is) c.requires.below)
    (ap (λ (e : ChunkEntry). e.name) c.new_entry-entry.ensures.entry))
