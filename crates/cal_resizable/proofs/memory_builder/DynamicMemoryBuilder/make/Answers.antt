use Rattle.std.proofs.Common.{◌≡◌, ◌++◌, Some, None, IsSome, codes, refl, sym, ap, subst, ◌∙◌, inl, inr, arith}
use Rattle.cal_names.specs.FileName.{IsFileName}
use Rattle.cal_storage.specs.Contents.{Has, after_close}
use Rattle.cal_storage.specs.Holding.{Holds, IsNamed}
use Rattle.cal_storage.specs.ValueLemmas.{KeepsHandles-KeepsEntries}
use Rattle.cal_resizable.specs.Creation.{MemoryPlan}
use Rattle.cal_resizable.specs.Memory.{MemoryState}
use Rattle.cal_resizable.specs.SegmentNameLemmas.{segment_name_fits}
use Rattle.cal_resizable.specs.SegmentNames.{segment_name, number_end}
use Rattle.cal_resizable.specs.Slots.{EachHandle, empty_slots, with_segment}
use Rattle.cal_resizable.proofs.CreationLemmas.{none-refused, EachHandle-first, taken_back, left_by_second, KeepsHandles-both, refusal_then, MakesMemory-both, IsSoundMemory-both}
use Rattle.std.proofs.lemmas.Option.{same_Some}
use Rattle.cal_resizable.proofs.memory_builder.DynamicMemoryBuilder.make.Goals as goal

pub unwrap-first_name-requires : goal.unwrap-first_name-requires
unwrap-first_name-requires g c =
    let plan : MemoryPlan = record {
      name = c.self.inside.name;
      settings = g.Shm.Configuration.NamedConceptConfiguration.settings c.self.inside.config;
      strategy = c.self.inside.strategy;
      layout = c.self.inside.max_chunk_layout;
      number_of_chunks = c.self.inside.max_number_of_chunks;
    }
    in
    let R = g.A.ShmAllocator in
    let old = c.args.reg.now in
    let mid = c.make_segment.new.reg in
    let rule : IsFileName (plan.name ++ codes "__mgmt") =
    subst (λ (p : MemoryPlan). IsFileName (p.name ++ codes "__mgmt")) (sym c.self.view_is) c.requires.rule in
    subst IsSome
    (sym (c.segment_name.ensures.name ∙ ap (segment_name plan.name) c.new.ensures.value
    ∙ segment_name_fits plan.name 0 c.as_bytes-bytes.ensures.rule rule (omega arith)))
    refl

pub new-requires-in-Ok-make_segment : goal.new-requires-in-Ok-make_segment
new-requires-in-Ok-make_segment g c =
    let plan : MemoryPlan = record {
      name = c.self.inside.name;
      settings = g.Shm.Configuration.NamedConceptConfiguration.settings c.self.inside.config;
      strategy = c.self.inside.strategy;
      layout = c.self.inside.max_chunk_layout;
      number_of_chunks = c.self.inside.max_number_of_chunks;
    }
    in
    let R = g.A.ShmAllocator in
    let old = c.args.reg.now in
    let mid = c.make_segment.new.reg in
    let rule : IsFileName (plan.name ++ codes "__mgmt") =
    subst (λ (p : MemoryPlan). IsFileName (p.name ++ codes "__mgmt")) (sym c.self.view_is) c.requires.rule in
    let name_is : c.args.name.now ≡ plan.name ++ codes "__mgmt" =
    c.requires.managed ∙ ap (λ (p : MemoryPlan). p.name ++ codes "__mgmt") (sym c.self.view_is) in
    let first_is : c.unwrap-first_name.result ≡ plan.name ++ number_end 0 =
    same_Some _ _ (sym c.unwrap-first_name.ensures ∙ c.segment_name.ensures.name
    ∙ ap (segment_name plan.name) c.new.ensures.value
    ∙ segment_name_fits plan.name 0 c.as_bytes-bytes.ensures.rule rule (omega arith)) in
    let none = none-refused _ c.in-Ok.segment c.in-Ok.ensures.refused in
    let management = g.Shm.PayloadHolder.handle c.in-Ok.segment in
    let new = c.make_segment-2.new.reg in
    let first = g.Shm.PayloadHolder.handle c.in-Ok-make_segment.segment in
    let slots_is : c.insert.new.self ≡ with_segment (empty_slots 256) 0 first =
    c.insert.ensures.held ∙ ap (λ s. with_segment s 0 first) c.requires.empty in
    record {
      sound = IsSoundMemory-both R old mid new plan c.args.management.now c.args.first.now c.args.name.now
          c.unwrap-first_name.result name_is first_is management first c.in-Ok.ensures.created c.in-Ok.ensures.handle
          c.in-Ok-make_segment.ensures.created c.in-Ok-make_segment.ensures.handle c.insert.new.self slots_is rule none
          c.in-Ok.ensures.holds.0 c.in-Ok-make_segment.ensures.free;
    }

pub returns-in-Ok-make_segment-clause-served : goal.returns-in-Ok-make_segment-clause-served
returns-in-Ok-make_segment-clause-served g c =
    let plan : MemoryPlan = record {
      name = c.self.inside.name;
      settings = g.Shm.Configuration.NamedConceptConfiguration.settings c.self.inside.config;
      strategy = c.self.inside.strategy;
      layout = c.self.inside.max_chunk_layout;
      number_of_chunks = c.self.inside.max_number_of_chunks;
    }
    in
    let R = g.A.ShmAllocator in
    let old = c.args.reg.now in
    let mid = c.make_segment.new.reg in
    let rule : IsFileName (plan.name ++ codes "__mgmt") =
    subst (λ (p : MemoryPlan). IsFileName (p.name ++ codes "__mgmt")) (sym c.self.view_is) c.requires.rule in
    let name_is : c.args.name.now ≡ plan.name ++ codes "__mgmt" =
    c.requires.managed ∙ ap (λ (p : MemoryPlan). p.name ++ codes "__mgmt") (sym c.self.view_is) in
    let first_is : c.unwrap-first_name.result ≡ plan.name ++ number_end 0 =
    same_Some _ _ (sym c.unwrap-first_name.ensures ∙ c.segment_name.ensures.name
    ∙ ap (segment_name plan.name) c.new.ensures.value
    ∙ segment_name_fits plan.name 0 c.as_bytes-bytes.ensures.rule rule (omega arith)) in
    let none = none-refused _ c.in-Ok.segment c.in-Ok.ensures.refused in
    let management = g.Shm.PayloadHolder.handle c.in-Ok.segment in
    let new = c.make_segment-2.new.reg in
    let first = g.Shm.PayloadHolder.handle c.in-Ok-make_segment.segment in
    let slots_is : c.insert.new.self ≡ with_segment (empty_slots 256) 0 first =
    c.insert.ensures.held ∙ ap (λ s. with_segment s 0 first) c.requires.empty in
    let none_first = none-refused _ c.in-Ok-make_segment.segment c.in-Ok-make_segment.ensures.refused in
    rw (← c.self.view_is)
    (refusal_then R old mid new plan c.args.management.now c.args.first.now c.args.name.now
    c.unwrap-first_name.result name_is first_is management first c.in-Ok.ensures.created c.in-Ok.ensures.handle
    None none none_first)

pub returns-in-Ok-make_segment-clause-makes : goal.returns-in-Ok-make_segment-clause-makes
returns-in-Ok-make_segment-clause-makes g c =
    let plan : MemoryPlan = record {
      name = c.self.inside.name;
      settings = g.Shm.Configuration.NamedConceptConfiguration.settings c.self.inside.config;
      strategy = c.self.inside.strategy;
      layout = c.self.inside.max_chunk_layout;
      number_of_chunks = c.self.inside.max_number_of_chunks;
    }
    in
    let R = g.A.ShmAllocator in
    let old = c.args.reg.now in
    let mid = c.make_segment.new.reg in
    let rule : IsFileName (plan.name ++ codes "__mgmt") =
    subst (λ (p : MemoryPlan). IsFileName (p.name ++ codes "__mgmt")) (sym c.self.view_is) c.requires.rule in
    let name_is : c.args.name.now ≡ plan.name ++ codes "__mgmt" =
    c.requires.managed ∙ ap (λ (p : MemoryPlan). p.name ++ codes "__mgmt") (sym c.self.view_is) in
    let first_is : c.unwrap-first_name.result ≡ plan.name ++ number_end 0 =
    same_Some _ _ (sym c.unwrap-first_name.ensures ∙ c.segment_name.ensures.name
    ∙ ap (segment_name plan.name) c.new.ensures.value
    ∙ segment_name_fits plan.name 0 c.as_bytes-bytes.ensures.rule rule (omega arith)) in
    let none = none-refused _ c.in-Ok.segment c.in-Ok.ensures.refused in
    let management = g.Shm.PayloadHolder.handle c.in-Ok.segment in
    let new = c.make_segment-2.new.reg in
    let first = g.Shm.PayloadHolder.handle c.in-Ok-make_segment.segment in
    let slots_is : c.insert.new.self ≡ with_segment (empty_slots 256) 0 first =
    c.insert.ensures.held ∙ ap (λ s. with_segment s 0 first) c.requires.empty in
    rw (← c.self.view_is)
    (MakesMemory-both R old mid new plan c.args.management.now c.args.first.now c.args.name.now
    c.unwrap-first_name.result name_is first_is management first c.in-Ok.ensures.created c.in-Ok.ensures.handle
    c.in-Ok-make_segment.ensures.created c.in-Ok-make_segment.ensures.handle c.insert.new.self slots_is
    c.new-in-Ok-make_segment.result c.new-in-Ok-make_segment.ensures.memory)

pub returns-in-Ok-make_segment-clause-has : goal.returns-in-Ok-make_segment-clause-has
returns-in-Ok-make_segment-clause-has g c =
    let old = c.args.reg.now in
    let mid = c.make_segment.new.reg in
    let management = g.Shm.PayloadHolder.handle c.in-Ok.segment in
    let new = c.make_segment-2.new.reg in
    let first = g.Shm.PayloadHolder.handle c.in-Ok-make_segment.segment in
    let slots_is : c.insert.new.self ≡ with_segment (empty_slots 256) 0 first =
    c.insert.ensures.held ∙ ap (λ s. with_segment s 0 first) c.requires.empty in
    let left = left_by_second old mid new _ _ _ c.in-Ok.ensures.free c.in-Ok.ensures.created management
    c.in-Ok.ensures.handle _ _ _ c.in-Ok-make_segment.ensures.free c.in-Ok-make_segment.ensures.created management in
    subst (λ (m : MemoryState). EachHandle m.management m.slots (Has new))
    (sym c.new-in-Ok-make_segment.ensures.memory)
    (EachHandle-first management first c.insert.new.self slots_is (Has new)
    (left.has c.in-Ok.ensures.holds.0) c.in-Ok-make_segment.ensures.holds.0)

pub returns-in-Ok-make_segment-clause-holds : goal.returns-in-Ok-make_segment-clause-holds
returns-in-Ok-make_segment-clause-holds g c =
    let old = c.args.reg.now in
    let mid = c.make_segment.new.reg in
    let management = g.Shm.PayloadHolder.handle c.in-Ok.segment in
    let new = c.make_segment-2.new.reg in
    let first = g.Shm.PayloadHolder.handle c.in-Ok-make_segment.segment in
    let slots_is : c.insert.new.self ≡ with_segment (empty_slots 256) 0 first =
    c.insert.ensures.held ∙ ap (λ s. with_segment s 0 first) c.requires.empty in
    let left = left_by_second old mid new _ _ _ c.in-Ok.ensures.free c.in-Ok.ensures.created management
    c.in-Ok.ensures.handle _ _ _ c.in-Ok-make_segment.ensures.free c.in-Ok-make_segment.ensures.created management in
    subst (λ (m : MemoryState). EachHandle m.management m.slots (Holds new 1))
    (sym c.new-in-Ok-make_segment.ensures.memory)
    (EachHandle-first management first c.insert.new.self slots_is (Holds new 1)
    (left.holds 1 (omega arith) (omega arith) c.in-Ok.ensures.holds) c.in-Ok-make_segment.ensures.holds)

pub returns-in-Ok-make_segment-clause-names : goal.returns-in-Ok-make_segment-clause-names
returns-in-Ok-make_segment-clause-names g c =
    let old = c.args.reg.now in
    let mid = c.make_segment.new.reg in
    let management = g.Shm.PayloadHolder.handle c.in-Ok.segment in
    let new = c.make_segment-2.new.reg in
    let first = g.Shm.PayloadHolder.handle c.in-Ok-make_segment.segment in
    let slots_is : c.insert.new.self ≡ with_segment (empty_slots 256) 0 first =
    c.insert.ensures.held ∙ ap (λ s. with_segment s 0 first) c.requires.empty in
    let left = left_by_second old mid new _ _ _ c.in-Ok.ensures.free c.in-Ok.ensures.created management
    c.in-Ok.ensures.handle _ _ _ c.in-Ok-make_segment.ensures.free c.in-Ok-make_segment.ensures.created management in
    subst (λ (m : MemoryState). EachHandle m.management m.slots (IsNamed new))
    (sym c.new-in-Ok-make_segment.ensures.memory)
    (EachHandle-first management first c.insert.new.self slots_is (IsNamed new)
    (left.named c.in-Ok.ensures.named) c.in-Ok-make_segment.ensures.named)

pub returns-in-Ok-make_segment-clause-keeps : goal.returns-in-Ok-make_segment-clause-keeps
returns-in-Ok-make_segment-clause-keeps g c =
    KeepsHandles-both c.args.reg.now c.make_segment.new.reg c.make_segment-2.new.reg _ _ _ c.in-Ok.ensures.free
    c.in-Ok.ensures.created (g.Shm.PayloadHolder.handle c.in-Ok.segment) c.in-Ok.ensures.handle _ _ _
    c.in-Ok-make_segment.ensures.free c.in-Ok-make_segment.ensures.created

pub returns-in-Err-make_segment-clause-error : goal.returns-in-Err-make_segment-clause-error
returns-in-Err-make_segment-clause-error g c =
    let plan : MemoryPlan = record {
      name = c.self.inside.name;
      settings = g.Shm.Configuration.NamedConceptConfiguration.settings c.self.inside.config;
      strategy = c.self.inside.strategy;
      layout = c.self.inside.max_chunk_layout;
      number_of_chunks = c.self.inside.max_number_of_chunks;
    }
    in
    let R = g.A.ShmAllocator in
    let old = c.args.reg.now in
    let mid = c.make_segment.new.reg in
    let rule : IsFileName (plan.name ++ codes "__mgmt") =
    subst (λ (p : MemoryPlan). IsFileName (p.name ++ codes "__mgmt")) (sym c.self.view_is) c.requires.rule in
    let name_is : c.args.name.now ≡ plan.name ++ codes "__mgmt" =
    c.requires.managed ∙ ap (λ (p : MemoryPlan). p.name ++ codes "__mgmt") (sym c.self.view_is) in
    let first_is : c.unwrap-first_name.result ≡ plan.name ++ number_end 0 =
    same_Some _ _ (sym c.unwrap-first_name.ensures ∙ c.segment_name.ensures.name
    ∙ ap (segment_name plan.name) c.new.ensures.value
    ∙ segment_name_fits plan.name 0 c.as_bytes-bytes.ensures.rule rule (omega arith)) in
    let none = none-refused _ c.in-Ok.segment c.in-Ok.ensures.refused in
    let management = g.Shm.PayloadHolder.handle c.in-Ok.segment in
    rw (← c.self.view_is)
    (elim c.in-Err-make_segment.ensures.error [
      | inl is ↦ inl (refusal_then R old mid mid plan c.args.management.now c.args.first.now c.args.name.now
          c.unwrap-first_name.result name_is first_is management management c.in-Ok.ensures.created
          c.in-Ok.ensures.handle
          (Some c.in-Err-make_segment.error) none is)
      | inr no_memory ↦ inr no_memory
    ])

pub returns-in-Err-make_segment-clause-keeps : goal.returns-in-Err-make_segment-clause-keeps
returns-in-Err-make_segment-clause-keeps g c =
    KeepsHandles-KeepsEntries c.args.reg.now c.close.new.reg
    (taken_back c.args.reg.now c.make_segment.new.reg c.close.new.reg _ _ _ c.in-Ok.ensures.free c.in-Ok.ensures.created
    (g.Shm.PayloadHolder.handle c.in-Ok.segment) c.in-Ok.ensures.handle
    (c.close.ensures.closed
    ∙ ap (λ reg. after_close reg (g.Shm.PayloadHolder.handle c.in-Ok.segment)) c.in-Err-make_segment.ensures.unchanged))

pub returns-in-Err-make_segment-clause-taken_back : goal.returns-in-Err-make_segment-clause-taken_back
returns-in-Err-make_segment-clause-taken_back g c =
    taken_back c.args.reg.now c.make_segment.new.reg c.close.new.reg _ _ _ c.in-Ok.ensures.free c.in-Ok.ensures.created
    (g.Shm.PayloadHolder.handle c.in-Ok.segment) c.in-Ok.ensures.handle
    (c.close.ensures.closed
    ∙ ap (λ reg. after_close reg (g.Shm.PayloadHolder.handle c.in-Ok.segment)) c.in-Err-make_segment.ensures.unchanged)
