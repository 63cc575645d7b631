use Rattle.std.proofs.Common.{◌≡◌, ◌<◌, ◌+◌, ◌++◌, None, true, sym, ap, subst, ◌∙◌}
use Rattle.cal_names.specs.ConceptSettings.{file_path_for}
use Rattle.cal_storage.specs.Contents.{id_at, after_creation, new_handle}
use Rattle.cal_storage.specs.Refusals.{finished_version}
use Rattle.cal_resizable.specs.Growth.{made_segment, next_handle}
use Rattle.cal_resizable.specs.Memory.{MemoryState, HasAll, segment_path}
use Rattle.cal_resizable.specs.SegmentNames.{number_end}
use Rattle.cal_resizable.proofs.GrowthLemmas.{IsSoundMemory-grown_it, KeepsOwn-grown, SparesHandles-grown, current_there, leaves_created, next_empty, of_new_segment}
use Rattle.cal_resizable.proofs.KeepingLemmas.{EachHandle-leaves}
use Rattle.cal_resizable.proofs.memory.DynamicMemory.grow_by.Goals as goal

pub retire_unused-requires : goal.retire_unused-requires
retire_unused-requires g c =
    let memory : MemoryState = record {
      name = c.self.inside.name;
      settings = g.Shm.Configuration.NamedConceptConfiguration.settings c.self.inside.config;
      strategy = c.self.inside.strategy;
      management = g.Shm.PayloadHolder.handle c.self.inside.management;
      current = c.self.inside.current;
      slots = c.self.inside.slots;
    }
    in
    let old = c.args.reg.now in
    let mid = c.make_segment.new.reg in
    let has : HasAll old memory = subst (HasAll old) (sym c.self.view_is) c.requires.has in
    let below : memory.current < 255 = subst (λ (m : MemoryState). m.current < 255) (sym c.self.view_is)
    c.requires.below in
    let path : file_path_for memory.settings c.next_name-name.result
    ≡ segment_path memory.settings memory.name (memory.current + 1) =
    ap (file_path_for memory.settings)
    (c.next_name-name.ensures
    ∙ ap (λ (m : MemoryState). m.name ++ number_end (m.current + 1)) (sym c.self.view_is)) in
    let value = made_segment g.A.ShmAllocator c.args.hint.now in
    let handle = g.Shm.PayloadHolder.handle c.in-Ok.segment in
    let is_new : handle ≡ next_handle old memory =
    c.in-Ok.ensures.handle ∙ ap (λ p. new_handle old p true) path in
    let free : id_at old (segment_path memory.settings memory.name (memory.current + 1)) ≡ None =
    ap (id_at old) (sym path) ∙ c.in-Ok.ensures.free in
    let created : mid ≡ after_creation old (segment_path memory.settings memory.name (memory.current + 1)) value
    finished_version =
    c.in-Ok.ensures.created ∙ ap (λ p. after_creation old p value finished_version) path in
    current_there mid memory.management memory.slots memory.current
    (EachHandle-leaves old mid memory.management memory.slots
    (leaves_created old mid (segment_path memory.settings memory.name (memory.current + 1)) value finished_version
    free created)
    has)
    c.self.invariant.current

pub insert-requires : goal.insert-requires
insert-requires g c =
    next_empty _ c.self.invariant c.retire_unused.new.self c.retire_unused.ensures.slots

pub invariant_of-self : goal.invariant_of-self
invariant_of-self g c =
    let memory : MemoryState = record {
      name = c.self.inside.name;
      settings = g.Shm.Configuration.NamedConceptConfiguration.settings c.self.inside.config;
      strategy = c.self.inside.strategy;
      management = g.Shm.PayloadHolder.handle c.self.inside.management;
      current = c.self.inside.current;
      slots = c.self.inside.slots;
    }
    in
    let old = c.args.reg.now in
    let mid = c.make_segment.new.reg in
    let has : HasAll old memory = subst (HasAll old) (sym c.self.view_is) c.requires.has in
    let below : memory.current < 255 = subst (λ (m : MemoryState). m.current < 255) (sym c.self.view_is)
    c.requires.below in
    let path : file_path_for memory.settings c.next_name-name.result
    ≡ segment_path memory.settings memory.name (memory.current + 1) =
    ap (file_path_for memory.settings)
    (c.next_name-name.ensures
    ∙ ap (λ (m : MemoryState). m.name ++ number_end (m.current + 1)) (sym c.self.view_is)) in
    let value = made_segment g.A.ShmAllocator c.args.hint.now in
    let handle = g.Shm.PayloadHolder.handle c.in-Ok.segment in
    let is_new : handle ≡ next_handle old memory =
    c.in-Ok.ensures.handle ∙ ap (λ p. new_handle old p true) path in
    let free : id_at old (segment_path memory.settings memory.name (memory.current + 1)) ≡ None =
    ap (id_at old) (sym path) ∙ c.in-Ok.ensures.free in
    let created : mid ≡ after_creation old (segment_path memory.settings memory.name (memory.current + 1)) value
    finished_version =
    c.in-Ok.ensures.created ∙ ap (λ p. after_creation old p value finished_version) path in
    IsSoundMemory-grown_it memory c.self.invariant old mid c.retire_unused.new.reg has value finished_version handle
    is_new free created
    c.retire_unused.new.self c.insert.new.self c.retire_unused.ensures.slots c.insert.ensures.held below

pub returns-in-Ok-clause-made : goal.returns-in-Ok-clause-made
returns-in-Ok-clause-made g c =
    let memory : MemoryState = record {
      name = c.self.inside.name;
      settings = g.Shm.Configuration.NamedConceptConfiguration.settings c.self.inside.config;
      strategy = c.self.inside.strategy;
      management = g.Shm.PayloadHolder.handle c.self.inside.management;
      current = c.self.inside.current;
      slots = c.self.inside.slots;
    }
    in
    let old = c.args.reg.now in
    let mid = c.make_segment.new.reg in
    let has : HasAll old memory = subst (HasAll old) (sym c.self.view_is) c.requires.has in
    let below : memory.current < 255 = subst (λ (m : MemoryState). m.current < 255) (sym c.self.view_is)
    c.requires.below in
    let path : file_path_for memory.settings c.next_name-name.result
    ≡ segment_path memory.settings memory.name (memory.current + 1) =
    ap (file_path_for memory.settings)
    (c.next_name-name.ensures
    ∙ ap (λ (m : MemoryState). m.name ++ number_end (m.current + 1)) (sym c.self.view_is)) in
    let value = made_segment g.A.ShmAllocator c.args.hint.now in
    let handle = g.Shm.PayloadHolder.handle c.in-Ok.segment in
    let is_new : handle ≡ next_handle old memory =
    c.in-Ok.ensures.handle ∙ ap (λ p. new_handle old p true) path in
    let free : id_at old (segment_path memory.settings memory.name (memory.current + 1)) ≡ None =
    ap (id_at old) (sym path) ∙ c.in-Ok.ensures.free in
    let created : mid ≡ after_creation old (segment_path memory.settings memory.name (memory.current + 1)) value
    finished_version =
    c.in-Ok.ensures.created ∙ ap (λ p. after_creation old p value finished_version) path in
    of_new_segment memory c.self.invariant old mid c.retire_unused.new.reg has value finished_version handle is_new free
    created
    c.retire_unused.new.self c.insert.new.self c.retire_unused.ensures.slots c.insert.ensures.held below
    c.retire_unused.ensures.registry

pub returns-in-Ok-clause-own : goal.returns-in-Ok-clause-own
returns-in-Ok-clause-own g c =
    let memory : MemoryState = record {
      name = c.self.inside.name;
      settings = g.Shm.Configuration.NamedConceptConfiguration.settings c.self.inside.config;
      strategy = c.self.inside.strategy;
      management = g.Shm.PayloadHolder.handle c.self.inside.management;
      current = c.self.inside.current;
      slots = c.self.inside.slots;
    }
    in
    let old = c.args.reg.now in
    let mid = c.make_segment.new.reg in
    let has : HasAll old memory = subst (HasAll old) (sym c.self.view_is) c.requires.has in
    let below : memory.current < 255 = subst (λ (m : MemoryState). m.current < 255) (sym c.self.view_is)
    c.requires.below in
    let path : file_path_for memory.settings c.next_name-name.result
    ≡ segment_path memory.settings memory.name (memory.current + 1) =
    ap (file_path_for memory.settings)
    (c.next_name-name.ensures
    ∙ ap (λ (m : MemoryState). m.name ++ number_end (m.current + 1)) (sym c.self.view_is)) in
    let value = made_segment g.A.ShmAllocator c.args.hint.now in
    let handle = g.Shm.PayloadHolder.handle c.in-Ok.segment in
    let is_new : handle ≡ next_handle old memory =
    c.in-Ok.ensures.handle ∙ ap (λ p. new_handle old p true) path in
    let free : id_at old (segment_path memory.settings memory.name (memory.current + 1)) ≡ None =
    ap (id_at old) (sym path) ∙ c.in-Ok.ensures.free in
    let created : mid ≡ after_creation old (segment_path memory.settings memory.name (memory.current + 1)) value
    finished_version =
    c.in-Ok.ensures.created ∙ ap (λ p. after_creation old p value finished_version) path in
    rw (← c.self.view_is)
    (KeepsOwn-grown memory c.self.invariant old mid c.retire_unused.new.reg has value finished_version handle is_new
    free created
    c.retire_unused.new.self c.insert.new.self c.retire_unused.ensures.slots c.insert.ensures.held below
    c.retire_unused.ensures.leaves c.in-Ok.ensures.holds c.in-Ok.ensures.named)

pub returns-in-Ok-clause-spares : goal.returns-in-Ok-clause-spares
returns-in-Ok-clause-spares g c =
    let memory : MemoryState = record {
      name = c.self.inside.name;
      settings = g.Shm.Configuration.NamedConceptConfiguration.settings c.self.inside.config;
      strategy = c.self.inside.strategy;
      management = g.Shm.PayloadHolder.handle c.self.inside.management;
      current = c.self.inside.current;
      slots = c.self.inside.slots;
    }
    in
    let old = c.args.reg.now in
    let mid = c.make_segment.new.reg in
    let has : HasAll old memory = subst (HasAll old) (sym c.self.view_is) c.requires.has in
    let below : memory.current < 255 = subst (λ (m : MemoryState). m.current < 255) (sym c.self.view_is)
    c.requires.below in
    let path : file_path_for memory.settings c.next_name-name.result
    ≡ segment_path memory.settings memory.name (memory.current + 1) =
    ap (file_path_for memory.settings)
    (c.next_name-name.ensures
    ∙ ap (λ (m : MemoryState). m.name ++ number_end (m.current + 1)) (sym c.self.view_is)) in
    let value = made_segment g.A.ShmAllocator c.args.hint.now in
    let handle = g.Shm.PayloadHolder.handle c.in-Ok.segment in
    let is_new : handle ≡ next_handle old memory =
    c.in-Ok.ensures.handle ∙ ap (λ p. new_handle old p true) path in
    let free : id_at old (segment_path memory.settings memory.name (memory.current + 1)) ≡ None =
    ap (id_at old) (sym path) ∙ c.in-Ok.ensures.free in
    let created : mid ≡ after_creation old (segment_path memory.settings memory.name (memory.current + 1)) value
    finished_version =
    c.in-Ok.ensures.created ∙ ap (λ p. after_creation old p value finished_version) path in
    rw (← c.self.view_is)
    (SparesHandles-grown memory c.self.invariant old mid c.retire_unused.new.reg has value finished_version handle
    is_new free created
    c.retire_unused.new.self c.insert.new.self c.retire_unused.ensures.slots c.insert.ensures.held below
    c.retire_unused.ensures.spares)
