use Rattle.std.proofs.Common.{◌≡◌, ◌∙◌, Some, ◌⊎◌, sym, ap, subst}
use Rattle.cal_storage.specs.Contents.{nothing_registered}
use Rattle.cal_shm.specs.declared.errors.SharedMemoryCreateError.TheVariants.{NoMemory}
use Rattle.cal_resizable.specs.Creation.{MemoryPlan, CreatesMemory, creation_refusal}
use Rattle.cal_resizable.specs.Together.{NoneLater}
use Rattle.cal_transport.specs.Opening.{memory_plan}
use Rattle.cal_transport.proofs.NewMemory.{memory_error, has_first, named}
use Rattle.cal_transport.proofs.NewPools.{are_pools}
use Rattle.cal_transport.proofs.PoolRules.{pool_rules}
use Rattle.cal_transport.proofs.transport.opening.new_memory.Goals as goal

pub memory_error-requires : goal.memory_error-requires
memory_error-requires c = record {
  memory = memory_error c.args.settings.now c.requires.can.memory pool_rules are_pools c.args.reg.now c.in-Err.error
      c.requires.new
      (subst (λ plan. (creation_refusal pool_rules c.args.reg.now plan ≡ Some c.in-Err.error)
      ⊎ (c.in-Err.error ≡ NoMemory)) c.memory_builder.ensures.plan c.in-Err.ensures.error);
}

pub returns-in-Ok : goal.returns-in-Ok
returns-in-Ok c =
    let s = c.args.settings.now in
    let new = c.create.new.reg in
    let memory = c.in-Ok.memory in
    let created : CreatesMemory pool_rules nothing_registered (memory_plan s) new memory =
    subst (λ plan. CreatesMemory pool_rules nothing_registered plan new memory) c.memory_builder.ensures.plan
    (subst (λ old. CreatesMemory pool_rules old c.memory_builder.result new memory) c.requires.new
    c.in-Ok.ensures.created) in
    record {
      made = record {
        alone = record {
          sound = c.number_of_active_segments-sound.ensures.sound;
          has = c.in-Ok.ensures.has;
          holds = c.in-Ok.ensures.holds;
          names = c.in-Ok.ensures.names;
          finished = c.a_new_memory_stands_alone.ensures.finished (memory_plan s) new memory created;
          later = c.a_new_memory_stands_alone.ensures.later (memory_plan s) new memory named created;
        };
        segments = has_first s c.requires.can.memory pool_rules are_pools new memory created;
      };
    }
