use Rattle.std.proofs.Common.{[], sym, ap, subst, ◌∙◌}
use Rattle.cal_names.specs.FileName.{IsFileName}
use Rattle.cal_resizable.specs.View.{management_name}
use Rattle.cal_resizable.proofs.CreationLemmas.{CreatesMemory-by}
use Rattle.cal_resizable.proofs.ViewOpenLemmas.{managed_is}
use Rattle.cal_resizable.specs.Chunks.{AreOut}
use Rattle.cal_resizable.specs.Creation.{MemoryPlan, MakesMemory, management_handle, first_handle, managed_contents}
use Rattle.cal_resizable.proofs.StayingLemmas.{ok_map}
use Rattle.cal_resizable.proofs.WritingLemmas.{none_out}
use Rattle.cal_resizable.proofs.memory_builder.DynamicMemoryBuilder.create.Goals as goal

pub make-requires-clause-rule : goal.make-requires-clause-rule
make-requires-clause-rule g c =
    subst (λ (p : MemoryPlan). IsFileName (management_name p.name)) c.self.view_is
    ((managed_is c.self.inside.name c.in-Some.name (sym c.in-Some.ensures.name)).0)

pub returns-in-Ok-new-clause-created : goal.returns-in-Ok-new-clause-created
returns-in-Ok-new-clause-created g c =
    let R = g.A.ShmAllocator in
    CreatesMemory-by R c.args.reg.now c.args.self c.make.new.reg c.in-Ok-initial_setup_hint.hint c.in-Ok.hint
    (ap (λ (p : MemoryPlan). R.initial_setup_hint p.layout p.number_of_chunks) (sym c.self.view_is)
    ∙ sym c.in-Ok.ensures.value)
    (ap (λ l. R.initial_setup_hint l 1) (sym c.layout_of_one_byte.ensures)
    ∙ sym c.in-Ok-initial_setup_hint.ensures.value)
    c.make.result c.make.ensures.makes

pub returns-in-Ok-new-clause-none_out : goal.returns-in-Ok-new-clause-none_out
returns-in-Ok-new-clause-none_out g c =
    let R = g.A.ShmAllocator in
    let old = c.args.reg.now in
    let management = c.in-Ok-initial_setup_hint.hint in
    let first = c.in-Ok.hint in
    ok_map c.make.result (MakesMemory R old c.args.self management first c.make.new.reg)
    (λ memory. AreOut R.properties R.IsByteUsed R.IsAllocated c.make.new.reg memory.slots []) c.make.ensures.makes
    (λ memory makes. none_out R c.make.new.reg c.args.self (management_handle old c.args.self)
    (first_handle (managed_contents R old c.args.self management) c.args.self) memory makes.is)
