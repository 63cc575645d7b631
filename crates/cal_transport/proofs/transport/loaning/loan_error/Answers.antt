use Rattle.std.proofs.Common.{◌≡◌, ◌≢◌, refl, sym, ap, ◌∙◌, subst}
use Rattle.cal_shm.specs.declared.errors.SharedMemoryCreateError.{SharedMemoryCreateError}
use Rattle.cal_shm.specs.declared.errors.SharedMemoryCreateError.TheVariants as create
use Rattle.cal_resizable.specs.declared.errors.ResizableShmAllocationError.TheVariants as memory
use Rattle.cal_transport.specs.declared.transport.loaning.LoanError.TheVariants as answer
use Rattle.cal_transport.specs.LoanErrors.{CanCome, IsSegmentError, loan_answer}
use Rattle.cal_transport.proofs.transport.loaning.loan_error.Goals as goal

-- a segment that isn't made has one of two causes
no_other : (e : SharedMemoryCreateError) → IsSegmentError e → e ≢ create.NoMemory → e ≢ create.InternalError → ⊥
no_other create.NoMemory comes memory internal = memory refl
no_other create.InternalError comes memory internal = internal refl
no_other create.AlreadyExists comes memory internal = comes
no_other create.SizeIsZero comes memory internal = comes
no_other create.InsufficientPermissions comes memory internal = comes
no_other create.SizeOutOfRange comes memory internal = comes
no_other create.PathTooLong comes memory internal = comes

pub static_refusal-requires : goal.static_refusal-requires
static_refusal-requires c = record { comes = subst CanCome c.in-ShmAllocationError.is c.requires.comes }

pub unreachable-requires : goal.unreachable-requires
unreachable-requires c = no_other c.in-SharedMemoryCreateError.error
    (subst CanCome c.in-SharedMemoryCreateError.is c.requires.comes) c.in_default.not-NoMemory
    c.in_default.not-InternalError

pub returns-in-ShmAllocationError : goal.returns-in-ShmAllocationError
returns-in-ShmAllocationError c = record {
  answer = ap answer.Refused c.static_refusal.ensures.answer ∙ ap loan_answer (sym c.in-ShmAllocationError.is);
}

pub returns-in-MaxReallocationsReached : goal.returns-in-MaxReallocationsReached
returns-in-MaxReallocationsReached c = record { answer = ap loan_answer (sym c.in-MaxReallocationsReached.is) }

pub returns-in-SizeOutOfRange : goal.returns-in-SizeOutOfRange
returns-in-SizeOutOfRange c = record { answer = ap loan_answer (sym c.in-SizeOutOfRange.is) }

pub returns-in-NoMemory : goal.returns-in-NoMemory
returns-in-NoMemory c = record {
  answer = ap loan_answer (sym (c.in-SharedMemoryCreateError.is
      ∙ ap memory.SharedMemoryCreateError c.in-NoMemory.is));
}

pub returns-in-InternalError : goal.returns-in-InternalError
returns-in-InternalError c = record {
  answer = ap loan_answer (sym (c.in-SharedMemoryCreateError.is
      ∙ ap memory.SharedMemoryCreateError c.in-InternalError.is));
}
