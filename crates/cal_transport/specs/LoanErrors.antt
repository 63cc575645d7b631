-- What a loan answers where the memory hands nothing out.
use Rattle.cal_alloc.specs.declared.shm_allocator.ShmAllocationError.{ShmAllocationError}
use Rattle.cal_alloc.specs.declared.shm_allocator.ShmAllocationError.TheVariants as pool
use Rattle.cal_shm.specs.declared.errors.SharedMemoryCreateError.{SharedMemoryCreateError}
use Rattle.cal_shm.specs.declared.errors.SharedMemoryCreateError.TheVariants as create
use Rattle.cal_resizable.specs.declared.errors.ResizableShmAllocationError.{ResizableShmAllocationError}
use Rattle.cal_resizable.specs.declared.errors.ResizableShmAllocationError.TheVariants as memory
use Rattle.cal_transport.specs.declared.reply.Refusal.{Refusal}
use Rattle.cal_transport.specs.declared.reply.Refusal.TheVariants.{ExceedsMaxSupportedAlignment, SizeTooLarge, OutOfMemory, MaxReallocationsReached, SizeOutOfRange, InternalError}
use Rattle.cal_transport.specs.declared.transport.loaning.LoanError.{LoanError}
use Rattle.cal_transport.specs.declared.transport.loaning.LoanError.TheVariants as answer

-- the refusal of the same name as the pool's
abbrev pub pool_answer : ShmAllocationError → Refusal
pool_answer pool.ExceedsMaxSupportedAlignment = ExceedsMaxSupportedAlignment
pool_answer pool.SizeTooLarge = SizeTooLarge
pool_answer pool.OutOfMemory = OutOfMemory
pool_answer pool.SizeIsZero = SizeTooLarge

-- the answer where a segment isn't made
abbrev pub segment_answer : SharedMemoryCreateError → LoanError
segment_answer create.NoMemory = answer.NoMemory
segment_answer create.InternalError = answer.Refused InternalError
segment_answer create.AlreadyExists = answer.Refused InternalError
segment_answer create.SizeIsZero = answer.Refused InternalError
segment_answer create.InsufficientPermissions = answer.Refused InternalError
segment_answer create.SizeOutOfRange = answer.Refused InternalError
segment_answer create.PathTooLong = answer.Refused InternalError

abbrev pub loan_answer : ResizableShmAllocationError → LoanError
loan_answer memory.MaxReallocationsReached = answer.Refused MaxReallocationsReached
loan_answer memory.SizeOutOfRange = answer.Refused SizeOutOfRange
loan_answer (memory.ShmAllocationError error) = answer.Refused (pool_answer error)
loan_answer (memory.SharedMemoryCreateError error) = segment_answer error

-- a pool refuses no empty chunk
abbrev pub IsPoolError : ShmAllocationError → Type 0
IsPoolError pool.ExceedsMaxSupportedAlignment = Unit {0}
IsPoolError pool.SizeTooLarge = Unit {0}
IsPoolError pool.OutOfMemory = Unit {0}
IsPoolError pool.SizeIsZero = ⊥

-- the next segment has a name that is free, and as many bytes as its buckets
abbrev pub IsSegmentError : SharedMemoryCreateError → Type 0
IsSegmentError create.NoMemory = Unit {0}
IsSegmentError create.InternalError = Unit {0}
IsSegmentError create.AlreadyExists = ⊥
IsSegmentError create.SizeIsZero = ⊥
IsSegmentError create.InsufficientPermissions = ⊥
IsSegmentError create.SizeOutOfRange = ⊥
IsSegmentError create.PathTooLong = ⊥

-- the errors that the memory of a transport can give
abbrev pub CanCome : ResizableShmAllocationError → Type 0
CanCome memory.MaxReallocationsReached = Unit {0}
CanCome memory.SizeOutOfRange = Unit {0}
CanCome (memory.ShmAllocationError error) = IsPoolError error
CanCome (memory.SharedMemoryCreateError error) = IsSegmentError error
