use Rattle.std.proofs.Common.{rules}
use Rattle.std.proofs.lemmas.Fmt.{decimal_digit}
use Rattle.cal_shm.proofs.TypeNameLemmas.{decimal_two, decimal_three}
use Rattle.cal_shm.proofs.allocator_details.AllocatorDetailsNamedType.type_name.Goals as goal

pub returns-then-id-lt10 : goal.returns-then-id-lt10
returns-then-id-lt10 g c =
    rw (← c.unique_id-id.ensures.value, decimal_digit c.unique_id-id.result c.if-id-lt10.true) (search rules)

pub returns-then-id-lt100 : goal.returns-then-id-lt100
returns-then-id-lt100 g c =
    rw (
      ← c.unique_id-id.ensures.value,
      decimal_two c.unique_id-id.result c.if-id-lt10.false c.if-id-lt100.true,
    ) (search rules)

pub returns : goal.returns
returns g c =
    rw (
      ← c.unique_id-id.ensures.value,
      decimal_three c.unique_id-id.result c.if-id-lt100.false c.unique_id-id.type_inv,
    ) (search rules)
