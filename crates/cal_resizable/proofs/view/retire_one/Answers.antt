use Rattle.cal_resizable.proofs.view.retire_one.Goals as goal

pub returns-in-Some-clause-leaves : goal.returns-in-Some-clause-leaves
returns-in-Some-clause-leaves g c handle spared =
    c.retire_unused.ensures.leaves handle (spared c.in-Some.number c.in-Some.is)
