use Rattle.std.proofs.Common.{arith}
use Rattle.cal_alloc.proofs.FreeChains.{opened, return-has_word, return-some, return-IsChain, return-marks}
use Rattle.cal_alloc.proofs.free_buckets.FreeBuckets.give_back.Goals as goal

pub index_mut-requires : goal.index_mut-requires
index_mut-requires c =
    let o = opened c.self.inside c.in-Some.next c.args.self.now c.self.invariant c.self.view_is c.in-Some.is in
    omega (
      arith,
      return-has_word c.self.inside c.in-Some.next c.args.self.now o c.args.bucket c.requires,
      c.in-Some.next.ok.0,
    )

pub overflow_sub-self : goal.overflow_sub-self
overflow_sub-self c =
    let o = opened c.self.inside c.in-Some.next c.args.self.now c.self.invariant c.self.view_is c.in-Some.is in
    return-some c.self.inside c.in-Some.next c.args.self.now o c.args.bucket c.requires

pub invariant_of-self : goal.invariant_of-self
invariant_of-self c =
    let o = opened c.self.inside c.in-Some.next c.args.self.now c.self.invariant c.self.view_is c.in-Some.is in
    return-IsChain c.self.inside c.in-Some.next c.args.self.now o c.args.bucket c.requires

pub returns : goal.returns
returns c =
    let o = opened c.self.inside c.in-Some.next c.args.self.now c.self.invariant c.self.view_is c.in-Some.is in
    record { unmarked = return-marks c.self.inside c.in-Some.next c.args.self.now o c.args.bucket c.requires }
