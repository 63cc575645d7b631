use Rattle.std.proofs.Common.{arith, inl, inr}
use Rattle.std.proofs.lemmas.Bool.{cases_eq}
use Rattle.cal_alloc.proofs.FreeChains.{seen, seen-full, seen-not_full}
use Rattle.cal_alloc.proofs.free_buckets.FreeBuckets.is_full.Goals as goal

pub returns : goal.returns
returns c =
    let is_seen = seen c.self.inside c.args.self.now c.self.invariant c.self.view_is in record {
      full = elim (cases_eq c.self.inside.number_of_used c.self.inside.number_of_buckets) [
        | inl same ↦ let full = seen-full c.self.inside c.args.self.now is_seen same in grind (arith, full)
        | inr apart ↦ let free = seen-not_full c.self.inside c.args.self.now is_seen apart in grind (arith, free)
      ];
    }
