-- What is left of the list is still to be removed: with that, all is as it should be.
use Rattle.std.proofs.Common.{◌≡◌, ◌||◌, drop}
use Rattle.std.specs.List.{list_any}
use Rattle.std.specs.Map.{keys_of}
use Rattle.cal_storage.specs.Holding.{KeepsHandles}
use Rattle.cal_storage.specs.Refusals.{after_name_removal}
use Rattle.cal_resizable.specs.Management.{belongs_to, after_removals, paths_without}
use Rattle.cal_resizable.proofs.management.remove_all.Given as goal

abbrev pub invariant-loop-segment : goal.invariant-loop-segment
invariant-loop-segment g l =
    let settings = g.Shm.Configuration.NamedConceptConfiguration.settings l.cfg in
    record {
      found : (l.found || list_any (belongs_to l.memory) (drop l.segment-index l.listed))
          ≡ list_any (belongs_to l.memory) l.listed;
      removed : after_removals (after_name_removal settings) l.memory (drop l.segment-index l.listed) l.reg
          ≡ after_removals (after_name_removal settings) l.memory l.listed l.fn.reg;
      gone : after_removals (paths_without settings) l.memory (drop l.segment-index l.listed) (keys_of l.reg.names)
          ≡ after_removals (paths_without settings) l.memory l.listed (keys_of l.fn.reg.names);
      keeps : KeepsHandles l.fn.reg l.reg;
    }
