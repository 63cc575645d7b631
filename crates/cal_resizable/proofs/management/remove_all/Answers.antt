use Rattle.std.proofs.Common.{◌≡◌, ◌+◌, List, ℕ, ◌∷◌, drop, sym, ap, ◌∙◌}
use Rattle.std.proofs.lemmas.List.{drop_more, drop_all}
use Rattle.std.specs.Map.{keys_of}
use Rattle.cal_storage.specs.Refusals.{after_name_removal}
use Rattle.cal_resizable.specs.Management.{paths_without}
use Rattle.cal_resizable.proofs.ManagementLemmas.{removals-more, removals-end, found-more, found-end}
use Rattle.cal_resizable.proofs.management.remove_all.Goals as goal

pub loop-segment-preserved : goal.loop-segment-preserved
loop-segment-preserved g c =
    let settings = g.Shm.Configuration.NamedConceptConfiguration.settings c.args.cfg.now in
    let l = c.loop-segment in
    let rest : List (List ℕ) = drop (l.segment-index + 1) c.args.listed.now in
    let in_turn : drop l.segment-index c.args.listed.now ≡ c.segment-item.result ∷ rest =
    drop_more c.args.listed.now l.segment-index c.segment-item.result c.loop-segment-test.true
    ∙ ap (λ name. name ∷ rest) (sym c.segment-item.is) in
    record {
      found = found-more c.args.memory.now c.segment-item.result rest _ l.found c.remove_own-found.result _ in_turn
          c.remove_own-found.ensures.own l.invariant.found;
      removed = removals-more (after_name_removal settings) c.args.memory.now c.segment-item.result rest _ l.reg
          c.remove_own-found.new.reg _ in_turn c.remove_own-found.ensures.removed l.invariant.removed;
      gone = removals-more (paths_without settings) c.args.memory.now c.segment-item.result rest _
          (keys_of l.reg.names) (keys_of c.remove_own-found.new.reg.names) _ in_turn c.remove_own-found.ensures.gone
          l.invariant.gone;
      keeps = λ count handle some small holds.
          c.remove_own-found.ensures.keeps count handle some small (l.invariant.keeps count handle some small holds);
    }

pub returns : goal.returns
returns g c =
    let settings = g.Shm.Configuration.NamedConceptConfiguration.settings c.args.cfg.now in
    let l = c.loop-segment in
    let ended = drop_all l.segment-index c.args.listed.now c.loop-segment-test.false in
    record {
      found = found-end c.args.memory.now _ l.found _ ended l.invariant.found;
      removed = removals-end (after_name_removal settings) c.args.memory.now _ l.reg _ ended l.invariant.removed;
      gone = removals-end (paths_without settings) c.args.memory.now _ (keys_of l.reg.names) _ ended
          l.invariant.gone;
      keeps = l.invariant.keeps;
    }
