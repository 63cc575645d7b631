use Rattle.std.proofs.Common.{◌≡◌, rules, sym}
use Rattle.cal_names.specs.FilePath.{path_part}
use Rattle.cal_names.specs.ConceptSettings.{ConceptSettings}
use Rattle.cal_names.specs.Extraction.{extracted_name_at-elsewhere}
use Rattle.cal_names.proofs.named_concept.NamedConceptConfiguration.extract_name_from_path.Goals as goal

pub returns-then-ne-clause-value : goal.returns-then-ne-clause-value
returns-then-ne-clause-value g c =
    let settings : ConceptSettings = g.Self.NamedConceptConfiguration.settings c.args.self.now in
    let elsewhere : path_part c.args.value.now ≡ settings.path_hint → ⊥ = search rules in
    sym (extracted_name_at-elsewhere settings c.args.value.now elsewhere)
