use Rattle.std.proofs.Common.{◌≡◌, ◌↔◌, Some, Ok, subst, sym}
use Rattle.cal_names.specs.ConceptSettings.{ConceptSettings, extracted_name_at}
use Rattle.cal_names.proofs.NamePathLemmas.{settings_of-parts}
use Rattle.cal_names.proofs.dynamic_storage_configuration.DynamicStorageConfiguration.path_for_with_type.Goals as goal

pub returns-clause-inverse : goal.returns-clause-inverse
returns-clause-inverse g c = λ other is_path.
    let settings : ConceptSettings = g.Self.NamedConceptConfiguration.settings c.args.self.now in
    subst (λ (s : ConceptSettings).
    (extracted_name_at s other ≡ Some c.args.value.now) ↔ (c.path_of_name.result ≡ Ok other))
    (settings_of-parts settings c.parts.result.now (Some c.type_name.result.now) c.parts.ensures.parts
    (sym c.type_name.ensures.type_name))
    (c.path_of_name.ensures.inverse other is_path)
