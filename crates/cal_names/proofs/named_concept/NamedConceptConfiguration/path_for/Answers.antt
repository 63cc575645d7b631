use Rattle.std.proofs.Common.{◌≡◌, ◌↔◌, Some, Ok, subst}
use Rattle.cal_names.specs.ConceptSettings.{ConceptSettings, extracted_name_at}
use Rattle.cal_names.proofs.NamePathLemmas.{settings_of-parts}
use Rattle.cal_names.proofs.named_concept.NamedConceptConfiguration.path_for.Goals as goal

pub returns-clause-inverse : goal.returns-clause-inverse
returns-clause-inverse g c = λ other is_path.
    let settings : ConceptSettings = g.Self.NamedConceptConfiguration.settings c.args.self.now in
    subst (λ (s : ConceptSettings).
    (extracted_name_at s other ≡ Some c.args.value.now) ↔ (c.path_of_name.result ≡ Ok other))
    (settings_of-parts settings c.parts.result.now c.get_type_name.result c.parts.ensures.parts
    c.get_type_name.ensures.type_name)
    (c.path_of_name.ensures.inverse other is_path)
