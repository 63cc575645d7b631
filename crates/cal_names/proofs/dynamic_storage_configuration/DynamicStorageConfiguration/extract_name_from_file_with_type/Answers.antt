use Rattle.std.proofs.Common.{rules}
use Rattle.cal_names.specs.Extraction.{exact_from_value}
use Rattle.cal_names.proofs.dynamic_storage_configuration.DynamicStorageConfiguration.extract_name_from_file_with_type.Goals as goal

pub returns-clause-exact : goal.returns-clause-exact
returns-clause-exact g c =
    exact_from_value (g.Self.NamedConceptConfiguration.settings c.args.self.now) c.args.value.now c.name_of_file.result
    (search rules)
