use Rattle.std.proofs.Common.{Some}
use Rattle.cal_names.specs.ConceptSettings.{ConceptSettings, settings_of}
use Rattle.cal_storage.specs.Refusals.{open_refusal}
use Rattle.cal_connection.specs.Closing.{removal_plan}
use Rattle.cal_connection.specs.Configuration.{stored_type}
use Rattle.cal_connection.specs.Words.{receiver_bit}
use Rattle.cal_connection.proofs.Removed.{keeps_handles}
use Rattle.cal_connection.proofs.connection.ConnectionZeroCopyConnection.remove_receiver.Goals as goal

pub returns-clause-keeps : goal.returns-clause-keeps
returns-clause-keeps g c =
    let settings : ConceptSettings = settings_of c.args.config.now.parts (Some stored_type) in
    keeps_handles c.args.reg.now c.remove_port.new.reg
    (open_refusal g.S.DynamicStorage.checks_version c.args.reg.now (removal_plan c.args.name.now settings)) settings
    c.args.name.now receiver_bit c.remove_port.ensures.sound c.remove_port.ensures.removed
