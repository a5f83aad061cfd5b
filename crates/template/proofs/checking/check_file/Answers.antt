-- What the checks before it leave to each stage.
use Rattle.laws.proofs.Chain.{settled}
use Rattle.template.proofs.Groups.{some_channel}
use Rattle.template.proofs.Stages.{template_long}
use Rattle.template.proofs.checking.check_file.Goals as goal

pub check_samples-requires : goal.check_samples-requires
check_samples-requires g c = some_channel _ (settled _ _ c.check_reencoder.ensures _ c.in_ok-check_reencoder.was)

pub check_template-requires : goal.check_template-requires
check_template-requires g c = (
  settled _ _ c.check_reencoder.ensures _ c.in_ok-check_reencoder.was,
  settled _ _ c.check_samples.ensures _ c.in_ok-check_samples.was,
)

pub read_fields-requires : goal.read_fields-requires
read_fields-requires g c = template_long _ _ _ _ c.check_template.ensures c.in_ok-check_template.was

pub check_groups-requires : goal.check_groups-requires
check_groups-requires g c = (
  settled _ _ c.check_reencoder.ensures _ c.in_ok-check_reencoder.was,
  settled _ _ c.check_samples.ensures _ c.in_ok-check_samples.was,
  settled _ _ c.check_template.ensures _ c.in_ok-check_template.was,
  c.read_fields.ensures,
)
