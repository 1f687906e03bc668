use Rattle.room_valid.proofs.Files.{files_valid, standing_valid}
use Rattle.room_valid.proofs.Snapshots.{snapshot_valid}
use Rattle.room_valid.proofs.laws.files_are_valid.Goals as goal

pub returns-clause-snapshots : goal.returns-clause-snapshots
returns-clause-snapshots c = snapshot_valid

pub returns-clause-files : goal.returns-clause-files
returns-clause-files c = files_valid

pub returns-clause-standing : goal.returns-clause-standing
returns-clause-standing c = standing_valid
