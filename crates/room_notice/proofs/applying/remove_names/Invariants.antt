use Rattle.std.proofs.Common.{◌≡◌, drop}
use Rattle.room_model.specs.Notices.{without_names}
use Rattle.room_notice.proofs.applying.remove_names.Given as goal

abbrev pub invariant-loop-name : goal.invariant-loop-name
invariant-loop-name l = without_names (drop l.name-index l.names) l.members ≡ without_names l.names l.initial.members
