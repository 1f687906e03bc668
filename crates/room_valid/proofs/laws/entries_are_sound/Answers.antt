use Rattle.room_valid.proofs.Entries.{entry_sound, group_sound}
use Rattle.room_valid.proofs.laws.entries_are_sound.Goals as goal

pub returns-clause-entries : goal.returns-clause-entries
returns-clause-entries c = entry_sound

pub returns-clause-groups : goal.returns-clause-groups
returns-clause-groups c = group_sound
