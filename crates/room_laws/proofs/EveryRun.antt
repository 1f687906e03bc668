-- The laws of every run, from the parts that they were shown from.
use Rattle.room_items.proofs.Spells.{trees_again}
use Rattle.room_steps.proofs.Undoing.{undo_restores}
use Rattle.room_laws.specs.Accounts.{KeepsSound}
use Rattle.room_laws.specs.Alone.{AlwaysAlone}
use Rattle.room_laws.specs.Always.{AlwaysOnce, AlwaysServed, AlwaysShows, AlwaysTaken, AlwaysUndo, AlwaysUndone}
use Rattle.room_laws.specs.Growth.{LogGrows}
use Rattle.room_laws.specs.Moments.{AtEveryMoment}
use Rattle.room_laws.specs.Validity.{ReadableRun, SoundAccounts, SoundWorlds, ValidRun}
use Rattle.room_laws.proofs.AloneRuns.{always_alone}
use Rattle.room_laws.proofs.Always.{always_once, always_served, always_shows, always_taken}
use Rattle.room_laws.proofs.EmptyPresence.{empty_fits}
use Rattle.room_laws.proofs.Growth.{log_grows}
use Rattle.room_laws.proofs.Moments.{at_every_moment}
use Rattle.room_laws.proofs.SoundAccounts.{keeps_sound}
use Rattle.room_laws.proofs.StateItems.{items_of_valid, trees_valid}
use Rattle.room_laws.proofs.Undo.{always_undo, always_undone}
use Rattle.room_laws.proofs.ValidRuns as valid

pub every_account : KeepsSound
every_account = keeps_sound trees_valid empty_fits

pub every_log : ValidRun
every_log = valid.valid_run every_account items_of_valid

pub every_sound : SoundAccounts
every_sound = valid.sound_accounts every_account items_of_valid

pub every_world : SoundWorlds
every_world = valid.sound_worlds every_account items_of_valid

pub every_growth : LogGrows
every_growth = log_grows every_account items_of_valid

readable : ReadableRun
readable = valid.readable_run trees_again every_log

pub every_shows : AlwaysShows
every_shows = always_shows readable

pub every_once : AlwaysOnce
every_once = always_once readable

pub every_taken : AlwaysTaken
every_taken = always_taken readable

pub every_served : AlwaysServed
every_served = always_served readable

pub every_undone : AlwaysUndone
every_undone = always_undone readable every_log every_sound every_account undo_restores

pub every_undo : AlwaysUndo
every_undo = always_undo readable every_log every_sound every_account undo_restores

pub every_moment : AtEveryMoment
every_moment = at_every_moment readable

pub every_alone : AlwaysAlone
every_alone = always_alone every_sound
