-- What a command of the program says.
use Rattle.std.specs.Prelude.{option_map}
use Rattle.room_words.specs.Words.{Told, Served, Deed, Replay, Serve, Client, Show, Gen, Patch, Rooms, All, One}
use Rattle.room_words.specs.Words.{Listed, Created, Retired, Described}
use Rattle.room_words.specs.declared.command.Hosted.{Hosted}
use Rattle.room_words.specs.declared.command.Hosted.TheVariants as hosted
use Rattle.room_words.specs.declared.command.Deed.{Deed as Done}
use Rattle.room_words.specs.declared.command.Deed.TheVariants as done
use Rattle.room_words.specs.declared.command.Command.{Command}
use Rattle.room_words.specs.declared.command.Command.TheVariants as command

abbrev pub hosted_of : Hosted → Served
hosted_of hosted.All = All
hosted_of (hosted.One name) = One name.now

abbrev pub deed_of : Done → Deed
deed_of done.List = Listed
deed_of (done.Create name) = Created name.now
deed_of (done.Retire name) = Retired name.now
deed_of (done.Meta name) = Described name.now

abbrev pub told : Command → Told
told (command.Replay folder) = Replay (option_map (λ s. s.now) folder)
told (command.Serve folder rooms address turns guarded) = Serve folder.now (hosted_of rooms) address.now turns guarded
told (command.Client address room) = Client address.now room.now
told (command.Show folder) = Show folder.now
told (command.Gen number count) = Gen number count
told (command.Patch folder) = Patch folder.now
told (command.Rooms file deed) = Rooms file.now (deed_of deed)
