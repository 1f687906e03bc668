-- What a command wants of the outside.
use Rattle.std.specs.Prelude.{Bool, false, List, map, Option, Some, None, option_and_then}
use Rattle.std.specs.Prelude.{String, string_bytes}
use Rattle.std.specs.Global.{Global}
use Rattle.room_words.specs.Words.{Text, Told, folder_of, address_of, file_of, serves, command_of}

abbrev pub Words : Type 0
Words = List (String Global)

abbrev pub told_by : Words → Option Told
told_by words = command_of (map string_bytes words)

abbrev pub folder_in : Words → Option Text
folder_in words = option_and_then folder_of (told_by words)

abbrev pub address_in : Words → Option Text
address_in words = option_and_then address_of (told_by words)

abbrev pub file_in : Words → Option Text
file_in words = option_and_then file_of (told_by words)

abbrev pub serves_by : Option Told → Bool
serves_by None = false
serves_by (Some t) = serves t

abbrev pub serves_in : Words → Bool
serves_in words = serves_by (told_by words)
