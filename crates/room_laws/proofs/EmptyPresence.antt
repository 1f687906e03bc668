-- The frame of an empty presence fits.
use Rattle.std.proofs.Common.{◌≡◌, [], refl, arith}
use Rattle.std.specs.Fmt.{digits}
use Rattle.json.specs.Print.{escape_byte}
use Rattle.room_model.specs.Calls.{presence_size}
use Rattle.room_laws.specs.Accounts.{EmptyFits}

-- `[{"data":{},"targetActor":4294967295,"type":100}]`
empty_size : presence_size [] ≡ 49
unfolding escape_byte digits
empty_size = refl

pub empty_fits : EmptyFits
empty_fits = omega (arith, empty_size)
