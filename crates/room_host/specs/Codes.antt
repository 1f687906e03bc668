-- A code of what a host is, by which values are told apart.
use Rattle.std.specs.Coded.{Coded, codes}
use Rattle.room_server.specs.Codes.{hosted_code}
use Rattle.room_host.specs.Seen.{Hosting}

pub hosting_code : Coded Hosting
hosting_code = Prim.hlevel (codes, hosted_code)
