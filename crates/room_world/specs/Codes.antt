-- A code of what a world is, by which values are told apart.
use Rattle.std.specs.Coded.{Coded, codes}
use Rattle.room_queues.specs.Codes.{conns_code}
use Rattle.room_slots.specs.Codes.{slots_code}
use Rattle.room_host.specs.Codes.{hosting_code}
use Rattle.room_world.specs.Seen.{Peopled}

pub peopled_code : Coded Peopled
peopled_code = Prim.hlevel (codes, conns_code, slots_code, hosting_code)
