-- A code of what a server is, by which values are told apart.
use Rattle.std.specs.Coded.{Coded, codes}
use Rattle.room_links.specs.Links.{links_code}
use Rattle.room_store.specs.Codes.{stored_code}
use Rattle.room_server.specs.Hosted.{Hosted}

pub hosted_code : Coded Hosted
hosted_code = Prim.hlevel (codes, links_code, stored_code)
