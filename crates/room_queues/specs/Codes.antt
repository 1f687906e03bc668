-- Codes of what waits, by which values are told apart.
use Rattle.std.specs.Coded.{Coded, codes, coded_ℕ}
use Rattle.std.specs.Ordering.{nat_cmp}
use Rattle.std.specs.FinMap as map
use Rattle.room_msg.specs.contracts.messages.ClientFrame as client
use Rattle.room_msg.specs.contracts.messages.ServerMsg as server
use Rattle.room_msg.specs.contracts.reason.Reason as reason
use Rattle.room_model.specs.Server.{Inbound, Outbound}
use Rattle.room_model.specs.World.{Conn}

pub inbound_code : Coded Inbound
inbound_code = Prim.hlevel (codes, client.the_row.coded, reason.the_row.coded)

pub outbound_code : Coded Outbound
outbound_code = Prim.hlevel (codes, server.the_row.coded)

pub conn_code : Coded Conn
conn_code = Prim.hlevel (codes, inbound_code, outbound_code)

pub conns_code : Coded (map.FinMap nat_cmp Conn)
conns_code = map.code coded_ℕ conn_code
