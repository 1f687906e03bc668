-- What waits for clients and links is read as it was sent.
use Rattle.std.proofs.Common.{List, [], ◌∷◌, arith}
use Rattle.room_msg.specs.Laws.{IsServed, IsServerInRange}
use Rattle.room_msg.proofs.Framed.{server_frames}
use Rattle.room_msg.specs.declared.messages.ServerMsg.{ServerMsg}
use Rattle.room_msg.specs.declared.messages.ServerMsg.TheVariants as server
use Rattle.room_model.specs.Server.{Outbound, Pong, Message, Closed}
use Rattle.room_queues.specs.Laws.{FitsFrame}
use Rattle.room_queues.proofs.Depths.{fits_depth}
use Rattle.room_laws.specs.Accounts.{IsValidServerMsg}
use Rattle.room_laws.specs.Validity.{AreSoundOutbounds}
use Rattle.room_laws.proofs.EveryRun.{every_world}
use Rattle.room_reread.specs.Laws.{AreOutRead, ValidIsRead, WaitingIsRead}
use Rattle.room_reread.proofs.Frames.{ops_range}
use Rattle.room_reread.proofs.Jsons.{server_json}

served : (m : ServerMsg) → IsValidServerMsg m → IsServed m
served (server.Presence a target patch) h = h.2
served (server.Joined a) h = tt
served (server.Left a) h = tt
served (server.Broadcast a e) h = tt
served (server.RoomState a key users) h = (h.0, h.3)
served (server.State seq last items more) h = (h.0, h.1)
served (server.Update seq os) h = h.0

ranged : (m : ServerMsg) → IsValidServerMsg m → IsServerInRange m
ranged (server.Presence a target patch) h = h.0
ranged (server.Joined a) h = h
ranged (server.Left a) h = h
ranged (server.Broadcast a e) h = h.0
ranged (server.RoomState a key users) h = (h.1, omega (arith, h.2), h.4)
ranged (server.State seq last items more) h = tt
ranged (server.Update seq os) h = ops_range os h.1

fits : (m : ServerMsg) → IsValidServerMsg m → FitsFrame m
fits (server.Presence a target patch) h = h.3
fits (server.Joined a) h = tt
fits (server.Left a) h = tt
fits (server.Broadcast a e) h = h.2
fits (server.RoomState a key users) h = tt
fits (server.State seq last items more) h = omega (arith, h.2.shallow)
fits (server.Update seq os) h = h.2

pub valid_read : ValidIsRead
valid_read m h = server_frames m (served m h) (ranged m h) (server_json m h) (fits_depth m (fits m h))

outs_read : (ms : List Outbound) → AreSoundOutbounds ms → AreOutRead ms
outs_read [] h = tt
outs_read (Pong ∷ ms) h = (tt, outs_read ms h.1)
outs_read (Message m ∷ ms) h = (valid_read m h.0, outs_read ms h.1)
outs_read (Closed code text ∷ ms) h = (tt, outs_read ms h.1)

pub waiting_read : WaitingIsRead
waiting_read s ls k h l = outs_read _ ((every_world s ls h l).conns k).outbound

pub ruleset waiting = (valid_read, waiting_read)
