-- What a client makes of a message that comes down, where the world's maps are lists.
use Rattle.std.proofs.Common.{◌≡◌, ℕ, List, ◌∷◌, map, ap, ◌∙◌}
use Rattle.std.specs.Prelude.{Some, Ok}
use Rattle.std.specs.Ordering.{nat_cmp}
use Rattle.std.specs.FinMap.{find, put}
use Rattle.room_msg.specs.declared.messages.ServerMsg.{ServerMsg}
use Rattle.room_log.specs.Log.{State}
use Rattle.room_model.specs.Receive
use Rattle.room_model.specs.Receive.{Received, receive}
use Rattle.room_model.specs.Server.{Outbound, Message, Link}
use Rattle.room_model.specs.Lines as lines
use Rattle.room_model.specs.World as World
use Rattle.room_model.specs.World.{Conn, Slot, Stepped, inbound_frame}
use Rattle.room_laws.proofs.Listed.{get_M}
use Rattle.room_laws.proofs.Scenes.{W, slot_l, slot_is, with_slot_is, with_conn_is, send_l, send_is}
use Rattle.room_laws.proofs.Single.{receive_one}

module _ (s : State) (ls : List (ℕ × Link)) (cs : List (ℕ × Slot)) (qs : List (ℕ × Conn)) (n k c : ℕ) where
  abbrev taking : Slot → Received → Slot
  taking p out = record { account = out.account; present = p.present; noticed = out.notices }

  abbrev pub took_clients : Slot → Received → List (ℕ × Slot)
  took_clients p out = put nat_cmp c (taking p out) cs

  abbrev pub took_conns : List (ℕ × Conn) → Slot → Received → List (ℕ × Conn)
  took_conns rest p out = send_l s ls (took_clients p out) rest n k (map inbound_frame out.replies)

  abbrev pub took_l : List (ℕ × Conn) → Slot → Received → Stepped
  took_l rest p out = World.saying (W s ls (took_clients p out) (took_conns rest p out) n) (lines.event_lines (Some c) out.events)

  took_is : (line : ℕ) (rest : List (ℕ × Conn)) (p : Slot) (out : Received)
      → World.frame_taken (W s ls cs rest n) line c k p (Ok out) ≡ took_l rest p out
  took_is line rest p out =
      ap (λ (w : World.World). World.saying (World.send_inbound w k (map inbound_frame out.replies)) (lines.event_lines (Some c) out.events))
      (with_slot_is s ls cs rest n c (taking p out))
      ∙ ap (λ (w : World.World). World.saying w (lines.event_lines (Some c) out.events))
      (send_is s ls (took_clients p out) rest n k (map inbound_frame out.replies))

  pub down_is : (line : ℕ) (q : Conn) (m : ServerMsg) (ms : List Outbound) (out : Received)
      → find nat_cmp k qs ≡ Some q → q.owner ≡ Some c → q.outbound ≡ Message m ∷ ms
      → receive (slot_l s ls cs qs n c).account m ≡ Ok out
      → World.step (W s ls cs qs n) line (lines.OfConnection k lines.Down)
      ≡ took_l (put nat_cmp k (record q { outbound = ms }) qs) (slot_l s ls cs qs n c) out
  down_is line q m ms out there owner first takes =
      ap (World.outbound_at (W s ls cs qs n) line k) (get_M qs k ∙ there)
      ∙ ap (World.outbound_from (W s ls cs qs n) line k q) first
      ∙ ap (World.owner_takes (World.with_conn (W s ls cs qs n) k (record q { outbound = ms })) line k (Message m)) owner
      ∙ ap (λ (w : World.World). World.client_takes w line c k (World.slot w c) (Message m)) (with_conn_is s ls cs qs n k (record q { outbound = ms }))
      ∙ ap (λ (p : Slot). World.client_takes (W s ls cs (put nat_cmp k (record q { outbound = ms }) qs) n) line c k p (Message m))
      (slot_is s ls cs (put nat_cmp k (record q { outbound = ms }) qs) n c)
      ∙ ap (World.frame_taken (W s ls cs (put nat_cmp k (record q { outbound = ms }) qs) n) line c k (slot_l s ls cs qs n c))
      (receive_one (slot_l s ls cs qs n c).account m ∙ ap (Receive.or_lost (slot_l s ls cs qs n c).account) takes)
      ∙ took_is line (put nat_cmp k (record q { outbound = ms }) qs) (slot_l s ls cs qs n c) out
