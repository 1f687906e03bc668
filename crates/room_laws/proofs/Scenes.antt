-- Worlds whose server runs and whose maps are lists, and what each kind of line makes of them.
use Rattle.std.proofs.Common.{◌≡◌, ◌+◌, ℕ, Bool, true, false, List, [], ◌∷◌, ◌++◌, map, refl, ap, ◌∙◌}
use Rattle.std.specs.Prelude.{Option, Some, None, Ok, is_some}
use Rattle.std.specs.Ordering.{nat_cmp}
use Rattle.std.specs.FinMap.{FinMap, find, put}
use Rattle.room_log.specs.Log.{State}
use Rattle.room_model.specs.Calls as calls
use Rattle.room_model.specs.Calls.{Done, hello_of, dialled, edit, flushed, flush_frames, resent, resend_frames, go_back}
use Rattle.room_model.specs.Edits.{Edit}
use Rattle.room_msg.specs.declared.messages.ClientMsg.{ClientMsg}
use Rattle.room_model.specs.Server as Server
use Rattle.room_model.specs.Server.{Inbound, Link, opened_at, with_links}
use Rattle.room_model.specs.Lines as lines
use Rattle.room_model.specs.World as World
use Rattle.room_model.specs.World.{Conn, Slot, quiet, Running, Stopped, first_limits, room_name, slot_in, new_conn, inbound_frame}
use Rattle.room_laws.proofs.Listed.{M, get_M, insert_M, entries_M, sorted}

abbrev pub V : State → List (ℕ × Link) → Server.Server
V s ls = record { state = s; room = room_name; limits = first_limits; access = None; links = M ls }

abbrev pub W : State → List (ℕ × Link) → List (ℕ × Slot) → List (ℕ × Conn) → ℕ → World.World
W s ls cs qs n = record {
  host = Running (V s ls);
  limits = first_limits;
  fuse = None;
  clients = M cs;
  conns = M qs;
  opened = n;
}

module _ (s : State) (ls : List (ℕ × Link)) (cs : List (ℕ × Slot)) (qs : List (ℕ × Conn)) (n : ℕ) where
  -- clients

  abbrev pub slot_l : ℕ → Slot
  slot_l c = slot_in (find nat_cmp c cs)

  pub slot_is : (c : ℕ) → World.slot (W s ls cs qs n) c ≡ slot_l c
  slot_is c = ap slot_in (get_M cs c)

  pub with_slot_is : (c : ℕ) (p : Slot) → World.with_slot (W s ls cs qs n) c p ≡ W s ls (put nat_cmp c p cs) qs n
  with_slot_is c p = ap (λ (m : FinMap nat_cmp Slot). record (W s ls cs qs n) { clients = m }) (insert_M cs c p)

  pub with_conn_is : (k : ℕ) (q : Conn) → World.with_conn (W s ls cs qs n) k q ≡ W s ls cs (put nat_cmp k q qs) n
  with_conn_is k q = ap (λ (m : FinMap nat_cmp Conn). record (W s ls cs qs n) { conns = m }) (insert_M qs k q)

  -- sending

  abbrev pub sent_l : ℕ → List Inbound → Bool → Option Conn → List (ℕ × Conn)
  sent_l k us true (Some q) = put nat_cmp k (record q { inbound = q.inbound ++ us }) qs
  sent_l k us true None = qs
  sent_l k us false o = qs

  sent_is : (k : ℕ) (us : List Inbound) (b : Bool) (o : Option Conn)
      → World.inbounds_on (W s ls cs qs n) k us b o ≡ W s ls cs (sent_l k us b o) n
  sent_is k us true (Some q) = with_conn_is k (record q { inbound = q.inbound ++ us })
  sent_is k us true None = refl
  sent_is k us false o = refl

  abbrev pub send_l : ℕ → List Inbound → List (ℕ × Conn)
  send_l k us = sent_l k us (is_some (find nat_cmp k ls)) (find nat_cmp k qs)

  pub send_is : (k : ℕ) (us : List Inbound) → World.send_inbound (W s ls cs qs n) k us ≡ W s ls cs (send_l k us) n
  send_is k us =
      (λ i. World.inbounds_on (W s ls cs qs n) k us (is_some (get_M ls k i)) (get_M qs k i))
      ∙ sent_is k us (is_some (find nat_cmp k ls)) (find nat_cmp k qs)

  abbrev pub present_l : Option ℕ → List (List ClientMsg) → List (ℕ × Conn)
  present_l None frames = qs
  present_l (Some k) frames = send_l k (map inbound_frame frames)

  pub present_is : (o : Option ℕ) (frames : List (List ClientMsg))
      → World.send_present (W s ls cs qs n) o frames ≡ W s ls cs (present_l o frames) n
  present_is None frames = refl
  present_is (Some k) frames = send_is k (map inbound_frame frames)

  -- cutting

  abbrev pub cut_l : ℕ → Option Conn → List (ℕ × Conn)
  cut_l k None = qs
  cut_l k (Some q) = put nat_cmp k (record q { outbound = []; listens = false }) qs

  cut_is : (k : ℕ) (o : Option Conn) → World.cut_conn (M qs) k o ≡ M (cut_l k o)
  cut_is k None = refl
  cut_is k (Some q) = insert_M qs k (record q { outbound = []; listens = false })

  abbrev pub cut_present_l : Option ℕ → List (ℕ × Conn)
  cut_present_l None = qs
  cut_present_l (Some k) = cut_l k (find nat_cmp k qs)

  pub cut_present_is : (o : Option ℕ) → World.cut_present (W s ls cs qs n) o ≡ W s ls cs (cut_present_l o) n
  cut_present_is None = refl
  cut_present_is (Some k) = ap (λ (m : FinMap nat_cmp Conn). record (W s ls cs qs n) { conns = m })
      (ap (World.cut_conn (M qs) k) (get_M qs k) ∙ cut_is k (find nat_cmp k qs))

  -- opening

  abbrev pub opened_l : ℕ → Option Link → List (ℕ × Link)
  opened_l k None = put nat_cmp k (record { key = k; actor = None; fetched = false; decision = None }) ls
  opened_l k (Some l) = ls

  opened_is : (k : ℕ) (o : Option Link) → opened_at (V s ls) k k o ≡ V s (opened_l k o)
  opened_is k None = ap (with_links (V s ls)) (insert_M ls k (record { key = k; actor = None; fetched = false; decision = None }))
  opened_is k (Some l) = refl

  abbrev pub links_now : List (ℕ × Link)
  links_now = opened_l (n + 1) (find nat_cmp (n + 1) ls)

  abbrev pub conns_now : Option ℕ → List (ℕ × Conn)
  conns_now owner = put nat_cmp (n + 1) (new_conn owner) qs

  pub open_is : (owner : Option ℕ) → World.open_conn (W s ls cs qs n) owner ≡ W s links_now cs (conns_now owner) (n + 1)
  open_is owner = λ i. record {
    host = Running ((ap (opened_at (V s ls) (n + 1) (n + 1)) (get_M ls (n + 1)) ∙ opened_is (n + 1) (find nat_cmp (n + 1) ls)) i);
    limits = first_limits;
    fuse = None;
    clients = M cs;
    conns = insert_M qs (n + 1) (new_conn owner) i;
    opened = n + 1;
  }

-- what a dial makes of it

module _ (s : State) (ls : List (ℕ × Link)) (cs : List (ℕ × Slot)) (qs : List (ℕ × Conn)) (n : ℕ) (c : ℕ) where
  abbrev dialled_slot : Slot → Slot
  dialled_slot p = record { account = dialled p.account; present = Some (n + 1); noticed = p.noticed }

  abbrev hello_sent : Slot → List Inbound
  hello_sent p = inbound_frame (hello_of (dialled p.account)) ∷ []

  abbrev cut_first : Slot → List (ℕ × Conn)
  cut_first p = cut_present_l s ls cs qs n p.present

  abbrev opened_next : Slot → List (ℕ × Conn)
  opened_next p = conns_now s ls cs (cut_first p) n (Some c)

  abbrev pub dial_links : List (ℕ × Link)
  dial_links = links_now s ls cs qs n

  abbrev pub dial_clients : Slot → List (ℕ × Slot)
  dial_clients p = put nat_cmp c (dialled_slot p) cs

  abbrev pub dial_conns : Slot → List (ℕ × Conn)
  dial_conns p = send_l s dial_links (dial_clients p) (opened_next p) (n + 1) (n + 1) (hello_sent p)

  dial_slot_is : (p : Slot) → World.dial_slot (W s ls cs qs n) c p ≡ W s dial_links (dial_clients p) (dial_conns p) (n + 1)
  dial_slot_is p =
      ap (λ (w : World.World). World.send_inbound (World.with_slot (World.open_conn w (Some c)) c (dialled_slot p)) (n + 1) (hello_sent p))
      (cut_present_is s ls cs qs n p.present)
      ∙ ap (λ (w : World.World). World.send_inbound (World.with_slot w c (dialled_slot p)) (n + 1) (hello_sent p))
      (open_is s ls cs (cut_first p) n (Some c))
      ∙ ap (λ (w : World.World). World.send_inbound w (n + 1) (hello_sent p))
      (with_slot_is s dial_links cs (opened_next p) (n + 1) c (dialled_slot p))
      ∙ send_is s dial_links (dial_clients p) (opened_next p) (n + 1) (n + 1) (hello_sent p)

  pub dial_is : (line : ℕ) → World.step (W s ls cs qs n) line (lines.OfClient c lines.Dial)
      ≡ quiet (W s dial_links (dial_clients (slot_l s ls cs qs n c)) (dial_conns (slot_l s ls cs qs n c)) (n + 1))
  dial_is line =
      ap (λ (p : Slot). quiet (World.dial_slot (W s ls cs qs n) c p)) (slot_is s ls cs qs n c)
      ∙ ap quiet (dial_slot_is (slot_l s ls cs qs n c))

  -- a flush

  abbrev pub flush_clients : Slot → List (ℕ × Slot)
  flush_clients p = put nat_cmp c (World.with_account p (flushed p.account)) cs

  abbrev pub flush_conns : Slot → List (ℕ × Conn)
  flush_conns p = present_l s ls (flush_clients p) qs n p.present (flush_frames p.account)

  flush_slot_is : (line : ℕ) (p : Slot) → World.client_calls (W s ls cs qs n) line c p lines.Flush
      ≡ quiet (W s ls (flush_clients p) (flush_conns p) n)
  flush_slot_is line p =
      ap (λ (w : World.World). quiet (World.send_present w p.present (flush_frames p.account)))
      (with_slot_is s ls cs qs n c (World.with_account p (flushed p.account)))
      ∙ ap quiet (present_is s ls (flush_clients p) qs n p.present (flush_frames p.account))

  pub flush_is : (line : ℕ) → World.step (W s ls cs qs n) line (lines.OfClient c lines.Flush)
      ≡ quiet (W s ls (flush_clients (slot_l s ls cs qs n c)) (flush_conns (slot_l s ls cs qs n c)) n)
  flush_is line =
      ap (λ (p : Slot). World.client_calls (W s ls cs qs n) line c p lines.Flush) (slot_is s ls cs qs n c)
      ∙ flush_slot_is line (slot_l s ls cs qs n c)

  -- a resend

  abbrev pub resend_clients : Slot → List (ℕ × Slot)
  resend_clients p = put nat_cmp c (World.with_account p (resent p.account)) cs

  abbrev pub resend_conns : Slot → List (ℕ × Conn)
  resend_conns p = present_l s ls (resend_clients p) qs n p.present (resend_frames p.account)

  resend_slot_is : (line : ℕ) (p : Slot) → World.client_calls (W s ls cs qs n) line c p lines.Resend
      ≡ quiet (W s ls (resend_clients p) (resend_conns p) n)
  resend_slot_is line p =
      ap (λ (w : World.World). quiet (World.send_present w p.present (resend_frames p.account)))
      (with_slot_is s ls cs qs n c (World.with_account p (resent p.account)))
      ∙ ap quiet (present_is s ls (resend_clients p) qs n p.present (resend_frames p.account))

  pub resend_is : (line : ℕ) → World.step (W s ls cs qs n) line (lines.OfClient c lines.Resend)
      ≡ quiet (W s ls (resend_clients (slot_l s ls cs qs n c)) (resend_conns (slot_l s ls cs qs n c)) n)
  resend_is line =
      ap (λ (p : Slot). World.client_calls (W s ls cs qs n) line c p lines.Resend) (slot_is s ls cs qs n c)
      ∙ resend_slot_is line (slot_l s ls cs qs n c)

  -- an edit

  abbrev pub edit_clients : Slot → Done → List (ℕ × Slot)
  edit_clients p out = put nat_cmp c (record { account = out.account; present = p.present; noticed = out.notices }) cs

  pub edit_is : (line : ℕ) (e : Edit) (out : Done) → edit (slot_l s ls cs qs n c).account e ≡ Ok out
      → World.step (W s ls cs qs n) line (lines.OfClient c (lines.Edits e))
      ≡ record (quiet (W s ls (edit_clients (slot_l s ls cs qs n c) out) qs n)) { issues = World.issued_by c out.issues }
  edit_is line e out h =
      ap (λ (p : Slot). World.client_calls (W s ls cs qs n) line c p (lines.Edits e)) (slot_is s ls cs qs n c)
      ∙ ap (World.edit_out (W s ls cs qs n) line c (slot_l s ls cs qs n c)) h
      ∙ ap (λ (w : World.World). record (quiet w) { issues = World.issued_by c out.issues })
      (with_slot_is s ls cs qs n c (record { account = out.account; present = (slot_l s ls cs qs n c).present; noticed = out.notices }))

  -- an undo

  pub undo_is : (line : ℕ) (out : Done) → go_back calls.Undo (slot_l s ls cs qs n c).account ≡ Ok (Some out)
      → World.step (W s ls cs qs n) line (lines.OfClient c lines.Undo)
      ≡ record (quiet (W s ls (edit_clients (slot_l s ls cs qs n c) out) qs n)) { issues = World.issued_by c out.issues }
  undo_is line out h =
      ap (λ (p : Slot). World.client_calls (W s ls cs qs n) line c p lines.Undo) (slot_is s ls cs qs n c)
      ∙ ap (World.back_out (W s ls cs qs n) line c (slot_l s ls cs qs n c)) h
      ∙ ap (λ (w : World.World). record (quiet w) { issues = World.issued_by c out.issues })
      (with_slot_is s ls cs qs n c (record { account = out.account; present = (slot_l s ls cs qs n c).present; noticed = out.notices }))

-- a stop and a start

abbrev pub stopped_conns : List (ℕ × Conn) → List (ℕ × Conn)
stopped_conns qs = map World.emptied_conn (sorted qs)

abbrev pub stopped_world : State → List (ℕ × Slot) → List (ℕ × Conn) → ℕ → World.World
stopped_world s cs qs n = record {
  host = Stopped s;
  limits = first_limits;
  fuse = None;
  clients = M cs;
  conns = M (stopped_conns qs);
  opened = n;
}

pub stop_is : (s : State) (ls : List (ℕ × Link)) (cs : List (ℕ × Slot)) (qs : List (ℕ × Conn)) (n line : ℕ)
    → World.step (W s ls cs qs n) line (lines.OfServer lines.Stop) ≡ quiet (stopped_world s cs qs n)
stop_is s ls cs qs n line =
    ap (λ (es : List (ℕ × Conn)). quiet (record {
      host = Stopped s;
      limits = first_limits;
      fuse = None;
      clients = M cs;
      conns = M (map World.emptied_conn es);
      opened = n;
    })) (entries_M qs)

pub start_is : (s : State) (cs : List (ℕ × Slot)) (qs : List (ℕ × Conn)) (n line : ℕ)
    → World.step (stopped_world s cs qs n) line (lines.OfServer lines.Start)
    ≡ World.saying (W s [] cs (stopped_conns qs) n) (lines.start_line s ∷ [])
start_is s cs qs n line = refl
