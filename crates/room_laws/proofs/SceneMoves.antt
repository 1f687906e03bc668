-- Runs whose worlds are lists: what several lines make of them.
use Rattle.std.proofs.Common.{◌≡◌, ◌+◌, ℕ, Bool, true, ◌&&◌, List, [], ◌∷◌, ◌++◌, refl, ap, ◌∙◌}
use Rattle.std.specs.Prelude.{Option, Some, Result, Ok, ⊤, is_some}
use Rattle.std.specs.Ordering.{nat_cmp}
use Rattle.std.specs.FinMap.{get, find, put}
use Rattle.room_json.specs.Value.{Value}
use Rattle.room_ids.specs.declared.ids.NodeId.TheVariants.{Root}
use Rattle.room_nodes.specs.Shape.{Nodes}
use Rattle.room_nodes.specs.declared.nodes.Body.{Body}
use Rattle.room_items.specs.Items.{tree_in}
use Rattle.room_msg.specs.declared.messages.ClientMsg.{ClientMsg}
use Rattle.room_msg.specs.declared.messages.ServerMsg.{ServerMsg}
use Rattle.room_log.specs.Log.{State, Entry}
use Rattle.room_model.specs.Account.{Batch, shown}
use Rattle.room_model.specs.Calls as calls
use Rattle.room_model.specs.Calls.{Done, edit, edited, go_back}
use Rattle.room_nodes.specs.Reversal.{reverse_all}
use Rattle.room_model.specs.Receive.{Received, FrameFault, receive}
use Rattle.room_model.specs.Server.{Link}
use Rattle.room_model.specs.Lines as lines
use Rattle.room_model.specs.Lines.{Line}
use Rattle.room_model.specs.World as World
use Rattle.room_model.specs.World.{Conn, Slot, Stepped}
use Rattle.room_model.specs.Run.{Run, run, with_step}
use Rattle.room_laws.specs.Invariant.{conn, conn_in}
use Rattle.room_laws.specs.Sample.{numbered}
use Rattle.room_laws.proofs.Listed.{get_M}
use Rattle.room_laws.proofs.Scenes
use Rattle.room_laws.proofs.Scenes.{W}
use Rattle.room_laws.proofs.SceneUps
use Rattle.room_laws.proofs.SceneDowns
use Rattle.room_laws.proofs.RootTrees.{root_with}
use Rattle.room_laws.proofs.SceneTests.{behind, body_of, done_is, done_of, edit_of, fetch_is, fetch_test, got_in}
use Rattle.room_laws.proofs.SceneTests.{is_done, is_message, is_ok, is_one, items_in, left, link_in, load_is}
use Rattle.room_laws.proofs.SceneTests.{load_test, loaded_of, make_is, make_test, message_is, msg_is, msg_test}
use Rattle.room_laws.proofs.SceneTests.{next_down, next_up, number_in, ok_is, one_is, right, some_conn, some_link}
use Rattle.room_laws.proofs.SceneTests.{some_number, undone_in}

-- a run whose server runs
pub record Scene : Type 0 where
  pub state : State
  pub links : List (ℕ × Link)
  pub clients : List (ℕ × Slot)
  pub conns : List (ℕ × Conn)
  pub opened : ℕ
  pub log : List Entry
  pub issued : List (ℕ × Batch)
  pub given : List (ℕ × Option ℕ)

abbrev pub R : Scene → Run
R x = record {
  world = W x.state x.links x.clients x.conns x.opened;
  log = x.log;
  issued = x.issued;
  given = x.given;
}

-- A move: one line, or a stop and a start. Where a tree is read from items or edited, it is told, and what takes the
-- edit back.
pub data Act : Type 0 where
  Dial : (client : ℕ) → Act
  Flush : (client : ℕ) → Act
  Resend : (client : ℕ) → Act
  Make : (client : ℕ) → (name : List ℕ) → (number : ℕ) → Nodes → (fields : List (List ℕ × Value)) → (back : List Body) → Act
  Undo : (client : ℕ) → Act
  Up : (conn : ℕ) → Act
  Fetch : (conn : ℕ) → Act
  Down : (conn : ℕ) → Act
  Load : (conn : ℕ) → Nodes → Act
  Restart : Act

abbrev pub lines_of : Act → List Line
lines_of (Dial c) = lines.OfClient c lines.Dial ∷ []
lines_of (Flush c) = lines.OfClient c lines.Flush ∷ []
lines_of (Resend c) = lines.OfClient c lines.Resend ∷ []
lines_of (Make c name n t fs back) = lines.OfClient c (lines.Edits (edit_of name n)) ∷ []
lines_of (Undo c) = lines.OfClient c lines.Undo ∷ []
lines_of (Up k) = lines.OfConnection k lines.Up ∷ []
lines_of (Fetch k) = lines.OfConnection k lines.Up ∷ []
lines_of (Down k) = lines.OfConnection k lines.Down ∷ []
lines_of (Load k t) = lines.OfConnection k lines.Down ∷ []
lines_of Restart = lines.OfServer lines.Stop ∷ lines.OfServer lines.Start ∷ []

abbrev pub all_lines : List Act → List Line
all_lines [] = []
all_lines (a ∷ acts) = lines_of a ++ all_lines acts

module _ (x : Scene) where
  abbrev conn_l : ℕ → Conn
  conn_l k = conn_in (find nat_cmp k x.conns)

  abbrev slot_x : ℕ → Slot
  slot_x c = World.slot_in (find nat_cmp c x.clients)

  abbrev up_msg : ℕ → ClientMsg
  up_msg k = next_up (conn_l k).inbound

  abbrev up_link : ℕ → Link
  up_link k = link_in (find nat_cmp k x.links)

  abbrev up_actor : ℕ → ℕ
  up_actor k = number_in (up_link k).actor

  abbrev acted : ℕ → SceneUps.Acted
  acted k = SceneUps.act_l x.state x.links k (up_link k) (up_actor k) (up_msg k)

  abbrev up_rest : ℕ → List (ℕ × Conn)
  up_rest k = put nat_cmp k (record (conn_l k) { inbound = behind (conn_l k).inbound }) x.conns

  abbrev up_scene : ℕ → SceneUps.Acted → Scene
  up_scene k a = record {
    state = a.state;
    links = a.links;
    clients = x.clients;
    conns = SceneUps.deliver_l (up_rest k) a.outs;
    opened = x.opened;
    log = x.log ++ World.entries_in a.entry;
    issued = x.issued ++ [];
    given = x.given ++ SceneUps.given_l x.links a.links (up_rest k) k;
  }

  abbrev down_client : ℕ → ℕ
  down_client k = number_in (conn_l k).owner

  abbrev down_msg : ℕ → ServerMsg
  down_msg k = next_down (conn_l k).outbound

  abbrev down_rest : ℕ → List (ℕ × Conn)
  down_rest k = put nat_cmp k (record (conn_l k) { outbound = behind (conn_l k).outbound }) x.conns

  abbrev down_scene : ℕ → ℕ → Received → Scene
  down_scene k c out = record {
    state = x.state;
    links = x.links;
    clients = SceneDowns.took_clients x.state x.links x.clients x.conns x.opened k c (slot_x c) out;
    conns = SceneDowns.took_conns x.state x.links x.clients x.conns x.opened k c (down_rest k) (slot_x c) out;
    opened = x.opened;
    log = x.log ++ [];
    issued = x.issued ++ [];
    given = x.given ++ [];
  }

  abbrev down_got : ℕ → ℕ → Received
  down_got k c = got_in (slot_x c).account (receive (slot_x c).account (down_msg k))

  abbrev down_loaded : ℕ → ℕ → Nodes → Received
  down_loaded k c t = loaded_of (slot_x c).account t (down_msg k)

  abbrev made_scene : ℕ → Done → Scene
  made_scene c out = record x {
    clients = Scenes.edit_clients x.state x.links x.clients x.conns x.opened c (slot_x c) out;
    log = x.log ++ [];
    issued = x.issued ++ World.issued_by c out.issues;
    given = x.given ++ [];
  }

  abbrev pub goes : Act → Scene
  goes (Dial c) = record {
    state = x.state;
    links = Scenes.dial_links x.state x.links x.clients x.conns x.opened c;
    clients = Scenes.dial_clients x.state x.links x.clients x.conns x.opened c (slot_x c);
    conns = Scenes.dial_conns x.state x.links x.clients x.conns x.opened c (slot_x c);
    opened = x.opened + 1;
    log = x.log ++ [];
    issued = x.issued ++ [];
    given = x.given ++ [];
  }
  goes (Flush c) = record x {
    clients = Scenes.flush_clients x.state x.links x.clients x.conns x.opened c (slot_x c);
    conns = Scenes.flush_conns x.state x.links x.clients x.conns x.opened c (slot_x c);
    log = x.log ++ [];
    issued = x.issued ++ [];
    given = x.given ++ [];
  }
  goes (Resend c) = record x {
    clients = Scenes.resend_clients x.state x.links x.clients x.conns x.opened c (slot_x c);
    conns = Scenes.resend_conns x.state x.links x.clients x.conns x.opened c (slot_x c);
    log = x.log ++ [];
    issued = x.issued ++ [];
    given = x.given ++ [];
  }
  goes (Make c name n t fs back) = made_scene c (done_of (slot_x c).account name n t back)
  goes (Undo c) = made_scene c (undone_in (slot_x c).account (go_back calls.Undo (slot_x c).account))
  goes (Up k) = up_scene k (acted k)
  goes (Fetch k) = up_scene k (acted k)
  goes (Down k) = down_scene k (down_client k) (down_got k (down_client k))
  goes (Load k t) = down_scene k (down_client k) (down_loaded k (down_client k) t)
  goes Restart = record x {
    links = [];
    conns = Scenes.stopped_conns x.conns;
    log = (x.log ++ []) ++ [];
    issued = (x.issued ++ []) ++ [];
    given = (x.given ++ []) ++ [];
  }

  abbrev at_server : ℕ → Bool
  at_server k = is_some (find nat_cmp k x.conns) && (is_one (conn_l k).inbound && is_some (find nat_cmp k x.links))

  abbrev at_client : ℕ → Bool
  at_client k = is_some (find nat_cmp k x.conns) && (is_some (conn_l k).owner && is_message (conn_l k).outbound)

  abbrev receives : ℕ → Result Received FrameFault
  receives k = receive (slot_x (down_client k)).account (down_msg k)

  abbrev loads : ℕ → Bool
  loads k = load_test (slot_x (down_client k)).account (down_msg k)

  -- what it asks for
  abbrev pub May : Act → Type 0
  May (Dial c) = ⊤
  May (Flush c) = ⊤
  May (Resend c) = ⊤
  May (Make c name n t fs back) =
      (make_test (slot_x c).account name n ≡ true) × (shown (slot_x c).account ≡ Some t) × (get t Root ≡ Some (root_with fs))
      × (reverse_all t (body_of name n ∷ []) ≡ back)
  May (Undo c) = is_done (go_back calls.Undo (slot_x c).account) ≡ true
  May (Up k) = (at_server k && msg_test x.state (up_link k) (up_msg k)) ≡ true
  May (Fetch k) = ((at_server k && fetch_test (up_link k) (up_msg k)) ≡ true) × SceneUps.OnePart x.state
  May (Down k) = (at_client k && is_ok (receives k)) ≡ true
  May (Load k t) = ((at_client k && loads k) ≡ true) × (tree_in (items_in (down_msg k)) ≡ Some t)
  May Restart = ⊤

  -- the part of it that computes
  abbrev test : Act → Bool
  test (Dial c) = true
  test (Flush c) = true
  test (Resend c) = true
  test (Make c name n t fs back) = make_test (slot_x c).account name n
  test (Undo c) = is_done (go_back calls.Undo (slot_x c).account)
  test (Up k) = at_server k && msg_test x.state (up_link k) (up_msg k)
  test (Fetch k) = at_server k && fetch_test (up_link k) (up_msg k)
  test (Down k) = at_client k && is_ok (receives k)
  test (Load k t) = at_client k && loads k
  test Restart = true

  abbrev then : Stepped → Run
  then out = with_step (R x) out

  up_by : (k n : ℕ) → at_server k ≡ true → SceneUps.MayAct x.state (up_link k) (up_actor k) (up_msg k)
      → run (R x) (numbered n (lines.OfConnection k lines.Up ∷ [])) ≡ R (up_scene k (acted k))
  up_by k n h may =
      let some = is_one (conn_l k).inbound && is_some (find nat_cmp k x.links) in
      let rest : some ≡ true = right (is_some (find nat_cmp k x.conns)) some h in
      ap then (SceneUps.up_is x.state x.links x.clients x.conns x.opened k n (conn_l k) (up_msg k) (behind (conn_l k).inbound)
      (up_link k) (up_actor k)
      (some_conn (find nat_cmp k x.conns) (left (is_some (find nat_cmp k x.conns)) some h))
      (one_is (conn_l k).inbound (left (is_one (conn_l k).inbound) (is_some (find nat_cmp k x.links)) rest))
      (some_link (find nat_cmp k x.links) (right (is_one (conn_l k).inbound) (is_some (find nat_cmp k x.links)) rest)) may)

  down_by : (k n : ℕ) (out : Received) → at_client k ≡ true → receives k ≡ Ok out
      → run (R x) (numbered n (lines.OfConnection k lines.Down ∷ [])) ≡ R (down_scene k (down_client k) out)
  down_by k n out h takes =
      let some = is_some (conn_l k).owner && is_message (conn_l k).outbound in
      let rest : some ≡ true = right (is_some (find nat_cmp k x.conns)) some h in
      ap then (SceneDowns.down_is x.state x.links x.clients x.conns x.opened k (down_client k) n (conn_l k) (down_msg k)
      (behind (conn_l k).outbound) out
      (some_conn (find nat_cmp k x.conns) (left (is_some (find nat_cmp k x.conns)) some h))
      (some_number (conn_l k).owner (left (is_some (conn_l k).owner) (is_message (conn_l k).outbound) rest))
      (message_is (conn_l k).outbound (right (is_some (conn_l k).owner) (is_message (conn_l k).outbound) rest)) takes)

  pub went : (a : Act) (n : ℕ) → May a → run (R x) (numbered n (lines_of a)) ≡ R (goes a)
  went (Dial c) n h = ap then (Scenes.dial_is x.state x.links x.clients x.conns x.opened c n)
  went (Flush c) n h = ap then (Scenes.flush_is x.state x.links x.clients x.conns x.opened c n)
  went (Resend c) n h = ap then (Scenes.resend_is x.state x.links x.clients x.conns x.opened c n)
  went (Make c name m t fs back) n h =
      ap then (Scenes.edit_is x.state x.links x.clients x.conns x.opened c n (edit_of name m) (done_of (slot_x c).account name m t back)
      (make_is (slot_x c).account name m t fs back h.0 h.1 h.2 h.3))
  went (Undo c) n h =
      ap then (Scenes.undo_is x.state x.links x.clients x.conns x.opened c n
      (undone_in (slot_x c).account (go_back calls.Undo (slot_x c).account))
      (done_is (slot_x c).account (go_back calls.Undo (slot_x c).account) h))
  went (Up k) n h =
      up_by k n (left (at_server k) (msg_test x.state (up_link k) (up_msg k)) h)
      (msg_is x.state (up_link k) (up_msg k) (right (at_server k) (msg_test x.state (up_link k) (up_msg k)) h))
  went (Fetch k) n h =
      up_by k n (left (at_server k) (fetch_test (up_link k) (up_msg k)) h.0)
      (fetch_is x.state (up_link k) (up_msg k) (right (at_server k) (fetch_test (up_link k) (up_msg k)) h.0) h.1)
  went (Down k) n h =
      down_by k n (down_got k (down_client k)) (left (at_client k) (is_ok (receives k)) h)
      (ok_is (slot_x (down_client k)).account (receives k) (right (at_client k) (is_ok (receives k)) h))
  went (Load k t) n h =
      down_by k n (down_loaded k (down_client k) t) (left (at_client k) (loads k) h.0)
      (load_is (slot_x (down_client k)).account (down_msg k) t (right (at_client k) (loads k) h.0) h.1)
  went Restart n h =
      ap (λ (out : Stepped). with_step (then out) (World.step (then out).world (n + 1) (lines.OfServer lines.Start)))
      (Scenes.stop_is x.state x.links x.clients x.conns x.opened n)

  -- the batches that an edit and an undo issue

  pub make_issues : (c : ℕ) (name : List ℕ) (m n : ℕ) (t : Nodes) (fs : List (List ℕ × Value)) (back : List Body)
      → May (Make c name m t fs back)
      → (World.step (R x).world n (lines.OfClient c (lines.Edits (edit_of name m)))).issues
      ≡ World.issued_by c (done_of (slot_x c).account name m t back).issues
  make_issues c name m n t fs back h =
      ap (λ (out : Stepped). out.issues) (Scenes.edit_is x.state x.links x.clients x.conns x.opened c n (edit_of name m)
      (done_of (slot_x c).account name m t back) (make_is (slot_x c).account name m t fs back h.0 h.1 h.2 h.3))

  pub undo_issues : (c n : ℕ) → May (Undo c)
      → (World.step (R x).world n (lines.OfClient c lines.Undo)).issues
      ≡ World.issued_by c (undone_in (slot_x c).account (go_back calls.Undo (slot_x c).account)).issues
  undo_issues c n h =
      ap (λ (out : Stepped). out.issues) (Scenes.undo_is x.state x.links x.clients x.conns x.opened c n
      (undone_in (slot_x c).account (go_back calls.Undo (slot_x c).account))
      (done_is (slot_x c).account (go_back calls.Undo (slot_x c).account) h))

-- several

abbrev pub all_go : Scene → List Act → Scene
all_go x [] = x
all_go x (a ∷ acts) = all_go (goes x a) acts

abbrev pub AllMay : Scene → List Act → Type 0
AllMay x [] = ⊤
AllMay x (a ∷ acts) = May x a × AllMay (goes x a) acts

-- the same as one test, and what is told of trees

abbrev pub tests : Scene → List Act → Bool
tests x [] = true
tests x (a ∷ acts) = test x a && tests (goes x a) acts

abbrev pub AllTold : Scene → List Act → Type 0
AllTold x [] = ⊤
AllTold x (Dial c ∷ acts) = AllTold (goes x (Dial c)) acts
AllTold x (Flush c ∷ acts) = AllTold (goes x (Flush c)) acts
AllTold x (Resend c ∷ acts) = AllTold (goes x (Resend c)) acts
AllTold x (Make c name n t fs back ∷ acts) =
    ((shown (slot_x x c).account ≡ Some t) × (get t Root ≡ Some (root_with fs)) × (reverse_all t (body_of name n ∷ []) ≡ back))
    × AllTold (goes x (Make c name n t fs back)) acts
AllTold x (Undo c ∷ acts) = AllTold (goes x (Undo c)) acts
AllTold x (Up k ∷ acts) = AllTold (goes x (Up k)) acts
AllTold x (Fetch k ∷ acts) = SceneUps.OnePart x.state × AllTold (goes x (Fetch k)) acts
AllTold x (Down k ∷ acts) = AllTold (goes x (Down k)) acts
AllTold x (Load k t ∷ acts) = (tree_in (items_in (down_msg x k)) ≡ Some t) × AllTold (goes x (Load k t)) acts
AllTold x (Restart ∷ acts) = AllTold (goes x Restart) acts

pub all_may : (x : Scene) (acts : List Act) → tests x acts ≡ true → AllTold x acts → AllMay x acts
all_may x [] h k = tt
all_may x (Dial c ∷ acts) h k = (tt, all_may (goes x (Dial c)) acts h k)
all_may x (Flush c ∷ acts) h k = (tt, all_may (goes x (Flush c)) acts h k)
all_may x (Resend c ∷ acts) h k = (tt, all_may (goes x (Resend c)) acts h k)
all_may x (Make c name n t fs back ∷ acts) h k =
    let a = Make c name n t fs back in
    let rest = tests (goes x a) acts in
    ((left (test x a) rest h, k.0.0, k.0.1, k.0.2), all_may (goes x a) acts (right (test x a) rest h) k.1)
all_may x (Undo c ∷ acts) h k =
    let rest = tests (goes x (Undo c)) acts in
    (left (test x (Undo c)) rest h, all_may (goes x (Undo c)) acts (right (test x (Undo c)) rest h) k)
all_may x (Up j ∷ acts) h k =
    let rest = tests (goes x (Up j)) acts in
    (left (test x (Up j)) rest h, all_may (goes x (Up j)) acts (right (test x (Up j)) rest h) k)
all_may x (Fetch j ∷ acts) h k =
    let rest = tests (goes x (Fetch j)) acts in
    ((left (test x (Fetch j)) rest h, k.0), all_may (goes x (Fetch j)) acts (right (test x (Fetch j)) rest h) k.1)
all_may x (Down j ∷ acts) h k =
    let rest = tests (goes x (Down j)) acts in
    (left (test x (Down j)) rest h, all_may (goes x (Down j)) acts (right (test x (Down j)) rest h) k)
all_may x (Load j t ∷ acts) h k =
    let rest = tests (goes x (Load j t)) acts in
    ((left (test x (Load j t)) rest h, k.0), all_may (goes x (Load j t)) acts (right (test x (Load j t)) rest h) k.1)
all_may x (Restart ∷ acts) h k = (tt, all_may (goes x Restart) acts h k)

module _ (x : Scene) (acts : List Act) where
  -- behind one line, and behind two
  one : (n : ℕ) (l : Line) (y : Scene) → run (R x) (numbered n (l ∷ [])) ≡ R y
      → run (R y) (numbered (n + 1) (all_lines acts)) ≡ R (all_go y acts)
      → run (R x) (numbered n (l ∷ all_lines acts)) ≡ R (all_go y acts)
  one n l y e h = ap (λ (r : Run). run r (numbered (n + 1) (all_lines acts))) e ∙ h

  two : (n : ℕ) (k l : Line) (y : Scene) → run (R x) (numbered n (k ∷ l ∷ [])) ≡ R y
      → run (R y) (numbered (n + 1 + 1) (all_lines acts)) ≡ R (all_go y acts)
      → run (R x) (numbered n (k ∷ l ∷ all_lines acts)) ≡ R (all_go y acts)
  two n k l y e h = ap (λ (r : Run). run r (numbered (n + 1 + 1) (all_lines acts))) e ∙ h

pub all_went : (x : Scene) (acts : List Act) (n : ℕ) → AllMay x acts → run (R x) (numbered n (all_lines acts)) ≡ R (all_go x acts)
all_went x [] n h = refl
all_went x (Dial c ∷ acts) n h =
    one x acts n (lines.OfClient c lines.Dial) (goes x (Dial c)) (went x (Dial c) n h.0) (all_went (goes x (Dial c)) acts (n + 1) h.1)
all_went x (Flush c ∷ acts) n h =
    one x acts n (lines.OfClient c lines.Flush) (goes x (Flush c)) (went x (Flush c) n h.0) (all_went (goes x (Flush c)) acts (n + 1) h.1)
all_went x (Resend c ∷ acts) n h =
    one x acts n (lines.OfClient c lines.Resend) (goes x (Resend c)) (went x (Resend c) n h.0) (all_went (goes x (Resend c)) acts (n + 1) h.1)
all_went x (Make c name m t fs back ∷ acts) n h =
    one x acts n (lines.OfClient c (lines.Edits (edit_of name m))) (goes x (Make c name m t fs back))
    (went x (Make c name m t fs back) n h.0) (all_went (goes x (Make c name m t fs back)) acts (n + 1) h.1)
all_went x (Undo c ∷ acts) n h =
    one x acts n (lines.OfClient c lines.Undo) (goes x (Undo c)) (went x (Undo c) n h.0) (all_went (goes x (Undo c)) acts (n + 1) h.1)
all_went x (Fetch k ∷ acts) n h =
    one x acts n (lines.OfConnection k lines.Up) (goes x (Fetch k)) (went x (Fetch k) n h.0) (all_went (goes x (Fetch k)) acts (n + 1) h.1)
all_went x (Up k ∷ acts) n h =
    one x acts n (lines.OfConnection k lines.Up) (goes x (Up k)) (went x (Up k) n h.0) (all_went (goes x (Up k)) acts (n + 1) h.1)
all_went x (Down k ∷ acts) n h =
    one x acts n (lines.OfConnection k lines.Down) (goes x (Down k)) (went x (Down k) n h.0) (all_went (goes x (Down k)) acts (n + 1) h.1)
all_went x (Load k t ∷ acts) n h =
    one x acts n (lines.OfConnection k lines.Down) (goes x (Load k t)) (went x (Load k t) n h.0) (all_went (goes x (Load k t)) acts (n + 1) h.1)
all_went x (Restart ∷ acts) n h =
    two x acts n (lines.OfServer lines.Stop) (lines.OfServer lines.Start) (goes x Restart) (went x Restart n h.0)
    (all_went (goes x Restart) acts (n + 1 + 1) h.1)

pub both_may : (x : Scene) (acts more : List Act) → AllMay x acts → AllMay (all_go x acts) more → AllMay x (acts ++ more)
both_may x [] more h k = k
both_may x (a ∷ acts) more h k = (h.0, both_may (goes x a) acts more h.1 k)

-- a client's account

pub account_is : (x : Scene) (c : ℕ) → World.account (R x).world c ≡ (World.slot_in (find nat_cmp c x.clients)).account
account_is x c = ap (λ (o : Option Slot). (World.slot_in o).account) (get_M x.clients c)

pub conn_is : (x : Scene) (k : ℕ) → conn (R x).world k ≡ conn_in (find nat_cmp k x.conns)
conn_is x k = ap conn_in (get_M x.conns k)
