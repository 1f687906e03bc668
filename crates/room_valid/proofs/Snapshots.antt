-- The state that a snapshot is read as is valid.
use Rattle.std.proofs.Common.{◌≡◌, ◌<◌, ◌≤◌, ◌-◌, ℕ, true, ◌&&◌, nat_eq, nat_le, List, [], ◌∷◌, ◌++◌}
use Rattle.std.proofs.Common.{flat_map, length, Option, Some, None, IsUtf8, refl, sym, subst, arith}
use Rattle.std.specs.FinMap.{get}
use Rattle.std.specs.List.{AllByRecursion}
use Rattle.std.proofs.lemmas.Str.{IsUtf8-nil}
use Rattle.room_ids.specs.Laws.{IsNodeInRange}
use Rattle.room_ids.specs.declared.ids.NodeId.{NodeId}
use Rattle.room_ids.specs.declared.ids.NodeId.TheVariants.{Root, Made}
use Rattle.room_nodes.specs.Preorder.{preorder}
use Rattle.room_nodes.specs.Shape.{Nodes, IsFormed}
use Rattle.room_nodes.specs.Sound.{IsSoundNode, IsSoundTree}
use Rattle.room_nodes.specs.declared.nodes.Node.{Node}
use Rattle.room_nodes.specs.declared.nodes.Kind.{Kind}
use Rattle.room_nodes.specs.declared.nodes.Kind.TheVariants.{Object, List as Listed, Map, Register}
use Rattle.room_items.specs.Items.{kind_number}
use Rattle.room_log.specs.Log.{Session, State}
use Rattle.room_log.specs.Follows.{most, most_actor, IsKey, AreValidSessions, IsValidState}
use Rattle.room_bytes.specs.declared.entries.Format.{Format}
use Rattle.room_bytes.specs.Reading.{u32_at, u64_at, byte_at, id_at, text_at, name_at, json_at, fields_at}
use Rattle.room_bytes.specs.Reading.{each_at}
use Rattle.room_bytes.specs.Spelling.{u32_bytes, u64_bytes, text_bytes, id_bytes, kind_bytes, name_bytes}
use Rattle.room_bytes.proofs.Once.{ended_is}
use Rattle.room_bytes.proofs.Parts.{true_le}
use Rattle.room_snapshot.specs.Bounds.{all_by, is_session, is_name, is_shallow_at, is_within}
use Rattle.room_snapshot.specs.Reading.{session_at, content_at, kind_at, root_at, row_at, rooted, tree_at, sessions_at}
use Rattle.room_snapshot.specs.Reading.{parts_at, behind_if, checked, snapshot_of}
use Rattle.room_snapshot.specs.Spelling.{session_bytes, place_bytes, node_bytes, bytes_there, bytes_at, tree_bytes}
use Rattle.room_snapshot.specs.Spelling.{sessions_bytes, snapshot_bytes}
use Rattle.room_snapshot.proofs.Listed.{shallow_all}
use Rattle.room_snapshot.proofs.Once.{snapshots_once}
use Rattle.room_valid.proofs.Lows.{AreLow, low_append, low_front, low_behind, low_flat, low_u32}
use Rattle.room_valid.proofs.Lows.{low_text}
use Rattle.room_valid.proofs.Options.{both, by_cond, kept, same}
use Rattle.room_valid.proofs.Parts.{Reads, then, u32_reads, u64_reads, byte_left, text_reads, id_reads, low_id}
use Rattle.room_valid.proofs.Parts.{json_reads, each_reads, fields_reads, name_reads, Holds, object_reads}
use Rattle.room_valid.proofs.Parts.{register_reads}
use Rattle.room_valid.proofs.Parts.{plain_reads}
use Rattle.room_valid.proofs.Rooted.{AllNodes, at_depth, rooted_formed, rooted_all}

-- sessions

abbrev IsSession : Session → Type 0
IsSession s = IsKey s.key × IsUtf8 s.name

session_reads : (f : Format) (bytes : List ℕ) (p : Session × List ℕ) → session_at f bytes ≡ Some p
    → Reads (session_bytes f) IsSession bytes p
unfolding session_at session_bytes
session_reads f bytes p e =
    then _ (u64_at bytes) _ p (λ key is e.
    then _ (u64_at key.1) _ p (λ last got e.
    then _ (name_at f last.1) _ p (λ name named e.
    let a = u64_reads bytes key is in
    let b = u64_reads key.1 last got in
    let c = name_reads f last.1 name named in
    same (Reads (session_bytes f) IsSession bytes)
    (record { key = key.0; last = last.0; name = name.0 }, name.1) p
    (record {
      low = low_append (u64_bytes key.0) (u64_bytes last.0 ++ name_bytes f name.0) a.low
          (low_append (u64_bytes last.0) (name_bytes f name.0) b.low c.low);
      sound = λ h. (a.sound h, c.sound (b.left (a.left h)));
      left = λ h. c.left (b.left (a.left h));
    }) e) e) e) e

-- nodes

content_reads : (number : ℕ) (bytes : List ℕ) (p : Kind × List ℕ) → content_at number bytes ≡ Some p → Holds bytes p
unfolding content_at kind_bytes
content_reads number bytes p e =
    by_cond _ (nat_eq number 0) _ _ p (λ t e. object_reads bytes (fields_at bytes) p (fields_reads bytes) e) (λ t e.
    by_cond _ (nat_eq number 1) _ _ p (λ t e. plain_reads Listed bytes p tt tt e) (λ t e.
    by_cond _ (nat_eq number 2) _ _ p (λ t e. plain_reads Map bytes p tt tt e) (λ t e.
    register_reads bytes (json_at bytes) p (json_reads bytes) (kept (nat_eq number 3) _ p e).1) e) e) e

kind_reads : (bytes : List ℕ) (p : Kind × List ℕ) → kind_at bytes ≡ Some p → Holds bytes p
unfolding kind_at
kind_reads bytes p e =
    then _ (byte_at bytes) _ p (λ number is e.
    let k = content_reads number.0 number.1 p e in
    record {
      low = k.low;
      sound = λ h. k.sound (byte_left bytes number is h);
      left = λ h. k.left (byte_left bytes number is h);
    }) e

root_reads : (bytes : List ℕ) (p : Kind × List ℕ) → root_at bytes ≡ Some p → Holds bytes p
unfolding root_at
root_reads bytes p e =
    then _ (id_at bytes) _ p (λ x is e.
    let a = id_reads bytes x is in
    let k = kind_reads x.1 p e in
    record { low = k.low; sound = λ h. k.sound (a.left h); left = λ h. k.left (a.left h) }) e

-- what is written of a row besides its ids
abbrev row_bytes : NodeId × Node → List ℕ
row_bytes e = text_bytes e.1.key ++ kind_bytes e.1.kind

abbrev IsSoundAt : NodeId → Node → Type 0
IsSoundAt x n = IsNodeInRange x × IsSoundNode n

abbrev IsSoundRow : NodeId × Node → Type 0
IsSoundRow e = IsSoundAt e.0 e.1

row_reads : (bytes : List ℕ) (p : (NodeId × Node) × List ℕ) → row_at bytes ≡ Some p
    → Reads row_bytes IsSoundRow bytes p
unfolding row_at
row_reads bytes p e =
    then _ (id_at bytes) _ p (λ x is e.
    then _ (id_at x.1) _ p (λ parent under e.
    then _ (text_at parent.1) _ p (λ key got e.
    then _ (kind_at key.1) _ p (λ kind made e.
    let a = id_reads bytes x is in
    let b = id_reads x.1 parent under in
    let c = text_reads parent.1 key got in
    let k = kind_reads key.1 kind made in
    same (Reads row_bytes IsSoundRow bytes)
    ((x.0, record { parent = parent.0; key = key.0; depth = 0; kind = kind.0 }), kind.1) p
    (record {
      low = low_append (text_bytes key.0) (kind_bytes kind.0) c.low k.low;
      sound = λ h.
          let second = a.left h in
          let third = b.left second in
          (a.sound h, record { parent = b.sound second; key = c.sound third; kind = k.sound (c.left third) });
      left = λ h. k.left (c.left (b.left (a.left h)));
    }) e) e) e) e) e

-- trees

abbrev IsLowAt : NodeId → Node → Type 0
IsLowAt x n = AreLow (text_bytes n.key) × AreLow (kind_bytes n.kind)

rows_low : (es : List (NodeId × Node)) → AreLow (flat_map row_bytes es)
    → AllByRecursion (λ e. (d : ℕ) → IsLowAt e.0 (at_depth e.1 d)) es
rows_low [] h = tt
rows_low (e ∷ es) h =
    let here = low_front (row_bytes e) (flat_map row_bytes es) h in
    let key = low_front (text_bytes e.1.key) (kind_bytes e.1.kind) here in
    let kind = low_behind (text_bytes e.1.key) (kind_bytes e.1.kind) here in
    (λ d. (key, kind), rows_low es (low_behind (row_bytes e) (flat_map row_bytes es) h))

rows_sound : (es : List (NodeId × Node)) → AllByRecursion IsSoundRow es
    → AllByRecursion (λ e. (d : ℕ) → IsSoundAt e.0 (at_depth e.1 d)) es
rows_sound [] h = tt
rows_sound (e ∷ es) h =
    let n = h.0.1 in
    (λ d. (h.0.0, record { parent = n.parent; key = n.key; kind = n.kind }), rows_sound es h.1)

record ReadsTree (bytes : List ℕ) (p : Nodes × List ℕ) : Type 0 where
  formed : IsFormed p.0
  low : AllNodes IsLowAt p.0
  sound : AreLow bytes → IsSoundTree p.0
  left : AreLow bytes → AreLow p.1

tree_reads : (bytes : List ℕ) (p : Nodes × List ℕ) → tree_at bytes ≡ Some p → ReadsTree bytes p
unfolding tree_at
tree_reads bytes p e =
    then _ (u32_at bytes) _ p (λ n is e.
    then _ (root_at n.1) _ p (λ root first e.
    then _ (each_at row_at (n.0 - 1) root.1) _ p (λ rows are e.
    then _ (rooted root.0 rows.0) _ p (λ t put e.
    let a = u32_reads bytes n is in
    let b = root_reads n.1 root first in
    let c = each_reads row_at row_bytes IsSoundRow row_reads (n.0 - 1) root.1 rows are in
    same (ReadsTree bytes) (t, rows.1) p
    (record {
      formed = rooted_formed root.0 rows.0 t put;
      low = rooted_all IsLowAt root.0 rows.0 t (low_text [] IsUtf8-nil, b.low) (rows_low rows.0 c.low) put;
      sound = λ h.
          let second = b.left (a.left h) in
          rooted_all IsSoundAt root.0 rows.0 t
          (tt, record { parent = tt; key = IsUtf8-nil; kind = b.sound (a.left h) })
          (rows_sound rows.0 (c.sound second)) put;
      left = λ h. c.left (b.left (a.left h));
    }) e) e) e) e) e

low_kind : (k : Kind) → kind_number k < 256
low_kind (Object fs) = omega arith
low_kind Listed = omega arith
low_kind Map = omega arith
low_kind (Register v) = omega arith

low_place : (x : NodeId) (n : Node) → IsLowAt x n → AreLow (place_bytes x n)
unfolding place_bytes
low_place Root n h = tt
low_place (Made s) n h = low_append (id_bytes n.parent) (text_bytes n.key) (low_id n.parent) h.0

low_there : (x : NodeId) (o : Option Node) → ((n : Node) → o ≡ Some n → IsLowAt x n) → AreLow (bytes_there x o)
unfolding bytes_there node_bytes
low_there x None h = tt
low_there x (Some n) h =
    let low = h n refl in
    let kind = kind_number n.kind ∷ kind_bytes n.kind in
    low_append (id_bytes x) (place_bytes x n ++ kind) (low_id x)
    (low_append (place_bytes x n) kind (low_place x n low) (low_kind n.kind, low.1))

low_tree : (t : Nodes) → AllNodes IsLowAt t → AreLow (tree_bytes t)
unfolding tree_bytes
low_tree t h =
    low_append (u32_bytes (length (preorder t Root))) (flat_map (bytes_at t) (preorder t Root))
    (low_u32 (length (preorder t Root)))
    (low_flat (bytes_at t) (preorder t Root) (λ x. low_there x (get t x) (h x)))

-- the whole

record ReadsSessions (f : Format) (bytes : List ℕ) (p : List Session × List ℕ) : Type 0 where
  low : AreLow (sessions_bytes f p.0)
  sound : AreLow bytes → AllByRecursion IsSession p.0
  few : AreLow bytes → length p.0 ≤ most_actor
  left : AreLow bytes → AreLow p.1

sessions_read : (f : Format) (bytes : List ℕ) (p : List Session × List ℕ) → sessions_at f bytes ≡ Some p
    → ReadsSessions f bytes p
unfolding sessions_at sessions_bytes
sessions_read f bytes p e =
    then _ (u32_at bytes) _ p (λ n is e.
    let a = u32_reads bytes n is in
    let c = each_reads (session_at f) (session_bytes f) IsSession (session_reads f) n.0 n.1 p e in
    record {
      low = low_append (u32_bytes (length p.0)) (flat_map (session_bytes f) p.0) (low_u32 (length p.0)) c.low;
      sound = λ h. c.sound (a.left h);
      few = λ h. omega (arith, c.count, a.sound h);
      left = λ h. c.left (a.left h);
    }) e

record ReadsState (f : Format) (bytes : List ℕ) (s : State) : Type 0 where
  low : AreLow (snapshot_bytes f s)
  formed : IsFormed s.tree
  sound : AreLow bytes → IsSoundTree s.tree
  sessions : AreLow bytes → AllByRecursion IsSession s.sessions
  few : AreLow bytes → length s.sessions ≤ most_actor

parts_read : (f : Format) (bytes : List ℕ) (p : State × List ℕ) → parts_at f bytes ≡ Some p → ReadsState f bytes p.0
unfolding parts_at snapshot_bytes
parts_read f bytes p e =
    then _ (u64_at bytes) _ p (λ count is e.
    then _ (sessions_at f count.1) _ p (λ sessions are e.
    then _ (tree_at sessions.1) _ p (λ tree made e.
    let a = u64_reads bytes count is in
    let b = sessions_read f count.1 sessions are in
    let c = tree_reads sessions.1 tree made in
    same (λ (q : State × List ℕ). ReadsState f bytes q.0)
    (record { count = count.0; sessions = sessions.0; tree = tree.0 }, tree.1) p
    (record {
      low = low_append (u64_bytes count.0) (sessions_bytes f sessions.0 ++ tree_bytes tree.0) a.low
          (low_append (sessions_bytes f sessions.0) (tree_bytes tree.0) b.low (low_tree tree.0 c.low));
      formed = c.formed;
      sound = λ h. c.sound (b.left (a.left h));
      sessions = λ h. b.sound (a.left h);
      few = λ h. b.few (a.left h);
    }) e) e) e) e

valid_sessions : (f : Format) (ss : List Session) → all_by (is_session f) ss ≡ true → AllByRecursion IsSession ss
    → AreValidSessions ss
valid_sessions f [] t h = tt
valid_sessions f (s ∷ ss) t h =
    let p = both (is_session f s) (all_by (is_session f) ss) t in
    let last = (both (nat_le s.last most) (is_name f s.name) p.0).0 in
    (record { key = h.0.0; last = true_le s.last most last; name = h.0.1 }, valid_sessions f ss p.1 h.1)

checked_is : (f : Format) (bytes : List ℕ) (r s : State) → checked f bytes r ≡ Some s → r ≡ s
unfolding checked
checked_is f bytes r s h =
    then _ (behind_if (is_within f r) (snapshot_bytes f r) bytes) _ s (λ rest is h. (ended_is (r, rest) s h).0) h

valid_by : (f : Format) (bytes : List ℕ) (s : State) → bytes ≡ snapshot_bytes f s → is_within f s ≡ true
    → ReadsState f bytes s → IsValidState s
valid_by f bytes s is within h =
    let p = both (nat_le s.count most)
    (all_by (is_session f) s.sessions && all_by (is_shallow_at s.tree) (preorder s.tree Root)) within in
    let q = both (all_by (is_session f) s.sessions) (all_by (is_shallow_at s.tree) (preorder s.tree Root)) p.1 in
    let low = subst AreLow (sym is) h.low in
    record {
      formed = h.formed;
      sound = h.sound low;
      shallow = shallow_all s.tree h.formed q.1;
      count = true_le s.count most p.0;
      sessions = valid_sessions f s.sessions q.0 (h.sessions low);
      actors = h.few low;
    }

pub snapshot_valid : (f : Format) (bytes : List ℕ) (s : State) → snapshot_of f bytes ≡ Some s → IsValidState s
unfolding snapshot_of
snapshot_valid f bytes s e =
    let once = snapshots_once f bytes s e in
    then _ (parts_at f bytes) _ s (λ r is e.
    let state = subst (ReadsState f bytes) (checked_is f bytes r.0 s e) (parts_read f bytes r is) in
    valid_by f bytes s once.0 once.1 state) e
