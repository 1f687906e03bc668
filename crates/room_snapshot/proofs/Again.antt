-- What is written of a state is read again.
use Rattle.std.proofs.Common.{◌≡◌, ◌≢◌, ◌-◌, ℕ, suc, ◌^◌, ◌<◌, ◌≤◌, Bool, true, false, cond, List, [], ◌∷◌, ◌++◌}
use Rattle.std.proofs.Common.{length, map, Option, Some, None, refl, sym, ap, subst, ◌∙◌, append_assoc, arith}
use Rattle.std.specs.Prelude.{nat_eq, IsUtf8}
use Rattle.std.specs.FinMap.{get}
use Rattle.std.specs.List.{flat_map, AllByRecursion}
use Rattle.std.proofs.lemmas.List.{append-nil}
use Rattle.std.proofs.lemmas.List.Concat.{flat_map-cons}
use Rattle.room_json.specs.View.{json_of}
use Rattle.room_json.specs.Value.{depth}
use Rattle.room_json.proofs.Again.{json_again}
use Rattle.room_ids.specs.Laws.{IsNodeInRange}
use Rattle.room_ids.specs.Stamp.{Stamp}
use Rattle.room_ids.specs.declared.ids.NodeId.{NodeId}
use Rattle.room_ids.specs.declared.ids.NodeId.TheVariants.{Root, Made}
use Rattle.room_nodes.specs.Preorder.{preorder, preorder_within}
use Rattle.room_nodes.specs.Shallow.{is_shallow_kind, IsShallowTree}
use Rattle.room_nodes.specs.Shape.{Nodes, IsFormed, children, is_object}
use Rattle.room_nodes.specs.Sound.{IsSoundKind, IsSoundNode, IsSoundTree}
use Rattle.room_nodes.specs.declared.nodes.Node.{Node}
use Rattle.room_nodes.specs.declared.nodes.Kind.{Kind}
use Rattle.room_nodes.specs.declared.nodes.Kind.TheVariants.{Object, List as Listed, Map, Register}
use Rattle.room_nodes.proofs.Fitting.{the_root}
use Rattle.room_nodes.proofs.Tours.{tour_root}
use Rattle.room_nodes.proofs.Walks.{Walk}
use Rattle.room_items.specs.Items.{kind_number, root_in, root_of, put_rows, in_order, same_ids, row_id, tree_under}
use Rattle.room_items.specs.Items.{tree_in, item_there, item_out, items_of}
use Rattle.room_items.proofs.Found.{and_then_of}
use Rattle.room_items.proofs.NodesAgain.{root_again as root_item}
use Rattle.room_items.proofs.Rowing.{row_at as row_in_tree, row_there, rows_again}
use Rattle.room_items.proofs.Spells.{trees_again}
use Rattle.room_log.specs.Follows.{most, IsValidSession, AreValidSessions}
use Rattle.room_log.specs.Log.{Session, State}
use Rattle.room_bytes.specs.Bounds.{IsCounted, IsCountedKind}
use Rattle.room_bytes.specs.declared.entries.Format.{Format}
use Rattle.room_bytes.specs.declared.entries.Format.TheVariants.{One, Two}
use Rattle.room_bytes.specs.Reading.{byte_at, name_at, each_at}
use Rattle.room_bytes.specs.Spelling.{u32_bytes, u64_bytes, text_bytes, id_bytes, name_bytes, kind_bytes}
use Rattle.room_bytes.proofs.Again.{value_again, fields_again}
use Rattle.room_bytes.proofs.Parts.{true_le, le_true, u32_again, u64_again, text_again, id_again, each_again}
use Rattle.room_bytes.proofs.Parts.{behind_again}
use Rattle.room_snapshot.specs.Bounds.{IsName, AreNamed, IsCountedPlace, IsCountedThere, AreCountedAt, AreCountedNodes}
use Rattle.room_snapshot.specs.Bounds.{HasSnapshot, all_by, is_name, is_session, is_shallow_there, is_shallow_at}
use Rattle.room_snapshot.specs.Bounds.{is_within}
use Rattle.room_snapshot.specs.Reading.{session_at, content_at, kind_at, root_at, row_at, put_nodes, rooted, tree_at}
use Rattle.room_snapshot.specs.Reading.{sessions_at, parts_at, behind_if, checked, snapshot_of}
use Rattle.room_snapshot.specs.Spelling.{session_bytes, place_bytes, node_bytes, bytes_there, bytes_at, tree_bytes}
use Rattle.room_snapshot.specs.Spelling.{sessions_bytes, snapshot_bytes}

-- ---- sessions

name_again : (f : Format) (name rest : List ℕ) → IsUtf8 name → IsName f name
    → name_at f (name_bytes f name ++ rest) ≡ Some (name, rest)
unfolding name_at name_bytes
name_again One name rest utf8 named = ap (λ (n : List ℕ). Some (n, rest)) (sym named)
name_again Two name rest utf8 named = text_again name rest utf8 named

three : (a b c rest : List ℕ) → (a ++ (b ++ c)) ++ rest ≡ a ++ (b ++ (c ++ rest))
three a b c rest = simp append_assoc

pub record IsSession (f : Format) (s : Session) : Type 0 where
  pub valid : IsValidSession s
  pub named : IsName f s.name

session_again : (f : Format) (s : Session) (rest : List ℕ) → IsSession f s
    → session_at f (session_bytes f s ++ rest) ≡ Some (s, rest)
unfolding session_at session_bytes
session_again f s rest is =
    ap (session_at f) (three (u64_bytes s.key) (u64_bytes s.last) (name_bytes f s.name) rest)
    ∙ rw (
      u64_again s.key (u64_bytes s.last ++ (name_bytes f s.name ++ rest)) is.valid.key,
      u64_again s.last (name_bytes f s.name ++ rest) (omega (arith, is.valid.last)),
      name_again f s.name rest is.valid.name is.named,
    ) refl

are_sessions : (f : Format) (ss : List Session) → AreValidSessions ss → AreNamed f ss → AllByRecursion (IsSession f) ss
are_sessions f [] valid named = tt
are_sessions f (s ∷ ss) valid named = (record { valid = valid.0; named = named.0 }, are_sessions f ss valid.1 named.1)

sessions_again : (f : Format) (ss : List Session) (rest : List ℕ) → length ss < 2 ^ 32 → AreValidSessions ss
    → AreNamed f ss → sessions_at f (sessions_bytes f ss ++ rest) ≡ Some (ss, rest)
unfolding sessions_at sessions_bytes
sessions_again f ss rest few valid named =
    ap (sessions_at f) (append_assoc (u32_bytes (length ss)) (flat_map (session_bytes f) ss) rest)
    ∙ rw (
      u32_again (length ss) (flat_map (session_bytes f) ss ++ rest) few,
      each_again (session_at f) (session_bytes f) (IsSession f) (session_again f) ss rest
          (are_sessions f ss valid named),
    ) refl

-- ---- nodes

content_again : (kind : Kind) (rest : List ℕ) → IsCountedKind kind → IsSoundKind kind → is_shallow_kind kind ≡ true
    → content_at (kind_number kind) (kind_bytes kind ++ rest) ≡ Some (kind, rest)
unfolding content_at kind_bytes
content_again Listed rest counted sound shallow = refl
content_again (Object fs) rest counted sound shallow = rw (fields_again fs rest counted.0 counted.1 sound shallow) refl
content_again Map rest counted sound shallow = refl
content_again (Register v) rest counted sound shallow =
    let low : depth (json_of v) ≤ 56 = true_le (depth (json_of v)) 56 shallow in
    rw (value_again (json_of v) rest sound (omega (arith, low)) counted, json_again v) refl

kind_again : (kind : Kind) (rest : List ℕ) → IsCountedKind kind → IsSoundKind kind → is_shallow_kind kind ≡ true
    → kind_at (kind_number kind ∷ (kind_bytes kind ++ rest)) ≡ Some (kind, rest)
unfolding kind_at byte_at
kind_again kind rest counted sound shallow = content_again kind rest counted sound shallow

root_again : (n : Node) (rest : List ℕ) → IsCountedKind n.kind → IsSoundKind n.kind → is_shallow_kind n.kind ≡ true
    → root_at (node_bytes Root n ++ rest) ≡ Some (n.kind, rest)
unfolding root_at node_bytes place_bytes
root_again n rest counted sound shallow =
    ap root_at (append_assoc (id_bytes Root) (kind_number n.kind ∷ kind_bytes n.kind) rest)
    ∙ rw (
      id_again Root (kind_number n.kind ∷ (kind_bytes n.kind ++ rest)) tt,
      kind_again n.kind rest counted sound shallow,
    ) refl

four : (a b c d rest : List ℕ) → (a ++ ((b ++ c) ++ d)) ++ rest ≡ a ++ (b ++ (c ++ (d ++ rest)))
four a b c d rest = simp append_assoc

row_again : (s : Stamp) (n : Node) (rest : List ℕ) → IsNodeInRange (Made s) → IsSoundNode n → IsCounted n.key
    → IsCountedKind n.kind → is_shallow_kind n.kind ≡ true
    → row_at (node_bytes (Made s) n ++ rest) ≡ Some ((Made s, record n { depth = 0 }), rest)
unfolding row_at node_bytes place_bytes
row_again s n rest in_range sound key counted shallow =
    let inside = kind_number n.kind ∷ kind_bytes n.kind in
    ap row_at (four (id_bytes (Made s)) (id_bytes n.parent) (text_bytes n.key) inside rest)
    ∙ rw (
      id_again (Made s) (id_bytes n.parent ++ (text_bytes n.key ++ (inside ++ rest))) in_range,
      id_again n.parent (text_bytes n.key ++ (inside ++ rest)) sound.parent,
      text_again n.key (inside ++ rest) sound.key key,
      kind_again n.kind rest counted sound.kind shallow,
    ) refl

-- ---- nodes of a tree

-- a node below the root, within the bounds
pub record IsNode (t : Nodes) (x : NodeId) : Type 0 where
  pub node : Node
  pub there : get t x ≡ Some node
  pub made : x ≢ Root
  pub in_range : IsNodeInRange x
  pub sound : IsSoundNode node
  pub place : IsCountedPlace x node
  pub counted : IsCountedKind node.kind
  pub shallow : is_shallow_kind node.kind ≡ true

abbrev pub bare : Option Node → Node
bare None = record { parent = Root; key = []; depth = 0; kind = Listed }
bare (Some n) = record n { depth = 0 }

abbrev pub row_of : Nodes → NodeId → NodeId × Node
row_of t x = (x, bare (get t x))

node_again : (t : Nodes) (x : NodeId) (rest : List ℕ) → IsNode t x
    → row_at (bytes_at t x ++ rest) ≡ Some (row_of t x, rest)
unfolding bytes_there
node_again t Root rest is = absurd (is.made refl)
node_again t (Made s) rest is =
    ap (λ (o : Option Node). row_at (bytes_there (Made s) o ++ rest)) is.there
    ∙ row_again s is.node rest is.in_range is.sound is.place is.counted is.shallow
    ∙ sym (ap (λ (o : Option Node). Some ((Made s, bare o), rest)) is.there)

each_mapped : {A B : Type 0} (read : List ℕ → Option (B × List ℕ)) (spell : A → List ℕ) (view : A → B) (Is : A → Type 0)
    → ((x : A) (rest : List ℕ) → Is x → read (spell x ++ rest) ≡ Some (view x, rest))
    → (xs : List A) (rest : List ℕ) → AllByRecursion Is xs
    → each_at read (length xs) (flat_map spell xs ++ rest) ≡ Some (map view xs, rest)
unfolding each_at
each_mapped read spell view Is again [] rest are = refl
each_mapped read spell view Is again (x ∷ xs) rest are =
    let regrouped : flat_map spell (x ∷ xs) ++ rest ≡ spell x ++ (flat_map spell xs ++ rest) =
    ap (λ (l : List ℕ). l ++ rest) (flat_map-cons spell x xs) ∙ append_assoc (spell x) (flat_map spell xs) rest in
    ap (each_at read (suc (length xs))) regrouped
    ∙ rw (again x (flat_map spell xs ++ rest) are.0, each_mapped read spell view Is again xs rest are.1) refl

are_nodes : (t : Nodes) → IsSoundTree t → IsShallowTree t → (xs done : List NodeId) → Walk t done xs → AreCountedAt t xs
    → AllByRecursion (IsNode t) xs
are_nodes t sound shallow [] done w counted = tt
are_nodes t sound shallow (x ∷ xs) done w counted =
    let s = w.0 in
    let c = subst (IsCountedThere x) s.there counted.0 in (
      record {
        node = s.node;
        there = s.there;
        made = s.made;
        in_range = (sound x s.node s.there).0;
        sound = (sound x s.node s.there).1;
        place = c.0;
        counted = c.1;
        shallow = shallow x s.node s.there;
      },
      are_nodes t sound shallow xs (x ∷ done) w.1 counted.1,
    )

-- ---- the tree

kept : {A : Type 0} (b : Bool) (o : Option A) (y : A) → cond b o None ≡ Some y → o ≡ Some y
kept true o y e = e
kept false o y e = absurd cc

same_rows : (t : Nodes) (xs : List NodeId)
    → map (λ (e : NodeId × Node). record { id = e.0; parent = e.1.parent; key = e.1.key; kind = e.1.kind })
    (map (row_of t) xs) ≡ map (row_in_tree t) xs
same_rows t [] = refl
same_rows t (x ∷ xs) = λ i. by (get t x) i ∷ same_rows t xs i
  where
    by : (o : Option Node) → record { id = x; parent = (bare o).parent; key = (bare o).key; kind = (bare o).kind }
        ≡ row_there x o
    by None = refl
    by (Some n) = refl

rooted_by : (kind : Kind) (es : List (NodeId × Node)) (t : Nodes) → is_object kind ≡ true
    → put_nodes (root_of kind) es ≡ Some t → rooted kind es ≡ Some t
rooted_by (Object fs) es t is put = put
rooted_by Listed es t is put = absurd cc
rooted_by Map es t is put = absurd cc
rooted_by (Register v) es t is put = absurd cc

less : (n : ℕ) → suc n - 1 ≡ n
less n = omega arith

module _ (t : Nodes) (f : IsFormed t) (sound : IsSoundTree t) where
  abbrev below : List NodeId
  below = flat_map (λ (e : List ℕ × NodeId). preorder_within 59 t e.1) (children t Root)

  abbrev root : Node
  root = (the_root t f).0

  order : preorder t Root ≡ Root ∷ below
  unfolding preorder preorder_within
  order = refl

  under : tree_under root.kind (map (row_in_tree t) below) ≡ Some t
  under =
      let range = λ (x : NodeId) (n : Node) (e : get t x ≡ Some n). (sound x n e).0 in
      let first : root_in (item_out t Root) ≡ Some root.kind =
      ap (λ (o : Option Node). root_in (item_there Root o)) (the_root t f).1 ∙ root_item root in
      let others = rows_again t range f below (Root ∷ []) (tour_root t f) in
      let all : tree_in (items_of t) ≡ tree_under root.kind (map (row_in_tree t) below) =
      ap (λ ids. tree_in (map (item_out t) ids)) order ∙ rw (first, others) refl in
      sym all ∙ trees_again t f range

  put : put_rows (root_of root.kind) (map (row_in_tree t) below) ≡ Some t
  put =
      let rows = map (row_in_tree t) below in
      and_then_of _ (in_order rows) (put_rows (root_of root.kind) rows) t (kept (is_object root.kind) _ t under)
      (λ u is h. is ∙ kept (same_ids (preorder u Root) (Root ∷ map row_id rows)) (Some u) t h)

  rooted_again : rooted root.kind (map (row_of t) below) ≡ Some t
  rooted_again = rooted_by root.kind (map (row_of t) below) t (the_root t f).2.kind
      (ap (put_rows (root_of root.kind)) (same_rows t below) ∙ put)

  module _ (shallow : IsShallowTree t) (counted : AreCountedNodes t) (rest : List ℕ) where
    each : AreCountedAt t (Root ∷ below)
    each = subst (AreCountedAt t) order counted.each

    few : suc (length below) < 2 ^ 32
    few = subst (λ (xs : List NodeId). length xs < 2 ^ 32) order counted.few

    root_counted : IsCountedKind root.kind
    root_counted = (subst (IsCountedThere Root) (the_root t f).1 each.0).1

    first_is : root_at (bytes_at t Root ++ (flat_map (bytes_at t) below ++ rest))
        ≡ Some (root.kind, flat_map (bytes_at t) below ++ rest)
    unfolding bytes_there
    first_is =
        ap (λ (o : Option Node). root_at (bytes_there Root o ++ (flat_map (bytes_at t) below ++ rest))) (the_root t f).1
        ∙ root_again root (flat_map (bytes_at t) below ++ rest) root_counted (sound Root root (the_root t f).1).1.kind
        (shallow Root root (the_root t f).1)

    others_are : each_at row_at (suc (length below) - 1) (flat_map (bytes_at t) below ++ rest)
        ≡ Some (map (row_of t) below, rest)
    others_are =
        ap (λ (n : ℕ). each_at row_at n (flat_map (bytes_at t) below ++ rest)) (less (length below))
        ∙ each_mapped row_at (bytes_at t) (row_of t) (IsNode t) (node_again t) below rest
        (are_nodes t sound shallow below (Root ∷ []) (tour_root t f) each.1)

    abbrev spelled : List NodeId → List ℕ
    spelled xs = (u32_bytes (length xs) ++ flat_map (bytes_at t) xs) ++ rest

    regrouped : spelled (Root ∷ below)
        ≡ u32_bytes (suc (length below)) ++ (bytes_at t Root ++ (flat_map (bytes_at t) below ++ rest))
    regrouped =
        append_assoc (u32_bytes (suc (length below))) (flat_map (bytes_at t) (Root ∷ below)) rest
        ∙ ap (λ (l : List ℕ). u32_bytes (suc (length below)) ++ l)
        (ap (λ (l : List ℕ). l ++ rest) (flat_map-cons (bytes_at t) Root below)
        ∙ append_assoc (bytes_at t Root) (flat_map (bytes_at t) below) rest)

    pub tree_again : tree_at (tree_bytes t ++ rest) ≡ Some (t, rest)
    unfolding tree_at tree_bytes
    tree_again =
        ap (λ (xs : List NodeId). tree_at (spelled xs)) order ∙ ap tree_at regrouped
        ∙ rw (
          u32_again (suc (length below)) (bytes_at t Root ++ (flat_map (bytes_at t) below ++ rest)) few,
          first_is,
          others_are,
          rooted_again,
        ) refl

-- ---- the bounds

name_true : (f : Format) (name : List ℕ) → IsName f name → is_name f name ≡ true
name_true One name named = ap (λ (n : List ℕ). nat_eq (length n) 0) named
name_true Two name named = refl

sessions_true : (f : Format) (ss : List Session) → AreValidSessions ss → AreNamed f ss → all_by (is_session f) ss ≡ true
sessions_true f [] valid named = refl
sessions_true f (s ∷ ss) valid named =
    rw (le_true s.last most valid.0.last, name_true f s.name named.0, sessions_true f ss valid.1 named.1) refl

there_true : (o : Option Node) → ((n : Node) → o ≡ Some n → is_shallow_kind n.kind ≡ true) → is_shallow_there o ≡ true
there_true None shallow = refl
there_true (Some n) shallow = shallow n refl

nodes_true : (t : Nodes) → IsShallowTree t → (xs : List NodeId) → all_by (is_shallow_at t) xs ≡ true
nodes_true t shallow [] = refl
nodes_true t shallow (x ∷ xs) = rw (there_true (get t x) (shallow x), nodes_true t shallow xs) refl

within_true : (f : Format) (s : State) → HasSnapshot f s → is_within f s ≡ true
within_true f s has =
    rw (
      le_true s.count most has.valid.count,
      sessions_true f s.sessions has.valid.sessions has.named,
      nodes_true s.tree has.valid.shallow (preorder s.tree Root),
    ) refl

-- ---- snapshots

parts_again : (f : Format) (s : State) (rest : List ℕ) → HasSnapshot f s
    → parts_at f (snapshot_bytes f s ++ rest) ≡ Some (s, rest)
unfolding parts_at snapshot_bytes
parts_again f s rest has =
    ap (parts_at f) (three (u64_bytes s.count) (sessions_bytes f s.sessions) (tree_bytes s.tree) rest)
    ∙ rw (
      u64_again s.count (sessions_bytes f s.sessions ++ (tree_bytes s.tree ++ rest)) (omega (arith, has.valid.count)),
      sessions_again f s.sessions (tree_bytes s.tree ++ rest)
          (omega (arith, has.valid.actors)) has.valid.sessions has.named,
      tree_again s.tree has.valid.formed has.valid.sound has.valid.shallow has.nodes rest,
    ) refl

checked_again : (f : Format) (s : State) → HasSnapshot f s → checked f (snapshot_bytes f s ++ []) s ≡ Some s
unfolding checked behind_if
checked_again f s has = rw (within_true f s has, behind_again (snapshot_bytes f s) []) refl

pub snapshots_again : (f : Format) (s : State) → HasSnapshot f s → snapshot_of f (snapshot_bytes f s) ≡ Some s
unfolding snapshot_of
snapshots_again f s has =
    ap (snapshot_of f) (sym (append-nil (snapshot_bytes f s))) ∙ rw (parts_again f s [] has, checked_again f s has) refl
