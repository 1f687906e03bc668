-- Which states have a snapshot.
use Rattle.std.specs.Prelude.{◌≡◌, ℕ, Bool, true, ◌&&◌, nat_eq, nat_le, List, [], ◌∷◌, length, map, Option, Some, None}
use Rattle.std.specs.FinMap.{get}
use Rattle.room_ids.specs.declared.ids.NodeId.{NodeId}
use Rattle.room_ids.specs.declared.ids.NodeId.TheVariants.{Root, Made}
use Rattle.room_nodes.specs.Preorder.{preorder}
use Rattle.room_nodes.specs.Shallow.{is_shallow_kind}
use Rattle.room_nodes.specs.Shape.{Nodes}
use Rattle.room_nodes.specs.declared.nodes.Node.{Node}
use Rattle.room_log.specs.Follows.{most, IsValidState}
use Rattle.room_log.specs.Log.{Session, State}
use Rattle.room_bytes.specs.Bounds.{IsCounted, IsCountedKind}
use Rattle.room_bytes.specs.declared.entries.Format.{Format}
use Rattle.room_bytes.specs.declared.entries.Format.TheVariants.{One, Two}
use Rattle.room_bytes.specs.declared.entries.Session.{Session as Here}
use Rattle.room_snapshot.specs.declared.row.Row.{Row as Read}

-- the session, and the id and node, that a value of the type stands for; the state that the parts of a snapshot are

abbrev pub kept : Here → Session
kept s = record { key = s.key; last = s.last; name = s.name }

abbrev pub rowed : Read → NodeId × Node
rowed r = (r.id, r.node)

abbrev pub state_of : ℕ → List Here → Nodes → State
state_of count sessions tree = record { count = count; sessions = map kept sessions; tree = tree }

-- lists and texts whose lengths have four bytes; a session of the first format has no name

abbrev pub IsName : Format → List ℕ → Type 0
IsName One name = name ≡ []
IsName Two name = IsCounted name

abbrev pub AreNamed : Format → List Session → Type 0
AreNamed f [] = Unit {0}
AreNamed f (s ∷ ss) = IsName f s.name × AreNamed f ss

abbrev pub IsCountedPlace : NodeId → Node → Type 0
IsCountedPlace Root n = Unit {0}
IsCountedPlace (Made s) n = IsCounted n.key

abbrev pub IsCountedThere : NodeId → Option Node → Type 0
IsCountedThere x None = Unit {0}
IsCountedThere x (Some n) = IsCountedPlace x n × IsCountedKind n.kind

abbrev pub AreCountedAt : Nodes → List NodeId → Type 0
AreCountedAt t [] = Unit {0}
AreCountedAt t (x ∷ xs) = IsCountedThere x (get t x) × AreCountedAt t xs

pub record AreCountedNodes (t : Nodes) : Type 0 where
  pub few : IsCounted (preorder t Root)
  pub each : AreCountedAt t (preorder t Root)

-- a state that has a snapshot: a valid one whose lengths are in range
pub record HasSnapshot (f : Format) (s : State) : Type 0 where
  pub valid : IsValidState s
  pub named : AreNamed f s.sessions
  pub nodes : AreCountedNodes s.tree

-- the bounds as a test: of clocks, names and the depth of values

abbrev pub all_by : {A : Type 0} → (A → Bool) → List A → Bool
all_by test [] = true
all_by test (x ∷ xs) = test x && all_by test xs

abbrev pub is_name : Format → List ℕ → Bool
is_name One name = nat_eq (length name) 0
is_name Two name = true

abbrev pub is_session : Format → Session → Bool
is_session f s = nat_le s.last most && is_name f s.name

abbrev pub is_shallow_there : Option Node → Bool
is_shallow_there None = true
is_shallow_there (Some n) = is_shallow_kind n.kind

abbrev pub is_shallow_at : Nodes → NodeId → Bool
is_shallow_at t x = is_shallow_there (get t x)

abbrev pub is_within : Format → State → Bool
is_within f s =
    nat_le s.count most
    && (all_by (is_session f) s.sessions && all_by (is_shallow_at s.tree) (preorder s.tree Root))
