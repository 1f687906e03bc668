-- The log: what the room's updates are, and the state that they lead to.
use Rattle.std.specs.Prelude.{◌+◌, ◌-◌, ◌==◌, ℕ, zero, suc, if◌then◌else◌, List, [], ◌∷◌, ◌++◌, length, take, slice_get}
use Rattle.std.specs.Prelude.{slice_set, Option, Some, None}
use Rattle.room_nodes.specs.declared.nodes.Body.{Body}
use Rattle.room_nodes.specs.declared.nodes.Op.{Op}
use Rattle.room_nodes.specs.Shape.{Nodes, empty_tree}
use Rattle.room_nodes.specs.Steps.{fold}

-- a session: the key that resumes it, the last clock of its operations, and the name that it gave
pub record Session : Type 0 where
  pub key : ℕ
  pub last : ℕ
  pub name : List ℕ

-- the number of updates so far, the sessions of actors 1, 2, .. in order, and the tree
pub record State : Type 0 where
  pub count : ℕ
  pub sessions : List Session
  pub tree : Nodes

-- no update, no session, and the tree of the root alone
abbrev pub empty_state : State
empty_state = record { count = 0; sessions = []; tree = empty_tree }

-- an update: operations of one actor; its operation i, counted from 0, has the clock first + i
pub record Update : Type 0 where
  pub actor : ℕ
  pub first : ℕ
  pub bodies : List Body

-- a new session of that actor, with its key and name; or an update
pub data Entry : Type 0 where
  Join : (actor : ℕ) → (key : ℕ) → (name : List ℕ) → Entry
  Updated : Update → Entry

-- operations of an actor, whose clocks run on by ones from the first

abbrev pub op_of : ℕ → ℕ → Body → Op
op_of actor clock b = record { id = record { 0 = record { actor = actor; clock = clock } }; body = b }

abbrev pub ops_from : ℕ → ℕ → List Body → List Op
ops_from actor first [] = []
ops_from actor first (b ∷ bs) = op_of actor first b ∷ ops_from actor (first + 1) bs

abbrev pub ops_of : Update → List Op
ops_of u = ops_from u.actor u.first u.bodies

abbrev pub bodies_of : List Op → List Body
bodies_of [] = []
bodies_of (o ∷ os) = o.body ∷ bodies_of os

abbrev pub actor_of : Op → ℕ
actor_of o = (o.id.0).actor

abbrev pub clock_of : Op → ℕ
clock_of o = (o.id.0).clock

-- the last clock of operations whose first has that clock; there is at least one
abbrev pub last_from : ℕ → List Body → ℕ
last_from first bs = first + length bs - 1

-- sessions by actor, counted from 1

abbrev pub session_of : List Session → ℕ → Option Session
session_of ss zero = None
session_of ss (suc i) = slice_get ss i

abbrev pub last_in : Option Session → ℕ
last_in None = 0
last_in (Some s) = s.last

abbrev pub name_in : Option Session → List ℕ
name_in None = []
name_in (Some s) = s.name

-- the last clock of an actor, 0 for one without a session
abbrev pub last_of : List Session → ℕ → ℕ
last_of ss a = last_in (session_of ss a)

-- the sessions, with another last clock of an actor
abbrev pub with_last_at : List Session → ℕ → ℕ → Option Session → List Session
with_last_at ss i c None = ss
with_last_at ss i c (Some s) = slice_set ss i (record s { last = c })

abbrev pub with_last : List Session → ℕ → ℕ → List Session
with_last ss zero c = ss
with_last ss (suc i) c = with_last_at ss i c (slice_get ss i)

-- what an entry does to a state

abbrev pub joined : State → ℕ → List ℕ → State
joined s key name = record s { sessions = s.sessions ++ record { key = key; last = 0; name = name } ∷ [] }

abbrev pub updated : State → Update → State
updated s u = record {
  count = s.count + 1;
  sessions = with_last s.sessions u.actor (last_from u.first u.bodies);
  tree = fold s.tree u.bodies;
}

abbrev pub after : State → Entry → State
after s (Join actor key name) = joined s key name
after s (Updated u) = updated s u

-- the state after all entries in order
abbrev pub state_after : State → List Entry → State
state_after s [] = s
state_after s (e ∷ es) = state_after (after s e) es

-- the updates alone, in order, and what they make of a tree and of an actor's last clock

abbrev pub updates_of : List Entry → List Update
updates_of [] = []
updates_of (Join actor key name ∷ es) = updates_of es
updates_of (Updated u ∷ es) = u ∷ updates_of es

abbrev pub tree_after : Nodes → List Update → Nodes
tree_after t [] = t
tree_after t (u ∷ us) = tree_after (fold t u.bodies) us

abbrev pub last_after : ℕ → ℕ → List Update → ℕ
last_after a last [] = last
last_after a last (u ∷ us) = last_after a (if u.actor == a then last_from u.first u.bodies else last) us

-- the tree after the update numbered n; numbers go on from the opening state's, and n isn't below that
abbrev pub tree_at : State → List Entry → ℕ → Nodes
tree_at s log n = tree_after s.tree (take (n - s.count) (updates_of log))

-- an actor's last clock after the update numbered n, likewise
abbrev pub last_at : State → List Entry → ℕ → ℕ → ℕ
last_at s log n a = last_after a (last_of s.sessions a) (take (n - s.count) (updates_of log))
