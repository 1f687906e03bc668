-- Where edits lead.
use Rattle.std.specs.Prelude.{◌≡◌, ◌≤◌, ◌+◌, ◌-◌, ℕ, false, if◌then◌else◌}
use Rattle.std.specs.Prelude.{List, [], ◌∷◌, ◌++◌, length, Option, Some, None, option_map, is_some}
use Rattle.std.specs.Ordering.{nat_cmp}
use Rattle.std.specs.Cmp.Lexicographic.{slice_cmp}
use Rattle.std.specs.FinMap.{get, find, put, len}
use Rattle.room_ids.specs.declared.ids.NodeId.{NodeId}
use Rattle.room_json.specs.Value.{Value}
use Rattle.room_nodes.specs.Cells.{Agrees, AgreesOn, field_at, overlaps_some}
use Rattle.room_nodes.specs.Ordered.{IsOrderedTree}
use Rattle.room_nodes.specs.Primitives.{fields_in}
use Rattle.room_nodes.specs.Shape.{Nodes, IsFormed}
use Rattle.room_nodes.specs.Steps.{is_void, step, without_field}
use Rattle.room_nodes.specs.Turns.{reverse}
use Rattle.room_nodes.specs.declared.cells.Cell.{Cell}
use Rattle.room_nodes.specs.declared.nodes.Body.{Body}
use Rattle.room_nodes.specs.declared.nodes.Body.TheVariants.{SetKey, Create, Update, Delete, DeleteKey}
use Rattle.room_nodes.specs.declared.turns.Turn.{Turn}
use Rattle.room_nodes.specs.declared.turns.Turn.TheVariants.{Put, Cut, Fields, Key}
use Rattle.room_apply.specs.Edits.{turned_all, CanTurnAll, reverse_all, some_turn, put_count, cut_count, puts_in}
use Rattle.room_apply.specs.Edits.{cuts_in}
use Rattle.room_apply.specs.Within.{FieldsOf, RunsIn, AreMoves, IsOfFields, IsGiving, IsTaking, cells}

-- What takes a step back, and what makes it again: the nodes that it removed, the fields of the object whose fields it
-- changes, the node or the key that it sets, and the names of the fields that it changes.
pub record Way : Type 0 where
  pub done : List Turn
  pub undone : List Turn
  pub fields : Option Turn
  pub last : Option Turn
  pub names : FieldsOf

-- the changes that go back, and those that go forth, the last first

abbrev pub backs : Way → List Turn
backs e = e.done ++ (some_turn e.fields ++ some_turn e.last)

abbrev pub forths : Way → List Turn
forths e = some_turn e.last ++ (some_turn e.fields ++ e.undone)

-- the tree to which they lead

abbrev pub before : Nodes → Way → Nodes
before t e = turned_all t (backs e)

abbrev pub after : Nodes → Way → Nodes
after t e = turned_all t (forths e)

-- the edits of a step, of the nodes that went, from a tree on which fields and a last change are left
abbrev pub stepped : Nodes → List Turn → Option Turn → Option Turn → FieldsOf → Way
stepped t done fields last ns = record {
  done = done;
  undone = [];
  fields = option_map (reverse t) fields;
  last = option_map (reverse (turned_all t (some_turn fields))) last;
  names = ns;
}

-- the edits once they went back from a tree, and once they went forth

abbrev pub gone_back : Nodes → Way → Way
gone_back t e = record {
  done = [];
  undone = e.undone ++ reverse_all (turned_all t (some_turn e.fields ++ some_turn e.last)) e.done;
  fields = option_map (reverse (turned_all t (some_turn e.last))) e.fields;
  last = option_map (reverse t) e.last;
  names = e.names;
}

abbrev pub gone_forth : Nodes → Way → Way
gone_forth t e = record {
  done = e.done ++ reverse_all t e.undone;
  undone = [];
  fields = option_map (reverse (turned_all t e.undone)) e.fields;
  last = option_map (reverse (turned_all t (some_turn e.fields ++ e.undone))) e.last;
  names = e.names;
}

-- whether the edits can go back on a tree with d spare places, or forth

abbrev pub CanGoBack : Nodes → ℕ → Way → Type 0
CanGoBack t d e = (e.undone ≡ []) × (CanTurnAll t (backs e) × (puts_in (backs e) ≤ d))

abbrev pub CanGoForth : Nodes → ℕ → Way → Type 0
CanGoForth t d e = (e.done ≡ []) × (CanTurnAll t (forths e) × (puts_in (forths e) ≤ d))

-- the edits go back from t, and touch the cells cs alone; and the same of going forth

pub record GoesBack (cs : List Cell) (t : Nodes) (e : Way) : Type 0 where
  pub formed : IsFormed t
  pub undone : e.undone ≡ []
  pub moves : AreMoves e.done
  pub fields : IsOfFields e.fields
  pub last : IsTaking e.last
  pub runs : RunsIn cs e.names t (backs e)

pub record GoesForth (cs : List Cell) (t : Nodes) (e : Way) : Type 0 where
  pub formed : IsFormed t
  pub done : e.done ≡ []
  pub moves : AreMoves e.undone
  pub fields : IsOfFields e.fields
  pub last : IsGiving e.last
  pub runs : RunsIn cs e.names t (forths e)

-- the object whose fields a change changes, and edits change

abbrev pub object_in : Option Turn → Option NodeId
object_in None = None
object_in (Some (Put x n)) = None
object_in (Some (Cut x)) = None
object_in (Some (Fields x fs)) = Some x
object_in (Some (Key x k)) = None

abbrev pub object_of : Way → Option NodeId
object_of e = object_in e.fields

-- of that object, both trees have the same fields
abbrev pub SameObject : Nodes → Nodes → Option NodeId → Type 0
SameObject t u None = Unit {0}
SameObject t u (Some x) = fields_in (get t x) ≡ fields_in (get u x)

-- v is w on the cells cs, and as u elsewhere
pub record IsWithCells (cs : List Cell) (w u v : Nodes) : Type 0 where
  pub cells : Agrees w v cs
  pub elsewhere : (c : Cell) → overlaps_some c cs ≡ false → AgreesOn u v c

-- on a tree u that agrees with t on the cells, and has the object's fields as t has them, the edits go as on t
abbrev pub Meets : List Cell → Nodes → Nodes → Way → Type 0
Meets cs t u e = Agrees t u cs × SameObject t u (object_of e)

-- the fields gs with those of some names as they are in fs

abbrev pub set_by : Option Value → List ℕ → FieldsOf → FieldsOf
set_by None k gs = without_field k gs
set_by (Some v) k gs = put (slice_cmp nat_cmp) k v gs

abbrev pub fitted_fields : FieldsOf → FieldsOf → FieldsOf → FieldsOf
fitted_fields [] fs gs = gs
fitted_fields (n ∷ ns) fs gs = fitted_fields ns fs (set_by (find (slice_cmp nat_cmp) n.0 fs) n.0 gs)

-- a change of fields that leaves those of other names as a tree has them
abbrev pub fitted_in : FieldsOf → Nodes → Option Turn → Option Turn
fitted_in ns t None = None
fitted_in ns t (Some (Put x n)) = None
fitted_in ns t (Some (Cut x)) = None
fitted_in ns t (Some (Fields x fs)) = Some (Fields x (fitted_fields ns fs (fields_in (get t x))))
fitted_in ns t (Some (Key x k)) = None

abbrev pub or_old : Option Turn → Option Turn → Option Turn
or_old None old = old
or_old (Some c) old = Some c

-- edits that leave the other fields of the object as a tree has them
abbrev pub fitted : Nodes → Way → Way
fitted t e = record e { fields = or_old (fitted_in e.names t e.fields) e.fields }

-- the object whose fields an operation changes: it sets fields, or a field is at the key that it clears

abbrev pub owner_at : Nodes → NodeId → List ℕ → Option NodeId
owner_at t x k = if is_some (field_at t x k) then Some x else None

abbrev pub owner_by : Nodes → Body → Option NodeId
owner_by t (SetKey x k) = None
owner_by t (Create x p k r kind) = owner_at t p k
owner_by t (Update x fs) = Some x
owner_by t (Delete x) = None
owner_by t (DeleteKey x k) = owner_at t x k

abbrev pub owner : Nodes → Body → Option NodeId
owner t b = if is_void t b then None else owner_by t b

-- how many nodes a step put, and how many it removed

abbrev pub made_by : Body → ℕ
made_by (SetKey x k) = 0
made_by (Create x p k r kind) = 1
made_by (Update x fs) = 0
made_by (Delete x) = 0
made_by (DeleteKey x k) = 0

abbrev pub put_by : Nodes → Body → ℕ
put_by t b = if is_void t b then 0 else made_by b

abbrev pub removed_by : Nodes → Body → ℕ
removed_by t b = len t + put_by t b - len (step t b)

-- how many nodes the edits put or remove
abbrev pub node_count : Option Turn → ℕ
node_count None = 0
node_count (Some c) = put_count c + cut_count c

abbrev pub nodes_of : Way → ℕ
nodes_of e = length e.done + length e.undone + node_count e.last

-- the edits of an operation's step of t that left u
pub record AreEdits (t : Nodes) (b : Body) (u : Nodes) (e : Way) : Type 0 where
  pub goes : GoesBack (cells t b) u e
  pub can : CanTurnAll u (backs e)
  pub before : before u e ≡ t
  pub object : object_of e ≡ owner t b
  pub removed : puts_in (backs e) ≡ removed_by t b
  pub put : cuts_in (backs e) ≡ put_by t b
  pub nodes : nodes_of e ≡ removed_by t b + put_by t b

-- edits go wherever a tree agrees on the cells
abbrev pub MayGoBack : Type 0
MayGoBack =
    (cs : List Cell) (t u : Nodes) (d : ℕ) (e : Way) → GoesBack cs t e → IsFormed u → Meets cs t u e
    → puts_in (backs e) ≤ d → CanGoBack u d e

abbrev pub MayGoForth : Type 0
MayGoForth =
    (cs : List Cell) (t u : Nodes) (d : ℕ) (e : Way) → GoesForth cs t e → IsFormed u → Meets cs t u e
    → puts_in (forths e) ≤ d → CanGoForth u d e

-- a map that is w on some cells, and elsewhere as w, is w; fields stand in order of their names
abbrev pub OneMap : Type 0
OneMap = (cs : List Cell) (w v : Nodes) → IsOrderedTree w → IsOrderedTree v → IsWithCells cs w w v → v ≡ w
