-- What an edit puts in place: a plain value, or a live object, map or list, whose members are such again.
use Rattle.std.specs.Prelude.{ℕ, suc, ◌+◌, max, Bool, true, false, if◌then◌else◌, List, [], ◌∷◌, ◌++◌, Option, None}
use Rattle.room_json.specs.Value.{Value, list, members, values_of, fields_of, depth}
use Rattle.room_json.specs.Back.{json_in}
use Rattle.room_ids.specs.Position.{first as first_position, after as after_position}
use Rattle.room_ids.specs.declared.ids.NodeId.{NodeId}
use Rattle.room_ids.specs.declared.ids.NodeId.TheVariants.{Made}
use Rattle.room_nodes.specs.declared.nodes.Kind.TheVariants.{Object, List as Listed, Map, Register}
use Rattle.room_nodes.specs.declared.nodes.Body.{Body}
use Rattle.room_nodes.specs.declared.nodes.Body.TheVariants.{Create}

mutual
  pub data Init : Type 0 where
    Plain : Value → Init
    AnObject : Parts → Init
    AMap : Parts → Init
    AList : Inits → Init

  -- by name, in byte order
  pub data Parts : Type 0 where
    no_parts : Parts
    part : (name : List ℕ) → Init → Parts → Parts

  pub data Inits : Type 0 where
    no_inits : Inits
    init : Init → Inits → Inits

-- how it is shown
abbrev mutual
  pub init_view : Init → Value
  init_view (Plain v) = v
  init_view (AnObject ps) = members (fields_of (parts_view ps))
  init_view (AMap ps) = members (fields_of (parts_view ps))
  init_view (AList is) = list (values_of (inits_view is))

  pub parts_view : Parts → List (List ℕ × Value)
  parts_view no_parts = []
  parts_view (part k i ps) = (k, init_view i) ∷ parts_view ps

  pub inits_view : Inits → List Value
  inits_view no_inits = []
  inits_view (init i is) = init_view i ∷ inits_view is

-- the greatest depth of a plain value in it
abbrev mutual
  pub plain_depth : Init → ℕ
  plain_depth (Plain v) = depth v
  plain_depth (AnObject ps) = parts_plain_depth ps
  plain_depth (AMap ps) = parts_plain_depth ps
  plain_depth (AList is) = inits_plain_depth is

  pub parts_plain_depth : Parts → ℕ
  parts_plain_depth no_parts = 0
  parts_plain_depth (part k i ps) = max (plain_depth i) (parts_plain_depth ps)

  pub inits_plain_depth : Inits → ℕ
  inits_plain_depth no_inits = 0
  inits_plain_depth (init i is) = max (plain_depth i) (inits_plain_depth is)

-- A plain member of a live object is a field of it, and no node; in a map or a list it is a register.
abbrev pub is_plain : Init → Bool
is_plain (Plain v) = true
is_plain (AnObject ps) = false
is_plain (AMap ps) = false
is_plain (AList is) = false

-- how many nodes it makes, where it becomes a node itself
abbrev mutual
  pub nodes_in : Init → ℕ
  nodes_in (Plain v) = 1
  nodes_in (AnObject ps) = suc (live_nodes ps)
  nodes_in (AMap ps) = suc (part_nodes ps)
  nodes_in (AList is) = suc (init_nodes is)

  pub live_nodes : Parts → ℕ
  live_nodes no_parts = 0
  live_nodes (part k i ps) = (if is_plain i then 0 else nodes_in i) + live_nodes ps

  pub part_nodes : Parts → ℕ
  part_nodes no_parts = 0
  part_nodes (part k i ps) = nodes_in i + part_nodes ps

  pub init_nodes : Inits → ℕ
  init_nodes no_inits = 0
  init_nodes (init i is) = nodes_in i + init_nodes is

-- the greatest depth of a node that it makes, where it becomes a node of depth d itself
abbrev mutual
  pub node_depth : ℕ → Init → ℕ
  node_depth d (Plain v) = d
  node_depth d (AnObject ps) = live_depth d ps
  node_depth d (AMap ps) = parts_depth d ps
  node_depth d (AList is) = inits_depth d is

  pub live_depth : ℕ → Parts → ℕ
  live_depth d no_parts = d
  live_depth d (part k i ps) = max (if is_plain i then d else node_depth (suc d) i) (live_depth d ps)

  pub parts_depth : ℕ → Parts → ℕ
  parts_depth d no_parts = d
  parts_depth d (part k i ps) = max (node_depth (suc d) i) (parts_depth d ps)

  pub inits_depth : ℕ → Inits → ℕ
  inits_depth d no_inits = d
  inits_depth d (init i is) = max (node_depth (suc d) i) (inits_depth d is)

-- the positions that are made for the items of its live lists, in the order of the nodes
abbrev mutual
  pub positions_in : Init → List (List ℕ)
  positions_in (Plain v) = []
  positions_in (AnObject ps) = parts_positions ps
  positions_in (AMap ps) = parts_positions ps
  positions_in (AList is) = item_positions first_position is

  pub parts_positions : Parts → List (List ℕ)
  parts_positions no_parts = []
  parts_positions (part k i ps) = positions_in i ++ parts_positions ps

  pub item_positions : List ℕ → Inits → List (List ℕ)
  item_positions p no_inits = []
  item_positions p (init i is) = p ∷ (positions_in i ++ item_positions (after_position p) is)

abbrev pub plain_field : List ℕ → Init → List (List ℕ × Value)
plain_field k (Plain v) = (k, v) ∷ []
plain_field k (AnObject ps) = []
plain_field k (AMap ps) = []
plain_field k (AList is) = []

-- the plain members of a live object
abbrev pub plain_fields : Parts → List (List ℕ × Value)
plain_fields no_parts = []
plain_fields (part k i ps) = plain_field k i ++ plain_fields ps

abbrev pub made_id : ℕ → ℕ → NodeId
made_id actor clock = Made (record { actor = actor; clock = clock })

-- The creates that make it a node under p at k, its nodes in preorder with the actor's node clocks from c on: a live
-- object with its plain members as fields, then its live members in byte order; a map, then its members; a list, then
-- its items at the first position, the one after it, and so on. The first of them takes the place of r.
abbrev mutual
  pub creates : ℕ → ℕ → NodeId → List ℕ → Option NodeId → Init → List Body
  creates a c p k r (Plain v) = Create (made_id a c) p k r (Register (json_in v)) ∷ []
  creates a c p k r (AnObject ps) =
      Create (made_id a c) p k r (Object (plain_fields ps)) ∷ live_creates a (suc c) (made_id a c) ps
  creates a c p k r (AMap ps) = Create (made_id a c) p k r Map ∷ part_creates a (suc c) (made_id a c) ps
  creates a c p k r (AList is) =
      Create (made_id a c) p k r Listed ∷ item_creates a (suc c) (made_id a c) first_position is

  pub live_creates : ℕ → ℕ → NodeId → Parts → List Body
  live_creates a c x no_parts = []
  live_creates a c x (part k i ps) =
      (if is_plain i then [] else creates a c x k None i)
      ++ live_creates a (c + (if is_plain i then 0 else nodes_in i)) x ps

  pub part_creates : ℕ → ℕ → NodeId → Parts → List Body
  part_creates a c x no_parts = []
  part_creates a c x (part k i ps) = creates a c x k None i ++ part_creates a (c + nodes_in i) x ps

  pub item_creates : ℕ → ℕ → NodeId → List ℕ → Inits → List Body
  item_creates a c x p no_inits = []
  item_creates a c x p (init i is) = creates a c x p None i ++ item_creates a (c + nodes_in i) x (after_position p) is
