-- An entry follows the state of a tree that a program holds.
use Rattle.std.specs.Prelude.{if◌then◌else◌, List, [], ◌∷◌, Option, Some, None}
use Rattle.room_nodes.specs.declared.nodes.Body.{Body}
use Rattle.room_nodes.specs.Equal.{same_body}
use Rattle.room_nodes.specs.Shape.{Nodes}
use Rattle.room_nodes.specs.Steps.{settled_body, step}
use Rattle.room_log.specs.Log.{Entry}
use Rattle.room_log.specs.Follows.{IsSoundEntry}

-- the tree after operations, if each is settled on the tree after those before it
abbrev pub settled_fold : Nodes → List Body → Option Nodes
settled_fold t [] = Some t
settled_fold t (b ∷ bs) = if same_body (settled_body t b) b then settled_fold (step t b) bs else None

-- entries of real values
abbrev pub AreSound : List Entry → Type 0
AreSound [] = Unit {0}
AreSound (e ∷ es) = IsSoundEntry e × AreSound es
