-- The effect of an edit on what is shown: the node that is edited shows what the edit's name says, and all else stays.
use Rattle.std.specs.Prelude.{◌≡◌, ◌≤◌, ℕ, zero, suc, false, if◌then◌else◌, List, [], ◌∷◌, map, Some, None, Ok, ⊤}
use Rattle.std.specs.FinMap.{get}
use Rattle.room_ids.specs.Order.{is_same}
use Rattle.room_ids.specs.declared.ids.NodeId.{NodeId}
use Rattle.room_ids.specs.declared.ids.NodeId.TheVariants.{Root}
use Rattle.room_json.specs.Value.{Value}
use Rattle.room_nodes.specs.declared.nodes.Body.{Body}
use Rattle.room_nodes.specs.declared.nodes.Op.{Op}
use Rattle.room_nodes.specs.Shape.{Nodes, IsFormed, children}
use Rattle.room_nodes.specs.Sound.{IsSoundTree}
use Rattle.room_nodes.specs.Steps.{fold, step, is_void, settled_body}
use Rattle.room_items.specs.View.{node_view, view, view_at}
use Rattle.room_log.specs.Log.{bodies_of}
use Rattle.room_model.specs.Edits.{Edit, Clocks, Made, target, make, named_effect}
use Rattle.room_model.specs.Init.{made_id}
use Rattle.room_model.specs.Notices.{at_path, path_of}
use Rattle.room_model.specs.Sound.{IsSoundEdit}

-- no node of the tree has a clock of the actor from the next one on
abbrev pub NoneAhead : Nodes → Clocks → Type 0
NoneAhead t c = (k : ℕ) → c.node ≤ k → get t (made_id c.actor k) ≡ None

-- y with what lies at most n steps below it, where x is shown as v
unfoldable pub shown_within : ℕ → Nodes → NodeId → Value → NodeId → Value
shown_within zero t x v y = if is_same y x then v else node_view (get t y) []
shown_within (suc n) t x v y =
    if is_same y x then v
    else node_view (get t y) (map (λ (e : List ℕ × NodeId). (e.0, shown_within n t x v e.1)) (children t y))

-- the view of a tree in which x is shown as v
abbrev pub view_where : Nodes → NodeId → Value → Value
view_where t x v = shown_within 60 t x v Root

-- each operation in turn is neither void nor moved
abbrev pub AreLive : Nodes → List Body → Type 0
AreLive t [] = ⊤
AreLive t (b ∷ bs) = (is_void t b ≡ false) × (settled_body t b ≡ b) × AreLive (step t b) bs

-- the operations change what x shows by f, and leave all else of the view
pub record Changes (t : Nodes) (x : NodeId) (bs : List Body) (f : Value → Value) : Type 0 where
  pub live : AreLive t bs
  pub node : view_at (fold t bs) x ≡ f (view_at t x)
  pub rest : view (fold t bs) ≡ view_where t x (f (view_at t x))

-- the effect of an edit; and the view of the tree is the old one, changed so at the node's path
pub record HasEffect (t : Nodes) (e : Edit) (bs : List Body) : Type 0 where
  pub changes : Changes t (target e) bs (named_effect e)
  pub path : at_path (path_of t (target e)) (λ v. Some (named_effect e v)) (view t) ≡ Some (view (fold t bs))

-- An edit that is made has its effect: on a well-formed tree of sound nodes, whose objects have their fields in byte
-- order, where the actor's next node clocks are free.
abbrev pub EditsShow : Type 0
EditsShow = (t : Nodes) (c : Clocks) (e : Edit) (m : Made)
    → IsFormed t → IsSoundTree t → IsSoundEdit e → NoneAhead t c → make t c e ≡ Ok m → HasEffect t e (bodies_of m.ops)

-- what operations that an edit made have, where the actor's next node clocks are free
abbrev pub EffectOf : Nodes → Clocks → Edit → List Op → Type 0
EffectOf t c e os = NoneAhead t c → HasEffect t e (bodies_of os)
