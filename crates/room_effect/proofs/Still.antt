-- Nothing changes where nothing is done.
use Rattle.std.proofs.Common.{◌≡◌, false, [], Some, refl}
use Rattle.std.specs.FinMap.{get}
use Rattle.room_ids.specs.declared.ids.NodeId.{NodeId}
use Rattle.room_json.specs.Value.{Value}
use Rattle.room_nodes.specs.declared.nodes.Node.{Node}
use Rattle.room_nodes.specs.Shape.{Nodes, IsFormed}
use Rattle.room_items.specs.View.{view_at}
use Rattle.room_effect.specs.Effect.{Changes}
use Rattle.room_effect.proofs.Keyed.{rest_of}
use Rattle.room_effect.proofs.Local.{IsLocal}

module _ (t : Nodes) (f : IsFormed t) (x : NodeId) (n : Node) (there : get t x ≡ Some n) where
  still : IsLocal t t x (λ q. false)
  still = record { node = λ q m e s o. (m, e, refl); kids = λ q m e s o. refl; closed = λ q m e r o s. refl }

  pub none_changes : (h : Value → Value) → view_at t x ≡ h (view_at t x) → Changes t x [] h
  none_changes h is = record { live = tt; node = is; rest = rest_of t t f x (λ q. false) still n there f n there refl refl (h (view_at t x)) is }
