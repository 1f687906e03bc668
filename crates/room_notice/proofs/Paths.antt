-- Paths from the root, a step at a time.
use Rattle.std.proofs.Common.{◌≡◌, ◌-◌, ℕ, zero, suc, true, false, cond, [], ◌∷◌, ◌++◌, Some, None, refl, sym, ap, ◌∙◌, arith}
use Rattle.std.specs.FinMap.{get}
use Rattle.room_ids.specs.Order.{is_same}
use Rattle.room_ids.specs.declared.ids.NodeId.{NodeId}
use Rattle.room_ids.specs.declared.ids.NodeId.TheVariants.{Root}
use Rattle.room_nodes.specs.declared.nodes.Node.{Node}
use Rattle.room_nodes.specs.Shape.{Nodes}
use Rattle.room_model.specs.Notices.{path_of, path_within, path_step, parent_in, place_of}

pub path_none : (t : Nodes) (x : NodeId) → path_within 0 t x ≡ []
unfolding path_within
path_none t x = refl

path_more : (n : ℕ) (t : Nodes) (x : NodeId) → path_within (suc n) t x ≡ path_step t x (get t x) (path_within n t (parent_in (get t x)))
unfolding path_within
path_more n t x = refl

less : (n : ℕ) → suc n - 1 ≡ n
less n = omega arith

-- nothing leads to what isn't there, and to the root
pub path_absent : (n : ℕ) (t : Nodes) (x : NodeId) → get t x ≡ None → path_within n t x ≡ []
path_absent zero t x e = path_none t x
path_absent (suc n) t x e = path_more n t x ∙ ap (λ o. path_step t x o (path_within n t (parent_in (get t x)))) e

pub path_root : (n : ℕ) (t : Nodes) (x : NodeId) (m : Node) → get t x ≡ Some m → is_same x Root ≡ true → path_within n t x ≡ []
path_root zero t x m e r = path_none t x
path_root (suc n) t x m e r =
    path_more n t x ∙ ap (λ o. path_step t x o (path_within n t (parent_in (get t x)))) e
    ∙ ap (λ b. cond b [] (path_within n t (parent_in (get t x)) ++ place_of t x m ∷ [])) r

path_down : (n : ℕ) (t : Nodes) (x : NodeId) (m : Node) → get t x ≡ Some m → is_same x Root ≡ false → path_within (suc n) t x ≡ path_within n t m.parent ++ place_of t x m ∷ []
path_down n t x m e r =
    path_more n t x ∙ ap (λ o. path_step t x o (path_within n t (parent_in o))) e
    ∙ ap (λ b. cond b [] (path_within n t m.parent ++ place_of t x m ∷ [])) r

-- a level down
pub path_below : (n : ℕ) (t : Nodes) (x : NodeId) (m : Node) → (n ≡ 0 → ⊥) → get t x ≡ Some m → is_same x Root ≡ false → path_within n t x ≡ path_within (n - 1) t m.parent ++ place_of t x m ∷ []
path_below zero t x m h e r = absurd (h refl)
path_below (suc n) t x m h e r = path_down n t x m e r ∙ ap (λ k. path_within k t m.parent ++ place_of t x m ∷ []) (sym (less n))

pub path_whole : (t : Nodes) (x : NodeId) → path_within 60 t x ≡ path_of t x
unfolding path_of
path_whole t x = refl
