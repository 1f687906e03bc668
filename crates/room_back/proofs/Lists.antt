-- Lists of changes that grow.
use Rattle.std.proofs.Common.{◌≡◌, ◌≢◌, ◌-◌, ℕ, zero, suc, List, [], ◌∷◌, ◌++◌, flat_map, Some, Option, option_map}
use Rattle.std.proofs.Common.{refl, sym, ap, ◌∙◌, append_assoc, append-nil, arith}
use Rattle.std.specs.FinMap.{get}
use Rattle.room_ids.specs.declared.ids.NodeId.{NodeId}
use Rattle.room_nodes.specs.declared.nodes.Body.{Body}
use Rattle.room_nodes.specs.declared.nodes.Change.{Change}
use Rattle.room_nodes.specs.declared.nodes.Node.{Node}
use Rattle.room_nodes.specs.declared.nodes.Op.{Op}
use Rattle.room_log.specs.Log.{bodies_of}
use Rattle.room_model.specs.Calls.{changes_back, op_change}
use Rattle.room_nodes.specs.Preorder.{preorder_within}
use Rattle.room_nodes.specs.Reversal.{creation, creations, reverse, reverse_all}
use Rattle.room_nodes.specs.Shape.{Nodes, children, next_of}
use Rattle.room_nodes.specs.Steps.{step}
use Rattle.room_nodes.proofs.Childs.{Kid}
use Rattle.room_back.specs.Back.{as_changes, restored_within, last_first}
use Rattle.room_back.proofs.Walking.{rest_of, child_next}

pub changes_append : (bs cs : List Body) → as_changes (bs ++ cs) ≡ as_changes bs ++ as_changes cs
changes_append [] cs = refl
changes_append (b ∷ bs) cs = ap (λ xs. op_change b ∷ xs) (changes_append bs cs)

-- what restores the nodes at most n levels below some children

abbrev pub below_restored : ℕ → Nodes → List Kid → List Change
below_restored n t [] = []
below_restored n t (e ∷ es) = restored_within n t e.1 ++ below_restored n t es

creations_append : (t : Nodes) (xs ys : List NodeId)
    → as_changes (creations t (xs ++ ys)) ≡ as_changes (creations t xs) ++ as_changes (creations t ys)
creations_append t [] ys = refl
creations_append t (x ∷ xs) ys =
    changes_append (creation x (get t x)) (creations t (xs ++ ys))
    ∙ ap (λ cs. as_changes (creation x (get t x)) ++ cs) (creations_append t xs ys)
    ∙ sym (append_assoc (as_changes (creation x (get t x))) (as_changes (creations t xs))
    (as_changes (creations t ys)))
    ∙ ap (λ cs. cs ++ as_changes (creations t ys)) (sym (changes_append (creation x (get t x)) (creations t xs)))

below_is : (n : ℕ) (t : Nodes) (es : List Kid)
    → as_changes (creations t (flat_map (λ (e : Kid). preorder_within n t e.1) es)) ≡ below_restored n t es
below_is n t [] = refl
below_is n t (e ∷ es) =
    creations_append t (preorder_within n t e.1) (flat_map (λ (e : Kid). preorder_within n t e.1) es)
    ∙ ap (λ cs. restored_within n t e.1 ++ cs) (below_is n t es)

-- one level more

less : (n : ℕ) → suc n - 1 ≡ n
less n = omega arith

pub within_none : (n : ℕ) (t : Nodes) (x : NodeId) → n ≡ 0
    → as_changes (creation x (get t x)) ≡ restored_within n t x
unfolding preorder_within
within_none zero t x h = ap as_changes (sym (append-nil (creation x (get t x))))
within_none (suc n) t x h = absurd (omega (arith, h))

within_suc : (n : ℕ) (t : Nodes) (x : NodeId)
    → restored_within (suc n) t x ≡ as_changes (creation x (get t x)) ++ below_restored n t (children t x)
unfolding preorder_within
within_suc n t x =
    changes_append (creation x (get t x)) _
    ∙ ap (λ cs. as_changes (creation x (get t x)) ++ cs) (below_is n t (children t x))

pub within_more : (n : ℕ) (t : Nodes) (x : NodeId) → n ≢ 0
    → restored_within n t x ≡ as_changes (creation x (get t x)) ++ below_restored (n - 1) t (children t x)
within_more zero t x h = absurd (h refl)
within_more (suc n) t x h =
    within_suc n t x ∙ ap (λ m. as_changes (creation x (get t x)) ++ below_restored m t (children t x)) (sym (less n))

-- what the walk over the children leaves to restore
module _ (t : Nodes) (p : NodeId) (k : Option (List ℕ)) where
  pub child_restored : (child : NodeId) (is : Some child ≡ option_map (λ e. e.1) (next_of k (children t p)))
      (n : Node) → Some n ≡ get t child → (m : ℕ) (back more all : List Change)
      → more ≡ back ++ restored_within m t child → back ++ below_restored m t (rest_of k (children t p)) ≡ all
      → more ++ below_restored m t (rest_of (Some n.key) (children t p)) ≡ all
  child_restored child is n there m back more all e h =
      let c = child_next t p k child is n there in
      let rest = rest_of (Some n.key) (children t p) in
      ap (λ ys. ys ++ below_restored m t rest) (e ∙ ap (λ z. back ++ restored_within m t z) (sym c.1))
      ∙ append_assoc back (restored_within m t c.0.1) (below_restored m t rest)
      ∙ ap (λ es. back ++ below_restored m t es) (sym c.2) ∙ h

-- lists joined, the last first

pub last_first-push : (cs : List (List Change)) (c : List Change) → last_first (cs ++ c ∷ []) ≡ c ++ last_first cs
last_first-push [] c = sym (append-nil c)
last_first-push (d ∷ cs) c = ap (λ xs. xs ++ d) (last_first-push cs c) ∙ append_assoc c (last_first cs) d

-- one list more is joined
pub joined_more : (all more back rest : List Change) (each left : List (List Change)) → each ≡ left ++ back ∷ []
    → more ≡ all ++ back → all ++ last_first each ≡ rest → more ++ last_first left ≡ rest
joined_more all more back rest each left e m h =
    ap (λ xs. xs ++ last_first left) m
    ∙ append_assoc all back (last_first left)
    ∙ ap (λ xs. all ++ xs) (sym (ap last_first e ∙ last_first-push left back))
    ∙ h

-- one operation more is taken back
module _ (t : Nodes) (o : Op) (rest os : List Op) (is : os ≡ o ∷ rest) where
  pub taken_more : (u : Nodes) (back all : List Change) (each more : List (List Change)) → u ≡ step t o.body
      → back ≡ as_changes (reverse t o.body) → more ≡ each ++ back ∷ []
      → changes_back t (bodies_of os) ++ last_first each ≡ all → changes_back u (bodies_of rest) ++ last_first more ≡ all
  taken_more u back all each more s b m h =
      let behind = changes_back (step t o.body) (bodies_of rest) in
      ap (λ v. changes_back v (bodies_of rest) ++ last_first more) s
      ∙ ap (λ xs. behind ++ xs) (ap last_first m ∙ last_first-push each back ∙ ap (λ xs. xs ++ last_first each) b)
      ∙ sym (append_assoc behind (as_changes (reverse t o.body)) (last_first each))
      ∙ ap (λ xs. xs ++ last_first each)
      (sym (changes_append (reverse_all (step t o.body) (bodies_of rest)) (reverse t o.body)))
      ∙ ap (λ ps. changes_back t (bodies_of ps) ++ last_first each) (sym is)
      ∙ h
