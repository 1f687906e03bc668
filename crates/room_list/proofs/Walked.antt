-- A walk over the children of a node: what it has found, and what is left.
use Rattle.std.proofs.Common.{◌≡◌, ◌<◌, ◌+◌, ◌==◌, ℕ, suc, true, cond, nat_lt, List, [], ◌∷◌, ◌++◌, length, Option, Some, None, option_map, is_some, refl, sym, ap, ◌∙◌, subst, arith, append-nil, length-append}
use Rattle.std.specs.FinMap.{get}
use Rattle.room_ids.specs.declared.ids.NodeId.{NodeId}
use Rattle.room_nodes.specs.declared.nodes.Node.{Node}
use Rattle.room_nodes.specs.declared.nodes.Body.{Body}
use Rattle.room_nodes.specs.declared.nodes.Body.TheVariants.{Delete}
use Rattle.room_nodes.specs.Shape.{Nodes, children, next_of}
use Rattle.room_nodes.proofs.Childs.{kid_there, kid_step, none_left}
use Rattle.room_model.specs.Edits.{id_at, clear_bodies}
use Rattle.room_effect.specs.Beside.{Kids, left_of, right_of}
use Rattle.room_effect.proofs.Gaps.{Kid, item_more, left_more, right_more}

-- the children up to that key are done
pub record Part (t : Nodes) (p : NodeId) (key : Option (List ℕ)) : Type 0 where
  pub done : Kids
  pub rest : Kids
  pub all : children t p ≡ done ++ rest
  pub next : next_of key (children t p) ≡ next_of None rest

abbrev pub part_begin : (t : Nodes) (p : NodeId) → Part t p None
part_begin t p = record { done = []; rest = children t p; all = refl; next = refl }

module _ (t : Nodes) (p : NodeId) (key : Option (List ℕ)) (w : Part t p key) where
  module _ (child : NodeId) (is : Some child ≡ option_map (λ e. e.1) (next_of key (children t p))) where
    comes : Some child ≡ option_map (λ e. e.1) (next_of None w.rest)
    comes = is ∙ ap (option_map (λ e. e.1)) w.next

    pub child_there : is_some (get t child) ≡ true
    child_there = let k = kid_there t p w.done w.rest child w.all comes in ap is_some k.1

    module _ (n : Node) (there : Some n ≡ get t child) where
      pub step : (more : Kids) × (children t p ≡ (w.done ++ (n.key, child) ∷ []) ++ more) × (next_of (Some n.key) (children t p) ≡ next_of None more)
      step = kid_step t p w.done w.rest child n.key n w.all comes (sym there) refl

      abbrev pub part_more : Part t p (Some n.key)
      part_more = record { done = w.done ++ (n.key, child) ∷ []; rest = step.0; all = step.1; next = step.2 }

      pub part_less : length w.done < length (children t p)
      part_less = let l : length (children t p) ≡ length ((w.done ++ (n.key, child) ∷ []) ++ step.0) = ap length step.1 in grind (arith, length-append, l)

  pub part_end : (r : Option NodeId) → r ≡ None → r ≡ option_map (λ e. e.1) (next_of key (children t p)) → w.done ≡ children t p
  part_end r none is =
      let left = none_left w.rest (sym none ∙ is ∙ ap (option_map (λ e. e.1)) w.next) in
      sym (w.all ∙ ap (λ r. w.done ++ r) left ∙ append-nil w.done)

-- what the walk knows of the children that are done
pub record Knows (done : Kids) (index gap n : ℕ) (o : Option NodeId) (l r : Option (List ℕ)) : Type 0 where
  pub count : n ≡ length done
  pub item : o ≡ id_at done index
  pub left : l ≡ left_of gap done
  pub right : r ≡ right_of gap done

pub knows_none : (index gap : ℕ) → Knows [] index gap 0 None None None
knows_none index gap = record { count = refl; item = refl; left = refl; right = refl }

pub knows_more : (done : Kids) (index gap count more : ℕ) (item new_item : Option NodeId) (left new_left right new_right : Option (List ℕ)) (k : List ℕ) (x : NodeId)
    → Knows done index gap count item left right → more ≡ count + 1 → new_item ≡ cond (count == index) (Some x) item
    → new_left ≡ cond (nat_lt count gap) (Some k) left → new_right ≡ cond (count == gap) (Some k) right
    → Knows (done ++ (k, x) ∷ []) index gap more new_item new_left new_right
knows_more done index gap count more item new_item left new_left right new_right k x h c i l r =
    record {
      count = grind (arith, length-append, c, h.count);
      item = i ∙ (λ j. cond (h.count j == index) (Some x) (h.item j)) ∙ sym (item_more done (k, x) index);
      left = l ∙ (λ j. cond (nat_lt (h.count j) gap) (Some k) (h.left j)) ∙ sym (left_more done (k, x) gap);
      right = r ∙ (λ j. cond (h.count j == gap) (Some k) (h.right j)) ∙ sym (right_more done (k, x) gap);
    }

-- the two together

abbrev pub Walk : (t : Nodes) (p : NodeId) (key : Option (List ℕ)) (index gap n : ℕ) (o : Option NodeId) (l r : Option (List ℕ)) → Type 0
Walk t p key index gap n o l r = (w : Part t p key) × Knows w.done index gap n o l r

pub walk_begin : (t : Nodes) (p : NodeId) (index gap : ℕ) → Walk t p None index gap 0 None None None
walk_begin t p index gap = (part_begin t p, knows_none index gap)

module _ (t : Nodes) (p : NodeId) (key : Option (List ℕ)) (index gap count : ℕ) (item : Option NodeId) (left right : Option (List ℕ)) (w : Walk t p key index gap count item left right) where
  pub walk_more : (child : NodeId) → Some child ≡ option_map (λ e. e.1) (next_of key (children t p)) → (n : Node) → Some n ≡ get t child
      → (more : ℕ) (new_item : Option NodeId) (new_left new_right : Option (List ℕ)) → more ≡ count + 1 → new_item ≡ cond (count == index) (Some child) item
      → new_left ≡ cond (nat_lt count gap) (Some n.key) left → new_right ≡ cond (count == gap) (Some n.key) right
      → Walk t p (Some n.key) index gap more new_item new_left new_right
  walk_more child is n there more new_item new_left new_right c i l r = (
    part_more t p key w.0 child is n there,
    knows_more w.0.done index gap count more item new_item left new_left right new_right n.key child w.1 c i l r,
  )

  pub walk_less : (child : NodeId) → Some child ≡ option_map (λ e. e.1) (next_of key (children t p)) → (n : Node) → Some n ≡ get t child → count < length (children t p)
  walk_less child is n there = let l = part_less t p key w.0 child is n there in omega (arith, l, w.1.count)

  pub walk_end : (r : Option NodeId) → r ≡ None → r ≡ option_map (λ e. e.1) (next_of key (children t p)) → Knows (children t p) index gap count item left right
  walk_end r none is = subst (λ (done : Kids). Knows done index gap count item left right) (part_end t p key w.0 r none is) w.1

-- deletes

abbrev pub Clearing : (t : Nodes) (p : NodeId) (key : Option (List ℕ)) (bs : List Body) → Type 0
Clearing t p key bs = (w : Part t p key) × (bs ≡ clear_bodies w.done)

pub clear_more : (done : Kids) (e : Kid) → clear_bodies (done ++ e ∷ []) ≡ clear_bodies done ++ Delete e.1 ∷ []
clear_more [] e = refl
clear_more (d ∷ done) e = ap (λ bs. Delete d.1 ∷ bs) (clear_more done e)

pub clear_length : (done : Kids) → length (clear_bodies done) ≡ length done
clear_length [] = refl
clear_length (d ∷ done) = ap suc (clear_length done)

pub clearing_begin : (t : Nodes) (p : NodeId) → Clearing t p None []
clearing_begin t p = (part_begin t p, refl)

module _ (t : Nodes) (p : NodeId) (key : Option (List ℕ)) (bs : List Body) (w : Clearing t p key bs) where
  pub clearing_more : (child : NodeId) → Some child ≡ option_map (λ e. e.1) (next_of key (children t p)) → (n : Node) → Some n ≡ get t child
      → (more : List Body) → more ≡ bs ++ Delete child ∷ [] → Clearing t p (Some n.key) more
  clearing_more child is n there more m =
      (part_more t p key w.0 child is n there, m ∙ ap (λ xs. xs ++ Delete child ∷ []) w.1 ∙ sym (clear_more w.0.done (n.key, child)))

  pub clearing_less : (child : NodeId) → Some child ≡ option_map (λ e. e.1) (next_of key (children t p)) → (n : Node) → Some n ≡ get t child → length bs < length (children t p)
  clearing_less child is n there =
      let l = part_less t p key w.0 child is n there in
      let same : length bs ≡ length w.0.done = ap length w.1 ∙ clear_length w.0.done in
      omega (arith, l, same)

  pub clearing_end : (r : Option NodeId) → r ≡ None → r ≡ option_map (λ e. e.1) (next_of key (children t p)) → bs ≡ clear_bodies (children t p)
  clearing_end r none is = w.1 ∙ ap clear_bodies (part_end t p key w.0 r none is)

pub longer : (bs more : List Body) (x : NodeId) → more ≡ bs ++ Delete x ∷ [] → length more ≡ length bs + 1
longer bs more x h = ap length h ∙ length-append bs (Delete x ∷ [])
