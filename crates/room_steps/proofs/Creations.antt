-- The create of a node: what stays outside its written cells, and what it keeps of what two trees agree on.
use Rattle.std.proofs.Common.{◌≡◌, ◌≢◌, inr, ◌+◌, ℕ, Bool, true, false, cond, not, ◌&&◌, ◌||◌, nat_le, List, [], ◌∷◌, length, Option, Some, None, option_map, is_some, refl, sym, ap, ◌∙◌, subst}
use Rattle.std.specs.Cmp.Lexicographic.{slice_cmp}
use Rattle.std.specs.FinMap.{get, insert, find}
use Rattle.std.specs.Ordering.{nat_cmp}
use Rattle.room_ids.specs.Order.{is_same}
use Rattle.room_ids.specs.Position.{is_pos, between}
use Rattle.room_ids.specs.declared.ids.NodeId.{NodeId}
use Rattle.room_ids.specs.declared.ids.NodeId.TheVariants.{Root}
use Rattle.room_nodes.specs.Cells.{Agrees, SameSlot, bare, overlaps, overlaps_some, effect_cells, removal_cells, removal_of, replaced_cells, slot_cells}
use Rattle.room_nodes.specs.Shape.{Nodes, IsFormed, child_at, children, is_below, is_list, next_of, removed}
use Rattle.room_nodes.specs.Steps.{effect, is_void, settled_body, settled_key, is_other, is_placed, is_under, depth_in, holds_list, without, without_replaced}
use Rattle.room_nodes.specs.declared.cells.Cell.{Cell}
use Rattle.room_nodes.specs.declared.cells.Cell.TheVariants.{Node as NodeOf, Slot, All}
use Rattle.room_nodes.specs.declared.nodes.Body.{Body}
use Rattle.room_nodes.specs.declared.nodes.Body.TheVariants.{Create}
use Rattle.room_nodes.specs.declared.nodes.Kind.{Kind}
use Rattle.room_nodes.specs.declared.nodes.Node.{Node}
use Rattle.room_nodes.proofs.Below.{below_self}
use Rattle.room_nodes.proofs.Fitting.{both, not_true, none_of}
use Rattle.room_nodes.proofs.Formed.{formed-insert, formed-removed}
use Rattle.room_nodes.proofs.Gets.{get_kept, kept, same, same_self, some_inj, some_none, true_false}
use Rattle.room_nodes.proofs.StepForm.{formed-cleared, free-create, effect-create}
use Rattle.room_nodes.proofs.Steps.{neither, not_false, room_there, second, list_or_not, pruned, free-create_in_list, effect-create_in_list}
use Rattle.room_steps.proofs.Booleans.{by_no, or_left, or_right}
use Rattle.room_steps.proofs.Alike.{Alike, depth_same, holds_list_same, holds_object_same}
use Rattle.room_steps.proofs.Changing.{Acts, Kept, kept_changed}
use Rattle.room_steps.proofs.Cutting.{siblings_apart}
use Rattle.room_steps.proofs.Touching.{Framed, IsOut, framed_then, kept_then, covered_out, gone_at_out, own_slot, removals_same, slot_cells_same}
use Rattle.room_steps.proofs.Framing.{Covered, node_framed, slot_framed, node_beside, slot_beside, kept_put, gone_of, plain, acts_without}
use Rattle.room_steps.proofs.Kin.{IsChild, carried, same_child, same_children}
use Rattle.room_steps.proofs.Operations.{IsFramed, IsLocal, framed_live, local_live, emptied, emptied_framed, emptied_kept, by_name_plain}

-- the child that is replaced, if it is one

abbrev pub out_by : NodeId → Bool → Option NodeId
out_by y b = cond b (Some y) None

abbrev pub out_of : Nodes → NodeId → Option NodeId → Option NodeId
out_of t p None = None
out_of t p (Some y) = out_by y (is_under p y (get t y))

without_by : (t : Nodes) (y : NodeId) (b : Bool) → cond b (removed t y) t ≡ without t (out_by y b)
without_by t y true = refl
without_by t y false = refl

replaced_is : (t : Nodes) (p : NodeId) (r : Option NodeId) → without_replaced t p r ≡ without t (out_of t p r)
replaced_is t p None = refl
replaced_is t p (Some y) = without_by t y (is_under p y (get t y))

cells_by : (t : Nodes) (y : NodeId) (b : Bool) → cond b (removal_cells t y) [] ≡ removal_of t (out_by y b)
cells_by t y true = refl
cells_by t y false = refl

pub cells_is : (t : Nodes) (p : NodeId) (r : Option NodeId) → replaced_cells t p r ≡ removal_of t (out_of t p r)
cells_is t p None = refl
cells_is t p (Some y) = cells_by t y (is_under p y (get t y))

-- it is a child of p
abbrev IsKid : Nodes → NodeId → NodeId → Type 0
IsKid t p y = (n : Node) × (get t y ≡ Some n) × (y ≢ Root) × (n.parent ≡ p)

under_is : (t : Nodes) (p y : NodeId) (o : Option Node) → get t y ≡ o → is_under p y o ≡ true → IsKid t p y
under_is t p y None e h = absurd (true_false (sym h))
under_is t p y (Some n) e h =
    let a = both (not (is_same y Root)) _ h in
    (n, e, λ r. true_false (sym (same_self Root) ∙ ap (λ z. is_same z Root) (sym r) ∙ not_true _ a.0), same _ _ a.1)

kid_by : (t : Nodes) (p z y : NodeId) (b : Bool) → is_under p z (get t z) ≡ b → out_by z b ≡ Some y → IsKid t p y
kid_by t p z y false e h = absurd (some_none y (sym h))
kid_by t p z y true e h = subst (IsKid t p) (some_inj z y h) (under_is t p z (get t z) refl e)

kid_of : (t : Nodes) (p : NodeId) (r : Option NodeId) (y : NodeId) → out_of t p r ≡ Some y → IsKid t p y
kid_of t p None y h = absurd (some_none y (sym h))
kid_of t p (Some z) y h = kid_by t p z y _ refl h

pub out_is : (t : Nodes) (p : NodeId) (r : Option NodeId) → IsOut t (out_of t p r)
out_is t p r y h = let k = kid_of t p r y h in (k.0, k.1, k.2)

-- the children of p without it, in two trees with the same children

module _ (t u : Nodes) (f : IsFormed t) (g : IsFormed u) (p : NodeId) where
  cut_to : (j : List ℕ) (y : NodeId) → IsKid u p y → child_at t p j ≡ child_at u p j → (z : NodeId) → IsChild (removed t y) p j z → IsChild (removed u y) p j z
  cut_to j y k h z c =
      let w = kept t y z c.node c.there in
      let d = carried t u f p j z h (record { node = c.node; there = w.0; made = c.made; parent = c.parent; key = c.key }) in
      record {
        node = d.node;
        there = get_kept u y z (by_no _ (λ below.
            let one : y ≡ z = siblings_apart u g y z k.0 d.node k.2 d.made k.1 d.there (k.3 ∙ sym d.parent) z d.node d.there below (below_self u z) in
            true_false (sym (below_self t y) ∙ ap (is_below t y) one ∙ w.1))) ∙ d.there;
        made = d.made;
        parent = d.parent;
        key = d.key;
      }

module _ (t u : Nodes) (f : IsFormed t) (g : IsFormed u) (p : NodeId) (slots : (j : List ℕ) → SameSlot t u p j) where
  cut_child_same : (o : Option NodeId) → ((y : NodeId) → o ≡ Some y → IsKid t p y × IsKid u p y) → (j : List ℕ) → child_at (without t o) p j ≡ child_at (without u o) p j
  cut_child_same None kids j = (slots j).1
  cut_child_same (Some y) kids j =
      let k = kids y refl in
      same_child (removed t y) (removed u y) (formed-removed u y g k.1.2) p j (cut_to t u f g p j y k.1 (slots j).1) (cut_to u t g f p j y k.0 (sym (slots j).1))

  -- with the same child replaced
  left_children : (r : Option NodeId) → out_of t p r ≡ out_of u p r → children (without_replaced t p r) p ≡ children (without_replaced u p r) p
  left_children r e =
      ap (λ (v : Nodes). children v p) (replaced_is t p r)
      ∙ same_children (without t (out_of t p r)) (without u (out_of t p r)) p (cut_child_same (out_of t p r) (λ y h. (kid_of t p r y h, kid_of u p r y (sym e ∙ h))))
      ∙ ap (λ o. children (without u o) p) e ∙ sym (ap (λ (v : Nodes). children v p) (replaced_is u p r))

  -- the place among them is the same
  pub settled_same : (r : Option NodeId) (x : NodeId) (k : List ℕ) → out_of t p r ≡ out_of u p r → settled_key (without_replaced t p r) p x k ≡ settled_key (without_replaced u p r) p x k
  settled_same r x k e = ap (λ cs. cond (is_other x (find (slice_cmp nat_cmp) k cs)) (between k (option_map (λ (c : List ℕ × NodeId). c.0) (next_of (Some k) cs))) k) (left_children r e)

  pub placed_same : (r : Option NodeId) (x : NodeId) (k : List ℕ) → out_of t p r ≡ out_of u p r → is_placed (without_replaced t p r) p x k ≡ is_placed (without_replaced u p r) p x k
  placed_same r x k e = ap (λ z. is_pos k && nat_le (length z) 4096) (settled_same r x k e)

-- under a list

module _ (t : Nodes) (f : IsFormed t) (x p : NodeId) (r : Option NodeId) where
  abbrev left : Nodes
  left = without_replaced t p r

  abbrev listed_cells : List Cell
  listed_cells = NodeOf x ∷ All x ∷ All p ∷ replaced_cells t p r

  left_acts : Acts t left (gone_of t (out_of t p r)) p plain
  left_acts = subst (λ (v : Nodes). Acts t v (gone_of t (out_of t p r)) p plain) (sym (replaced_is t p r)) (acts_without t p (out_of t p r))

  left_formed : IsFormed left
  left_formed = (pruned t f p r).formed

  left_covered : Covered t (gone_of t (out_of t p r)) listed_cells
  left_covered = covered_out t f listed_cells (out_of t p r) (out_is t p r)
      (λ c h. or_right (overlaps c (NodeOf x)) _ (or_right (overlaps c (All x)) _ (or_right (overlaps c (All p)) _ (ap (overlaps_some c) (cells_is t p r) ∙ h))))
      (λ y m e there.
      let k = kid_of t p r y e in
      let is : m ≡ k.0 = some_inj m k.0 (sym there ∙ k.1) in
      or_right (overlaps (Slot m.parent m.key) (NodeOf x)) _ (or_right (overlaps (Slot m.parent m.key) (All x)) _ (or_left _ _ (ap (λ z. is_same z p) (ap (λ (v : Node). v.parent) is ∙ k.3) ∙ same_self p))))

  left_framed : Framed t left listed_cells
  left_framed = record {
    node = node_framed t left (gone_of t (out_of t p r)) p plain left_acts left_formed listed_cells left_covered (λ k h es. refl);
    slot = slot_framed t left (gone_of t (out_of t p r)) p plain left_acts left_formed listed_cells left_covered (λ k h es. refl);
  }

-- a new node beside what it covers
put_framed : (c : Nodes) (x : NodeId) (m : Node) (rest : List Cell) → IsFormed (insert c x m) → get c x ≡ None → overlaps_some (Slot m.parent m.key) rest ≡ true → Framed c (insert c x m) (NodeOf x ∷ All x ∷ rest)
put_framed c x m rest h fresh place =
    let ds = NodeOf x ∷ All x ∷ rest in
    let node : overlaps_some (NodeOf x) ds ≡ true = or_left _ _ (same_self x) in
    let slots : (k : List ℕ) → overlaps_some (Slot x k) ds ≡ true = λ k. or_left _ _ (same_self x) in
    let at : overlaps_some (Slot m.parent m.key) ds ≡ true = or_right (overlaps (Slot m.parent m.key) (All x)) _ place in
    record { node = node_beside c x m h fresh ds node slots at; slot = slot_beside c x m h fresh ds node slots at }

framed_wider : (t u : Nodes) (x : NodeId) (ds : List Cell) → Framed t u ds → Framed t u (NodeOf x ∷ All x ∷ ds)
framed_wider t u x ds h = record {
  node = λ q off. h.node q (neither (is_same q x) _ off).1;
  slot = λ q k off. h.slot q k (neither (is_same q x) _ off).1;
}

module _ (t : Nodes) (f : IsFormed t) (x p : NodeId) (k : List ℕ) (r : Option NodeId) (kind : Kind) (e : is_void t (Create x p k r kind) ≡ false) where
  fresh : is_some (get t x) ≡ false
  fresh = (neither _ _ e).0

  abbrev body : Body
  body = Create x p k r kind

  -- what it makes, and of what
  pub record Made : Type 0 where
    pub base : Nodes
    pub key : List ℕ
    pub formed : IsFormed base
    pub whole : IsFormed (insert base x (record { parent = p; key = key; depth = depth_in (get t p) + 1; kind = kind }))
    pub effect_is : effect t (settled_body t body) ≡ insert base x (record { parent = p; key = key; depth = depth_in (get t p) + 1; kind = kind })
    pub new : get base x ≡ None
    pub framed : Framed t base (effect_cells t body)
    pub split : (rest : List Cell) × (effect_cells t body ≡ NodeOf x ∷ All x ∷ rest) × (overlaps_some (Slot p key) rest ≡ true)

  made_in_list : holds_list (get t p) ≡ true → Made
  made_in_list holds =
      let b = neither _ _ (neither _ _ e).1 in
      let n = room_there (get t p) (not_false _ b.0) in
      let list : is_list n.0.kind ≡ true = sym (ap holds_list n.1) ∙ holds in
      let placed : is_placed (without_replaced t p r) p x k ≡ true = not_false _ (second (holds_list (get t p)) _ b.1 holds) in
      let c = without_replaced t p r in
      let z = settled_key c p x k in
      let m : Node = record { parent = p; key = z; depth = n.0.depth + 1; kind = kind } in
      let m2 : Node = record { parent = p; key = z; depth = depth_in (get t p) + 1; kind = kind } in
      let same_node : m ≡ m2 = ap (λ (o : Option Node). record m { depth = depth_in o + 1 }) (sym n.1) in
      let free = free-create_in_list t f x p k r n.0 n.1 list n.2 n.3 fresh placed kind in
      let cells : effect_cells t body ≡ NodeOf x ∷ All x ∷ All p ∷ replaced_cells t p r = ap (λ h. NodeOf x ∷ All x ∷ cond h (All p ∷ replaced_cells t p r) (slot_cells t p k)) holds in
      record {
        base = c;
        key = z;
        formed = (pruned t f p r).formed;
        whole = subst (λ (v : Node). IsFormed (insert c x v)) same_node (formed-insert c x m (pruned t f p r).formed free);
        effect_is =
            ap (λ v. effect t (cond (v || not (holds_list (get t p))) body (Create x p z r kind))) e ∙ ap (λ h. effect t (cond (not h) body (Create x p z r kind))) holds
            ∙ effect-create_in_list t f x p k r n.0 n.1 list n.2 n.3 fresh placed kind z ∙ ap (insert c x) same_node;
        new = none_of (get c x) free.fresh;
        framed = subst (Framed t c) (sym cells) (left_framed t f x p r);
        split = (All p ∷ replaced_cells t p r, cells, or_left _ _ (same_self p));
      }

  made_at_key : holds_list (get t p) ≡ false → Made
  made_at_key holds =
      let b = neither _ _ (neither _ _ e).1 in
      let n = room_there (get t p) (not_false _ b.0) in
      let list : is_list n.0.kind ≡ false = sym (ap holds_list n.1) ∙ holds in
      let c = emptied t p k in
      let z = settled_key (without_replaced t p r) p x k in
      let m : Node = record { parent = p; key = k; depth = n.0.depth + 1; kind = kind } in
      let m2 : Node = record { parent = p; key = k; depth = depth_in (get t p) + 1; kind = kind } in
      let same_node : m ≡ m2 = ap (λ (o : Option Node). record m { depth = depth_in o + 1 }) (sym n.1) in
      let free = free-create t f x p k n.0 n.1 kind list n.2 n.3 fresh in
      let cells : effect_cells t body ≡ NodeOf x ∷ All x ∷ slot_cells t p k = ap (λ h. NodeOf x ∷ All x ∷ cond h (All p ∷ replaced_cells t p r) (slot_cells t p k)) holds in
      record {
        base = c;
        key = k;
        formed = formed-cleared t f x p k n.0 n.1;
        whole = subst (λ (v : Node). IsFormed (insert c x v)) same_node (formed-insert c x m (formed-cleared t f x p k n.0 n.1) free);
        effect_is =
            ap (λ v. effect t (cond (v || not (holds_list (get t p))) body (Create x p z r kind))) e ∙ ap (λ h. effect t (cond (not h) body (Create x p z r kind))) holds
            ∙ effect-create t f x p k n.0 n.1 kind list n.2 n.3 fresh r ∙ ap (insert c x) same_node;
        new = none_of (get c x) free.fresh;
        framed = subst (Framed t c) (sym cells) (framed_wider t c x (slot_cells t p k) (emptied_framed t f p k n.0 n.1));
        split = (slot_cells t p k, cells, or_left _ _ (own_slot p k));
      }

  pub made : Made
  made = list_or_not (holds_list (get t p)) Made made_in_list made_at_key

  pub framed_create : IsFramed t body
  framed_create =
      let h = made in
      let m : Node = record { parent = p; key = h.key; depth = depth_in (get t p) + 1; kind = kind } in
      framed_live t body e (subst (λ (v : Nodes). Framed t v (effect_cells t body)) (sym h.effect_is)
      (framed_then t h.base (insert h.base x m) (effect_cells t body) h.framed (subst (Framed h.base (insert h.base x m)) (sym h.split.1) (put_framed h.base x m h.split.0 h.whole h.new h.split.2))))

-- in two trees

module _ (t u : Nodes) (f : IsFormed t) (g : IsFormed u) (x p : NodeId) (k : List ℕ) (r : Option NodeId) (kind : Kind) (above : Alike (get t p) (get u p)) where
  kept_made : (e : is_void t (Create x p k r kind) ≡ false) (d : is_void u (Create x p k r kind) ≡ false) (a : Made t f x p k r kind e) (b : Made u g x p k r kind d) → Kept t u a.base b.base → a.key ≡ b.key
      → effect_cells t (Create x p k r kind) ≡ effect_cells u (Create x p k r kind) → IsLocal t u (Create x p k r kind)
  kept_made e d a b kept key cells =
      let m : Node = record { parent = p; key = a.key; depth = depth_in (get t p) + 1; kind = kind } in
      let n : Node = record { parent = p; key = b.key; depth = depth_in (get u p) + 1; kind = kind } in
      let one : m ≡ n = λ i. record { parent = p; key = key i; depth = depth_same (get t p) (get u p) above i + 1; kind = kind } in
      local_live t u (Create x p k r kind) e d
      (subst (λ (v : Nodes). Kept t u v (effect u (settled_body u (Create x p k r kind)))) (sym a.effect_is) (subst (Kept t u (insert a.base x m)) (sym b.effect_is)
      (kept_then t u a.base b.base (insert a.base x m) (insert b.base x n) kept (kept_put a.base b.base a.formed b.formed x m n (ap bare one) a.whole b.whole (λ j s. refl) (λ h. inr refl)))))
      cells

  module _ (e : is_void t (Create x p k r kind) ≡ false) (d : is_void u (Create x p k r kind) ≡ false) where
    pub local_in_list : holds_list (get t p) ≡ true → ((j : List ℕ) → SameSlot t u p j) → out_of t p r ≡ out_of u p r → Agrees t u (replaced_cells t p r) → IsLocal t u (Create x p k r kind)
    unfolding made_in_list
    local_in_list holds slots one agree =
        let too : holds_list (get u p) ≡ true = sym (holds_list_same _ _ above) ∙ holds in
        let a = made_in_list t f x p k r kind e holds in
        let b = made_in_list u g x p k r kind d too in
        let out : Agrees t u (removal_of t (out_of t p r)) = subst (Agrees t u) (cells_is t p r) agree in
        let gones = gone_at_out t u f g (out_of t p r) (out_of u p r) one (out_is t p r) out in
        kept_made e d a b
        (kept_changed t u a.base b.base _ _ p plain (left_acts t f x p r) (left_acts u g x p r) (λ fs h. h) gones f g a.formed b.formed by_name_plain (holds_object_same _ _ above))
        (settled_same t u f g p slots r x k one)
        (list_cells t holds
        ∙ ap (λ ds. NodeOf x ∷ All x ∷ All p ∷ ds) (cells_is t p r ∙ removals_same t u f g (out_of t p r) (out_of u p r) one (out_is t p r) out ∙ sym (cells_is u p r))
        ∙ sym (list_cells u too))
      where
        list_cells : (v : Nodes) → holds_list (get v p) ≡ true → effect_cells v (Create x p k r kind) ≡ NodeOf x ∷ All x ∷ All p ∷ replaced_cells v p r
        list_cells v h = ap (λ b. NodeOf x ∷ All x ∷ cond b (All p ∷ replaced_cells v p r) (slot_cells v p k)) h

    pub local_at_key : holds_list (get t p) ≡ false → Agrees t u (slot_cells t p k) → IsLocal t u (Create x p k r kind)
    unfolding made_at_key
    local_at_key holds agree =
        let too : holds_list (get u p) ≡ false = sym (holds_list_same _ _ above) ∙ holds in
        let n = room_there (get t p) (not_false _ (neither _ _ (neither _ _ e).1).0) in
        let m = room_there (get u p) (not_false _ (neither _ _ (neither _ _ d).1).0) in
        kept_made e d (made_at_key t f x p k r kind e holds) (made_at_key u g x p k r kind d too) (emptied_kept t u f g p k n.0 m.0 n.1 m.1 above agree) refl
        (key_cells t holds ∙ ap (λ ds. NodeOf x ∷ All x ∷ ds) (slot_cells_same t u f g p k agree) ∙ sym (key_cells u too))
      where
        key_cells : (v : Nodes) → holds_list (get v p) ≡ false → effect_cells v (Create x p k r kind) ≡ NodeOf x ∷ All x ∷ slot_cells v p k
        key_cells v h = ap (λ b. NodeOf x ∷ All x ∷ cond b (All p ∷ replaced_cells v p r) (slot_cells v p k)) h
