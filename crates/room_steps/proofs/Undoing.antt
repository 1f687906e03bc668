-- The reversal of operations is read of their cells; so undoing what nothing else touched restores it.
use Rattle.std.proofs.Common.{◌≡◌, ◌≢◌, inl, inr, ℕ, zero, suc, Bool, true, false, cond, not, List, [], ◌∷◌, ◌++◌, flat_map, Option, Some, None, refl, sym, ap, ◌∙◌, subst}
use Rattle.std.specs.Cmp.Lexicographic.{slice_cmp}
use Rattle.std.specs.FinMap.{get, entries, find}
use Rattle.std.specs.Ordering.{nat_cmp}
use Rattle.room_json.specs.Value.{Value}
use Rattle.room_ids.specs.Order.{is_same}
use Rattle.room_ids.specs.declared.ids.NodeId.{NodeId}
use Rattle.room_ids.specs.declared.ids.NodeId.TheVariants.{Root}
use Rattle.room_nodes.specs.Cells.{Agrees, SameSlot, cells_all, create_reads, effect_cells, meets, reads, removal_cells, removal_of, replaced_cells, slot_cells, slots_cells, writes, writes_all}
use Rattle.room_nodes.specs.Primitives.{fields_in}
use Rattle.room_nodes.specs.Shape.{Nodes, IsFormed, child_at, children, is_below}
use Rattle.room_nodes.specs.Steps.{fold, holds_list, is_under, is_void, step}
use Rattle.room_nodes.specs.declared.cells.Cell.TheVariants.{All}
use Rattle.room_nodes.specs.declared.nodes.Body.{Body}
use Rattle.room_nodes.specs.declared.nodes.Body.TheVariants.{SetKey, Create, Update, Delete, DeleteKey}
use Rattle.room_nodes.specs.declared.nodes.Kind.{Kind}
use Rattle.room_nodes.specs.declared.nodes.Kind.TheVariants.{Object, List as Listed, Map as Mapped, Register}
use Rattle.room_nodes.specs.declared.nodes.Node.{Node}
use Rattle.room_nodes.proofs.Below.{below_self, below_step}
use Rattle.room_nodes.proofs.Children.{answer_of, is_child_of}
use Rattle.room_nodes.proofs.Fitting.{both, not_true, some_of}
use Rattle.room_nodes.proofs.Gets.{same_self, true_false}
use Rattle.room_nodes.proofs.Listing.{Has}
use Rattle.room_nodes.proofs.StepForm.{FieldsOf}
use Rattle.room_nodes.proofs.Steps.{neither, not_false, formed-step, formed-fold}
use Rattle.room_nodes.specs.Preorder.{preorder, preorder_within}
use Rattle.room_nodes.proofs.Childs.{Kid}
use Rattle.room_nodes.proofs.Walks.{walk_there}
use Rattle.room_nodes.proofs.Tours.{is_within, tour_under}
use Rattle.room_steps.specs.Laws.{UndoRestores}
use Rattle.room_nodes.specs.Reversal.{child_restored, creation, creations, displaced, field_in, field_of_node, gone_or, key_restored, node_restored, old_field, old_fields, old_update, other_name, other_names, replaced_restored, reverse, reverse_all, reversed, slot_or, slot_restored}
use Rattle.room_steps.proofs.Booleans.{or_right}
use Rattle.room_steps.proofs.Agreement.{create_both, create_out, local, void_same}
use Rattle.room_steps.proofs.Alike.{by_alike, holds_list_same, key_alike}
use Rattle.room_steps.proofs.Changing.{AreMatched}
use Rattle.room_steps.proofs.Commuting.{agrees_first, agrees_off, agrees_rest, either_order, framed_fold, one_node, ordered_matched}
use Rattle.room_steps.proofs.Covering.{Agrees-append, is_hit, hit_is, hit_of}
use Rattle.room_steps.proofs.Creations.{cells_is, out_by, out_is, out_of}
use Rattle.room_steps.proofs.Kin.{same_children}
use Rattle.room_steps.proofs.Operations.{writes_by}
use Rattle.room_steps.proofs.OrderedSteps.{ordered_fold}
use Rattle.room_steps.proofs.Regions.{node_agrees, slot_agrees}
use Rattle.room_steps.proofs.Restoring.{order, under}
use Rattle.room_steps.proofs.Reversing.{reversible}
use Rattle.room_steps.proofs.Touching.{IsOut, child_out}

flat_same : {X A : Type 0} (h k : X → List A) (es : List X) → ((e : X) → Has e es → h e ≡ k e) → flat_map h es ≡ flat_map k es
flat_same h k [] same = refl
flat_same h k (e ∷ es) same = ap (λ as2. as2 ++ flat_map h es) (same e (inl refl)) ∙ ap (λ as2. k e ++ as2) (flat_same h k es (λ d m. same d (inr m)))

field_kind : (k : List ℕ) (kind : Kind) (n : Node) → n.kind ≡ kind → field_in k kind ≡ find (slice_cmp nat_cmp) k (fields_in (Some (record n { kind = kind })))
field_kind k (Object fs) n e = refl
field_kind k Listed n e = refl
field_kind k Mapped n e = refl
field_kind k (Register v) n e = refl

field_found : (k : List ℕ) (o : Option Node) → field_of_node k o ≡ find (slice_cmp nat_cmp) k (fields_in o)
field_found k None = refl
field_found k (Some n) = field_kind k n.kind n refl

replaced_by : (t : Nodes) (y : NodeId) (b : Bool) → cond b (node_restored t y) [] ≡ child_restored t (out_by y b)
replaced_by t y true = refl
replaced_by t y false = refl

replaced_is : (t : Nodes) (p : NodeId) (r : Option NodeId) → replaced_restored t p r ≡ child_restored t (out_of t p r)
replaced_is t p None = refl
replaced_is t p (Some y) = replaced_by t y (is_under p y (get t y))

module _ (t u : Nodes) (f : IsFormed t) (g : IsFormed u) (matched : AreMatched t u) where
  -- a node that is removed
  module _ (y : NodeId) (m : Node) (here : get t y ≡ Some m) (made : y ≢ Root) (agree : Agrees t u (removal_cells t y)) where
    kids_same : (q : NodeId) → is_hit t y q ≡ true → children t q ≡ children u q
    kids_same q h = same_children t u q (λ k. (slot_agrees t u f g y m here made agree q k h).1)

    kid_hit : (q : NodeId) → is_hit t y q ≡ true → (e : Kid) → Has e (children t q) → is_hit t y e.1 ≡ true
    kid_hit q h e d =
        let c = is_child_of q (entries t) e d in
        let there = answer_of t (e.1, c.node) c.has in
        hit_of t y e.1 c.node there (below_step t f y e.1 c.node c.made there ∙ or_right (is_same e.1 y) _ (ap (is_below t y) c.parent ∙ (hit_is t y q h).2))

    within_same : (n : ℕ) (q : NodeId) → is_hit t y q ≡ true → preorder_within n t q ≡ preorder_within n u q
    unfolding preorder_within
    within_same zero q h = refl
    within_same (suc n) q h =
        ap (λ xs. q ∷ xs) (flat_same (λ (e : Kid). preorder_within n t e.1) (λ (e : Kid). preorder_within n u e.1) (children t q) (λ e d. within_same n e.1 (kid_hit q h e d))
        ∙ ap (flat_map (λ (e : Kid). preorder_within n u e.1)) (kids_same q h))

    first_hit : is_hit t y y ≡ true
    first_hit = hit_of t y y m here (below_self t y)

    order_same : preorder t y ≡ preorder u y
    unfolding preorder
    order_same = within_same 60 y first_hit

    stands : (q : NodeId) → Has q (preorder t y) → (n : Node) × (get t q ≡ Some n)
    stands q h = elim (subst (Has q) (order t f y m made here) h) [
      | inl e ↦ (m, ap (get t) (sym e) ∙ here)
      | inr d ↦ walk_there t q (under t f y m made here) (y ∷ []) (tour_under t f y) d
    ]

    listed_hit : (q : NodeId) → Has q (preorder t y) → is_hit t y q ≡ true
    listed_hit q h = let n = stands q h in hit_of t y q n.0 n.1 (is_within t f y q h)

    node_same : (q : NodeId) → is_hit t y q ≡ true → get t q ≡ get u q
    node_same q h = one_node t u matched q (λ k. slot_agrees t u f g y m here made agree q k h) (node_agrees t u f g y m here made agree q h)

    creations_same : (xs : List NodeId) → ((q : NodeId) → Has q xs → is_hit t y q ≡ true) → creations t xs ≡ creations u xs
    creations_same [] h = refl
    creations_same (x ∷ xs) h = ap (λ w. creation x w ++ creations t xs) (node_same x (h x (inl refl))) ∙ ap (λ bs. creation x (get u x) ++ bs) (creations_same xs (λ q d. h q (inr d)))

    restored_same : node_restored t y ≡ node_restored u y
    restored_same = creations_same (preorder t y) listed_hit ∙ ap (creations u) order_same

  child_same : (c : Option NodeId) → IsOut t c → Agrees t u (removal_of t c) → child_restored t c ≡ child_restored u c
  child_same None out h = refl
  child_same (Some y) out h = let r = out y refl in restored_same y r.0 r.1 r.2 h

  field_same : (x : NodeId) (k : List ℕ) → SameSlot t u x k → field_of_node k (get t x) ≡ field_of_node k (get u x)
  field_same x k s = field_found k (get t x) ∙ s.0 ∙ sym (field_found k (get u x))

  slot_child_same : (x : NodeId) (k : List ℕ) → Agrees t u (slot_cells t x k) → child_restored t (child_at t x k) ≡ child_restored u (child_at u x k)
  slot_child_same x k h = child_same (child_at t x k) (child_out t x k) h.1 ∙ ap (child_restored u) h.0.1

  slot_same : (x : NodeId) (k : List ℕ) → Agrees t u (slot_cells t x k) → slot_restored t x k ≡ slot_restored u x k
  slot_same x k h = ap (λ v. slot_or x k v (child_restored t (child_at t x k))) (field_same x k h.0) ∙ ap (slot_or x k (field_of_node k (get u x))) (slot_child_same x k h)

  old_fields_same : (x : NodeId) (fs : FieldsOf) → Agrees t u (slots_cells t x fs) → old_fields (get t x) fs ≡ old_fields (get u x) fs
  old_fields_same x [] h = refl
  old_fields_same x (e ∷ fs) h =
      let a = Agrees-append t u (slot_cells t x e.0) (slots_cells t x fs) h in
      ap (λ v. old_field e.0 v ++ old_fields (get t x) fs) (field_same x e.0 a.0.0) ∙ ap (λ es. old_field e.0 (field_of_node e.0 (get u x)) ++ es) (old_fields_same x fs a.1)

  name_by : (x : NodeId) (k : List ℕ) → Agrees t u (slot_cells t x k) → (v : Option Value) → other_name t x k v ≡ other_name u x k v
  name_by x k h None = ap (λ c. gone_or x k c (child_restored t (child_at t x k))) h.0.1 ∙ ap (gone_or x k (child_at u x k)) (slot_child_same x k h)
  name_by x k h (Some v) = refl

  names_same : (x : NodeId) (fs : FieldsOf) → Agrees t u (slots_cells t x fs) → other_names t x fs ≡ other_names u x fs
  names_same x [] h = refl
  names_same x (e ∷ fs) h =
      let a = Agrees-append t u (slot_cells t x e.0) (slots_cells t x fs) h in
      ap (λ v. other_name t x e.0 v ++ other_names t x fs) (field_same x e.0 a.0.0)
      ∙ ap (λ bs. bs ++ other_names t x fs) (name_by x e.0 a.0 (field_of_node e.0 (get u x)))
      ∙ ap (λ bs. other_name u x e.0 (field_of_node e.0 (get u x)) ++ bs) (names_same x fs a.1)

  displaced_by : (x q : NodeId) (k : List ℕ) (r : Option NodeId) → Agrees t u (create_reads x q r (holds_list (get t q))) → (b : Bool) → holds_list (get t q) ≡ b
      → Agrees t u (cond b (All q ∷ replaced_cells t q r) (slot_cells t q k)) → cond b (replaced_restored t q r) (slot_restored t q k) ≡ cond b (replaced_restored u q r) (slot_restored u q k)
  displaced_by x q k r h true list w =
      replaced_is t q r ∙ child_same (out_of t q r) (out_is t q r) (subst (Agrees t u) (cells_is t q r) w.1)
      ∙ ap (child_restored u) (create_out t u f g x q r h list) ∙ sym (replaced_is u q r)
  displaced_by x q k r h false list w = slot_same q k w

  displaced_same : (x q : NodeId) (k : List ℕ) (r : Option NodeId) → Agrees t u (create_reads x q r (holds_list (get t q))) → Agrees t u (cond (holds_list (get t q)) (All q ∷ replaced_cells t q r) (slot_cells t q k)) → displaced t q k r ≡ displaced u q k r
  displaced_same x q k r h w =
      displaced_by x q k r h (holds_list (get t q)) refl w
      ∙ ap (λ b. cond b (replaced_restored u q r) (slot_restored u q k)) (holds_list_same _ _ (create_both t u f g x q r _ h).1)

  reversed_same : (b : Body) → is_void t b ≡ false → Agrees t u (reads t b) → Agrees t u (effect_cells t b) → reversed t b ≡ reversed u b
  reversed_same (SetKey x k) e h w = by_alike (key_restored x) (λ n m i. ap (λ z. SetKey x z ∷ []) (key_alike n m i)) (get t x) (get u x) w.1.0
  reversed_same (Create x q k r kind) e h w = ap (λ bs. Delete x ∷ bs) (displaced_same x q k r h w.1.1)
  reversed_same (Update x fs) e h w = ap (λ ds. old_update x ds ++ other_names t x fs) (old_fields_same x fs w) ∙ ap (λ bs. old_update x (old_fields (get u x) fs) ++ bs) (names_same x fs w)
  reversed_same (Delete x) e h w =
      let a = neither _ _ e in
      let n = some_of (get t x) (not_false _ a.0) in
      restored_same x n.0 n.1 (λ r. true_false (sym (same_self Root) ∙ ap (λ y. is_same y Root) (sym r) ∙ a.1)) w.1
  reversed_same (DeleteKey x k) e h w = slot_same x k w

  reverse_by : (b : Body) → Agrees t u (reads t b) → Agrees t u (writes t b) → (v : Bool) → is_void t b ≡ v → reverse t b ≡ reverse u b
  reverse_by b h w true e = ap (λ v. cond v [] (reversed t b)) e ∙ sym (ap (λ v. cond v [] (reversed u b)) (sym (void_same t u f g b h) ∙ e))
  reverse_by b h w false e =
      ap (λ v. cond v [] (reversed t b)) e ∙ reversed_same b e h (subst (Agrees t u) (writes_by t b false e) w)
      ∙ sym (ap (λ v. cond v [] (reversed u b)) (sym (void_same t u f g b h) ∙ e))

  reverse_same : (b : Body) → Agrees t u (reads t b ++ writes t b) → reverse t b ≡ reverse u b
  reverse_same b h = let a = Agrees-append t u (reads t b) (writes t b) h in reverse_by b a.0 a.1 _ refl

-- a list's reversal
pub reversals_same : (t u : Nodes) → IsFormed t → IsFormed u → AreMatched t u → (bs : List Body) → Agrees t u (cells_all t bs) → reverse_all t bs ≡ reverse_all u bs
reversals_same t u f g m [] h = refl
reversals_same t u f g m (b ∷ bs) h =
    ap (λ cs. cs ++ reverse t b) (reversals_same (step t b) (step u b) (formed-step t f b) (formed-step u g b) ((local t u f g b (agrees_first t u f g b bs h)).kept.matched m) bs (agrees_rest t u f g b bs h))
    ∙ ap (λ cs. reverse_all (step u b) bs ++ cs) (reverse_same t u f g m b (agrees_first t u f g b bs h))

pub undo_restores : UndoRestores
undo_restores s t bs zs fs ft os ot hb hz agree apart =
    let q = fold t zs in
    let fq = formed-fold t ft zs in
    let oq = ordered_fold t zs ot hz in
    let off : meets (writes_all t zs) (cells_all t bs) ≡ false = not_true _ (both (not (meets (writes_all t zs) (cells_all t bs))) _ apart).0 in
    let same : reverse_all s bs ≡ reverse_all q bs =
    reversals_same s t fs ft (ordered_matched s t os ot) bs agree
    ∙ reversals_same t q ft fq (ordered_matched t q ot oq) bs (agrees_off t q (writes_all t zs) (framed_fold t ft zs) (cells_all t bs) off) in
    ap (λ (v : Nodes). fold v (reverse_all s bs)) (sym (either_order t zs bs ft ot hz hb apart))
    ∙ ap (fold (fold q bs)) same ∙ reversible q bs fq oq hb
