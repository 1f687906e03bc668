use Rattle.std.proofs.Common.{ℕ, List, [], ◌∷◌, ◌++◌, ◌≡◌, ◌+◌, ◌-◌, T, map, drop, append_assoc, arith, sym, ap, ◌∙◌, subst}
use Rattle.std.proofs.lemmas.Result.{IfOk-weaker}
use Rattle.std.specs.Cmp.Lexicographic.{slice_cmp}
use Rattle.std.specs.FinMap.{is_sorted}
use Rattle.std.specs.Ordering.{nat_cmp}
use Rattle.std.proofs.lemmas.List.{drop_more}
use Rattle.room_json.specs.View.{json_of, members_view}
use Rattle.room_json.specs.Value.{Value}
use Rattle.room_ids.specs.declared.ids.NodeId.{NodeId}
use Rattle.room_nodes.specs.Shape.{children}
use Rattle.room_items.specs.View.{view_within, node_view}
use Rattle.room_items.proofs.Levels.{view_more}
use Rattle.room_items.proofs.Shown.{shown_sorted, members_append}
use Rattle.room_items.proofs.showing.+show.Goals as goal

pub view_node-shape-requires-2 : goal.view_node-shape-requires-2
view_node-shape-requires-2 g t c =
    let tree = g.T.Tree.nodes c.args.t.now in
    let f : List ℕ × NodeId → Value = λ e. view_within (c.args.levels - 1) tree e.1 in
    let shown = c.in_ok-shown.ensures ∙ ap (map (λ e. (e.0, f e))) (c.as_slice.ensures ∙ c.in_ok-below.ensures) in
    subst (λ es. T (is_sorted (slice_cmp nat_cmp) es)) (sym shown) (shown_sorted tree c.args.id.now f)

pub view_node-returns : goal.view_node-returns
view_node-returns g t c =
    let tree = g.T.Tree.nodes c.args.t.now in
    let f : List ℕ × NodeId → Value = λ e. view_within (c.args.levels - 1) tree e.1 in
    let shown = c.in_ok-shown.ensures ∙ ap (map (λ e. (e.0, f e))) (c.as_slice.ensures ∙ c.in_ok-below.ensures) in
    IfOk-weaker c.shape-2.result _ _ (λ v e.
    e ∙ ap (node_view _) shown ∙ ap (λ o. node_view o (map (λ e. (e.0, f e)) (children tree c.args.id.now))) c.node-2.ensures
    ∙ sym (view_more c.args.levels tree c.args.id.now (λ z. omega (arith, c.if-levels-eq0.false, z)))) c.shape-2.ensures

pub views-loop-kid-preserved : goal.views-loop-kid-preserved
views-loop-kid-preserved g t c =
    let l = c.loop-kid in
    let i = l.kid-index in
    let tree = g.T.Tree.nodes c.args.t.now in
    let all = c.args.below.now in
    let kid = c.kid-item.result in
    let f : List ℕ × NodeId → List ℕ × Value = λ e. (e.0, view_within c.args.levels tree e.1) in
    let here : drop i all ≡ kid ∷ drop (i + 1) all = drop_more all i kid (omega arith) ∙ ap (λ y. y ∷ drop (i + 1) all) (sym c.kid-item.is) in
    let pair : (c.in_ok-name.name, json_of c.in_ok-value.value) ≡ f kid = λ j. (c.in_ok-name.ensures j, c.in_ok-value.ensures j) in
    let new = ap members_view c.in_ok-push.ensures.ok ∙ members_append l.shown ((c.in_ok-name.name, c.in_ok-value.value) ∷ []) ∙ ap (λ (p : List ℕ × Value). members_view l.shown ++ p ∷ []) pair in
    ap (λ ms. ms ++ map f (drop (i + 1) all)) new
    ∙ append_assoc (members_view l.shown) (f kid ∷ []) (map f (drop (i + 1) all))
    ∙ ap (λ ys. members_view l.shown ++ map f ys) (sym here)
    ∙ l.invariant
