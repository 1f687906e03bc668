use Rattle.std.proofs.Common.{◌≡◌, ◌++◌, refl, sym, ap, ◌∙◌, subst}
use Rattle.std.proofs.lemmas.List.Filters.{dedup_is}
use Rattle.std.proofs.lemmas.List.Kept.{Contains-dedup, Contains-from_dedup, IsStrictlySortedBy-dedup}
use Rattle.std.proofs.lemmas.List.Sorted.{Contains-permutation, IsPermutation-sym}
use Rattle.std.specs.Cmp.{eq_by_cmp_equiv}
use Rattle.room_ids.proofs.IdOrder.{node_cmp-total}
use Rattle.room_nodes.proofs.Fitting.{some_of}
use Rattle.room_nodes.proofs.Gets.{same}
use Rattle.room_nodes.proofs.Listing.{Has}
use Rattle.room_nodes.specs.Preorder.{preorder, preorder_within}
use Rattle.room_foot.proofs.Levels.{preorder_is, preorder_there}
use Rattle.room_foot.proofs.Rising.{contains_has, has_contains, rises_of, rising_cells}
use Rattle.room_foot.proofs.below.rising_below.Goals as goal

pub returns : goal.returns
returns g c =
    let t = g.T.Tree.nodes c.args.t.now in
    let f = g.met.T.Tree.formed c.args.t.now in
    let top = c.args.top.now in
    let n = some_of _ c.requires.there in
    let all : c.push_below.new.ids.items ≡ preorder t top = c.in_ok-push_below.ensures ∙ ap (λ xs. xs ++ preorder_within 60 t top) c.new-ids.ensures.items ∙ preorder_is t top in
    let is = dedup_is _ _ _ c.dedup.ensures.filtered in
    let moved = c.sort_unstable.ensures.permutation in
    rising_cells t top f c.requires.made c.dedup.new.self.items
    (rises_of _ (rw is (IsStrictlySortedBy-dedup node_cmp-total (λ x y. refl) _ c.sort_unstable.ensures.sorted)))
    (λ q h. has_contains q _ (rw is (Contains-dedup (eq_by_cmp_equiv node_cmp-total) same _ q (Contains-permutation _ _ q moved (contains_has q _ (subst (Has q) (sym all) h))))))
    (λ q h.
    let there : Has q (preorder t top) = subst (Has q) all (has_contains q _ (Contains-permutation _ _ q (IsPermutation-sym _ _ moved) (Contains-from_dedup _ _ q (rw is at (contains_has q _ h))))) in
    let m = preorder_there t f top n.0 n.1 q there in
    (m.0, m.1, there))
