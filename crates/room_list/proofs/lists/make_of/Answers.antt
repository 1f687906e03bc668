use Rattle.std.proofs.Common.{rules, ◌≡◌, true, length, IfOk, IfErr, sym, ap, ◌∙◌, subst}
use Rattle.std.specs.Option.{option_copied}
use Rattle.std.specs.FinMap.{get}
use Rattle.room_nodes.specs.Shape.{children, is_list}
use Rattle.room_model.specs.Edits.{id_at}
use Rattle.room_props.specs.Edits.{IsFaultOf, IsMade, clocks_of, edit_of}
use Rattle.room_props.specs.Making.{Outcome}
use Rattle.room_effect.specs.Beside.{left_of, right_of}
use Rattle.room_list.specs.Listing.{looks}
use Rattle.room_list.proofs.Made.{made_list}
use Rattle.room_list.proofs.lists.make_of.Goals as goal

pub returns-in-Ok : goal.returns-in-Ok
returns-in-Ok g c =
    let t = g.T.Tree.nodes c.args.t.now in
    let e = edit_of c.args.e.now in
    let n = c.in-Some.there.now in
    let f = c.in-Ok.found in
    let there = sym (ap (get t) c.target.ensures) ∙ sym c.node.ensures ∙ ap option_copied c.in-Some.is in
    let list : is_list n.kind ≡ true = search rules in
    let at : looks e ≡ true = search rules in
    let is = made_list t (clocks_of c.args.c.now) e n there list at f.count f.item (option_copied f.left) (option_copied f.right) c.in-Ok.ensures.few
    (c.in-Ok.ensures.count ∙ ap (λ x. length (children t x)) c.target-2.ensures)
    (c.in-Ok.ensures.item ∙ (λ j. id_at (children t (c.target-2.ensures j)) (c.index.ensures j)))
    (c.in-Ok.ensures.left ∙ (λ j. left_of (c.gap.ensures j) (children t (c.target-2.ensures j))))
    (c.in-Ok.ensures.right ∙ (λ j. right_of (c.gap.ensures j) (children t (c.target-2.ensures j)))) in
    record {
      ok = subst (λ (r : Outcome). IfOk c.make_found.result (IsMade r)) (sym is) c.make_found.ensures.ok;
      err = subst (λ (r : Outcome). IfErr c.make_found.result (IsFaultOf r)) (sym is) c.make_found.ensures.err;
    }
