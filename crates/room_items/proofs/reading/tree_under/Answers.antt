use Rattle.std.proofs.Common.{◌∷◌, map, option_map, sym, ap, ◌∙◌, subst}
use Rattle.std.proofs.lemmas.Result.{IfOk-weaker}
use Rattle.room_ids.specs.declared.ids.NodeId.TheVariants.{Root}
use Rattle.room_nodes.specs.Primitives.{CanHold, with_fields_at}
use Rattle.room_nodes.specs.Shape.{Nodes}
use Rattle.room_items.specs.Items.{row_id, put_rows}
use Rattle.room_items.proofs.Rooted.{empty_holds, rooted, in_order_of, in_order_none}
use Rattle.room_items.proofs.reading.tree_under.Goals as goal

pub swap_fields-requires : goal.swap_fields-requires
swap_fields-requires g c =
    subst (λ (t : Nodes). CanHold t Root c.args.fields) (sym (c.reserve.ensures.same ∙ c.requires)) (empty_holds c.args.fields)

pub returns-in-Some : goal.returns-in-Some
returns-in-Some g c =
    let rows = c.args.rows in
    let swapped = c.swap_fields.ensures.nodes ∙ ap (λ (u : Nodes). with_fields_at u Root c.args.fields) (c.reserve.ensures.same ∙ c.requires) ∙ rooted c.args.fields in
    let made = sym (ap (λ (u : Nodes). put_rows u rows) swapped) ∙ sym c.put_rows.ensures ∙ ap (option_map (λ u. g.T.Tree.nodes u)) c.in-Some.is in
    let ids = c.as_slice-in-Some.ensures ∙ c.in_ok-ids.ensures ∙ ap (λ is. Root ∷ map row_id is) c.as_slice.ensures in
    IfOk-weaker c.in_order.result _ _ (λ r e. e ∙ in_order_of (g.T.Tree.nodes c.in-Some.t) rows _ _ ids made) c.in_order.ensures

pub returns : goal.returns
returns g c =
    let rows = c.args.rows in
    let swapped = c.swap_fields.ensures.nodes ∙ ap (λ (u : Nodes). with_fields_at u Root c.args.fields) (c.reserve.ensures.same ∙ c.requires) ∙ rooted c.args.fields in
    let made = sym (ap (λ (u : Nodes). put_rows u rows) swapped) ∙ sym c.put_rows.ensures ∙ ap (option_map (λ u. g.T.Tree.nodes u)) c.in-None.is in
    in_order_none rows _ made
