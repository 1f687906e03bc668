use Rattle.std.proofs.Common.{map, option_map, sym, ap, ◌∙◌, subst}
use Rattle.room_ids.specs.declared.ids.NodeId.TheVariants.{Root}
use Rattle.room_nodes.specs.Primitives.{CanHold, with_fields_at}
use Rattle.room_nodes.specs.Shape.{Nodes}
use Rattle.room_items.proofs.Rooted.{empty_holds, rooted as rooted_is}
use Rattle.room_snapshot.specs.Bounds.{rowed}
use Rattle.room_snapshot.specs.Reading.{put_nodes, rooted}
use Rattle.room_snapshot.proofs.putting.rooted.Goals as goal

pub swap_fields-requires : goal.swap_fields-requires
swap_fields-requires g c =
    let fields = c.in-Object.fields in
    subst (λ (t : Nodes). CanHold t Root fields) (sym (c.reserve.ensures.same ∙ c.requires)) (empty_holds fields)

pub returns-in-Some : goal.returns-in-Some
returns-in-Some g c =
    let rows = map rowed c.args.rows in
    let fields = c.in-Object.fields in
    let swapped = c.swap_fields.ensures.nodes
    ∙ ap (λ (u : Nodes). with_fields_at u Root fields) (c.reserve.ensures.same ∙ c.requires) ∙ rooted_is fields in
    ap (λ k. rooted k rows) c.in-Object.is ∙ sym (ap (λ (u : Nodes). put_nodes u rows) swapped) ∙ sym c.put_rows.ensures
    ∙ ap (option_map (λ u. g.T.Tree.nodes u)) c.in-Some.is

pub returns-in-None : goal.returns-in-None
returns-in-None g c =
    let rows = map rowed c.args.rows in
    let fields = c.in-Object.fields in
    let swapped = c.swap_fields.ensures.nodes
    ∙ ap (λ (u : Nodes). with_fields_at u Root fields) (c.reserve.ensures.same ∙ c.requires) ∙ rooted_is fields in
    ap (λ k. rooted k rows) c.in-Object.is ∙ sym (ap (λ (u : Nodes). put_nodes u rows) swapped) ∙ sym c.put_rows.ensures
    ∙ ap (option_map (λ u. g.T.Tree.nodes u)) c.in-None.is
