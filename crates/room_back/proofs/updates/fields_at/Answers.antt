use Rattle.std.proofs.Common.{◌≡◌, [], rules, sym, ◌∙◌, subst}
use Rattle.std.specs.Cmp.Lexicographic.{slice_cmp}
use Rattle.std.specs.FinMap.{get}
use Rattle.std.specs.List.Sorted.{IsStrictlySortedBy}
use Rattle.std.specs.Ordering.{nat_cmp}
use Rattle.room_json.proofs.Views.{keys_of-members_view}
use Rattle.room_json.specs.Value.{merged}
use Rattle.room_json.specs.View.{members_view}
use Rattle.room_nodes.specs.Reversal.{old_fields}
use Rattle.room_back.proofs.Olds.{olds_merged}
use Rattle.room_back.proofs.updates.fields_at.Goals as goal

pub returns : goal.returns
returns g c =
    let n = get (g.T.Tree.nodes c.args.t.now) c.args.id.now in
    let names = c.args.names.now.entries in
    let all : c.loop-name.old ≡ merged [] (old_fields n (members_view names)) = search rules in
    let is_ordered = subst (IsStrictlySortedBy (slice_cmp nat_cmp)) (sym (keys_of-members_view names))
    c.iter-name-items.ensures.ordered in
    all ∙ olds_merged n (members_view names) is_ordered
