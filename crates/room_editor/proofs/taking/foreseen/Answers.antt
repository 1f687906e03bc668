use Rattle.std.proofs.Common.{rules, ◌≡◌, ◌∷◌, [], true, false}
use Rattle.room_json.specs.View.{json_of}
use Rattle.room_items.specs.View.{view}
use Rattle.room_nodes.specs.Equal.{are_first}
use Rattle.room_model.specs.Account.{is_some_list}
use Rattle.room_model.specs.Notices.{Reset}
use Rattle.room_overlay.specs.Over.{pending, stands_apart}
use Rattle.room_editor.specs.Taking.{notices_with, update_shows}
use Rattle.room_editor.proofs.Pending.{bodies_drop}
use Rattle.room_editor.proofs.Taken.{reset_with, resets, some_pending}
use Rattle.room_editor.proofs.taking.foreseen.Goals as goal

pub returns-clause-notices : goal.returns-clause-notices
returns-clause-notices g c =
    let o = c.args.over.now in
    let os = c.args.ops.now in
    let first : are_first os (pending o) ≡ false = search rules in
    let some : is_some_list (pending o) ≡ true = search (some_pending, rules) in
    let apart : stands_apart o os ≡ false = search rules in
    let shows : json_of c.in_ok-view.view ≡ view (update_shows o os) = search (bodies_drop, rules) in
    resets c.reset.result (Reset (json_of c.in_ok-view.view) ∷ []) (notices_with o os (update_shows o os))
    c.reset.ensures (reset_with o os (json_of c.in_ok-view.view) first some apart shows)
