use Rattle.std.proofs.Common.{rules, ◌≡◌, ◌∙◌, ◌∷◌, [], ap}
use Rattle.room_json.specs.Value.{Value}
use Rattle.room_json.specs.View.{json_of}
use Rattle.room_items.specs.View.{view}
use Rattle.room_model.specs.Notices.{Reset}
use Rattle.room_notice.specs.Notices.{notices_in}
use Rattle.room_editor.specs.Taking.{state_shows}
use Rattle.room_editor.proofs.Pending.{bodies_drop, state_keeps}
use Rattle.room_editor.proofs.Taken.{load_notices}
use Rattle.room_editor.proofs.taking.load_over.Goals as goal

pub returns-clause-kept : goal.returns-clause-kept
returns-clause-kept g c =
    state_keeps c.args.over.now c.load.new.self c.args.seq c.args.last (g.T.Tree.nodes c.args.items)
    c.last_issued.ensures.runs c.in_ok-load.ensures.ok

pub returns-clause-notices : goal.returns-clause-notices
returns-clause-notices g c =
    let shows : json_of c.in_ok-view.view
    ≡ view (state_shows c.args.over.now c.args.last (g.T.Tree.nodes c.args.items)) =
    search (bodies_drop, rules) in
    load_notices c.args.over.now c.load.new.self c.args.seq c.args.last (g.T.Tree.nodes c.args.items)
    (notices_in c.in_ok-notices.notices) c.last_issued.ensures.runs c.in_ok-load.ensures.ok
    (c.in_ok-notices.ensures ∙ ap (λ (v : Value). Reset v ∷ []) shows)
