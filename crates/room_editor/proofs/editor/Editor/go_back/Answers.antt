use Rattle.std.proofs.Common.{rules, ◌≡◌, ◌+◌, ◌∙◌, Some, None, sym, ap}
use Rattle.std.specs.Option.{option_copied}
use Rattle.room_model.specs.Account.{actor, last_issued}
use Rattle.room_model.specs.Calls.{entry_bodies, entry_of, go_back}
use Rattle.room_notice.specs.Notices.{notices_in}
use Rattle.room_editor.specs.Faults.{IsUndoFault}
use Rattle.room_editor.specs.Going.{way_of}
use Rattle.room_editor.proofs.Returning.{again, entry_done, entry_refused}
use Rattle.room_editor.proofs.editor.Editor.go_back.Goals as goal

pub returns-in_err-change-clause-fault : goal.returns-in_err-change-clause-fault
returns-in_err-change-clause-fault g c =
    let x = c.args.self.now in
    let closed : x.batch ≡ None = search rules in
    let there : entry_of (way_of c.args.way) x.history ≡ Some c.in-Some.entry.now =
    sym c.entry.ensures.entry ∙ ap option_copied c.in-Some.is in
    let fault : IsUndoFault (go_back (way_of c.args.way) x) c.in_err-change.field-0.0 =
    entry_refused (way_of c.args.way) x c.in-Some.entry.now c.in_err-change.field-0.0 closed there
    (c.in_err-change.ensures.err (way_of c.args.way)) in
    search (fault, rules)

pub perform-requires-clause-ops : goal.perform-requires-clause-ops
perform-requires-clause-ops g c =
    let x = c.args.self.now in
    again (actor x) (last_issued x + 1) (entry_bodies c.in-Some.entry.now) c.in_ok-change.change.ops
    c.in_ok-change.ensures.ops

pub returns-clause-ok : goal.returns-clause-ok
returns-clause-ok g c =
    let x = c.args.self.now in
    let closed : x.batch ≡ None = search rules in
    let there : entry_of (way_of c.args.way) x.history ≡ Some c.in-Some.entry.now =
    sym c.entry.ensures.entry ∙ ap option_copied c.in-Some.is in
    let r = c.in_ok-change.change in
    let e = c.in_ok-change.ensures in
    entry_done (way_of c.args.way) x c.perform.new.self c.in-Some.entry.now r.ops r.me r.unsent r.reversal
    (notices_in c.in_ok-notices.notices) closed there (e.good (way_of c.args.way)) e.ops e.me e.unsent e.reversal
    (ap notices_in c.in_ok-notices.ensures.notices ∙ e.notices) c.in_ok-notices.ensures.ok
