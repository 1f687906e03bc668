use Rattle.std.proofs.Common.{rules, ◌≡◌, ◌∙◌, true, is_some, sym, ap}
use Rattle.room_model.specs.Account.{Account}
use Rattle.room_editor.proofs.Placed.{put_stands}
use Rattle.room_editor.proofs.Viewing.{batch_is_some}
use Rattle.room_editor.specs.Editor.{opened_in}
use Rattle.room_editor.proofs.editor.Editor.put_open.Goals as goal

pub invariant_of-self-2 : goal.invariant_of-self-2
invariant_of-self-2 g c =
    let e = c.self.inside in
    let some : is_some e.gathering ≡ true =
    sym (batch_is_some (opened_in e.over) e.gathering)
    ∙ ap (λ (x : Account). is_some x.batch) c.self.view_is ∙ c.requires.open in (
      c.requires.node,
      put_stands e.room e.session e.node e.me e.others.others e.unsent.items e.past e.gathering c.args.self.now e.over
          c.self.view_is c.self.invariant.1 c.in-Some.over c.put_in.new.over c.put_in.new.self c.args.made.now.ops
          c.args.back c.args.bytes c.in-Some.is some c.requires.runs c.requires.bytes
          c.in_ok-put_in.ensures.over c.in_ok-put_in.ensures.more,
    )
