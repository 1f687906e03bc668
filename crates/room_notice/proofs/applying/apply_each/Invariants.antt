use Rattle.std.proofs.Common.{◌≡◌, true, drop}
use Rattle.room_json.specs.View.{json_of}
use Rattle.room_model.specs.Notices.{apply_all, apply_while}
use Rattle.room_notice.specs.Notices.{notices_in}
use Rattle.room_notice.proofs.applying.apply_each.Given as goal

abbrev pub invariant-loop-notice : goal.invariant-loop-notice
invariant-loop-notice l =
    apply_while true (notices_in (drop l.notice-index l.notices)) (json_of l.shown) ≡ apply_all (notices_in l.notices) (json_of l.view)
