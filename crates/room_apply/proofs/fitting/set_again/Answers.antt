-- What is left to prove of `fitting::set_again`.
use Rattle.std.proofs.Common.{ap, ◌∙◌}
use Rattle.room_json.specs.View.{json_of}
use Rattle.room_apply.proofs.Removing.{set_found, set_missing}
use Rattle.room_apply.proofs.fitting.set_again.Goals as goal

pub returns-in_ok-set-in-Some : goal.returns-in_ok-set-in-Some
returns-in_ok-set-in-Some c =
    c.in_ok-set-in-Some.ensures.ok
    ∙ set_found c.args.name.now _ _ _ c.args.old.now c.args.all.now c.in_ok-copy-in-Some.ensures
    (ap json_of c.in_ok-copy-in-Some-2.ensures) c.in-Some.ensures

pub returns-in-None : goal.returns-in-None
returns-in-None c =
    c.remove.ensures.rest
    ∙ set_missing c.args.name.now c.args.old.now c.args.all.now c.in-None.ensures c.len.ensures.ordered
