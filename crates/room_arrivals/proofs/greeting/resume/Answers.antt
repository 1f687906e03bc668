use Rattle.std.proofs.Common.{rules}
use Rattle.std.specs.Prelude.{option_map}
use Rattle.std.proofs.lemmas.Result.{on_ok_weaker}
use Rattle.room_access.specs.View.{decision_of}
use Rattle.room_arrivals.proofs.Same.{resumed_so}
use Rattle.room_arrivals.proofs.greeting.resume.Goals as goal

pub returns-clause-serves : goal.returns-clause-serves
returns-clause-serves g c =
    on_ok_weaker c.welcome.result (λ after.
    resumed_so c.args.store.now c.args.setting.now c.args.draft.now c.args.conn c.args.link.now c.args.resume
    (option_map decision_of c.args.decision) c.set.new.self c.close_holders.new.outs c.welcome.new.outs (search rules)
    (search rules) after) c.welcome.ensures
