use Rattle.std.proofs.Common.{◌≡◌, ◌++◌, List, map, sym, ap, ◌∙◌}
use Rattle.std.proofs.lemmas.Result.{on_ok_weaker}
use Rattle.std.specs.FinMap.{FinMap, entries}
use Rattle.std.specs.Ordering.{nat_cmp}
use Rattle.room_model.specs.Server.{Link, Outbound}
use Rattle.room_links.specs.declared.outs.Out.{Out}
use Rattle.room_links.specs.declared.outs.Sending.{Sending}
use Rattle.room_links.specs.Outs.{sending_of, written}
use Rattle.room_links.specs.Links.{as_map, sends_of, to_whom}
use Rattle.room_links.proofs.Maps.{entries_are}
use Rattle.room_links.proofs.Spreading.{said}
use Rattle.room_links.proofs.links.Links.send.Goals as goal

pub returns : goal.returns
returns c m e =
    on_ok_weaker c.send_each.result (λ is.
    is ∙ ap (λ (os : List Out). c.args.outs.now ++ os)
    (ap (λ (s : Sending). sends_of c.args.whom s c.self.inside.map.entries) (sym e)
    ∙ ap (sends_of c.args.whom (sending_of m)) (sym (entries_are c.self.inside.map.entries c.self.invariant))
    ∙ said c.args.whom m (as_map c.self.inside.map.entries)
    ∙ ap (λ (ls : FinMap nat_cmp Link). map written (to_whom c.args.whom m ls)) c.self.view_is))
    c.send_each.ensures
