use Rattle.std.proofs.Common.{Some, sym, ◌∙◌, subst}
use Rattle.std.proofs.lemmas.Result.{on_ok_weaker}
use Rattle.serde.specs.Event.{Logs, map_begins}
use Rattle.serde_json.specs.Events.{SendsMembers}
use Rattle.room_json.specs.Value.{fields_of, members_of}
use Rattle.room_json.specs.View.{members_view}
use Rattle.room_json.proofs.Views.{members_len-view}
use Rattle.room_notice.proofs.sending.send_entries.Goals as goal

pub returns : goal.returns
returns g c =
    let entries = c.args.entries.now.entries in
    let l = c.loop-name in
    let first = g.S.Serializer.written c.begin_map.new.self in
    let end = g.S.Serializer.written c.end_map.new.self in
    let begun = subst (λ n. Logs (g.S.Serializer.written c.args.out.now) first (map_begins (Some n))) (c.len.ensures.len ∙ sym (members_len-view entries)) c.in_ok-begin_map.ensures in
    let none = sym c.in-None.ensures.steps.0 in
    on_ok_weaker c.end_map.result (λ e. (
      first,
      begun,
      l.invariant end (subst (λ es. SendsMembers (members_of (fields_of (members_view es))) (g.S.Serializer.written l.out) end) none e),
    )) c.end_map.ensures
