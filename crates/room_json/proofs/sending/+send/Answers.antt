use Rattle.std.proofs.Common.{◌≡◌, [], Some, map, drop, sym, ◌∙◌, subst, arith}
use Rattle.std.proofs.lemmas.List.{drop_all}
use Rattle.std.proofs.lemmas.Result.{on_ok_weaker}
use Rattle.std.specs.Cmp.Lexicographic.{slice_cmp}
use Rattle.std.specs.List.Sorted.{IsStrictlySortedBy}
use Rattle.std.specs.Ordering.{nat_cmp}
use Rattle.serde.specs.Event.{Logs, seq_begins, map_begins}
use Rattle.serde_json.specs.Events.{SendsItems, SendsMembers}
use Rattle.room_json.specs.Profile.{AreJson, HaveJson}
use Rattle.room_json.specs.Value.{values_of, fields_of, items_of as items_data, members_of as members_data}
use Rattle.room_json.specs.View.{json_of, members_view}
use Rattle.room_json.proofs.Views.{items_len-view, members_len-view, keys_of-fields_list}
use Rattle.room_json.proofs.sending.+send.Goals as goal

pub send_items-returns : goal.send_items-returns
send_items-returns g t c =
    let items = c.args.items.now in
    let l = c.loop-item in
    let first = g.S.Serializer.written c.begin_seq.new.self in
    let end = g.S.Serializer.written c.end_seq.new.self in
    let begun = subst (λ n. Logs (g.S.Serializer.written c.args.out.now) first (seq_begins (Some n))) (sym (items_len-view items)) c.in_ok-begin_seq.ensures in
    let none : drop l.item-index items ≡ [] = drop_all l.item-index items (omega arith) in
    on_ok_weaker c.end_seq.result (λ e. (
      (
        first,
        begun,
        l.invariant.0 end (subst (λ js. SendsItems (items_data (values_of (map json_of js))) (g.S.Serializer.written l.out) end) (sym none) e),
      ),
      l.invariant.1 (subst (λ js. AreJson (values_of (map json_of js))) (sym none) tt),
    )) c.end_seq.ensures

pub send_members-returns : goal.send_members-returns
send_members-returns g t c =
    let entries = c.args.entries.now.entries in
    let l = c.loop-name in
    let first = g.S.Serializer.written c.begin_map.new.self in
    let end = g.S.Serializer.written c.end_map.new.self in
    let begun = subst (λ n. Logs (g.S.Serializer.written c.args.out.now) first (map_begins (Some n))) (c.len.ensures.len ∙ sym (members_len-view entries)) c.in_ok-begin_map.ensures in
    let none = sym c.in-None.ensures.steps.0 in
    let sorted = subst (IsStrictlySortedBy (slice_cmp nat_cmp)) (sym (keys_of-fields_list entries)) c.iter-name-items.ensures.ordered in
    on_ok_weaker c.end_map.result (λ e. (
      (
        first,
        begun,
        l.invariant.0 end (subst (λ es. SendsMembers (members_data (fields_of (members_view es))) (g.S.Serializer.written l.out) end) none e),
      ),
      (sorted, l.invariant.1 (subst (λ es. HaveJson (fields_of (members_view es))) none tt)),
    )) c.end_map.ensures
