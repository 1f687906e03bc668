use Rattle.std.proofs.Common.{◌≡◌, [], Some, map, drop, sym, ◌∙◌, subst, arith}
use Rattle.std.proofs.lemmas.List.{drop_all}
use Rattle.std.proofs.lemmas.Result.{on_ok_weaker}
use Rattle.serde.specs.Event.{Logs, seq_begins}
use Rattle.serde_json.specs.Events.{SendsItems}
use Rattle.room_json.specs.Value.{items_of, values_of}
use Rattle.room_model.specs.Notices.{notice_out}
use Rattle.room_notice.specs.Notices.{notice_of, notices_in}
use Rattle.room_notice.proofs.Written.{items_count, map_length}
use Rattle.room_notice.proofs.sending.send_notices.Goals as goal

pub returns : goal.returns
returns g c =
    let all = c.args.notices.now in
    let l = c.loop-notice in
    let first = g.S.Serializer.written c.begin_seq.new.self in
    let end = g.S.Serializer.written c.end_seq.new.self in
    let count = items_count notice_out (notices_in all) ∙ map_length notice_of all in
    let begun = subst (λ n. Logs (g.S.Serializer.written c.args.out.now) first (seq_begins (Some n))) (sym count) c.in_ok-begin_seq.ensures in
    let none : drop l.notice-index all ≡ [] = drop_all l.notice-index all (omega arith) in
    on_ok_weaker c.end_seq.result (λ e. (
      first,
      begun,
      l.invariant end (subst (λ xs. SendsItems (items_of (values_of (map notice_out (notices_in xs)))) (g.S.Serializer.written l.out) end) (sym none) e),
    )) c.end_seq.ensures
