use Rattle.std.proofs.Common.{◌≡◌, rules, map, ap, subst, sym, ◌∙◌, true, List, [], ◌∷◌, ◌++◌}
use Rattle.room_log.specs.Log.{Entry}
use Rattle.room_bytes.specs.Bounds.{logged, all_written}
use Rattle.room_bytes.specs.Reading.{group_of}
use Rattle.room_journal.specs.Rest.{body_of}
use Rattle.room_store.specs.Stored.{Grouped}
use Rattle.room_store.proofs.Grown.{more_written, logged_more}
use Rattle.room_store.proofs.planning.grown.Goals as goal

pub returns-clause-reads : goal.returns-clause-reads
returns-clause-reads c =
    let es : List Entry = map logged c.g.inside.entries in
    let fs : List Entry = map logged c.push.new.self in
    let body : body_of c.in_ok-ready.ready ≡ c.in_ok-bytes.bytes = search rules in
    let pushed : c.push.new.self ≡ c.g.inside.entries ++ c.args.e ∷ [] = search rules in
    let all : all_written es ≡ true = subst (λ (v : Grouped). all_written v.entries ≡ true) (sym c.g.view_is) c.requires.group in
    let more : fs ≡ es ++ logged c.args.e ∷ [] = ap (map logged) pushed ∙ logged_more c.g.inside.entries c.args.e in
    ap group_of body ∙ c.in_ok-bytes.ensures.again (more_written es fs (logged c.args.e) all c.requires.written more)
