use Rattle.std.proofs.Common.{rules, ◌≡◌, ◌∙◌, []}
use Rattle.std.proofs.Common.{Some, None}
use Rattle.room_json.specs.View.{members_view}
use Rattle.room_msg.proofs.Swaps.{users_into}
use Rattle.room_msg.proofs.SoundUsers.{found_in_order}
use Rattle.room_msg.proofs.roster.read_entries.Goals as goal

pub returns-in-None-2 : goal.returns-in-None-2
returns-in-None-2 c =
    let read : users_into (members_view c.args.map.now.entries) [] ≡ None = search rules in
    found_in_order _ c.requires ∙ read

pub returns : goal.returns
returns c =
    let read : users_into (members_view c.args.map.now.entries) [] ≡ Some c.loop-name.found = search rules in
    found_in_order _ c.requires ∙ read
