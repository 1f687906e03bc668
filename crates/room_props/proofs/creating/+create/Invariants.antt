use Rattle.std.proofs.Common.{◌≡◌, ◌≤◌, ◌+◌, ◌++◌, None, map, drop}
use Rattle.room_ids.specs.Position.{first as first_of}
use Rattle.room_model.specs.Edits.{too_long}
use Rattle.room_model.specs.Init.{live_nodes, part_nodes, init_nodes, parts_positions, item_positions, live_creates, part_creates, item_creates}
use Rattle.room_props.specs.Inits.{init_of, inits_of, parts_of, named}
use Rattle.room_props.specs.Weighing.{following}
use Rattle.room_props.specs.Weights.{weight, parts_weight, inits_weight}
use Rattle.room_props.proofs.creating.+create.Given as goal

abbrev pub decreases-create : goal.decreases-create
decreases-create l = weight (init_of l.init.now)

abbrev pub decreases-create_live : goal.decreases-create_live
decreases-create_live l = parts_weight (parts_of (named l.parts.now.entries))

abbrev pub decreases-create_parts : goal.decreases-create_parts
decreases-create_parts l = parts_weight (parts_of (named l.parts.now.entries))

abbrev pub decreases-create_items : goal.decreases-create_items
decreases-create_items l = inits_weight (inits_of (map init_of l.items.now))

abbrev pub invariant-create_live-loop-name : goal.invariant-create_live-loop-name
invariant-create_live-loop-name l =
    let rest = parts_of (named l.name-iterator) in
    let all = parts_of (named l.parts.entries) in
    let old = l.initial.maker in
    record {
      actor : l.maker.actor ≡ old.actor;
      clock : l.maker.clock + live_nodes rest ≡ old.clock + live_nodes all;
      bodies : l.maker.bodies ++ live_creates l.maker.actor l.maker.clock l.parent rest ≡ old.bodies ++ live_creates old.actor old.clock l.parent all;
      short : too_long (parts_positions rest) ≡ None;
      fits : parts_weight rest ≤ parts_weight all;
    }

abbrev pub invariant-create_parts-loop-name : goal.invariant-create_parts-loop-name
invariant-create_parts-loop-name l =
    let rest = parts_of (named l.name-iterator) in
    let all = parts_of (named l.parts.entries) in
    let old = l.initial.maker in
    record {
      actor : l.maker.actor ≡ old.actor;
      clock : l.maker.clock + part_nodes rest ≡ old.clock + part_nodes all;
      bodies : l.maker.bodies ++ part_creates l.maker.actor l.maker.clock l.parent rest ≡ old.bodies ++ part_creates old.actor old.clock l.parent all;
      short : too_long (parts_positions rest) ≡ None;
      fits : parts_weight rest ≤ parts_weight all;
    }

abbrev pub invariant-create_items-loop-item : goal.invariant-create_items-loop-item
invariant-create_items-loop-item l =
    let rest = inits_of (map init_of (drop l.item-index l.items)) in
    let all = inits_of (map init_of l.items) in
    let old = l.initial.maker in
    record {
      actor : l.maker.actor ≡ old.actor;
      clock : l.maker.clock + init_nodes rest ≡ old.clock + init_nodes all;
      bodies : l.maker.bodies ++ item_creates l.maker.actor l.maker.clock l.parent (following l.last) rest ≡ old.bodies ++ item_creates old.actor old.clock l.parent first_of all;
      short : too_long (item_positions (following l.last) rest) ≡ None;
      fits : inits_weight rest ≤ inits_weight all;
    }
