use Rattle.std.proofs.Common.{◌≡◌, ◌+◌, ℕ, max, map, drop}
use Rattle.room_model.specs.Init.{live_nodes, part_nodes, init_nodes, parts_plain_depth, inits_plain_depth, live_depth, parts_depth, inits_depth}
use Rattle.room_props.specs.Inits.{init_of, inits_of, parts_of, named}
use Rattle.room_props.proofs.weighing.+weigh.Given as goal

abbrev pub invariant-weigh_live-loop-name : goal.invariant-weigh_live-loop-name
invariant-weigh_live-loop-name l =
    let rest = parts_of (named l._name-iterator) in
    let all = parts_of (named l.parts.entries) in
    record {
      nodes : l.weight.nodes + live_nodes rest ≡ live_nodes all;
      values : max l.weight.values (parts_plain_depth rest) ≡ parts_plain_depth all;
      deepest : max l.weight.deepest (live_depth l.at rest) ≡ live_depth l.at all;
    }

abbrev pub invariant-weigh_parts-loop-name : goal.invariant-weigh_parts-loop-name
invariant-weigh_parts-loop-name l =
    let rest = parts_of (named l._name-iterator) in
    let all = parts_of (named l.parts.entries) in
    record {
      nodes : l.weight.nodes + part_nodes rest ≡ part_nodes all;
      values : max l.weight.values (parts_plain_depth rest) ≡ parts_plain_depth all;
      deepest : max l.weight.deepest (parts_depth l.at rest) ≡ parts_depth l.at all;
    }

abbrev pub invariant-weigh_items-loop-item : goal.invariant-weigh_items-loop-item
invariant-weigh_items-loop-item l =
    let rest = inits_of (map init_of (drop l.item-index l.items)) in
    let all = inits_of (map init_of l.items) in
    record {
      nodes : l.weight.nodes + init_nodes rest ≡ init_nodes all;
      values : max l.weight.values (inits_plain_depth rest) ≡ inits_plain_depth all;
      deepest : max l.weight.deepest (inits_depth l.at rest) ≡ inits_depth l.at all;
    }
