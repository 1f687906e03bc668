use Rattle.std.proofs.Common.{◌≡◌, ◌+◌, ◌≤◌, ◌<◌, ◌++◌, [], ◌∷◌, cond, false, map, drop, None, sym, ap, ◌∙◌, arith}
use Rattle.std.proofs.lemmas.List.{drop_more}
use Rattle.room_model.specs.Edits.{too_long}
use Rattle.room_model.specs.Init.{is_plain, nodes_in, live_nodes, part_nodes, init_nodes, positions_in, parts_positions, item_positions, live_creates, part_creates, item_creates}
use Rattle.room_props.specs.Inits.{init_of, inits_of, parts_of, named}
use Rattle.room_props.specs.Weighing.{following}
use Rattle.room_props.specs.Weights.{weight, parts_weight, inits_weight}
use Rattle.room_props.proofs.Making.{part_step, live_step, item_step}
use Rattle.room_props.proofs.Short.{front, back, items_short}
use Rattle.room_props.proofs.creating.+create.Goals as goal

pub create_parts-create-requires : goal.create_parts-create-requires
create_parts-create-requires t c = (
  let left_weight : weight (init_of c.in-Some.part.now) + 1 + parts_weight (parts_of (named c.next.new.self)) ≡ parts_weight (parts_of (named c.loop-name.name-iterator)) =
      sym (ap (λ es. parts_weight (parts_of (named es))) c.in-Some.ensures.steps) in
      omega (arith, left_weight, c.loop-name.invariant.fits, c.decreases),
  let l = c.loop-name in
      let i = init_of c.in-Some.part.now in
      let left = parts_of (named c.next.new.self) in
      let clock : l.maker.clock + (nodes_in i + part_nodes left) ≡ c.args.maker.now.clock + part_nodes (parts_of (named c.args.parts.now.entries)) =
      sym (ap (λ es. l.maker.clock + part_nodes (parts_of (named es))) c.in-Some.ensures.steps) ∙ l.invariant.clock in
      let clocks : l.maker.clock + nodes_in i ≤ 9007199254740992 = omega (arith, clock, c.requires.clocks) in
      let here : too_long (positions_in i ++ parts_positions left) ≡ None = sym (ap (λ es. too_long (parts_positions (parts_of (named es)))) c.in-Some.ensures.steps) ∙ l.invariant.short in
      let short : too_long (positions_in i) ≡ None = front (positions_in i) (parts_positions left) here in
      (clocks, short),
)

pub create_parts-loop-name-preserved : goal.create_parts-loop-name-preserved
create_parts-loop-name-preserved t c =
    let l = c.loop-name in
    let i = init_of c.in-Some.part.now in
    let left = parts_of (named c.next.new.self) in
    let made = c.in_ok-create.ensures in
    let clock : l.maker.clock + (nodes_in i + part_nodes left) ≡ c.args.maker.now.clock + part_nodes (parts_of (named c.args.parts.now.entries)) =
    sym (ap (λ es. l.maker.clock + part_nodes (parts_of (named es))) c.in-Some.ensures.steps) ∙ l.invariant.clock in
    let here : too_long (positions_in i ++ parts_positions left) ≡ None = sym (ap (λ es. too_long (parts_positions (parts_of (named es)))) c.in-Some.ensures.steps) ∙ l.invariant.short in
    let left_weight : weight (init_of c.in-Some.part.now) + 1 + parts_weight (parts_of (named c.next.new.self)) ≡ parts_weight (parts_of (named c.loop-name.name-iterator)) =
    sym (ap (λ es. parts_weight (parts_of (named es))) c.in-Some.ensures.steps) in
    record {
      actor = made.actor ∙ l.invariant.actor;
      clock = omega (arith, clock, made.clock);
      bodies = part_step l.maker.actor c.create.new.maker.actor l.maker.clock c.create.new.maker.clock c.args.parent.now c.in-Some.name.now c.in_ok-key.key i left
          l.maker.bodies c.create.new.maker.bodies _ made.actor made.clock c.in_ok-key.ensures made.bodies
          (sym (ap (λ es. l.maker.bodies ++ part_creates l.maker.actor l.maker.clock c.args.parent.now (parts_of (named es))) c.in-Some.ensures.steps) ∙ l.invariant.bodies);
      short = back (positions_in i) (parts_positions left) here;
      fits = omega (arith, left_weight, l.invariant.fits);
    }

pub create_live-create-requires : goal.create_live-create-requires
create_live-create-requires t c = (
  let left_weight : weight (init_of c.in-Some.part.now) + 1 + parts_weight (parts_of (named c.next.new.self)) ≡ parts_weight (parts_of (named c.loop-name.name-iterator)) =
      sym (ap (λ es. parts_weight (parts_of (named es))) c.in-Some.ensures.steps) in
      omega (arith, left_weight, c.loop-name.invariant.fits, c.decreases),
  let l = c.loop-name in
      let i = init_of c.in-Some.part.now in
      let left = parts_of (named c.next.new.self) in
      let live : is_plain i ≡ false = sym c.is_plain.ensures ∙ c.if-is_plain.false in
      let count : cond (is_plain i) 0 (nodes_in i) ≡ nodes_in i = ap (λ b. cond b 0 (nodes_in i)) live in
      let clock : l.maker.clock + (cond (is_plain i) 0 (nodes_in i) + live_nodes left) ≡ c.args.maker.now.clock + live_nodes (parts_of (named c.args.parts.now.entries)) =
      sym (ap (λ es. l.maker.clock + live_nodes (parts_of (named es))) c.in-Some.ensures.steps) ∙ l.invariant.clock in
      let clocks : l.maker.clock + nodes_in i ≤ 9007199254740992 = omega (arith, clock, count, c.requires.clocks) in
      let here : too_long (positions_in i ++ parts_positions left) ≡ None = sym (ap (λ es. too_long (parts_positions (parts_of (named es)))) c.in-Some.ensures.steps) ∙ l.invariant.short in
      let short : too_long (positions_in i) ≡ None = front (positions_in i) (parts_positions left) here in
      (clocks, short),
)

pub create_live-loop-name-preserved : goal.create_live-loop-name-preserved
create_live-loop-name-preserved t c =
    let l = c.loop-name in
    let i = init_of c.in-Some.part.now in
    let left = parts_of (named c.next.new.self) in
    let made = c.in_ok-create.ensures in
    let live : is_plain i ≡ false = sym c.is_plain.ensures ∙ c.if-is_plain.false in
    let count : cond (is_plain i) 0 (nodes_in i) ≡ nodes_in i = ap (λ b. cond b 0 (nodes_in i)) live in
    let clock : l.maker.clock + (cond (is_plain i) 0 (nodes_in i) + live_nodes left) ≡ c.args.maker.now.clock + live_nodes (parts_of (named c.args.parts.now.entries)) =
    sym (ap (λ es. l.maker.clock + live_nodes (parts_of (named es))) c.in-Some.ensures.steps) ∙ l.invariant.clock in
    let here : too_long (positions_in i ++ parts_positions left) ≡ None = sym (ap (λ es. too_long (parts_positions (parts_of (named es)))) c.in-Some.ensures.steps) ∙ l.invariant.short in
    let left_weight : weight (init_of c.in-Some.part.now) + 1 + parts_weight (parts_of (named c.next.new.self)) ≡ parts_weight (parts_of (named c.loop-name.name-iterator)) =
    sym (ap (λ es. parts_weight (parts_of (named es))) c.in-Some.ensures.steps) in
    record {
      actor = made.actor ∙ l.invariant.actor;
      clock = omega (arith, clock, count, made.clock);
      bodies = live_step l.maker.actor c.create.new.maker.actor l.maker.clock c.create.new.maker.clock c.args.parent.now c.in-Some.name.now c.in_ok-key.key i left
          l.maker.bodies c.create.new.maker.bodies _ live made.actor made.clock c.in_ok-key.ensures made.bodies
          (sym (ap (λ es. l.maker.bodies ++ live_creates l.maker.actor l.maker.clock c.args.parent.now (parts_of (named es))) c.in-Some.ensures.steps) ∙ l.invariant.bodies);
      short = back (positions_in i) (parts_positions left) here;
      fits = omega (arith, left_weight, l.invariant.fits);
    }

pub create_items-create-requires : goal.create_items-create-requires
create_items-create-requires t c = (
  let left_weight : weight (init_of c.item-item.result) + 1 + inits_weight (inits_of (map init_of (drop (c.loop-item.item-index + 1) c.args.items.now))) ≡ inits_weight (inits_of (map init_of (drop c.loop-item.item-index c.args.items.now))) =
      sym (ap (λ is. inits_weight (inits_of (map init_of is))) (drop_more c.args.items.now c.loop-item.item-index c.item-item.result (omega arith) ∙ ap (λ y. y ∷ drop (c.loop-item.item-index + 1) c.args.items.now) (sym c.item-item.is))) in
      omega (arith, left_weight, c.loop-item.invariant.fits, c.decreases),
  let l = c.loop-item in
      let items = c.args.items.now in
      let i = init_of c.item-item.result in
      let left = inits_of (map init_of (drop (l.item-index + 1) items)) in
      let steps : drop l.item-index items ≡ c.item-item.result ∷ drop (l.item-index + 1) items =
      drop_more items l.item-index c.item-item.result (omega arith) ∙ ap (λ y. y ∷ drop (l.item-index + 1) items) (sym c.item-item.is) in
      let clock : l.maker.clock + (nodes_in i + init_nodes left) ≡ c.args.maker.now.clock + init_nodes (inits_of (map init_of items)) =
      sym (ap (λ is. l.maker.clock + init_nodes (inits_of (map init_of is))) steps) ∙ l.invariant.clock in
      let clocks : l.maker.clock + nodes_in i ≤ 9007199254740992 = omega (arith, clock, c.requires.clocks) in
      let both = items_short l.last c.in-Ok.position i left c.in-Ok.ensures.ok (sym (ap (λ is. too_long (item_positions (following l.last) (inits_of (map init_of is)))) steps) ∙ l.invariant.short) in
      let short : too_long (positions_in i) ≡ None = both.0 in
      (clocks, short),
)

pub create_items-loop-item-preserved : goal.create_items-loop-item-preserved
create_items-loop-item-preserved t c =
    let l = c.loop-item in
    let items = c.args.items.now in
    let i = init_of c.item-item.result in
    let left = inits_of (map init_of (drop (l.item-index + 1) items)) in
    let made = c.in_ok-create.ensures in
    let steps : drop l.item-index items ≡ c.item-item.result ∷ drop (l.item-index + 1) items =
    drop_more items l.item-index c.item-item.result (omega arith) ∙ ap (λ y. y ∷ drop (l.item-index + 1) items) (sym c.item-item.is) in
    let clock : l.maker.clock + (nodes_in i + init_nodes left) ≡ c.args.maker.now.clock + init_nodes (inits_of (map init_of items)) =
    sym (ap (λ is. l.maker.clock + init_nodes (inits_of (map init_of is))) steps) ∙ l.invariant.clock in
    let both = items_short l.last c.in-Ok.position i left c.in-Ok.ensures.ok (sym (ap (λ is. too_long (item_positions (following l.last) (inits_of (map init_of is)))) steps) ∙ l.invariant.short) in
    let left_weight : weight (init_of c.item-item.result) + 1 + inits_weight (inits_of (map init_of (drop (c.loop-item.item-index + 1) c.args.items.now))) ≡ inits_weight (inits_of (map init_of (drop c.loop-item.item-index c.args.items.now))) =
    sym (ap (λ is. inits_weight (inits_of (map init_of is))) (drop_more c.args.items.now c.loop-item.item-index c.item-item.result (omega arith) ∙ ap (λ y. y ∷ drop (c.loop-item.item-index + 1) c.args.items.now) (sym c.item-item.is))) in
    record {
      actor = made.actor ∙ l.invariant.actor;
      clock = omega (arith, clock, made.clock);
      bodies = item_step l.maker.actor c.create.new.maker.actor l.maker.clock c.create.new.maker.clock c.args.parent.now l.last c.in-Ok.position c.in_ok-key.key i left
          l.maker.bodies c.create.new.maker.bodies _ made.actor made.clock c.in-Ok.ensures.ok (c.in_ok-key.ensures ∙ c.text.ensures.text) made.bodies
          (sym (ap (λ is. l.maker.bodies ++ item_creates l.maker.actor l.maker.clock c.args.parent.now (following l.last) (inits_of (map init_of is))) steps) ∙ l.invariant.bodies);
      short = both.1;
      fits = omega (arith, left_weight, l.invariant.fits);
    }
