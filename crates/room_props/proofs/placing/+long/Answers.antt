use Rattle.std.proofs.Common.{◌≡◌, ◌+◌, [], ◌∷◌, ◌++◌, Some, None, map, drop, sym, ap, ◌∙◌, arith}
use Rattle.std.proofs.lemmas.List.{drop_more}
use Rattle.room_model.specs.Edits.{too_long}
use Rattle.room_model.specs.Init.{positions_in, parts_positions, item_positions}
use Rattle.room_props.specs.Inits.{init_of, inits_of, parts_of, named}
use Rattle.room_props.specs.Weighing.{following}
use Rattle.room_props.proofs.Short.{skip, stays, items_pass, items_stop}
use Rattle.room_props.proofs.placing.+long.Goals as goal

pub long_in_parts-returns-in-Some-2 : goal.long_in_parts-returns-in-Some-2
long_in_parts-returns-in-Some-2 t c =
    let i = init_of c.in-Some.part.now in
    let left = parts_of (named c.next.new.self) in
    let found : too_long (positions_in i) ≡ Some c.in-Some-2.bytes = sym c.in_ok-bytes.ensures ∙ c.in-Some-2.is in
    sym (stays (positions_in i) (parts_positions left) c.in-Some-2.bytes found)
    ∙ sym (ap (λ es. too_long (parts_positions (parts_of (named es)))) c.in-Some.ensures.steps)
    ∙ c.loop-name.invariant

pub long_in_parts-loop-name-preserved : goal.long_in_parts-loop-name-preserved
long_in_parts-loop-name-preserved t c =
    let i = init_of c.in-Some.part.now in
    let left = parts_of (named c.next.new.self) in
    let none : too_long (positions_in i) ≡ None = sym c.in_ok-bytes.ensures ∙ c.in_default.is in
    sym (skip (positions_in i) (parts_positions left) none)
    ∙ sym (ap (λ es. too_long (parts_positions (parts_of (named es)))) c.in-Some.ensures.steps)
    ∙ c.loop-name.invariant

pub long_in_items-returns-in-Some : goal.long_in_items-returns-in-Some
long_in_items-returns-in-Some t c =
    let l = c.loop-item in
    let items = c.args.items.now in
    let here : drop l.item-index items ≡ c.item-item.result ∷ drop (l.item-index + 1) items =
    drop_more items l.item-index c.item-item.result (omega arith) ∙ ap (λ y. y ∷ drop (l.item-index + 1) items) (sym c.item-item.is) in
    let found : too_long (positions_in (init_of c.item-item.result)) ≡ Some c.in-Some.bytes = sym c.in_ok-bytes.ensures ∙ c.in-Some.is in
    items_stop l.last c.in-Ok.position (init_of c.item-item.result) (inits_of (map init_of (drop (l.item-index + 1) items))) c.in-Some.bytes c.in-Ok.ensures.ok c.in-Ok.ensures.short found
    ∙ sym (ap (λ is. too_long (item_positions (following l.last) (inits_of (map init_of is)))) here)
    ∙ l.invariant

pub long_in_items-loop-item-preserved : goal.long_in_items-loop-item-preserved
long_in_items-loop-item-preserved t c =
    let l = c.loop-item in
    let items = c.args.items.now in
    let here : drop l.item-index items ≡ c.item-item.result ∷ drop (l.item-index + 1) items =
    drop_more items l.item-index c.item-item.result (omega arith) ∙ ap (λ y. y ∷ drop (l.item-index + 1) items) (sym c.item-item.is) in
    let none : too_long (positions_in (init_of c.item-item.result)) ≡ None = sym c.in_ok-bytes.ensures ∙ c.in_default.is in
    items_pass l.last c.in-Ok.position (init_of c.item-item.result) (inits_of (map init_of (drop (l.item-index + 1) items))) c.in-Ok.ensures.ok c.in-Ok.ensures.short none
    ∙ sym (ap (λ is. too_long (item_positions (following l.last) (inits_of (map init_of is)))) here)
    ∙ l.invariant
