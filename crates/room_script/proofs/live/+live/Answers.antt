use Rattle.std.specs.Cmp.Lexicographic.{slice_cmp}
use Rattle.std.specs.Ordering.{nat_cmp}
use Rattle.std.proofs.Common.{◌≡◌, ◌+◌, ℕ, List, [], ◌∷◌, ◌++◌, sym, ap, ◌∙◌, subst, append_assoc, option_map, Some, true, false, codes, arith}
use Rattle.std.specs.List.Sorted.{IsStrictlySortedBy}
use Rattle.std.specs.Map.{keys_of}
use Rattle.std.specs.Str.{bytes_eq}
use Rattle.room_json.specs.Value.{Value, fields_of, values_of}
use Rattle.room_json.specs.View.{json_of, members_view}
use Rattle.room_json.specs.Weights.{weight, fields_weight}
use Rattle.room_script.proofs.Lively.{Entry, one_is_smaller, live_by_name, plain_by_name, parts_spelled, items_spelled, insert_last}
use Rattle.room_model.specs.Init.{Plain, AnObject, AMap, AList}
use Rattle.room_props.specs.Inits.{init_of, parts_of, inits_of}
use Rattle.room_script.specs.Live.{parts_of as live_parts_of, inits_of as live_inits_of}
use Rattle.room_script.proofs.live.+live.Goals as goal

pub live-live_by_name-requires : goal.live-live_by_name-requires
live-live_by_name-requires t c =
    let smaller = one_is_smaller (json_of c.args.value.now) (c.in-Some.name.now, json_of c.in-Some.inner.now) (sym c.in-Some.ensures) in
    (omega (arith, smaller, c.decreases), tt)

pub live-returns-in-Some-2 : goal.live-returns-in-Some-2
live-returns-in-Some-2 t c =
    let one : List ℕ × Value = (c.in-Some.name.now, json_of c.in-Some.inner.now) in
    let is_live = sym c.in_ok-init.ensures ∙ ap (option_map init_of) c.in-Some-2.is in
    sym (live_by_name (json_of c.args.value.now) one (init_of c.in-Some-2.init) (sym c.in-Some.ensures) is_live)

pub live-returns-in_ok-copy-in-None : goal.live-returns-in_ok-copy-in-None
live-returns-in_ok-copy-in-None t c =
    let one : List ℕ × Value = (c.in-Some.name.now, json_of c.in-Some.inner.now) in
    let is_plain = sym c.in_ok-init.ensures ∙ ap (option_map init_of) c.in-None.is in
    ap (λ j. Plain (json_of j)) c.in_ok-copy-in-None.ensures
    ∙ sym (plain_by_name (json_of c.args.value.now) one (sym c.in-Some.ensures) is_plain)

pub live_by_name-returns-in_ok-live_parts-in-Object : goal.live_by_name-returns-in_ok-live_parts-in-Object
live_by_name-returns-in_ok-live_parts-in-Object t c =
    let named : bytes_eq c.args.name.now (codes "$object") ≡ true = cc in
    let parts =
    ap parts_of c.in_ok-live_parts-in-Object.ensures ∙ parts_spelled c.as_map.result.now.entries
    ∙ ap (λ ms. live_parts_of (fields_of ms)) c.as_map.ensures in
    rw (c.in-Object.is, named) (ap (λ ps. Some (AnObject ps)) parts)

pub live_by_name-returns-in_ok-live_parts-in-Object-2 : goal.live_by_name-returns-in_ok-live_parts-in-Object-2
live_by_name-returns-in_ok-live_parts-in-Object-2 t c =
    let other : bytes_eq c.args.name.now (codes "$object") ≡ false = cc in
    let named : bytes_eq c.args.name.now (codes "$map") ≡ true = cc in
    let parts =
    ap parts_of c.in_ok-live_parts-in-Object-2.ensures ∙ parts_spelled c.as_map-then-eq-2.result.now.entries
    ∙ ap (λ ms. live_parts_of (fields_of ms)) c.as_map-then-eq-2.ensures in
    rw (c.in-Object.is, other, named) (ap (λ ps. Some (AMap ps)) parts)

pub live_by_name-returns-in_ok-live_items-in-List : goal.live_by_name-returns-in_ok-live_items-in-List
live_by_name-returns-in_ok-live_items-in-List t c =
    let named : bytes_eq c.args.name.now (codes "$list") ≡ true = cc in
    let items =
    ap inits_of c.in_ok-live_items-in-List.ensures ∙ items_spelled c.as_slice.result.now
    ∙ ap (λ vs. live_inits_of (values_of vs)) c.as_slice.ensures in
    rw (c.in-List.is, named) (ap (λ is. Some (AList is)) items)

pub live_parts-loop-name-preserved : goal.live_parts-loop-name-preserved
live_parts-loop-name-preserved t c =
    let l = c.loop-name in
    let done = l.invariant.0 in
    let e : Entry = (c.in-Some.name.now, c.in-Some.item.now) in
    let left = c.next.new.self in
    let all : c.args.entries.now.entries ≡ done ++ e ∷ left = l.invariant.1 ∙ ap (λ es. done ++ es) c.in-Some.ensures.steps in
    let last = insert_last done e left (subst (λ es. IsStrictlySortedBy (slice_cmp nat_cmp) (keys_of es)) all c.iter-name-items.ensures.ordered) in
    let left_weight : weight (json_of c.in-Some.item.now) + 1 + fields_weight (fields_of (members_view left)) ≡ fields_weight (fields_of (members_view l.name-iterator)) =
    sym (ap (λ es. fields_weight (fields_of (members_view es))) c.in-Some.ensures.steps) in
    let named : c.in_ok-name.name ≡ e.0 = c.in_ok-name.ensures in (
      done ++ e ∷ [],
      all ∙ sym (append_assoc done (e ∷ []) left),
      c.in_ok-set.ensures.ok ∙ rw (named, c.in_ok-live.ensures, l.invariant.2) last,
      omega (arith, left_weight, l.invariant.3),
    )
