-- What an overlay takes, and the notices of that.
use Rattle.std.specs.Prelude.{ℕ, ◌+◌, ◌-◌, ◌==◌, ◌||◌, not, if◌then◌else◌, List, [], ◌∷◌, drop}
use Rattle.room_items.specs.View.{view}
use Rattle.room_nodes.specs.declared.nodes.Op.{Op}
use Rattle.room_nodes.specs.Equal.{are_first}
use Rattle.room_nodes.specs.Shape.{Nodes}
use Rattle.room_nodes.specs.Steps.{fold}
use Rattle.room_log.specs.Log.{actor_of, bodies_of}
use Rattle.room_model.specs.Account.{is_some_list}
use Rattle.room_model.specs.Notices.{Notice, Reset, notices_of_all}
use Rattle.room_overlay.specs.Over.{Over, pending, shown, stands_apart}

-- how many operations are an actor's
abbrev pub own_count : ℕ → List Op → ℕ
own_count a [] = 0
own_count a (o ∷ os) = if actor_of o == a then 1 + own_count a os else own_count a os

-- what is shown after a state or an update, by the operations that are pending before it

abbrev pub state_shows : Over → ℕ → Nodes → Nodes
state_shows o last t = fold t (drop (last - o.told) (bodies_of (pending o)))

abbrev pub update_shows : Over → List Op → Nodes
update_shows o os =
    fold (fold o.confirmed (bodies_of os)) (drop (own_count o.actor os) (bodies_of (pending o)))

-- of an update, with the tree that is shown after it
abbrev pub notices_with : Over → List Op → Nodes → List Notice
notices_with o os after =
    if are_first os (pending o) then [] else (
    if not (is_some_list (pending o)) || stands_apart o os
    then notices_of_all (shown o) (bodies_of os)
    else Reset (view after) ∷ [])
