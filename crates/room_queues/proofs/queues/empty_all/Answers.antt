use Rattle.std.proofs.Common.{ap, sym, ◌∙◌, map, rules}
use Rattle.std.proofs.lemmas.Map.Made.{map_same_pairs}
use Rattle.room_model.specs.World.{emptied_conn}
use Rattle.room_queues.specs.Calls.{as_map, emptied}
use Rattle.room_queues.proofs.Maps.{entries_are}
use Rattle.room_queues.proofs.queues.empty_all.Goals as goal

pub returns : goal.returns
returns g c =
    ap as_map (map_same_pairs _ emptied _ (λ k v b w f' t. search rules) _ _ c.retain.ensures.filtered
    ∙ ap (map emptied_conn) (sym (entries_are _ c.retain.ensures.was_ordered)))
