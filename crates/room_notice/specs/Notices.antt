-- The notices and paths of the model that those of the program stand for, and the change that a notice makes at its
-- path.
use Rattle.std.specs.Prelude.{List, map, Option, Some}
use Rattle.room_json.specs.Value.{Value}
use Rattle.room_json.specs.View.{json_of}
use Rattle.room_model.specs.Notices as model
use Rattle.room_model.specs.Notices.{Place, set_names, insert_item, take_item, move_items}
use Rattle.room_notice.specs.declared.shapes.Step.{Step}
use Rattle.room_notice.specs.declared.shapes.Step.TheVariants.{Key, Index}
use Rattle.room_notice.specs.declared.shapes.Notice.{Notice}
use Rattle.room_notice.specs.declared.shapes.Notice.TheVariants.{Fields, Keys, Insert, Take, Move, Reset}

abbrev pub place_of : Step → Place
place_of (Key k) = model.Key k
place_of (Index i) = model.Index i

abbrev pub places_of : List Step → List Place
places_of path = map place_of path

abbrev pub notice_of : Notice → model.Notice
notice_of (Fields path set unset) = model.Fields (places_of path) set unset
notice_of (Keys path set unset) = model.Keys (places_of path) set unset
notice_of (Insert path i v) = model.Insert (places_of path) i (json_of v)
notice_of (Take path i) = model.Take (places_of path) i
notice_of (Move path f t) = model.Move (places_of path) f t
notice_of (Reset v) = model.Reset (json_of v)

abbrev pub notices_in : List Notice → List model.Notice
notices_in ns = map notice_of ns

-- the change of what stands at the path
abbrev pub change_of : model.Notice → Value → Option Value
change_of (model.Fields path set unset) v = set_names set unset v
change_of (model.Keys path set unset) v = set_names set unset v
change_of (model.Insert path i w) v = insert_item i w v
change_of (model.Take path i) v = take_item i v
change_of (model.Move path f t) v = move_items f t v
change_of (model.Reset w) v = Some w
