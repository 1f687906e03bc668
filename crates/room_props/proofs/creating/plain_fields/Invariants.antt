use Rattle.std.proofs.Common.{◌≡◌, []}
use Rattle.room_json.specs.Value.{merged}
use Rattle.room_model.specs.Init.{plain_fields}
use Rattle.room_props.specs.Inits.{parts_of, named}
use Rattle.room_props.proofs.creating.plain_fields.Given as goal

abbrev pub invariant-loop-name : goal.invariant-loop-name
invariant-loop-name l = merged l.fields (plain_fields (parts_of (named l.name-iterator))) ≡ merged [] (plain_fields (parts_of (named l.parts.entries)))
