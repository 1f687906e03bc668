-- The invariants of `fitting::fields_fit`.
use Rattle.std.proofs.Common.{◌≡◌}
use Rattle.room_json.specs.View.{members_view}
use Rattle.room_apply.specs.Ways.{fitted_fields}
use Rattle.room_apply.proofs.fitting.fields_fit.Given as goal

abbrev pub invariant-loop-name : goal.invariant-loop-name
invariant-loop-name l = fitted_fields (members_view l.name-iterator) l.old l.all
    ≡ fitted_fields (members_view l.names.entries) l.old l.initial.all
