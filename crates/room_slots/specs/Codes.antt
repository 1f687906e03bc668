-- Codes of clients, by which values are told apart.
use Rattle.std.specs.Coded.{Coded, codes, coded_ℕ}
use Rattle.std.specs.Ordering.{nat_cmp}
use Rattle.std.specs.FinMap as map
use Rattle.room_json.specs.Codes.{coded_value, coded_list_of_fields}
use Rattle.room_editor.specs.Codes.{account_code}
use Rattle.room_model.specs.Notices.{Notice}
use Rattle.room_model.specs.World.{Slot}

notice_code : Coded Notice
notice_code = Prim.hlevel (codes, coded_value, coded_list_of_fields)

pub slot_code : Coded Slot
slot_code = Prim.hlevel (codes, account_code, notice_code)

pub slots_code : Coded (map.FinMap nat_cmp Slot)
slots_code = map.code coded_ℕ slot_code
