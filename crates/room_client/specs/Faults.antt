-- The model's refusals that the faults of a client stand for; out of memory may come at any time.
use Rattle.std.specs.Prelude.{◌≡◌, Option, Some, None, Result, Err, ⊤}
use Rattle.room_msg.specs.declared.reason.MsgFault.{MsgFault}
use Rattle.room_msg.specs.declared.reason.MsgFault.TheVariants as msg
use Rattle.room_overlay.specs.declared.faults.OverFault.{OverFault}
use Rattle.room_overlay.specs.declared.faults.OverFault.TheVariants as over
use Rattle.room_model.specs.Receive as model
use Rattle.room_client.specs.declared.faults.FrameFault.{FrameFault}
use Rattle.room_client.specs.declared.faults.FrameFault.TheVariants.{Memory, BadServerFrame, Unexpected, NotATree, Gap}
use Rattle.room_client.specs.declared.faults.FrameFault.TheVariants.{Account, Parts}

abbrev pub of_reading : MsgFault → FrameFault
of_reading msg.Memory = Memory
of_reading (msg.Bad reason) = BadServerFrame reason

abbrev pub of_over : OverFault → FrameFault
of_over over.Memory = Memory
of_over (over.Gap expected got) = Gap expected got
of_over (over.Account kept got) = Account kept got

-- what the model refuses with; out of memory comes without
abbrev pub fault_of : FrameFault → Option model.FrameFault
fault_of Memory = None
fault_of (BadServerFrame reason) = Some (model.BadServerFrame reason)
fault_of (Unexpected kind) = Some (model.Unexpected kind)
fault_of NotATree = Some model.NotATree
fault_of (Gap expected got) = Some (model.Gap expected got)
fault_of (Account kept got) = Some (model.AccountFault kept got)
fault_of (Parts kept got) = Some (model.Parts kept got)

abbrev pub FaultsBy : {A : Type 0} → Result A model.FrameFault → Option model.FrameFault → Type 0
FaultsBy r None = ⊤
FaultsBy r (Some fault) = r ≡ Err fault

abbrev pub IsFrameFault : {A : Type 0} → Result A model.FrameFault → FrameFault → Type 0
IsFrameFault r f = FaultsBy r (fault_of f)
