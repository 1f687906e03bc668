-- A server that isn't broken.
use Rattle.std.proofs.Common.{◌≡◌, Bool, true, false, Option, Some, None, subst}
use Rattle.std.specs.Prelude.{Result, Ok}
use Rattle.room_store.specs.declared.fault.Cause.{Cause}
use Rattle.room_server.specs.Faults.{IsBroken, cause_of}
use Rattle.room_server.specs.declared.fault.ServerFault.{ServerFault}

pub store_whole : (spent : Bool) (b : Option Cause) → cause_of spent b ≡ None → b ≡ None
store_whole true b e = cc
store_whole false b e = e

whole_ok : {T : Type 0} (b c : Option Cause) (x : T) → b ≡ None → IsBroken b c (Ok x) → c ≡ None
whole_ok None c x e h = h
whole_ok (Some d) c x e h = cc

pub stays_whole : {T : Type 0} (b c : Option Cause) (r : Result T ServerFault) (x : T) → b ≡ None → r ≡ Ok x
    → IsBroken b c r → c ≡ None
stays_whole {T = T} b c r x e is h = whole_ok b c x e (subst (λ (s : Result T ServerFault). IsBroken b c s) is h)
