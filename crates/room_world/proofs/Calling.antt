-- A call of a client that changes nothing but its slot, as the world's line.
use Rattle.std.proofs.Common.{◌≡◌, ℕ, List, Option, Result, refl, sym, ◌∙◌, subst, IfOk}
use Rattle.std.proofs.lemmas.Result.{IfOk-weaker}
use Rattle.room_json.specs.declared.memory.NoMemory.{NoMemory}
use Rattle.room_model.specs.Lines.{Call, OfClient}
use Rattle.room_slots.specs.Slots.{Clients, Calls, line_in}
use Rattle.room_world.specs.Did.{Does}
use Rattle.room_world.specs.Seen.{Peopled, world_in}

abbrev pub with_clients : Peopled → Clients → Peopled
with_clients p new = record p { clients = new }

does_by : (p : Peopled) (new : Clients) (number c : ℕ) (call : Call) (t : Option (List ℕ)) (lines : List (List ℕ))
    → Calls p.clients new number c call (line_in t) → lines ≡ line_in t
    → Does p (with_clients p new) number (OfClient c call) lines
does_by p new number c call t lines calls e fs fuse =
    let out = calls (world_in p fs fuse) refl in record { lines_are = out.0 ∙ sym e; world_is = out.1 }

-- p is what the world is seen as before the call, by its fields q
pub called : (p q : Peopled) (new : Clients) (number c : ℕ) (call : Call) (t : Option (List ℕ))
    (result : Result (List (List ℕ)) NoMemory) → p ≡ q → Calls q.clients new number c call (line_in t)
    → IfOk result (λ lines. lines ≡ line_in t)
    → IfOk result (Does p (with_clients q new) number (OfClient c call))
called p q new number c call t result is calls ensures =
    subst (λ x. IfOk result (Does x (with_clients q new) number (OfClient c call))) (sym is)
    (IfOk-weaker result (λ lines. lines ≡ line_in t) (Does q (with_clients q new) number (OfClient c call))
    (λ lines e. does_by q new number c call t lines calls e) ensures)
