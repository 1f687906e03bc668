-- A client is told something, or asked something.
use Rattle.std.proofs.Common.{◌≡◌, ℕ, Option, Some, None, option_map, Result}
use Rattle.room_model.specs.Lines.{Call, Question, OfClient, AsksClient}
use Rattle.room_script.specs.Grammar.{or_else, Calls, Asks}
use Rattle.room_script.specs.Giving.{Gives}
use Rattle.room_script.specs.Told.{Told, Scheduled, scripted, called, asked, told_of}
use Rattle.room_script.specs.declared.fault.Misread.{Misread}
use Rattle.room_script.specs.declared.lines.Line.{Line}

pub called_first : (c : ℕ) (call : Option Call) (question : Option Question) (x : Told) → option_map (called c) call ≡ Some x
    → option_map Scheduled (or_else (option_map (OfClient c) call) (option_map (AsksClient c) question)) ≡ Some x
called_first c None question x e = cc
called_first c (Some call) question x e = e

pub asked_then : (c : ℕ) (call : Option Call) (question : Option Question) (r : Result Line Misread) → option_map (called c) call ≡ None → Gives told_of r (option_map (asked c) question)
    → Gives told_of r (option_map Scheduled (or_else (option_map (OfClient c) call) (option_map (AsksClient c) question)))
asked_then c (Some call) question r e h = cc
asked_then c None None r e h = h
asked_then c None (Some question) r e h = h

pub called_alone : (call : Option Call) (question : Option Question) (x : Told) → option_map (called 0) call ≡ Some x
    → option_map scripted (or_else (option_map Calls call) (option_map Asks question)) ≡ Some x
called_alone None question x e = cc
called_alone (Some call) question x e = e

pub asked_alone : (call : Option Call) (question : Option Question) (r : Result Line Misread) → option_map (called 0) call ≡ None → Gives told_of r (option_map (asked 0) question)
    → Gives told_of r (option_map scripted (or_else (option_map Calls call) (option_map Asks question)))
asked_alone (Some call) question r e h = cc
asked_alone None None r e h = h
asked_alone None (Some question) r e h = h
