-- Samples: what the definitions say of cases that a reader can follow.
use Rattle.std.specs.Prelude.{◌≡◌, ℕ, true, false, List, [], ◌∷◌, codes, Some, None}
use Rattle.room_hub.specs.declared.hub.Event.TheVariants.{Opened, Frame, Gone, Quiet, End}
use Rattle.room_hub.specs.declared.hub.Deed.TheVariants.{Dialled}
use Rattle.room_hub.specs.declared.hub.Happening.TheVariants.{Gave, Failed}
use Rattle.room_msg.specs.declared.messages.ClientMsg.{ClientMsg}
use Rattle.room_model.specs.Calls.{dialled, hello_of}
use Rattle.room_model.specs.Lines as lines
use Rattle.room_script.specs.Grammar.{Calls, Takes}
use Rattle.room_playing.specs.Scripted.{Client, Scripted, Taking, Over, Awaits, Sending, Asking, Dialling, Missed}
use Rattle.room_playing.specs.Scripted.{MayHappen, after_at, connects, cut, given, line, loses, says, tried}

-- a `take` line whose frames and tries are both left
abbrev pub taking : ℕ → ℕ → Taking
taking frames tries = record { line = 2; frames = frames; tries = tries; taken = 0 }

abbrev pub took_none : Client → Client
took_none c = says c (codes "took 0" ∷ [])

pub record Samples : Type 0 where
  -- no frame, or no try: the hub isn't asked
  pub no_frame : (c : Client) → line c 2 (Takes 0 3) ≡ Over (took_none c)
  pub no_try : (c : Client) → line c 2 (Takes 3 0) ≡ Over (took_none c)
  pub asks : (c : Client) → line c 2 (Takes 2 10) ≡ Awaits c (Asking (taking 2 10))
  -- what is passed over, and the end
  pub quiet : (c : Client) → given c (taking 2 9) Quiet ≡ Awaits c (Asking (taking 2 9))
  pub opened : (c : Client) → given c (taking 2 9) (Opened 7 1) ≡ Awaits c (Asking (taking 2 9))
  pub other_frame : (c : Client) (text : List ℕ) → c.present ≡ Some 1
      → given c (taking 2 9) (Frame 2 text) ≡ Awaits c (Asking (taking 2 9))
  pub other_end : (c : Client) → c.present ≡ None → given c (taking 2 9) (Gone 1) ≡ Awaits c (Asking (taking 2 9))
  pub its_end : (c : Client) → c.present ≡ Some 1
      → given c (taking 2 9) (Gone 1) ≡ Awaits (loses c) (Asking (taking 2 9))
  pub end : (c : Client) → given c (taking 2 9) End ≡ Over (took_none c)
  -- a dial gives the old connection up, and sends the hello on the new one
  pub dials : (c : Client) → line c 1 (Calls lines.Dial) ≡ Awaits (cut c) Dialling
  pub hello : (c : Client) → connects c (Dialled 3) ≡ Awaits
      (record c { account = dialled c.account; present = Some 3 }) (Sending (hello_of (dialled c.account)) [] None)
  -- after a loss the frames behind it aren't tried, and a `take` goes on
  pub loss : (c : Client) (f : List ClientMsg) → tried c (f ∷ []) None true ≡ Over (loses c)
  pub on : (c : Client) (f : List ClientMsg) → tried c (f ∷ []) None false ≡ Awaits c (Sending f [] None)
  pub taken_on : (c : Client) (f : List ClientMsg)
      → tried c (f ∷ []) (Some (taking 1 1)) true ≡ Awaits (loses c) (Asking (taking 1 1))
  -- where the hub fails nothing more is done
  pub fails : (p : Scripted) → (after_at p Dialling Failed).waits ≡ Missed
  -- while a frame is to be sent nothing else happens
  pub not_asked : (c : Client) (f : List ClientMsg) → MayHappen c (Sending f [] None) (Gave End) → ⊥
