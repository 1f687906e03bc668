-- Samples: what the definitions say of cases that a reader can follow.
use Rattle.std.specs.Prelude.{◌≡◌, ◌<◌, true, false, [], ◌∷◌, length, codes, Some}
use Rattle.std.specs.FinMap.{get}
use Rattle.room_hub.specs.declared.hub.Event.TheVariants.{Frame, Quiet, End}
use Rattle.room_hub.specs.declared.hub.Deed.TheVariants.{Sent, Closed}
use Rattle.room_hub.specs.declared.hub.Happening.TheVariants.{Gave, Did}
use Rattle.room_model.specs.Server.{Server, Link, Pong, Closed as Closing}
use Rattle.room_serving.specs.Turns.{has_round, turned}
use Rattle.room_serving.specs.Serving.{Serving, MayHappen, GoesOn, Ended, Missed, does_turn, deed_on, end_lines}
use Rattle.room_serving.specs.Serving.{gives, goners, is_asking, is_full, misses, tries, with_lost}

pub record Samples : Type 0 where
  -- the number 1,000 is among those behind 999 and behind 998, and neither 998 nor 1,001 is one
  pub reaches : has_round 999 1 ≡ true
  pub passes : has_round 998 3 ≡ true
  pub below : has_round 998 1 ≡ false
  pub behind : has_round 1000 2 ≡ false
  -- a ping of an attached connection is answered in its turn, and one of another is not
  pub ping : (v : Server) (l : Link) → get v.links 1 ≡ Some l
      → (turned v (Frame 1 (codes "ping") ∷ Quiet ∷ [])).outs ≡ (1, Pong) ∷ []
  pub pong : deed_on 1 Pong false ≡ Sent 1 (codes "pong") false
  pub close : deed_on 1 (Closing 4401 (codes "bad resume")) true ≡ Closed 1 4401 (codes "bad resume") true
  -- gathering ends where nothing is ready, at the end, where the hub fails, with the 64th event, and with the last call
  pub quiet : (m : Serving) → (gives m Quiet).gathered ≡ []
  pub the_end : (m : Serving) → is_asking (gives m End) ≡ false
  pub fails : (m : Serving) → is_asking (misses m) ≡ false
  pub full : (m : Serving) → length m.gathered ≡ 64 → is_full m ≡ true
  pub last_call : (m : Serving) → m.left ≡ 0 → is_full m ≡ true
  pub room_left : (m : Serving) → length m.gathered ≡ 63 → 0 < m.left → is_full m ≡ false
  -- losses, in rising order, each once
  pub between : with_lost (1 ∷ 3 ∷ []) 2 ≡ 1 ∷ 2 ∷ 3 ∷ []
  pub again : with_lost (2 ∷ []) 2 ≡ 2 ∷ []
  -- after a loss the rest of the turn is tried; then the connection is gone, in a turn of its own
  pub on : (m : Serving) → (tries m 1 ((2, Pong) ∷ []) true).todo ≡ (2, Pong) ∷ []
  pub noted : (m : Serving) → m.lost ≡ [] → (tries m 1 ((2, Pong) ∷ []) true).lost ≡ 1 ∷ []
  pub treated : (m : Serving) → m.lost ≡ []
      → tries m 1 [] true ≡ does_turn (record m { gathered = goners (1 ∷ []); owed = length m.groups })
  -- while something is to be tried nothing else happens, and not another text
  pub not_asked : (m : Serving) → MayHappen m ((1, Pong) ∷ []) (Gave End) → ⊥
  pub not_text : (m : Serving) → MayHappen m ((1, Pong) ∷ []) (Did (Sent 1 (codes "ping") false)) → ⊥
  pub turns : end_lines 3 GoesOn ≡ codes "turns 3" ∷ []
  pub no_line : end_lines 3 Ended ≡ []
  pub fault : end_lines 3 Missed ≡ codes "hub fault" ∷ []
