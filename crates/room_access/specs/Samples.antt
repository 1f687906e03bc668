-- Samples: what the grammar says of cases that a reader can follow.
use Rattle.std.specs.Prelude.{◌≡◌, [], ◌∷◌, ◌++◌, codes, Some, None, Ok, Err}
use Rattle.room_model.specs.Access.{Read}
use Rattle.room_access.specs.Grammar.{access_line, access_in, a_pass, a_rule}

pub record Samples : Type 0 where
  pub a_word : access_line (codes "pass k1 team") ≡ Some (a_pass (codes "k1") (codes "team"))
  pub any_word : access_line (codes "pass * team") ≡ Some (a_pass (codes "*") (codes "team"))
  pub any_group : access_line (codes "pass k1 *") ≡ None
  pub two_spaces : access_line (codes "pass  team") ≡ None
  pub space_behind : access_line (codes "pass k1 team ") ≡ None
  pub rule : access_line (codes "rule * 0-_ read") ≡ Some (a_rule (codes "*") (codes "0-_") Read)
  pub capital : access_line (codes "rule Room team read") ≡ None
  pub dash_first : access_line (codes "rule -a team read") ≡ None
  pub no_level : access_line (codes "rule room team all") ≡ None
  pub no_text : access_in [] ≡ Ok (record { passes = []; policy = [] })
  -- what is skipped is counted
  pub bad_line : access_in (codes "#" ++ 10 ∷ 10 ∷ codes "rule room team") ≡ Err 3
