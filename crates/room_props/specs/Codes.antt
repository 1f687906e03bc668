-- A live value as a tree of numbers, which a type's meaning has to have.
use Rattle.std.specs.Prelude.{◌≡◌, ℕ, cond, List, [], nat_eq}
use Rattle.std.proofs.Common.{refl, sym, ap, ◌∙◌}
use base.Stored.{Gv, gnil, gnum, gcons, Coded, coded_list, coded×, coded_ℕ}
use Rattle.room_json.specs.Value.{Value, text}
use Rattle.room_json.specs.Codes.{value_back, value_again, code_of as code_of_value}
use Rattle.room_model.specs.Init.{Init, Plain, AnObject, AMap, AList, Parts, no_parts, part, Inits, no_inits, init}

abbrev mutual
  pub code_of : Init → Gv
  code_of (Plain v) = gcons (gnum 0) (code_of_value v)
  code_of (AnObject ps) = gcons (gnum 1) (parts_code ps)
  code_of (AMap ps) = gcons (gnum 2) (parts_code ps)
  code_of (AList is) = gcons (gnum 3) (inits_code is)

  pub parts_code : Parts → Gv
  parts_code no_parts = gnil
  parts_code (part k i ps) = gcons (gcons (code_of_value (text k)) (code_of i)) (parts_code ps)

  pub inits_code : Inits → Gv
  inits_code no_inits = gnil
  inits_code (init i is) = gcons (code_of i) (inits_code is)

-- a name is coded as a text
abbrev name_in : Value → List ℕ
name_in (text k) = k
name_in _ = []

abbrev num : Gv → ℕ
num (gnum n) = n
num _ = 0

-- by the tag
abbrev pick : ℕ → Value → Parts → Inits → Init
pick t v ps is = cond (nat_eq t 0) (Plain v) (cond (nat_eq t 1) (AnObject ps) (cond (nat_eq t 2) (AMap ps) (AList is)))

abbrev mutual
  pub init_back : Gv → Init
  init_back gnil = AList no_inits
  init_back (gnum n) = AList no_inits
  init_back (gcons t g) = pick (num t) (value_back g) (parts_back g) (inits_back g)

  parts_back : Gv → Parts
  parts_back gnil = no_parts
  parts_back (gnum n) = no_parts
  parts_back (gcons p ps) = part_back p (parts_back ps)

  part_back : Gv → Parts → Parts
  part_back gnil ps = ps
  part_back (gnum n) ps = ps
  part_back (gcons k i) ps = part (name_in (value_back k)) (init_back i) ps

  inits_back : Gv → Inits
  inits_back gnil = no_inits
  inits_back (gnum n) = no_inits
  inits_back (gcons i is) = init (init_back i) (inits_back is)

mutual
  pub init_again : (i : Init) → init_back (code_of i) ≡ i
  init_again (Plain v) = ap Plain (value_again v)
  init_again (AnObject ps) = ap AnObject (parts_again ps)
  init_again (AMap ps) = ap AMap (parts_again ps)
  init_again (AList is) = ap AList (inits_again is)

  parts_again : (ps : Parts) → parts_back (parts_code ps) ≡ ps
  parts_again no_parts = refl
  parts_again (part k i ps) = λ j. part (name_in (value_again (text k) j)) (init_again i j) (parts_again ps j)

  inits_again : (is : Inits) → inits_back (inits_code is) ≡ is
  inits_again no_inits = refl
  inits_again (init i is) = λ j. init (init_again i j) (inits_again is j)

abbrev pub coded_init : Coded Init
coded_init = record { code = code_of; inj = λ x y p. sym (init_again x) ∙ ap init_back p ∙ init_again y }

abbrev pub coded_list_of_inits : Coded (List Init)
coded_list_of_inits = coded_list coded_init

abbrev pub coded_list_of_parts : Coded (List (List ℕ × Init))
coded_list_of_parts = coded_list (coded× (coded_list coded_ℕ) coded_init)
