-- Texts of the generator, put together from left to right.
use Rattle.std.proofs.Common.{◌≡◌, ◌≢◌, ◌==◌, ◌<◌, ◌+◌, ◌-◌, ◌%◌, ℕ, suc, false, List, [], ◌∷◌, ◌++◌, codes, refl, sym, ap, ◌∙◌, append_assoc, arith}
use Rattle.std.proofs.lemmas.Bool.Decides.{nat_tests}
use Rattle.std.proofs.lemmas.Fmt.{decimal_digit}
use Rattle.room_script.specs.Generator.{line, opening, speaks, turn, turns, after_turn}

three : (w a t z : List ℕ) → w ++ a ++ t ++ z ≡ w ++ (a ++ (t ++ z))
three w a t z = append_assoc (w ++ a) t z ∙ append_assoc w a (t ++ z)

-- a line of an edit, by the client's number and its own
pub last_line : (w i : List ℕ) → codes "edit " ++ (w ++ (codes " set root last " ++ (i ++ 10 ∷ []))) ≡ line (codes "edit " ++ w ++ codes " " ++ (codes "set root last " ++ i))
last_line w i = ap (λ r. codes "edit " ++ r) (sym (three w (32 ∷ []) (codes "set root last " ++ i) (10 ∷ [])))

pub layer_line : (w i : List ℕ) → codes "edit " ++ (w ++ (codes " push 1:5 \"layer " ++ (i ++ 34 ∷ 10 ∷ []))) ≡ line (codes "edit " ++ w ++ codes " " ++ (codes "push 1:5 \"layer " ++ i ++ codes "\""))
layer_line w i =
    ap (λ r. codes "edit " ++ r)
    (ap (λ q. w ++ (codes " push 1:5 \"layer " ++ q)) (sym (append_assoc i (34 ∷ []) (10 ∷ [])))
    ∙ sym (three w (32 ∷ []) (codes "push 1:5 \"layer " ++ i ++ codes "\"") (10 ∷ [])))

-- one turn more
turns_step : (count i s : ℕ) → i < count → turns count (count - i) (i + 1) s ≡ (turn (i + 1) s).lines ++ after_turn count (i + 1) ++ turns count (count - (i + 1)) (i + 1 + 1) (turn (i + 1) s).state
turns_step count i s h = let e : count - i ≡ suc (count - (i + 1)) = omega arith in rw e refl

pub turn_goes : (before : List ℕ) (count i s : ℕ) → i < count
    → before ++ (turn (i + 1) s).lines ++ after_turn count (i + 1) ++ turns count (count - (i + 1)) (i + 1 + 1) (turn (i + 1) s).state ≡ before ++ turns count (count - i) (i + 1) s
turn_goes before count i s h =
    let l = (turn (i + 1) s).lines in
    let a = after_turn count (i + 1) in
    let r = turns count (count - (i + 1)) (i + 1 + 1) (turn (i + 1) s).state in
    three before l a r ∙ ap (λ t. before ++ t) (sym (append_assoc l a r) ∙ sym (turns_step count i s h))

-- the opening, with the text of zero
abbrev corner_with : List ℕ → List ℕ → List ℕ
corner_with zero name =
    codes "\"" ++ name ++ codes "\":{\"$object\":" ++ (codes "{\"x\":" ++ zero ++ codes ",\"y\":" ++ zero ++ codes "}") ++ codes "}"

abbrev pub opening_with : List ℕ → List ℕ
opening_with zero =
    line (codes "dial 1") ++ line (codes "drain 1000") ++ line (codes "dial 2") ++ line (codes "drain 1000") ++ line (codes "dial 3") ++ line (codes "drain 1000")
    ++ line (codes "edit 1 set root shapes {\"$map\":{" ++ (corner_with zero (codes "a") ++ codes "," ++ corner_with zero (codes "b") ++ codes "," ++ corner_with zero (codes "c")) ++ codes "}}")
    ++ line (codes "edit 1 set root layers {\"$list\":[]}") ++ line (codes "flush 1") ++ line (codes "drain 1000")

pub opening_spelled : opening ≡ opening_with (48 ∷ [])
opening_spelled = ap opening_with (decimal_digit 0 (omega arith))

-- a turn that is none of the first three
not_that : (n k : ℕ) → n ≢ k → (n == k) ≡ false
not_that n k h = grind (arith, nat_tests)

pub turn_speaks : (i s : ℕ) → i % 4 ≢ 1 → i % 4 ≢ 2 → i % 4 ≢ 3 → turn i s ≡ speaks i s
turn_speaks i s a b d = rw (not_that (i % 4) 1 a, not_that (i % 4) 2 b, not_that (i % 4) 3 d) refl
