-- The parts of a state.
use Rattle.room_model.specs.Server.{parts_within, parts_of, part_sends, Message}
use Rattle.room_msg.specs.declared.messages.ServerMsg.TheVariants as server
use Rattle.room_json.specs.Value.{Value}
use Rattle.room_json.specs.View.{json_of}
use Rattle.room_json.specs.declared.tree.Json.{Json}
use Rattle.room_links.specs.declared.outs.Out.{Out}
use Rattle.room_links.specs.Outs.{written}
use Rattle.std.proofs.Common.{map, ◌++◌, append_assoc, ◌≡◌, ℕ, zero, suc, ◌<◌, ◌≤◌, List, [], ◌∷◌, true, false, cond, nat_le, length, take, drop, refl, sym, ap, ◌∙◌, arith}
use Rattle.std.proofs.lemmas.List.{length-drop, take-map, drop-map, length-map}
use Rattle.std.proofs.lemmas.Bool.Decides.{nat_tests}

fits : (n : ℕ) → n ≤ 1000 → nat_le n 1000 ≡ true
fits n p = grind (arith, nat_tests, p)

over : (n : ℕ) → 1000 < n → nat_le n 1000 ≡ false
over n p = grind (arith, nat_tests, p)

pub small : (n : ℕ) (vs : List Value) → length vs ≤ 1000 → parts_within n vs ≡ (vs, false) ∷ []
small zero vs p = refl
small (suc n) vs p = ap (λ b. cond b ((vs, false) ∷ []) ((take 1000 vs, true) ∷ parts_within n (drop 1000 vs))) (fits (length vs) p)

fuel : (n m : ℕ) (vs : List Value) → length vs ≤ n → length vs ≤ m → parts_within n vs ≡ parts_within m vs
fuel zero m vs p q = sym (small m vs (omega (arith, p)))
fuel (suc n) zero vs p q = small (suc n) vs (omega (arith, q))
fuel (suc n) (suc m) vs p q =
    let less = length-drop 1000 vs in
    ap (λ ps. cond (nat_le (length vs) 1000) ((vs, false) ∷ []) ((take 1000 vs, true) ∷ ps))
    (fuel n m (drop 1000 vs) (omega (arith, p, less)) (omega (arith, q, less)))

pub cut_more : (vs : List Value) → 1000 < length vs → parts_of vs ≡ (take 1000 vs, true) ∷ parts_of (drop 1000 vs)
cut_more [] p = absurd (omega (arith, p))
cut_more (v ∷ vs) p =
    let less = length-drop 1000 (v ∷ vs) in
    ap (λ b. cond b ((v ∷ vs, false) ∷ []) ((take 1000 (v ∷ vs), true) ∷ parts_within (length vs) (drop 1000 (v ∷ vs)))) (over (length (v ∷ vs)) p)
    ∙ ap (λ ps. (take 1000 (v ∷ vs), true) ∷ ps)
    (fuel (length vs) (length (drop 1000 (v ∷ vs))) (drop 1000 (v ∷ vs)) (omega (arith, less)) (omega arith))

pub cut_last : (vs : List Value) → length vs ≤ 1000 → parts_of vs ≡ (vs, false) ∷ []
cut_last vs p = small (length vs) vs p

-- what is sent of items of which there are more than a part, and of the last ones

pub sends_more : (k seq last : ℕ) (xs : List Json) → 1000 < length xs
    → map written (part_sends k seq last (parts_of (map json_of xs)))
    ≡ written (k, Message (server.State seq last (map json_of (take 1000 xs)) true))
    ∷ map written (part_sends k seq last (parts_of (map json_of (drop 1000 xs))))
sends_more k seq last xs p =
    let many : 1000 < length (map json_of xs) = omega (arith, p, length-map xs json_of) in
    ap (λ ps. map written (part_sends k seq last ps)) (cut_more (map json_of xs) many)
    ∙ ap (λ vs. written (k, Message (server.State seq last vs true))
    ∷ map written (part_sends k seq last (parts_of (drop 1000 (map json_of xs))))) (take-map json_of 1000 xs)
    ∙ ap (λ vs. written (k, Message (server.State seq last (map json_of (take 1000 xs)) true))
    ∷ map written (part_sends k seq last (parts_of vs))) (drop-map json_of 1000 xs)

pub sends_last : (k seq last : ℕ) (xs : List Json) → length xs ≤ 1000
    → map written (part_sends k seq last (parts_of (map json_of xs)))
    ≡ written (k, Message (server.State seq last (map json_of xs) false)) ∷ []
sends_last k seq last xs p =
    let few : length (map json_of xs) ≤ 1000 = omega (arith, p, length-map xs json_of) in
    ap (λ ps. map written (part_sends k seq last ps)) (cut_last (map json_of xs) few)

abbrev parts_out : ℕ → ℕ → ℕ → List Json → List Out
parts_out k seq last xs = map written (part_sends k seq last (parts_of (map json_of xs)))

-- one part goes out, and the rest is left
pub goes_on : (k seq last : ℕ) (os ps total : List Out) (xs part after : List Json)
    → ps ≡ os ++ written (k, Message (server.State seq last (map json_of part) true)) ∷ []
    → part ≡ take 1000 xs → after ≡ drop 1000 xs → 1000 < length xs
    → os ++ map written (part_sends k seq last (parts_of (map json_of xs))) ≡ total
    → ps ++ map written (part_sends k seq last (parts_of (map json_of after))) ≡ total
goes_on k seq last os ps total xs part after sent front back more left =
    ap (λ ys. ys ++ parts_out k seq last after) sent
    ∙ append_assoc os (written (k, Message (server.State seq last (map json_of part) true)) ∷ []) (parts_out k seq last after)
    ∙ ap (λ ys. os ++ written (k, Message (server.State seq last (map json_of ys) true)) ∷ parts_out k seq last after) front
    ∙ ap (λ ys. os ++ written (k, Message (server.State seq last (map json_of (take 1000 xs)) true)) ∷ parts_out k seq last ys) back
    ∙ ap (λ ys. os ++ ys) (sym (sends_more k seq last xs more))
    ∙ left

pub ruleset cuts = (sends_more, sends_last)
