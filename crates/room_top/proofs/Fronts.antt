-- First parts of a report.
use Rattle.std.proofs.Common.{◌≡◌, ℕ, List, [], ◌∷◌, ◌++◌, length, take, drop, refl, sym, ap, ◌∙◌, append_assoc, append-nil}
use Rattle.std.proofs.Common.{take-append-drop}
use Rattle.room_model.specs.Lines.{Line}
use Rattle.room_model.specs.Run.{report_from, text_of_lines}
use Rattle.room_model.specs.World.{World, step}
use Rattle.room_run.specs.Running.{after_lines}

front_is : (xs ys : List ℕ) → take (length xs) (xs ++ ys) ≡ xs
front_is [] ys = refl
front_is (x ∷ xs) ys = ap (λ l. x ∷ l) (front_is xs ys)

pub whole_is : (xs : List ℕ) → take (length xs) xs ≡ xs
whole_is xs = ap (take (length xs)) (sym (append-nil xs)) ∙ front_is xs []

-- a text, and a first part of what is behind it

cut : (xs ys zs : List ℕ) (k : ℕ) → xs ++ (ys ++ zs) ≡ (xs ++ take k ys) ++ (drop k ys ++ zs)
cut xs ys zs k =
    ap (λ l. xs ++ (l ++ zs)) (sym (take-append-drop k ys)) ∙ ap (λ l. xs ++ l) (append_assoc (take k ys) (drop k ys) zs)
    ∙ sym (append_assoc xs (take k ys) (drop k ys ++ zs))

pub front : (xs ys zs : List ℕ) (k : ℕ) → (n : ℕ) × (xs ++ take k ys ≡ take n (xs ++ (ys ++ zs)))
front xs ys zs k =
    let m = length (xs ++ take k ys) in
    (m, sym (ap (take m) (cut xs ys zs k) ∙ front_is (xs ++ take k ys) (drop k ys ++ zs)))

pub front_of_two : (xs ys : List ℕ) (k : ℕ) → (n : ℕ) × (xs ++ take k ys ≡ take n (xs ++ ys))
front_of_two xs ys k =
    let f = front xs ys [] k in
    (f.0, f.1 ∙ ap (λ l. take f.0 (xs ++ l)) (append-nil ys))

-- the report of lines and of others behind them
pub report_split : (w : World) (ls ms : List (ℕ × Line))
    → report_from w (ls ++ ms) ≡ report_from w ls ++ report_from (after_lines w ls) ms
report_split w [] ms = refl
report_split w (l ∷ ls) ms =
    let v = (step w l.0 l.1).world in
    let t = text_of_lines (step w l.0 l.1).lines in
    ap (λ r. t ++ r) (report_split v ls ms)
    ∙ sym (append_assoc t (report_from v ls) (report_from (after_lines v ls) ms))
