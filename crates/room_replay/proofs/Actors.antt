-- Sessions by actor, as a program holds them and as the log has them.
use Rattle.std.proofs.Common.{◌≡◌, ◌≢◌, ◌≤◌, ◌<◌, ℕ, zero, suc, ◌-◌, List, length, map, refl, sym, ap, ◌∙◌, arith}
use Rattle.std.specs.Prelude.{Option, Some, None, option_map, slice_get, slice_set, slice_index_or}
use Rattle.std.proofs.lemmas.Option.{slice_get-map, slice_get_past, slice_get-get_or}
use Rattle.std.proofs.lemmas.List.{map-set}
use Rattle.room_log.specs.Log.{Session, session_of, with_last, with_last_at}
use Rattle.room_bytes.specs.declared.entries.Session.{Session as Here}
use Rattle.room_snapshot.specs.Bounds.{kept}

before : (i : ℕ) → suc i - 1 ≡ i
before i = omega arith

pub session_there : (xs : List Here) (a : ℕ) (o : Option Here) → a ≢ 0 → o ≡ slice_get xs (a - 1) → session_of (map kept xs) a ≡ option_map kept o
session_there xs zero o pos is = absurd (pos refl)
session_there xs (suc i) o pos is = slice_get-map kept xs i ∙ ap (option_map kept) (ap (slice_get xs) (sym (before i)) ∙ sym is)

last_kept : (o : Option Here) → option_map (λ (s : Session). s.last) (option_map kept o) ≡ option_map (λ (s : Here). s.last) o
last_kept None = refl
last_kept (Some s) = refl

pub last_there : (xs : List Here) (a : ℕ) (o : Option Here) (r : Option ℕ) → a ≢ 0 → o ≡ slice_get xs (a - 1)
    → r ≡ option_map (λ (s : Here). s.last) o → r ≡ option_map (λ (s : Session). s.last) (session_of (map kept xs) a)
last_there xs a o r pos is e = e ∙ sym (ap (option_map (λ (s : Session). s.last)) (session_there xs a o pos is) ∙ last_kept o)

pub set_in : (xs : List Here) (a c : ℕ) (e : Here) → a ≢ 0 → a ≤ length xs → e ≡ slice_index_or xs (a - 1) e
    → map kept (slice_set xs (a - 1) (record e { last = c })) ≡ with_last (map kept xs) a c
set_in xs zero c e pos le is = absurd (pos refl)
set_in xs (suc i) c e pos le is =
    let there : slice_get xs i ≡ Some e =
    slice_get-get_or xs i e (omega (arith, le)) ∙ ap Some (sym (is ∙ ap (λ n. slice_index_or xs n e) (before i))) in
    let found : slice_get (map kept xs) i ≡ Some (kept e) = slice_get-map kept xs i ∙ ap (option_map kept) there in
    ap (λ n. map kept (slice_set xs n (record e { last = c }))) (before i)
    ∙ map-set kept xs i (record e { last = c })
    ∙ sym (ap (with_last_at (map kept xs) i c) found)

pub set_out : (xs : List Here) (a c : ℕ) → length xs < a → map kept xs ≡ with_last (map kept xs) a c
set_out xs zero c lt = absurd (omega (arith, lt))
set_out xs (suc i) c lt =
    sym (ap (with_last_at (map kept xs) i c) (slice_get-map kept xs i ∙ ap (option_map kept) (slice_get_past xs i (omega (arith, lt)))))
