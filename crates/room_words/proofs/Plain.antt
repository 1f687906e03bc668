-- Words that begin with no hyphen: clap takes each for a value of the next positional, whatever it says.
use Rattle.std.proofs.Common.{◌≡◌, ◌∙◌, ℕ, Bool, true, false, ◌==◌, refl, sym, ap, ap₂, List, [], ◌∷◌, Option, Some}
use Rattle.std.proofs.Common.{None, true≢false, cond}
use Rattle.std.specs.Prelude.{⊤, fold}
use Rattle.std.specs.List.{list_all}
use Rattle.std.specs.Str.{bytes_eq}
use Rattle.clap.specs.Lexer.{long_of, short_of}
use Rattle.clap.specs.Walk.{Held, Row, Rule, Text, Waiting, Walk, idle, option, positional, value, arg_by_index}
use Rattle.clap.specs.Walk.{finished, is_multiple, nothing_held, rows_after, settled, to_positional, walk_from}
use Rattle.clap.specs.Walk.{walked, word_met}
use Rattle.clap.specs.Simple.{Shape}
use Rattle.clap.specs.Kinds.{Kinds, or_else}
use Rattle.clap.specs.Faults.{check_fault, defaults_fault, level_fault, settle_fault, step_fault, turn_fault}
use Rattle.clap.specs.Faults.{walk_fault, word_fault}
use Rattle.clap.proofs.WalkLemmas.{both}
use Rattle.clap.proofs.SimpleLemmas.{is_false}
use Rattle.room_words.specs.Words.{is_word}

pub record IsPlain (word : Text) : Type 0 where
  pub dashes : bytes_eq word (45 ∷ 45 ∷ []) ≡ false
  pub long : long_of word ≡ None
  pub short : short_of word ≡ None

pub plain : (word : Text) → is_word word ≡ true → IsPlain word
plain [] h = absurd (true≢false (sym h))
plain (b ∷ bs) h =
    let no : (b == 45) ≡ false = is_false (b == 45) h in
    record { dashes = rw no refl; long = rw no refl; short = rw no refl }

abbrev pub IsOpen : Waiting → Type 0
IsOpen idle = ⊤
IsOpen (option id) = ⊥
IsOpen positional = ⊤

pub record IsReady (w : Walk) : Type 0 where
  pub stopped : w.stopped ≡ None
  pub waiting : IsOpen w.waiting

met : (c : List Rule) (t : Bool) (waiting : Waiting) (position : ℕ) (word : Text) (h : Held)
    → IsOpen waiting → IsPlain word → word_met c [] t waiting position word h ≡ (h, value)
met c true waiting position word h o p = refl
met c false idle position word h o p = rw (p.dashes, p.long, p.short) refl
met c false (option id) position word h o p = absurd o
met c false positional position word h o p = rw (p.dashes, p.long, p.short) refl

unfaulted : (s : Shape) (t : Bool) (waiting : Waiting) (word : Text) (h : Held) → IsOpen waiting → IsPlain word
    → word_fault s [] t waiting word h ≡ []
unfaulted s true waiting word h o p = refl
unfaulted s false idle word h o p = rw (p.dashes, p.long, p.short) refl
unfaulted s false (option id) word h o p = absurd o
unfaulted s false positional word h o p = rw (p.dashes, p.long, p.short) refl

-- the walk after one such word
abbrev pub stepped : List Rule → Walk → Text → Walk
stepped c w word = to_positional c (arg_by_index c w.position) word w w.held

step : (c : List Rule) (w : Walk) (word : Text) → IsReady w → IsPlain word → walked c [] w word ≡ stepped c w word
unfolding walked
step c w word r p = rw (r.stopped, met c w.is_trailing w.waiting w.position word w.held r.waiting p) refl

turn : (s : Shape) (w : Walk) (word : Text) → IsReady w → IsPlain word
    → turn_fault s [] w word ≡ step_fault s w.position w.held value
turn s w word r p =
    rw (
      r.stopped,
      unfaulted s w.is_trailing w.waiting word w.held r.waiting p,
      met s.rules w.is_trailing w.waiting w.position word w.held r.waiting p,
    ) refl

ready_after : (c : List Rule) (o : Option Rule) (word : Text) (w : Walk) → IsReady w
    → IsReady (to_positional c o word w w.held)
ready_after c None word w r = record { stopped = r.stopped; waiting = r.waiting }
ready_after c (Some a) word w r = record { stopped = refl; waiting = go (is_multiple a) }
  where
    go : (b : Bool) → IsOpen (cond b positional idle)
    go true = tt
    go false = tt

-- the walk over such words, and what it fails by: they look into no word
unfoldable pub run : List Rule → Walk → List Text → Walk
run c w [] = w
run c w (word ∷ rest) = run c (stepped c w word) rest

unfoldable pub run_fault : Shape → Walk → List Text → Kinds
run_fault s w [] = []
run_fault s w (word ∷ rest) = or_else (step_fault s w.position w.held value) (run_fault s (stepped s.rules w word) rest)

walk_is : (c : List Rule) (w : Walk) (words : List Text) → IsReady w → list_all is_word words ≡ true
    → fold (walked c []) w words ≡ run c w words
unfolding run
walk_is c w [] r p = refl
walk_is c w (x ∷ xs) r p =
    let here = both _ _ p in
    ap (λ v. fold (walked c []) v xs) (step c w x r (plain x here.0))
    ∙ walk_is c (stepped c w x) xs (ready_after c (arg_by_index c w.position) x w r) here.1

fault_is : (s : Shape) (w : Walk) (words : List Text) → IsReady w → list_all is_word words ≡ true
    → walk_fault s [] w words ≡ run_fault s w words
unfolding run_fault walk_fault
fault_is s w [] r p = refl
fault_is s w (x ∷ xs) r p =
    let here = both _ _ p in
    ap₂ or_else (turn s w x r (plain x here.0))
    (ap (λ v. walk_fault s [] v xs) (step s.rules w x r (plain x here.0))
    ∙ fault_is s (stepped s.rules w x) xs (ready_after s.rules (arg_by_index s.rules w.position) x w r) here.1)

-- ---- a command with no other below it

unfoldable pub ended : Shape → Kinds → Held → Kinds
ended s before end = or_else before (or_else [] (or_else (settle_fault s.rules s.args_override_self end)
    (or_else (defaults_fault (settled s.rules end).rows s.rules) (check_fault s (finished s.rules end) false))))

unfoldable pub quick_fault : Shape → List Text → Kinds
quick_fault s words =
    ended s (run_fault s (walk_from nothing_held) words) (run s.rules (walk_from nothing_held) words).held

unfoldable pub quick_rows : Shape → List Text → List Row
quick_rows s words = finished s.rules (run s.rules (walk_from nothing_held) words).held

ready : IsReady (walk_from nothing_held)
ready = record { stopped = refl; waiting = tt }

pub level_is : (s : Shape) (words : List Text) → list_all is_word words ≡ true
    → level_fault s [] nothing_held words false [] ≡ quick_fault s words
unfolding quick_fault ended
level_is s words p = ap₂ (λ ks (w : Walk). ended s ks w.held) (fault_is s (walk_from nothing_held) words ready p)
    (walk_is s.rules (walk_from nothing_held) words ready p)

pub rows_are : (s : Shape) (words : List Text) → list_all is_word words ≡ true
    → rows_after s.rules [] words ≡ quick_rows s words
unfolding quick_rows
rows_are s words p = ap (λ (w : Walk). finished s.rules w.held) (walk_is s.rules (walk_from nothing_held) words ready p)
