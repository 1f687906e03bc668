-- What clap makes of the words behind the name of each command.
use Rattle.std.proofs.Common.{◌≡◌, ◌∙◌, true, false, refl, ap, List, [], ◌∷◌, Option, None, codes, unwrap_or}
use Rattle.std.specs.Prelude.{find}
use Rattle.std.specs.List.{list_all}
use Rattle.clap.specs.Walk.{Row, Text, answers_to, nothing_held, rows_after}
use Rattle.clap.specs.Simple.{Shape, built, label_of, new_shape}
use Rattle.clap.specs.Kinds.{Kinds}
use Rattle.clap.specs.Faults.{defaults_fault, level_fault}
use Rattle.clap.specs.declared.error.kind.ErrorKind.{ErrorKind}
use Rattle.room_words.specs.Words.{Told, is_word, replay_of, serve_of, client_of, show_of, gen_of, patch_of, rooms_of}
use Rattle.room_words.specs.Wording.{program, found}
use Rattle.room_words.proofs.Plain.{quick_fault, quick_rows, run, run_fault, ended, level_is, rows_are}

-- the command of this name, as clap has built it
abbrev pub leaf : Text → Shape
unfolding program
leaf name = unwrap_or (find (λ s. answers_to name (label_of s)) (built program).subs) (new_shape name)

-- clap takes the words, and the command is read of what it found; or it refuses them, and they spell none
pub data Reads (ks : Kinds) (rows : List Row) (name : Text) (c : Option Told) : Type 0 where
  fits : ks ≡ [] → found name rows ≡ c → Reads ks rows name c
  strays : (k : ErrorKind) (more : Kinds) → ks ≡ k ∷ more → c ≡ None → Reads ks rows name c

abbrev QuickReads : Text → List Text → Option Told → Type 0
QuickReads name words c = Reads (quick_fault (leaf name) words) (quick_rows (leaf name) words) name c

abbrev pub LeafReads : Text → List Text → Option Told → Type 0
LeafReads name words c =
    Reads (level_fault (leaf name) [] nothing_held words false []) (rows_after (leaf name).rules [] words) name c

replay_quick : (words : List Text) → QuickReads (codes "replay") words (replay_of words)
unfolding program quick_fault quick_rows run run_fault ended defaults_fault
replay_quick [] = fits refl refl
replay_quick (a ∷ []) = fits refl refl
replay_quick (a ∷ b ∷ rest) = strays _ _ refl refl

serve_quick : (words : List Text) → QuickReads (codes "serve") words (serve_of words)
unfolding program quick_fault quick_rows run run_fault ended defaults_fault
serve_quick [] = strays _ _ refl refl
serve_quick (a ∷ []) = strays _ _ refl refl
serve_quick (a ∷ b ∷ []) = strays _ _ refl refl
serve_quick (a ∷ b ∷ d ∷ []) = strays _ _ refl refl
serve_quick (a ∷ b ∷ d ∷ e ∷ []) = fits refl refl
serve_quick (a ∷ b ∷ d ∷ e ∷ f ∷ []) = fits refl refl
serve_quick (a ∷ b ∷ d ∷ e ∷ f ∷ g ∷ rest) = strays _ _ refl refl

client_quick : (words : List Text) → QuickReads (codes "client") words (client_of words)
unfolding program quick_fault quick_rows run run_fault ended defaults_fault
client_quick [] = strays _ _ refl refl
client_quick (a ∷ []) = strays _ _ refl refl
client_quick (a ∷ b ∷ []) = fits refl refl
client_quick (a ∷ b ∷ d ∷ rest) = strays _ _ refl refl

show_quick : (words : List Text) → QuickReads (codes "show") words (show_of words)
unfolding program quick_fault quick_rows run run_fault ended defaults_fault
show_quick [] = strays _ _ refl refl
show_quick (a ∷ []) = fits refl refl
show_quick (a ∷ b ∷ rest) = strays _ _ refl refl

gen_quick : (words : List Text) → QuickReads (codes "gen") words (gen_of words)
unfolding program quick_fault quick_rows run run_fault ended defaults_fault
gen_quick [] = strays _ _ refl refl
gen_quick (a ∷ []) = strays _ _ refl refl
gen_quick (a ∷ b ∷ []) = fits refl refl
gen_quick (a ∷ b ∷ d ∷ rest) = strays _ _ refl refl

patch_quick : (words : List Text) → QuickReads (codes "patch") words (patch_of words)
unfolding program quick_fault quick_rows run run_fault ended defaults_fault
patch_quick [] = strays _ _ refl refl
patch_quick (a ∷ []) = fits refl refl
patch_quick (a ∷ b ∷ rest) = strays _ _ refl refl

rooms_quick : (words : List Text) → QuickReads (codes "rooms") words (rooms_of words)
unfolding program quick_fault quick_rows run run_fault ended defaults_fault
rooms_quick [] = strays _ _ refl refl
rooms_quick (a ∷ []) = strays _ _ refl refl
rooms_quick (a ∷ b ∷ []) = fits refl refl
rooms_quick (a ∷ b ∷ d ∷ []) = fits refl refl
rooms_quick (a ∷ b ∷ d ∷ e ∷ rest) = strays _ _ refl refl

-- the same of clap's own definitions, for words that begin with no hyphen
at_leaf : (name : Text) (words : List Text) (c : Option Told) → list_all is_word words ≡ true → QuickReads name words c
    → LeafReads name words c
at_leaf name words c p (fits e f) =
    fits (level_is (leaf name) words p ∙ e) (ap (found name) (rows_are (leaf name) words p) ∙ f)
at_leaf name words c p (strays k more e n) = strays k more (level_is (leaf name) words p ∙ e) n

module _ (words : List Text) (p : list_all is_word words ≡ true) where
  pub replay_leaf : LeafReads (codes "replay") words (replay_of words)
  replay_leaf = at_leaf _ _ _ p (replay_quick words)

  pub serve_leaf : LeafReads (codes "serve") words (serve_of words)
  serve_leaf = at_leaf _ _ _ p (serve_quick words)

  pub client_leaf : LeafReads (codes "client") words (client_of words)
  client_leaf = at_leaf _ _ _ p (client_quick words)

  pub show_leaf : LeafReads (codes "show") words (show_of words)
  show_leaf = at_leaf _ _ _ p (show_quick words)

  pub gen_leaf : LeafReads (codes "gen") words (gen_of words)
  gen_leaf = at_leaf _ _ _ p (gen_quick words)

  pub patch_leaf : LeafReads (codes "patch") words (patch_of words)
  patch_leaf = at_leaf _ _ _ p (patch_quick words)

  pub rooms_leaf : LeafReads (codes "rooms") words (rooms_of words)
  rooms_leaf = at_leaf _ _ _ p (rooms_quick words)
