-- What clap makes of the words of the program.
use Rattle.std.proofs.Common.{◌≡◌, ◌∙◌, Bool, true, false, refl, sym, ap, ap₂, subst, List, [], ◌∷◌, Option, Some}
use Rattle.std.proofs.Common.{None, codes, true≢false}
use Rattle.std.specs.Prelude.{fold, find, option_map, is_some}
use Rattle.std.specs.Option.{option_map_or}
use Rattle.std.specs.List.{list_all}
use Rattle.std.specs.Str.{bytes_eq}
use Rattle.std.proofs.lemmas.Slice.Eq.{bytes_eq-Decides}
use Rattle.clap.specs.Walk.{Row, Text, Walk, answers_to, idle, finished, nothing_held, rows_after, settled}
use Rattle.clap.specs.Walk.{subcommand_met, walk, walk_from, walked}
use Rattle.clap.specs.Simple.{App, Shape, built, entered, is_simple, label_of, names_of, rows_at, subcommand_of}
use Rattle.clap.specs.Kinds.{IsAmong, Kinds, or_else}
use Rattle.clap.specs.Faults.{check_fault, defaults_fault, entered_fault, fault_of, is_simple_and_free, level_fault}
use Rattle.clap.specs.Faults.{settle_fault, turn_fault, walk_fault}
use Rattle.clap.specs.declared.error.kind.ErrorKind.{ErrorKind}
use Rattle.clap.specs.declared.error.kind.ErrorKind.TheVariants.{UnknownArgument, InvalidSubcommand}
use Rattle.clap.proofs.WalkLemmas.{both, walk_stopped}
use Rattle.clap.proofs.FaultLemmas.{stopped_fault}
use Rattle.room_words.specs.Words.{Told, is_word, spoken, spelled, command_of}
use Rattle.room_words.specs.Wording.{program, found}
use Rattle.room_words.proofs.Plain.{IsPlain, plain}
use Rattle.room_words.proofs.Leaves.{LeafReads, fits, strays, leaf, replay_leaf, serve_leaf, client_leaf, show_leaf}
use Rattle.room_words.proofs.Leaves.{gen_leaf, patch_leaf, rooms_leaf}

or_nothing : (a : Kinds) → or_else a [] ≡ a
or_nothing [] = refl
or_nothing (k ∷ ks) = refl

abbrev whole : App
unfolding program
whole = built program

abbrev begun : Walk
begun = walk_from nothing_held

-- what clap does with a first word that names a command
record IsName (n : Text) : Type 0 where
  met : walked whole.top.rules (names_of whole) begun n ≡ record begun { stopped = Some (n, []) }
  passes : turn_fault whole.top (names_of whole) begun n ≡ []
  here : find (λ s. answers_to n (label_of s)) whole.subs ≡ Some (leaf n)
  name : (leaf n).name ≡ n

-- the fault of the whole, of the walk and of its fault
after : Walk → Kinds → Kinds
after w ks = or_else ks (or_else (entered_fault whole w.stopped)
    (or_else (settle_fault whole.top.rules whole.top.args_override_self w.held)
    (or_else (defaults_fault (settled whole.top.rules w.held).rows whole.top.rules)
    (check_fault whole.top (finished whole.top.rules w.held) (is_some (entered whole w.stopped))))))

module _ (n : Text) (is : IsName n) (rest : List Text) where
  walked_on : walk whole.top.rules (names_of whole) nothing_held (n ∷ rest) ≡ record begun { stopped = Some (n, rest) }
  walked_on = ap (λ v. fold (walked whole.top.rules (names_of whole)) v rest) is.met
      ∙ sym (walk_stopped whole.top.rules (names_of whole) begun n [] rest)

  unfailed : walk_fault whole.top (names_of whole) begun (n ∷ rest) ≡ []
  unfolding walk_fault
  unfailed = ap₂ or_else is.passes (ap (λ v. walk_fault whole.top (names_of whole) v rest) is.met
      ∙ stopped_fault whole.top (names_of whole) begun (n, []) rest)

  below : Option Shape → Kinds
  below o = or_else (option_map_or (λ s. level_fault s [] nothing_held rest false []) o [])
      (check_fault whole.top [] (is_some (option_map (λ s. rows_at s rest) o)))

  name_fault : fault_of program (n ∷ rest) ≡ level_fault (leaf n) [] nothing_held rest false []
  unfolding program after below defaults_fault
  name_fault =
      let at = record begun { stopped = Some (n, rest) } in
      let walks : fault_of program (n ∷ rest) ≡ after at [] = ap₂ after walked_on unfailed in
      let enters : after at [] ≡ below (Some (leaf n)) = ap below is.here in
      walks ∙ (enters ∙ or_nothing _)

  name_rows : subcommand_of program (n ∷ rest) ≡ Some (n, rows_after (leaf n).rules [] rest)
  unfolding program
  name_rows =
      let stop : Walk → Option (Text × List Row) = λ w. entered whole w.stopped in
      let walks : subcommand_of program (n ∷ rest) ≡ entered whole (Some (n, rest)) = ap stop walked_on in
      let goes : Option Shape → Option (Text × List Row) = option_map (λ s. rows_at s rest) in
      let enters : entered whole (Some (n, rest)) ≡ Some (rows_at (leaf n) rest) = ap goes is.here in
      walks ∙ (enters ∙ ap (λ t. Some (t, rows_after (leaf n).rules [] rest)) is.name)

-- clap takes the words, and the command is read of what it found; or it refuses them, and they spell none
pub data Spelt (words : List Text) : Type 0 where
  takes : (n : Text) (rows : List Row) → fault_of program words ≡ [] → subcommand_of program words ≡ Some (n, rows)
      → found n rows ≡ command_of words → Spelt words
  refuses : (k : ErrorKind) (more : Kinds) → fault_of program words ≡ k ∷ more → command_of words ≡ None → Spelt words

named : (n : Text) (rest : List Text) (c : Option Told) → IsName n → command_of (n ∷ rest) ≡ c → LeafReads n rest c
    → Spelt (n ∷ rest)
named n rest c is e (fits f r) = takes n _ (name_fault n is rest ∙ f) (name_rows n is rest) (r ∙ sym e)
named n rest c is e (strays k more f r) = refuses k more (name_fault n is rest ∙ f) (e ∙ r)

as_spelled : (words : List Text) → list_all is_word words ≡ true → command_of words ≡ spelled words
unfolding command_of
as_spelled words p = rw p refl

-- ---- the first word

same : (a b : Text) → bytes_eq a b ≡ true → a ≡ b
same a b e = (bytes_eq-Decides a b).0 e

turned : (a b : Text) → bytes_eq a b ≡ false → bytes_eq b a ≡ false
turned a b e = go (bytes_eq b a) refl
  where
    go : (x : Bool) → bytes_eq b a ≡ x → x ≡ false
    go false is = refl
    go true is =
        let bad : bytes_eq a b ≡ true = (bytes_eq-Decides a b).1 (sym (same b a is)) in
        absurd (true≢false (sym bad ∙ e))

record IsOther (w : Text) : Type 0 where
  replay_not : bytes_eq w (codes "replay") ≡ false
  serve_not : bytes_eq w (codes "serve") ≡ false
  client_not : bytes_eq w (codes "client") ≡ false
  show_not : bytes_eq w (codes "show") ≡ false
  gen_not : bytes_eq w (codes "gen") ≡ false
  patch_not : bytes_eq w (codes "patch") ≡ false
  rooms_not : bytes_eq w (codes "rooms") ≡ false

data First (w : Text) : Type 0 where
  is_replay : w ≡ codes "replay" → First w
  is_serve : w ≡ codes "serve" → First w
  is_client : w ≡ codes "client" → First w
  is_show : w ≡ codes "show" → First w
  is_gen : w ≡ codes "gen" → First w
  is_patch : w ≡ codes "patch" → First w
  is_rooms : w ≡ codes "rooms" → First w
  is_other : IsOther w → First w

-- that a word is not this name
abbrev Not : Text → Text → Type 0
Not w n = bytes_eq w n ≡ false

first : (w : Text) → First w
first w = on_replay (bytes_eq w (codes "replay")) refl
  where
    on_rooms : Not w (codes "replay") → Not w (codes "serve") → Not w (codes "client")
        → Not w (codes "show") → Not w (codes "gen") → Not w (codes "patch")
        → (b : Bool) → bytes_eq w (codes "rooms") ≡ b → First w
    on_rooms nreplay nserve nclient nshow ngen npatch true e = is_rooms (same _ _ e)
    on_rooms nreplay nserve nclient nshow ngen npatch false e = is_other (record {
      replay_not = nreplay;
      serve_not = nserve;
      client_not = nclient;
      show_not = nshow;
      gen_not = ngen;
      patch_not = npatch;
      rooms_not = e;
    })

    on_patch : Not w (codes "replay") → Not w (codes "serve") → Not w (codes "client")
        → Not w (codes "show") → Not w (codes "gen")
        → (b : Bool) → bytes_eq w (codes "patch") ≡ b → First w
    on_patch nreplay nserve nclient nshow ngen true e = is_patch (same _ _ e)
    on_patch nreplay nserve nclient nshow ngen false e =
        on_rooms nreplay nserve nclient nshow ngen e (bytes_eq w (codes "rooms")) refl

    on_gen : Not w (codes "replay") → Not w (codes "serve") → Not w (codes "client") → Not w (codes "show")
        → (b : Bool) → bytes_eq w (codes "gen") ≡ b → First w
    on_gen nreplay nserve nclient nshow true e = is_gen (same _ _ e)
    on_gen nreplay nserve nclient nshow false e =
        on_patch nreplay nserve nclient nshow e (bytes_eq w (codes "patch")) refl

    on_show : Not w (codes "replay") → Not w (codes "serve") → Not w (codes "client")
        → (b : Bool) → bytes_eq w (codes "show") ≡ b → First w
    on_show nreplay nserve nclient true e = is_show (same _ _ e)
    on_show nreplay nserve nclient false e = on_gen nreplay nserve nclient e (bytes_eq w (codes "gen")) refl

    on_client : Not w (codes "replay") → Not w (codes "serve")
        → (b : Bool) → bytes_eq w (codes "client") ≡ b → First w
    on_client nreplay nserve true e = is_client (same _ _ e)
    on_client nreplay nserve false e = on_show nreplay nserve e (bytes_eq w (codes "show")) refl

    on_serve : Not w (codes "replay") → (b : Bool) → bytes_eq w (codes "serve") ≡ b → First w
    on_serve nreplay true e = is_serve (same _ _ e)
    on_serve nreplay false e = on_client nreplay e (bytes_eq w (codes "client")) refl

    on_replay : (b : Bool) → bytes_eq w (codes "replay") ≡ b → First w
    on_replay true e = is_replay (same _ _ e)
    on_replay false e = on_serve e (bytes_eq w (codes "serve")) refl

-- a word that names no command is refused

module _ (w : Text) (others : IsOther w) where
  unmet : subcommand_met (names_of whole) idle w ≡ None
  unfolding program
  unmet = rw (
    turned w _ others.replay_not,
    turned w _ others.serve_not,
    turned w _ others.client_not,
    turned w _ others.show_not,
    turned w _ others.gen_not,
    turned w _ others.patch_not,
    turned w _ others.rooms_not,
  ) refl

  unspoken : (rest : List Text) → spoken w rest ≡ None
  unspoken rest = rw (
    others.replay_not,
    others.serve_not,
    others.client_not,
    others.show_not,
    others.gen_not,
    others.patch_not,
    others.rooms_not,
  ) refl

  stray_turn : IsPlain w
      → turn_fault whole.top (names_of whole) begun w ≡ UnknownArgument ∷ InvalidSubcommand ∷ []
  unfolding program
  stray_turn p = rw (unmet, p.dashes, p.long, p.short) refl

  stray : (rest : List Text) → IsPlain w → fault_of program (w ∷ rest) ≡ UnknownArgument ∷ InvalidSubcommand ∷ []
  unfolding program walk_fault after
  stray rest p = ap (λ t. after (walk whole.top.rules (names_of whole) nothing_held (w ∷ rest))
      (or_else t (walk_fault whole.top (names_of whole) (walked whole.top.rules (names_of whole) begun w) rest)))
      (stray_turn p)

-- ---- all words

replay_is : IsName (codes "replay")
unfolding program walked
replay_is = record { met = refl; passes = refl; here = refl; name = refl }

serve_is : IsName (codes "serve")
unfolding program walked
serve_is = record { met = refl; passes = refl; here = refl; name = refl }

client_is : IsName (codes "client")
unfolding program walked
client_is = record { met = refl; passes = refl; here = refl; name = refl }

show_is : IsName (codes "show")
unfolding program walked
show_is = record { met = refl; passes = refl; here = refl; name = refl }

gen_is : IsName (codes "gen")
unfolding program walked
gen_is = record { met = refl; passes = refl; here = refl; name = refl }

patch_is : IsName (codes "patch")
unfolding program walked
patch_is = record { met = refl; passes = refl; here = refl; name = refl }

rooms_is : IsName (codes "rooms")
unfolding program walked
rooms_is = record { met = refl; passes = refl; here = refl; name = refl }

pub spelt : (words : List Text) → list_all is_word words ≡ true → Spelt words
unfolding program command_of walk_fault defaults_fault
spelt [] p = refuses _ _ refl refl
spelt (w ∷ rest) p = go (first w)
  where
    here : (is_word w ≡ true) × (list_all is_word rest ≡ true)
    here = both _ _ p

    at : (n : Text) (c : Option Told) → w ≡ n → IsName n → spoken n rest ≡ c → LeafReads n rest c → Spelt (w ∷ rest)
    at n c e is says reads =
        let words : list_all is_word (n ∷ rest) ≡ true = subst (λ t. list_all is_word (t ∷ rest) ≡ true) e p in
        subst (λ t. Spelt (t ∷ rest)) (sym e) (named n rest c is (as_spelled (n ∷ rest) words ∙ says) reads)

    go : First w → Spelt (w ∷ rest)
    go (is_replay e) = at (codes "replay") _ e replay_is refl (replay_leaf rest here.1)
    go (is_serve e) = at (codes "serve") _ e serve_is refl (serve_leaf rest here.1)
    go (is_client e) = at (codes "client") _ e client_is refl (client_leaf rest here.1)
    go (is_show e) = at (codes "show") _ e show_is refl (show_leaf rest here.1)
    go (is_gen e) = at (codes "gen") _ e gen_is refl (gen_leaf rest here.1)
    go (is_patch e) = at (codes "patch") _ e patch_is refl (patch_leaf rest here.1)
    go (is_rooms e) = at (codes "rooms") _ e rooms_is refl (rooms_leaf rest here.1)
    go (is_other others) =
        refuses _ _ (stray w others rest (plain w here.0)) (as_spelled (w ∷ rest) p ∙ unspoken w others rest)

-- ---- what the calls of clap say of it

pub is_taken : is_simple_and_free program ≡ true
unfolding program
is_taken = refl

pub is_plain : is_simple program ≡ true
unfolding program
is_plain = refl

pub unspelled : (words : List Text) → false ≡ list_all is_word words → None ≡ command_of words
unfolding command_of
unspelled words e = rw (← e) refl

module _ (a : App) (is : a ≡ program) (words : List Text) (p : list_all is_word words ≡ true) where
  module _ (none : fault_of a words ≡ []) (who : Option (Text × List Row)) (met : who ≡ subcommand_of a words) where
    none_here : fault_of program words ≡ []
    none_here = ap (λ b. fault_of b words) (sym is) ∙ none

    met_here : who ≡ subcommand_of program words
    met_here = met ∙ ap (λ b. subcommand_of b words) is

    pub read_of : (name : Text) (rows : List Row) → Some name ≡ option_map (λ q. q.0) who
        → Some rows ≡ option_map (λ q. q.1) who
        → found name rows ≡ command_of words
    read_of name rows by_name by_rows = go (spelt words p)
      where
        go : Spelt words → found name rows ≡ command_of words
        go (takes n rs f m r) =
            let who_is : who ≡ Some (n, rs) = met_here ∙ m in
            let names : Some name ≡ Some n = by_name ∙ ap (option_map (λ q. q.0)) who_is in
            let all : Some rows ≡ Some rs = by_rows ∙ ap (option_map (λ q. q.1)) who_is in
            let name_is : name ≡ n = cc in
            let rows_is : rows ≡ rs = cc in
            ap₂ found name_is rows_is ∙ r
        go (refuses k more f r) =
            let bad : [] ≡ k ∷ more = sym none_here ∙ f in
            cc

    pub never_none : None ≡ option_map (λ q. q.1) who → None ≡ command_of words
    never_none by_rows = go (spelt words p)
      where
        go : Spelt words → None ≡ command_of words
        go (takes n rs f m r) =
            let bad : None ≡ Some rs = by_rows ∙ ap (option_map (λ q. q.1)) (met_here ∙ m) in
            cc
        go (refuses k more f r) = sym r

  pub refused : (k : ErrorKind) → IsAmong k (fault_of a words) → None ≡ command_of words
  refused k among = go (spelt words p)
    where
      here : IsAmong k (fault_of program words)
      here = subst (λ b. IsAmong k (fault_of b words)) is among

      go : Spelt words → None ≡ command_of words
      go (takes n rs f m r) = absurd (subst (IsAmong k) f here)
      go (refuses x more f r) = sym r

pub first_mapped : {X A B : Type 0} (f : X → A) (g : X → B) (o : Option X)
    → option_map f o ≡ option_map (λ (q : A × B). q.0) (option_map (λ x. (f x, g x)) o)
first_mapped f g None = refl
first_mapped f g (Some x) = refl
