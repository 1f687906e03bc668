-- The law of undoing.
use Rattle.std.proofs.Common.{◌≡◌, ℕ, inl, inr, List, [], ◌∷◌, ◌++◌, refl, sym, ap, ◌∙◌, subst}
use Rattle.std.proofs.lemmas.Bool.{eq-eqb}
use Rattle.room_nodes.specs.Shape.{Nodes}
use Rattle.room_nodes.specs.Steps.{fold}
use Rattle.room_steps.specs.Laws.{UndoRestores}
use Rattle.room_steps.proofs.Sound.{keeps_sound}
use Rattle.room_log.specs.Log.{State, Update, tree_after}
use Rattle.room_model.specs.Account.{Batch}
use Rattle.room_model.specs.Lines as lines
use Rattle.room_model.specs.World
use Rattle.room_model.specs.World.{account}
use Rattle.room_model.specs.Run.{Run, run, line, opened, issued_of, IsUndisturbed}
use Rattle.room_laws.specs.Accounts.{KeepsSound as AccountsSound}
use Rattle.room_laws.specs.Always.{AlwaysUndo, AlwaysUndone, lines_behind, lines_of}
use Rattle.room_laws.specs.Ledger.{In}
use Rattle.room_laws.specs.Undo.{Course, Goes, Lies, before, call_back, call_of, made_in, ready, taken_back, until, whole}
use Rattle.room_laws.specs.Undoing.{TakesBack, bodies_after}
use Rattle.room_laws.specs.Validity.{ReadableRun, SoundAccounts, ValidRun}
use Rattle.room_laws.proofs.IssuedSound.{issued_valid}
use Rattle.room_laws.proofs.Reversed.{each_reversed}
use Rattle.room_laws.proofs.RunSteps.{issued_of-append}
use Rattle.room_laws.proofs.UndoSound.{Tree, lines_front, run-append, shows_tree, undo_sound}
use Rattle.room_laws.proofs.Undone.{undone}
use Rattle.room_laws.proofs.Whole.{each_once}

in_front : (b : Batch) (xs ys : List Batch) → In b xs → In b (xs ++ ys)
in_front b [] ys i = absurd i
in_front b (x ∷ xs) ys (inl e) = inl e
in_front b (x ∷ xs) ys (inr i) = inr (in_front b xs ys i)

in_back : (b : Batch) (xs ys : List Batch) → In b ys → In b (xs ++ ys)
in_back b [] ys i = i
in_back b (x ∷ xs) ys i = inr (in_back b xs ys i)

-- what was issued stays
stays_line : (r : Run) (n c : ℕ) (l : lines.Line) (b : Batch) → In b (issued_of c r.issued) → In b (issued_of c (line r n l).issued)
stays_line r n c l b i = subst (In b) (sym (issued_of-append c r.issued (World.step r.world n l).issues)) (in_front b (issued_of c r.issued) (issued_of c (World.step r.world n l).issues) i)

stays : (r : Run) (ls : List (ℕ × lines.Line)) (c : ℕ) (b : Batch) → In b (issued_of c r.issued) → In b (issued_of c (run r ls).issued)
stays r [] c b i = i
stays r (l ∷ ls) c b i = stays (line r l.0 l.1) ls c b (stays_line r l.0 c l.1 b i)

one_of : (c : ℕ) (b : Batch) → issued_of c ((c, b) ∷ []) ≡ b ∷ []
one_of c b = rw (eq-eqb c c refl) refl

issued_at : (r : Run) (n c : ℕ) (l : lines.Line) (b : Batch) → (World.step r.world n l).issues ≡ (c, b) ∷ [] → In b (issued_of c (line r n l).issued)
issued_at r n c l b e = subst (In b) (sym (issued_of-append c r.issued (World.step r.world n l).issues ∙ ap (λ x. issued_of c r.issued ++ issued_of c x) e))
    (in_back b (issued_of c r.issued) (issued_of c ((c, b) ∷ [])) (subst (In b) (sym (one_of c b)) (inl refl)))

-- a course is the run over its lines
whole_is : (s : State) (q : Course) (c : ℕ) → run (opened s) (lines_of q c) ≡ whole s q c
whole_is s q c =
    let undoing = (q.back, lines.OfClient c (call_back q.maker)) ∷ q.rest in
    let ending = (q.last, lines.OfClient c (call_of q.maker)) ∷ (q.until ++ undoing) in
    run-append q.before (q.within ++ ending) (opened s)
    ∙ run-append q.within ending (before s q)
    ∙ run-append q.until undoing (made_in s q c)

takes_back : (s : State) (q : Course) (c : ℕ) (t : Nodes) (made back : Batch) (us vs ws : List Update) (b u : Update) → Goes s q c t made back → Lies s (whole s q c) c t made back us vs ws b u
    → TakesBack s (whole s q c) c t made back us vs ws b u
takes_back s q c t made back us vs ws b u g h = record {
  log = h.log;
  taken = record {
    issued = stays (taken_back s q c) q.rest c made (stays_line (until s q c) q.back c (lines.OfClient c (call_back q.maker)) made
        (stays (made_in s q c) q.until c made (issued_at (ready s q) q.last c (lines.OfClient c (call_of q.maker)) made g.issues)));
    actor = h.of_made;
    first = h.clock;
  };
  taken_back = record {
    issued = stays (taken_back s q c) q.rest c back (issued_at (until s q c) q.back c (lines.OfClient c (call_back q.maker)) back g.undoes);
    actor = h.of_back;
    first = h.clock_back;
  };
  reversal = each_reversed s q c t made back g;
  agree = h.agree;
  apart = h.apart;
}

module _ (reads : ReadableRun) (valid : ValidRun) (accounts : SoundAccounts) (keep : AccountsSound) (restores : UndoRestores) where
  pub always_undone : AlwaysUndone
  always_undone s ls ms c t made back us vs ws b u h l shows calm g =
      let x = account (run (opened s) ls).world c in
      let tree : Tree t = shows_tree x x.confirmed t (accounts s ls c h (lines_front ls ms l)) refl shows in
      let r = run (opened s) (ls ++ ms) in
      undone restores s r c t made back us vs ws b u (each_once s (ls ++ ms) c (reads s (ls ++ ms) h l) calm) g
      (undo_sound s r.log t made us vs ws b u h (valid s (ls ++ ms) h l) g.log (record {
        formed = tree.formed;
        ordered = keeps_sound.ordered t tree.sound;
        bodies = keeps_sound.ordered_bodies made.bodies (issued_valid keep accounts s h (ls ++ ms) c made l g.taken.issued).sound;
      }))

  pub always_undo : AlwaysUndo
  always_undo s q c t made back us vs ws b u h l calm g i =
      subst (λ (r : Run). IsUndisturbed r c → TakesBack s r c t made back us vs ws b u → tree_after s.tree (us ++ b ∷ (vs ++ u ∷ [])) ≡ fold (tree_after s.tree us) (bodies_after vs)) (whole_is s q c)
      (always_undone s q.before (lines_behind q c) c t made back us vs ws b u h l g.shows) calm (takes_back s q c t made back us vs ws b u g i)
