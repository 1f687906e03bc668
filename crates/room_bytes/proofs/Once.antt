-- What is read of bytes is written as them.
use Rattle.std.proofs.Common.{◌≡◌, ℕ, ◌<◌, Bool, true, false, cond, eqb, List, [], ◌++◌, length, Option, Some, None, Result, Ok, Err, refl, sym, ap, subst, ◌∙◌}
use Rattle.std.specs.Prelude.{IfOk}
use Rattle.std.proofs.lemmas.Bool.{eqb-true}
use Rattle.std.proofs.lemmas.List.{append-nil, nil_from_length}
use Rattle.room_log.specs.Log.{Entry}
use Rattle.room_bytes.specs.declared.entries.Entry.{Entry as Here}
use Rattle.room_bytes.specs.declared.entries.Format.{Format}
use Rattle.room_bytes.specs.declared.misread.Misread.{Misread}
use Rattle.room_bytes.specs.Bounds.{logged, HasBytes, is_written}
use Rattle.room_bytes.specs.Spelling.{entry_bytes}
use Rattle.room_bytes.specs.Reading.{◌>>=◌, Gives, parts_at, behind, entry_at, ended, entry_of}
use Rattle.room_bytes.proofs.Again.{entries_again}
use Rattle.room_bytes.proofs.Parts.{bind_some, guard_some, some_is, behind_is}

pub entry_is : (f : Format) (bytes : List ℕ) (x : Entry × List ℕ) → entry_at f bytes ≡ Some x → (bytes ≡ entry_bytes f x.0 ++ x.1) × (is_written f x.0 ≡ true)
unfolding entry_at
entry_is f bytes x h =
    let a = bind_some (parts_at f bytes) (λ x. behind (entry_bytes f x.0) bytes >>= λ rest. cond (is_written f x.0) (Some (x.0, rest)) None) x h in
    let b = bind_some (behind (entry_bytes f a.0.0) bytes) (λ rest. cond (is_written f a.0.0) (Some (a.0.0, rest)) None) x a.2 in
    let c = guard_some (is_written f a.0.0) (a.0.0, b.0) x b.2 in
    subst (λ (p : Entry × List ℕ). (bytes ≡ entry_bytes f p.0 ++ p.1) × (is_written f p.0 ≡ true)) c.1 (behind_is (entry_bytes f a.0.0) bytes b.0 b.1, c.0)

-- nothing stands behind it
pub ended_is : {A : Type 0} (x : A × List ℕ) (y : A) → ended x ≡ Some y → (x.0 ≡ y) × (x.1 ≡ [])
ended_is x y h =
    let g = guard_some (eqb (length x.1) 0) x.0 y h in
    (g.1, nil_from_length x.1 (eqb-true (length x.1) 0 g.0))

pub entries_once : (f : Format) (bytes : List ℕ) (e : Entry) → entry_of f bytes ≡ Some e → (bytes ≡ entry_bytes f e) × (is_written f e ≡ true)
unfolding entry_of
entries_once f bytes e h =
    let a = bind_some (entry_at f bytes) ended e h in
    let d = ended_is a.0 e a.2 in
    let is = entry_is f bytes a.0 a.1 in
    subst (λ (x : Entry). (bytes ≡ entry_bytes f x) × (is_written f x ≡ true)) d.0
    (is.0 ∙ ap (λ (l : List ℕ). entry_bytes f a.0.0 ++ l) d.1 ∙ append-nil (entry_bytes f a.0.0), is.1)

pub entries_differ : (f : Format) (d e : Entry) → HasBytes f d → HasBytes f e → entry_bytes f d ≡ entry_bytes f e → d ≡ e
entries_differ f d e has_d has_e same =
    some_is d e (sym (entries_again f d has_d) ∙ ap (entry_of f) same ∙ entries_again f e has_e)
