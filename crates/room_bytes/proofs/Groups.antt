-- The same of groups.
use Rattle.std.proofs.Common.{◌≡◌, ℕ, ◌<◌, ◌^◌, Bool, true, false, cond, List, [], ◌∷◌, ◌++◌, length, Option, Some, None, All, map, refl, sym, ap, subst, ◌∙◌, arith}
use Rattle.std.specs.Prelude.{nat_lt}
use Rattle.std.specs.List.{flat_map, AllByRecursion}
use Rattle.std.proofs.lemmas.Bool.{ltb-true, lt-ltb}
use Rattle.std.proofs.lemmas.List.{append-nil, length-map}
use Rattle.std.proofs.lemmas.List.Elements.{All-head, All-tail}
use Rattle.room_log.specs.Log.{Entry}
use Rattle.room_bytes.specs.declared.entries.Format.{Format}
use Rattle.room_bytes.specs.declared.entries.Format.TheVariants.{Two}
use Rattle.room_bytes.specs.declared.entries.Entry.{Entry as Here}
use Rattle.room_bytes.specs.Bounds.{logged, IsSoundHere, IsCounted, AreCountedEntries, HasBytes, HaveBytes, IsGroup, is_written, all_written, are_written}
use Rattle.room_bytes.specs.Laws.{IsBytes}
use Rattle.room_bytes.specs.Spelling.{u32_bytes, entry_bytes, group_bytes}
use Rattle.room_bytes.specs.Reading.{◌>>=◌, u32_at, entry_at, each_at, ended, group_of}
use Rattle.room_bytes.proofs.Again.{entry_again}
use Rattle.room_bytes.proofs.Once.{entry_is, ended_is}
use Rattle.room_bytes.proofs.Parts.{both, bind_some, some_is, u32_again, u32_is, each_again, each_is}

have_each : (es : List Entry) → HaveBytes es → AllByRecursion (HasBytes Two) es
have_each [] have = tt
have_each (e ∷ es) have = (have.0, have_each es have.1)

pub groups_again : (es : List Entry) → IsGroup es → group_of (group_bytes es) ≡ Some es
unfolding group_of group_bytes
groups_again es is =
    let all : each_at (entry_at Two) (length es) (flat_map (entry_bytes Two) es) ≡ Some (es, []) =
    ap (each_at (entry_at Two) (length es)) (sym (append-nil (flat_map (entry_bytes Two) es)))
    ∙ each_again (entry_at Two) (entry_bytes Two) (HasBytes Two) (entry_again Two) es [] (have_each es is.entries) in
    rw (u32_again (length es) (flat_map (entry_bytes Two) es) is.counted, all, lt-ltb 0 (length es) is.some) refl

chosen_some : {A : Type 0} (b : Bool) (x : Option A) (y : A) → cond b x None ≡ Some y → (b ≡ true) × (x ≡ Some y)
chosen_some true x y h = (refl, h)
chosen_some false x y h = absurd cc

pub groups_once : (bytes : List ℕ) (es : List Entry) → IsBytes bytes → group_of bytes ≡ Some es
    → (bytes ≡ group_bytes es) × (0 < length es) × AllByRecursion (λ e. is_written Two e ≡ true) es
unfolding group_of group_bytes
groups_once bytes es fits h =
    let a = bind_some (u32_at bytes) (λ n. each_at (entry_at Two) n.0 n.1 >>= λ x. cond (nat_lt 0 n.0) (ended x) None) es h in
    let b = bind_some (each_at (entry_at Two) a.0.0 a.0.1) (λ x. cond (nat_lt 0 a.0.0) (ended x) None) es a.2 in
    let c = chosen_some (nat_lt 0 a.0.0) (ended b.0) es b.2 in
    let d = ended_is b.0 es c.1 in
    let first = u32_is bytes a.0.0 a.0.1 fits a.1 in
    let second = each_is (entry_at Two) (entry_bytes Two) (λ e. is_written Two e ≡ true) (entry_is Two) a.0.0 a.0.1 b.0 b.1 in
    let some : 0 < a.0.0 = ltb-true 0 a.0.0 c.0 in
    let parts : bytes ≡ u32_bytes (length b.0.0) ++ flat_map (entry_bytes Two) b.0.0 =
    first.0 ∙ ap (λ (l : List ℕ). u32_bytes a.0.0 ++ l) (second.0 ∙ ap (λ (l : List ℕ). flat_map (entry_bytes Two) b.0.0 ++ l) d.1 ∙ append-nil (flat_map (entry_bytes Two) b.0.0))
    ∙ ap (λ (k : ℕ). u32_bytes k ++ flat_map (entry_bytes Two) b.0.0) (sym second.1) in
    subst (λ (x : List Entry). (bytes ≡ u32_bytes (length x) ++ flat_map (entry_bytes Two) x) × (0 < length x) × AllByRecursion (λ e. is_written Two e ≡ true) x) d.0
    (parts, subst (λ (k : ℕ). 0 < k) (sym second.1) some, second.2)

pub groups_differ : (ds es : List Entry) → IsGroup ds → IsGroup es → group_bytes ds ≡ group_bytes es → ds ≡ es
groups_differ ds es is_ds is_es same = some_is ds es (sym (groups_again ds is_ds) ∙ ap group_of same ∙ groups_again es is_es)

pub have_more : (es : List Entry) (e : Entry) → HaveBytes es → HasBytes Two e → HaveBytes (es ++ e ∷ [])
have_more [] e have has = (has, tt)
have_more (d ∷ es) e have has = (have.0, have_more es e have.1 has)

-- entries of the type, within the bounds
pub have_written : (es : List Here) → AreCountedEntries (map logged es) → All IsSoundHere es → all_written (map logged es) ≡ true → HaveBytes (map logged es)
have_written [] counted sound written = tt
have_written (e ∷ es) counted sound written =
    let w = both (is_written Two (logged e)) (all_written (map logged es)) written in
    let s = All-head IsSoundHere e es sound in
    (record { counted = counted.0; numbers = s.0; sound = s.1; written = w.0 }, have_written es counted.1 (All-tail IsSoundHere e es sound) w.1)

pub group_written : (es : List Here) → IsCounted es → AreCountedEntries (map logged es) → All IsSoundHere es → are_written (map logged es) ≡ true → group_of (group_bytes (map logged es)) ≡ Some (map logged es)
group_written es few counted sound written =
    let w = both (nat_lt 0 (length (map logged es))) (all_written (map logged es)) written in
    groups_again (map logged es) (record {
      some = ltb-true 0 (length (map logged es)) w.0;
      counted = subst (λ n. n < 2 ^ 32) (sym (length-map es logged)) few;
      entries = have_written es counted sound w.1;
    })
