-- What `clap` says of the words is what they spell.
use Rattle.std.proofs.Common.{◌∙◌, sym, ap, string_bytes, map, inl, inr}
use Rattle.std.proofs.lemmas.List.Folds.{list_all-map}
use Rattle.clap.specs.Words.{app_of, found_of, is_simple, is_simple_and_free, kind_of, rows_of}
use Rattle.room_words.specs.Words.{is_word}
use Rattle.room_words.proofs.Spelling.{first_mapped, is_plain, is_taken, never_none, read_of, refused, unspelled}
use Rattle.room_words.proofs.reading.command_of.Goals as goal

pub returns-then-not-are_words : goal.returns-then-not-are_words
returns-then-not-are_words c = unspelled (map string_bytes c.args.words.now)
    (c.if-not-are_words.ensures ∙ sym (list_all-map is_word string_bytes c.args.words.now))

pub returns-in-Some : goal.returns-in-Some
returns-in-Some c =
    let words = map string_bytes c.args.words.now in
    let prog = c.in-Ok.ensures in
    let passed = list_all-map is_word string_bytes c.args.words.now ∙ sym c.if-not-are_words.ensures in
    let done = c.in-Ok-try_get_matches_from.ensures in
    let none = done.kinds (ap is_simple_and_free prog ∙ is_taken) in
    let who = done.matches (ap is_simple prog ∙ is_plain) in
    c.found.ensures ∙ read_of (app_of c.in-Ok.program) prog words passed none _ who.1 c.in-Some.name.now
    (rows_of (found_of c.in-Some.inner.now)) (c.in-Some.ensures.name ∙ first_mapped _ _ _) c.in-Some.ensures.rows

pub returns-in-Ok-try_get_matches_from : goal.returns-in-Ok-try_get_matches_from
returns-in-Ok-try_get_matches_from c =
    let words = map string_bytes c.args.words.now in
    let prog = c.in-Ok.ensures in
    let passed = list_all-map is_word string_bytes c.args.words.now ∙ sym c.if-not-are_words.ensures in
    let done = c.in-Ok-try_get_matches_from.ensures in
    let none = done.kinds (ap is_simple_and_free prog ∙ is_taken) in
    let who = done.matches (ap is_simple prog ∙ is_plain) in
    never_none (app_of c.in-Ok.program) prog words passed none _ who.1 c.in-None.ensures.rows

pub returns : goal.returns
returns c =
    let words = map string_bytes c.args.words.now in
    let prog = c.in-Ok.ensures in
    let passed = list_all-map is_word string_bytes c.args.words.now ∙ sym c.if-not-are_words.ensures in
    let kinds = c.in-Err.ensures.kinds (ap is_simple_and_free prog ∙ is_taken) in
    elim kinds [
      | inl memory ↦ absurd (c.in_default-kind.not-OutOfMemory (c.kind.ensures ∙ memory))
      | inr among ↦ refused (app_of c.in-Ok.program) prog words passed (kind_of c.in-Err.error) among
    ]
